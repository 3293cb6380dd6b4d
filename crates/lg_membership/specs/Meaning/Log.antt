-- What a member hears of its group, as facts, and what follows from them.
use Rattle.std.specs.Prelude.{ℕ, ◌+◌, Bool, false, not, ◌&&◌, ◌||◌, nat_le, nat_lt}
use Rattle.std.specs.Prelude.{List, [], ◌∷◌, length, map, filter, Option, Some, None}
use Rattle.lg_rules.specs.declared.addr.Addr.{Addr}
use Rattle.lg_rules.specs.declared.addr.Ip.TheVariants.{V4}
use Rattle.lg_rules.specs.declared.claim.Claim.{Claim}
use Rattle.lg_rules.specs.Meaning.Bounds.{most_others}
use Rattle.lg_rules.specs.Meaning.Claim.{is_gone, name_of}
use Rattle.lg_rules.specs.Meaning.Rows.{name_cmp, is_same, is_among, put_key}
use Rattle.lg_rules.specs.Meaning.Table.{roster, story, table_of, live_in}
use Rattle.lg_rules.specs.Meaning.Own.{OwnValue, OwnFact, Told, Forgets, TakesLeave, own_of, own_record}
use Rattle.lg_rules.specs.Meaning.View.{view_of}
use Rattle.lg_timing.specs.declared.config.Config.{Config}
use Rattle.lg_timing.specs.Meaning.Config.{does_forget}
use Rattle.lg_membership.specs.declared.origin.Origin.{Origin}

-- A log says what happened, as facts with the latest first. The member was opened. Or a claim was said at a moment,
-- as a seed of the opening or by the group. Or a packet was sent that took these claims from the queue. Or the member
-- left its group. Or it forgot a name.
pub data GroupFact : Type 0 where
  Opened : Config → GroupFact
  Said : ℕ → Origin → Claim → GroupFact
  Sent : List Claim → GroupFact
  Departed : GroupFact
  Forgot : List ℕ → GroupFact

abbrev pub GroupLog : Type 0
GroupLog = List GroupFact

-- the configuration that the member was opened with
abbrev pub config : GroupLog → Option Config
config [] = None
config (Opened opening ∷ log) = Some opening
config (_ ∷ log) = config log

-- what happened to this member since the opening, the latest first: claims were said, it left, or it forgot names
abbrev pub own_facts : GroupLog → List OwnFact
own_facts [] = []
own_facts (Opened opening ∷ log) = []
own_facts (Said now origin c ∷ log) = Told c ∷ own_facts log
own_facts (Sent taken ∷ log) = own_facts log
own_facts (Departed ∷ log) = TakesLeave ∷ own_facts log
own_facts (Forgot n ∷ log) = Forgets n ∷ own_facts log

-- This member's name and address. Before the opening these are placeholders.
abbrev pub opening_name : Option Config → List ℕ
opening_name None = 97 ∷ []
opening_name (Some opening) = opening.name

abbrev pub opening_addr : Option Config → Addr
opening_addr None = record { ip = V4 (0 ∷ 0 ∷ 0 ∷ 0 ∷ []); port = 0 }
opening_addr (Some opening) = opening.addr

abbrev pub me : GroupLog → List ℕ
me log = opening_name (config log)

-- what this member knows of itself: its incarnation, whether it was ousted, and whether it left
abbrev pub own : GroupLog → OwnValue
own log = own_of (me log) (opening_addr (config log)) (own_facts log)

-- whether this member forgets members that are gone
abbrev pub forgets_in : Option Config → Bool
forgets_in None = false
forgets_in (Some opening) = does_forget opening

abbrev pub forgets : GroupLog → Bool
forgets log = forgets_in (config log)

-- the other members that are known, in the order of names
abbrev pub known_others : GroupLog → List (List ℕ)
known_others log = roster (forgets log) (me log) (own_facts log)

-- What was said of another member that counts: the claims about it since it became known for the last time, the latest
-- first. If it was forgotten, what was said before counts for nothing.
abbrev pub said : GroupLog → List ℕ → List Claim
said log m = story (forgets log) (me log) (own_facts log) m

-- the records of the others
abbrev pub table : GroupLog → List Claim
table log = table_of (forgets log) (me log) (own_facts log)

-- how many members aren't gone, this member included, even if it left (n)
abbrev pub live : GroupLog → ℕ
live log = live_in (table log)

-- of some records, the names of the members that aren't gone
abbrev pub live_names : List Claim → List (List ℕ)
live_names rows = map name_of (filter (λ r. not (is_gone r.status)) rows)

-- the others that aren't gone, in the order of names
abbrev pub live_others : GroupLog → List (List ℕ)
live_others log = live_names (table log)

-- the names that are known, this member's among them, in the order of names
abbrev pub known : GroupLog → List (List ℕ)
known log = put_key name_cmp (me log) (known_others log)

-- the member table, this member included, in the order of names; empty before the opening
abbrev pub view_in : Option Config → OwnValue → List Claim → List Claim
view_in None oneself rows = []
view_in (Some opening) oneself rows = view_of (own_record oneself) rows

abbrev pub group_view : GroupLog → List Claim
group_view log = view_in (config log) (own log) (table log)

-- Whether forgetting a name makes a member unknown: it is that name, and not this member's own, which is never
-- forgotten.
abbrev pub loses : GroupLog → List ℕ → List ℕ → Bool
loses log n m = is_same name_cmp n m && not (is_same name_cmp n (me log))

-- Whether a claim brings a member for which there is no room until one is forgotten: this member forgets, 255 others
-- are known, and the claim says of a name that isn't known that it is alive or suspected.
abbrev pub needs_room : GroupLog → Claim → Bool
needs_room log c =
    forgets log && (not (nat_lt (length (known_others log)) most_others)
    && (not (is_gone c.status) && not (is_among name_cmp c.name (known log))))

-- Whether there is room for the members that so many claims bring, one said after another: nobody is ever forgotten, or
-- at most 255 others are known even if each of these claims brings one.
abbrev pub has_room_for : GroupLog → ℕ → Bool
has_room_for log count = not (forgets log) || nat_le (length (known_others log) + count) most_others
