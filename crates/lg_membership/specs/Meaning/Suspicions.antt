-- Who is suspected, since when and by whom (SWIM, section 4.2; Lifeguard, local health aware suspicion).
use Rattle.std.specs.Prelude.{ℕ, Bool, true, false, ◌&&◌, ◌==◌, if◌then◌else◌}
use Rattle.std.specs.Prelude.{List, [], ◌∷◌, filter, Option, Some, None, option_map}
use Rattle.std.specs.List.{filter_map}
use Rattle.lg_rules.specs.declared.claim.Claim.{Claim}
use Rattle.lg_rules.specs.declared.members.Heard.{Heard}
use Rattle.lg_rules.specs.declared.members.Heard.TheVariants.{Overrode, Accused, Same, Ignored, NoRoom}
use Rattle.lg_rules.specs.Meaning.Claim.{accuser_of}
use Rattle.lg_rules.specs.Meaning.Past.{or_else}
use Rattle.lg_rules.specs.Meaning.Rows.{name_cmp, is_same, is_among, row_at}
use Rattle.lg_rules.specs.Meaning.Table.{record_of, hearing_of}
use Rattle.lg_timing.specs.declared.config.Config.{Config}
use Rattle.lg_timing.specs.Meaning.Timeouts.{range_of}
use Rattle.lg_suspicion.specs.declared.standing.SuspicionStanding.{SuspicionStanding}
use Rattle.lg_suspicion.specs.Meaning.Accusers.{SuspicionValue, suspicion_after, accuser_counts}
use Rattle.lg_suspicion.specs.Meaning.Accusers.{standing_of_suspicion}
use Rattle.lg_gossip.specs.Meaning.Queue.{is_suspect}
use Rattle.lg_membership.specs.Meaning.Log.{GroupLog, Opened, Said, Sent, Departed, Forgot, config, me}
use Rattle.lg_membership.specs.Meaning.Log.{own_facts, forgets}
use Rattle.lg_membership.specs.Meaning.Log.{known_others, said, live}

-- a member that is suspected, and its suspicion
pub record SuspectedValue : Type 0 where
  pub name : List ℕ
  pub suspicion : SuspicionValue

-- whether a claim accuses a member at an incarnation: it says that the member is Suspect, at that incarnation
abbrev pub accuses : List ℕ → ℕ → Claim → Bool
accuses m i c = is_same name_cmp c.name m && (is_suspect c.status && c.incarnation == i)

-- the accusers of all such claims of a past, the latest first
abbrev pub accusers_in : List ℕ → ℕ → List Claim → List (List ℕ)
accusers_in m i past = filter_map (λ c. accuser_of c.status) (filter (accuses m i) past)

-- The log up to the first such claim that counts, including it. A claim doesn't count if its member was forgotten
-- since, or is unknown once it was said.
abbrev pub counts_after : GroupLog → List ℕ → Bool
counts_after log m = is_among name_cmp m (known_others log)

abbrev pub raise_of : List ℕ → ℕ → GroupLog → Option GroupLog
raise_of m i [] = None
raise_of m i (Opened opening ∷ log) = None
raise_of m i (Said now origin c ∷ log) =
    let after = Said now origin c ∷ log in
    or_else (raise_of m i log) (if accuses m i c && counts_after after m then Some after else None)
raise_of m i (Sent taken ∷ log) = raise_of m i log
raise_of m i (Departed ∷ log) = raise_of m i log
raise_of m i (Forgot n ∷ log) = if is_same name_cmp n m then None else raise_of m i log

-- the moment at which the latest fact of that log was said
abbrev pub said_at : GroupLog → ℕ
said_at (Said now origin c ∷ log) = now
said_at _ = 0

-- The suspicion that the first such claim raises, at its moment. Its timeouts are those for the number of members
-- that aren't gone once the claim was taken. Its accusers are all who accuse the member at this incarnation.
abbrev pub suspicion_since : Config → List ℕ → List (List ℕ) → Option GroupLog → Option SuspectedValue
suspicion_since opening m accusers None = None
suspicion_since opening m accusers (Some front) =
    Some record { name = m; suspicion = suspicion_after (said_at front) (range_of (live front) opening) accusers }

-- a member is suspected while its record is Suspect, at the incarnation of that record
abbrev pub suspected_by : Config → GroupLog → List ℕ → Option Claim → Option SuspectedValue
suspected_by opening log m None = None
suspected_by opening log m (Some r) =
    if is_suspect r.status
    then suspicion_since opening m (accusers_in m r.incarnation (said log m)) (raise_of m r.incarnation log)
    else None

-- nobody is suspected before the opening
abbrev pub suspected_in : Option Config → GroupLog → List ℕ → Option SuspectedValue
suspected_in None log m = None
suspected_in (Some opening) log m =
    suspected_by opening log m (record_of (forgets log) (me log) (own_facts log) m)

unfoldable pub suspected : GroupLog → List ℕ → Option SuspectedValue
suspected log m = suspected_in (config log) log m

-- the suspicions of the other members, in the order of names
unfoldable pub suspicions : GroupLog → List SuspectedValue
suspicions log = filter_map (suspected log) (known_others log)

abbrev pub suspected_name : SuspectedValue → List ℕ
suspected_name r = r.name

-- how the suspicion of a member stands, if it is suspected: when it was raised, its timeouts, and how many
-- confirmations came that count
abbrev pub standing_of_row : SuspectedValue → SuspicionStanding
standing_of_row row = standing_of_suspicion row.suspicion

abbrev pub standing_of_suspected : GroupLog → List ℕ → Option SuspicionStanding
standing_of_suspected log m = option_map standing_of_row (suspected log m)

-- A claim confirms a suspicion if it accuses a suspected member at the incarnation of its record, and its accuser is
-- new and counts.
abbrev pub is_accusation : Heard → Bool
is_accusation Overrode = false
is_accusation Accused = true
is_accusation Same = false
is_accusation Ignored = false
is_accusation NoRoom = false

abbrev pub counts_in : Option (List ℕ) → Option SuspectedValue → Bool
counts_in None row = false
counts_in (Some accuser) None = false
counts_in (Some accuser) (Some row) = accuser_counts row.suspicion accuser

abbrev pub confirms : Bool → List Claim → List SuspectedValue → Claim → Bool
confirms forgets table rows c =
    is_accusation (hearing_of forgets table c)
    && counts_in (accuser_of c.status) (row_at name_cmp suspected_name c.name rows)
