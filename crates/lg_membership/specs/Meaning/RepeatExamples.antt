-- Worked logs of b, which is at 127.0.0.1:7000 and knows that c left. It hears what others say of c then.
use Rattle.std.specs.Prelude.{◌≡◌, ℕ, true, false, [], ◌∷◌, Option, Some, refl}
use Rattle.std.specs.Fmt.{digits}
use Rattle.lg_rules.specs.declared.addr.Addr.{Addr}
use Rattle.lg_rules.specs.declared.addr.Ip.TheVariants.{V4}
use Rattle.lg_rules.specs.declared.claim.Claim.{Claim}
use Rattle.lg_rules.specs.declared.claim.Status.{Status}
use Rattle.lg_rules.specs.declared.claim.Status.TheVariants.{Alive, Suspect, Failed, Left}
use Rattle.lg_rules.specs.Meaning.Own.{own_of}
use Rattle.lg_rules.specs.Meaning.Table.{record_of, story, roster, table_of, takes}
use Rattle.lg_timing.specs.Meaning.Config.{defaults}
use Rattle.lg_gossip.specs.declared.queued.Queued.{Queued}
use Rattle.lg_membership.specs.declared.origin.Origin.TheVariants.{Group}
use Rattle.lg_membership.specs.Meaning.Log.{GroupLog, Opened, Said, Sent, table}
use Rattle.lg_membership.specs.Meaning.Suspicions.{suspicions, suspected}
use Rattle.lg_membership.specs.Meaning.Gossip.{put_by, queued, queue_rows, news}

-- the letters that name the members
abbrev a : ℕ
a = 97

abbrev b : ℕ
b = 98

abbrev c : ℕ
c = 99

abbrev here : Addr
here = record { ip = V4 (127 ∷ 0 ∷ 0 ∷ 1 ∷ []); port = 7000 }

abbrev by_a : Status
by_a = Suspect (a ∷ [])

abbrev on : Status → ℕ → Claim
on status i = record { name = c ∷ []; addr = here; status = status; incarnation = i }

-- b is opened with a version and the default numbers, so a claim is sent four times. The group says a claim of c, and
-- four packets take it.
abbrev opened_in : ℕ → GroupLog
opened_in wire = Opened (record (defaults (b ∷ []) here) { wire = wire }) ∷ []

abbrev hears : Claim → GroupLog → GroupLog
hears claim log = Said 0 Group claim ∷ log

abbrev sent : Claim → GroupLog → GroupLog
sent claim log = Sent (claim ∷ []) ∷ log

abbrev told_in : ℕ → Claim → GroupLog
told_in wire claim = sent claim (sent claim (sent claim (sent claim (hears claim (opened_in wire)))))

abbrev row : Claim → ℕ → Queued
row claim sends = record { claim = claim; sends = sends }

abbrev of_c : GroupLog → Option Queued
of_c log = queued log (c ∷ [])

leave_was_told : of_c (told_in 3 (on Left 2)) ≡ Some (row (on Left 2) 4)
unfolding own_of table_of record_of story roster takes put_by queued suspicions suspected digits
leave_was_told = refl

-- a suspects c at the leave's number or below it: the leave is queued anew.
suspect_repeats : of_c (hears (on by_a 2) (told_in 3 (on Left 2))) ≡ Some (row (on Left 2) 0)
unfolding own_of table_of record_of story roster takes put_by queued suspicions suspected digits
suspect_repeats = refl

older_suspect_repeats : of_c (hears (on by_a 0) (told_in 3 (on Left 2))) ≡ Some (row (on Left 2) 0)
unfolding own_of table_of record_of story roster takes put_by queued suspicions suspected digits
older_suspect_repeats = refl

repeat_is_news : news (hears (on by_a 2) (told_in 3 (on Left 2))) ≡ true
unfolding own_of table_of record_of story roster takes put_by queued queue_rows suspicions suspected digits
repeat_is_news = refl

repeat_changes_none : table (hears (on by_a 2) (told_in 3 (on Left 2))) ≡ on Left 2 ∷ []
unfolding own_of table_of record_of story roster
repeat_changes_none = refl

-- At a greater number it replaces the leave.
newer_suspect_replaces : of_c (hears (on by_a 3) (told_in 3 (on Left 2))) ≡ Some (row (on by_a 3) 0)
unfolding own_of table_of record_of story roster takes put_by queued suspicions suspected digits
newer_suspect_replaces = refl

-- No other claim lets b repeat it.
failed_repeats_none : of_c (hears (on Failed 2) (told_in 3 (on Left 2))) ≡ Some (row (on Left 2) 4)
unfolding own_of table_of record_of story roster takes put_by queued suspicions suspected digits
failed_repeats_none = refl

alive_repeats_none : of_c (hears (on Alive 2) (told_in 3 (on Left 2))) ≡ Some (row (on Left 2) 4)
unfolding own_of table_of record_of story roster takes put_by queued suspicions suspected digits
alive_repeats_none = refl

left_repeats_none : of_c (hears (on Left 2) (told_in 3 (on Left 2))) ≡ Some (row (on Left 2) 4)
unfolding own_of table_of record_of story roster takes put_by queued suspicions suspected digits
left_repeats_none = refl

-- Nothing but a leave is repeated, nothing in version 2, and nothing that may still be sent.
failure_is_not_repeated : of_c (hears (on by_a 2) (told_in 3 (on Failed 2))) ≡ Some (row (on Failed 2) 4)
unfolding own_of table_of record_of story roster takes put_by queued suspicions suspected digits
failure_is_not_repeated = refl

none_is_repeated_in_two : of_c (hears (on by_a 2) (told_in 2 (on Left 2))) ≡ Some (row (on Left 2) 4)
unfolding own_of table_of record_of story roster takes put_by queued suspicions suspected digits
none_is_repeated_in_two = refl

still_waits :
    of_c (hears (on by_a 2) (sent (on Left 2) (hears (on Left 2) (opened_in 3)))) ≡ Some (row (on Left 2) 1)
unfolding own_of table_of record_of story roster takes put_by queued suspicions suspected digits
still_waits = refl

not_repeated_twice :
    of_c (hears (on by_a 1) (sent (on Left 2) (hears (on by_a 2) (told_in 3 (on Left 2))))) ≡ Some (row (on Left 2) 1)
unfolding own_of table_of record_of story roster takes put_by queued suspicions suspected digits
not_repeated_twice = refl
