-- Worked logs of b, which is at 127.0.0.1:7000 and leaves its group.
use Rattle.std.specs.Prelude.{◌≡◌, ℕ, true, false, [], ◌∷◌, Option, Some, None, refl}
use Rattle.std.specs.Fmt.{digits}
use Rattle.lg_rules.specs.declared.addr.Addr.{Addr}
use Rattle.lg_rules.specs.declared.addr.Ip.TheVariants.{V4}
use Rattle.lg_rules.specs.declared.claim.Claim.{Claim}
use Rattle.lg_rules.specs.declared.claim.Status.{Status}
use Rattle.lg_rules.specs.declared.claim.Status.TheVariants.{Alive, Suspect, Failed, Left}
use Rattle.lg_rules.specs.declared.version.Version.TheVariants.{Two, Three}
use Rattle.lg_rules.specs.Meaning.Own.{OwnValue, own_of}
use Rattle.lg_rules.specs.Meaning.Table.{record_of, story, roster, table_of}
use Rattle.lg_timing.specs.Meaning.Config.{defaults}
use Rattle.lg_gossip.specs.declared.queued.Queued.{Queued}
use Rattle.lg_gossip.specs.Meaning.Queue.{taken_of}
use Rattle.lg_membership.specs.declared.addressee.Addressee.TheVariants.{Anybody}
use Rattle.lg_membership.specs.declared.origin.Origin.TheVariants.{Group}
use Rattle.lg_membership.specs.Meaning.Log.{GroupLog, Opened, Said, Sent, Departed, own, live, group_view}
use Rattle.lg_membership.specs.Meaning.Gossip.{put_of_leave, put_by, queued, queue_rows, queue, news, fill}
use Rattle.lg_membership.specs.Meaning.Pages.{page_of}

-- the letters that name the members
abbrev b : ℕ
b = 98

abbrev c : ℕ
c = 99

abbrev here : Addr
here = record { ip = V4 (127 ∷ 0 ∷ 0 ∷ 1 ∷ []); port = 7000 }

abbrev by_c : Status
by_c = Suspect (c ∷ [])

abbrev on : ℕ → Status → ℕ → Claim
on letter status i = record { name = letter ∷ []; addr = here; status = status; incarnation = i }

-- b is opened with a version and the default numbers. The group says a claim. A packet takes b's own record, which is
-- Left, four times: that is as often as it may be sent.
abbrev opened_in : ℕ → GroupLog
opened_in wire = Opened (record (defaults (b ∷ []) here) { wire = wire }) ∷ []

abbrev hears : Claim → GroupLog → GroupLog
hears claim log = Said 0 Group claim ∷ log

abbrev leaves : GroupLog → GroupLog
leaves log = Departed ∷ log

abbrev sent : ℕ → GroupLog → GroupLog
sent i log = Sent (on b Left i ∷ []) ∷ log

abbrev sent_out : ℕ → GroupLog → GroupLog
sent_out i log = sent i (sent i (sent i (sent i log)))

abbrev row : Claim → ℕ → Queued
row claim sends = record { claim = claim; sends = sends }

abbrev of_b : GroupLog → Option Queued
of_b log = queued log (b ∷ [])

abbrev left_at : ℕ → OwnValue
left_at number = record { name = b ∷ []; addr = here; number = number; ousted = false; left = true }

-- b leaves at 0.
abbrev left_in : ℕ → GroupLog
left_in wire = leaves (opened_in wire)

leave_is_known : own (left_in 3) ≡ left_at 0
unfolding own_of
leave_is_known = refl

leave_is_shown : group_view (left_in 3) ≡ on b Left 0 ∷ []
unfolding own_of table_of record_of story roster
leave_is_shown = refl

leave_is_queued : queue (left_in 3) ≡ record { lambda = 4; version = Three; rows = row (on b Left 0) 0 ∷ [] }
unfolding own_of table_of record_of story roster put_by queued queue_rows
leave_is_queued = refl

leave_is_queued_in_two : queue (left_in 2) ≡ record { lambda = 4; version = Two; rows = row (on b Left 0) 0 ∷ [] }
unfolding own_of table_of record_of story roster put_by queued queue_rows
leave_is_queued_in_two = refl

leave_is_sent : fill Anybody (left_in 3) ≡ on b Left 0 ∷ []
unfolding own_of table_of record_of story roster put_by queued queue_rows taken_of digits
leave_is_sent = refl

leave_is_paged : page_of Three None (group_view (left_in 3)) ≡ on b Left 0 ∷ []
unfolding own_of table_of record_of story roster
leave_is_paged = refl

-- The leave replaces what was queued about b. b counts all the same among the members that aren't gone.
leave_replaces_refutation : of_b (leaves (hears (on b by_c 0) (opened_in 3))) ≡ Some (row (on b Left 1) 0)
unfolding own_of table_of record_of story roster put_by queued digits
leave_replaces_refutation = refl

leaver_counts : live (leaves (hears (on c Alive 0) (opened_in 3))) ≡ 2
unfolding table_of record_of story roster
leaver_counts = refl

-- A second leave does nothing, whatever was sent before it.
second_leave_is_known : own (leaves (left_in 3)) ≡ left_at 0
unfolding own_of
second_leave_is_known = refl

second_leave_puts_none : put_of_leave (left_at 0) ≡ None
second_leave_puts_none = refl

second_leave_queues_none : of_b (leaves (sent_out 0 (left_in 3))) ≡ Some (row (on b Left 0) 4)
unfolding own_of table_of record_of story roster put_by queued digits
second_leave_queues_none = refl

-- What is queued about b once its leave was sent, and then a claim is heard. A claim at b's own number or below it does
-- nothing: b refutes none, and answers no doubt.
abbrev told : Claim → GroupLog
told claim = hears claim (sent_out 0 (left_in 3))

suspected_at_its_number : of_b (told (on b by_c 0)) ≡ Some (row (on b Left 0) 4)
unfolding own_of table_of record_of story roster put_by queued digits
suspected_at_its_number = refl

failed_at_its_number : of_b (told (on b Failed 0)) ≡ Some (row (on b Left 0) 4)
unfolding own_of table_of record_of story roster put_by queued digits
failed_at_its_number = refl

left_at_its_number : of_b (told (on b Left 0)) ≡ Some (row (on b Left 0) 4)
unfolding own_of table_of record_of story roster put_by queued digits
left_at_its_number = refl

-- b is told that it failed at 5: its record is Left at 5, and is queued.
failed_at_5 : of_b (told (on b Failed 5)) ≡ Some (row (on b Left 5) 0)
unfolding own_of table_of record_of story roster put_by queued digits
failed_at_5 = refl

failed_at_5_is_shown : group_view (told (on b Failed 5)) ≡ on b Left 5 ∷ []
unfolding own_of table_of record_of story roster
failed_at_5_is_shown = refl

alive_at_5 : of_b (told (on b Alive 5)) ≡ Some (row (on b Left 5) 0)
unfolding own_of table_of record_of story roster put_by queued digits
alive_at_5 = refl

-- Doubts of b at a smaller number than its own are not answered.
abbrev doubted : Claim → GroupLog
doubted claim = hears claim (sent_out 5 (told (on b Failed 5)))

suspected_after_leaving : of_b (doubted (on b by_c 3)) ≡ Some (row (on b Left 5) 4)
unfolding own_of table_of record_of story roster put_by queued digits
suspected_after_leaving = refl

failed_after_leaving : of_b (doubted (on b Failed 4)) ≡ Some (row (on b Left 5) 4)
unfolding own_of table_of record_of story roster put_by queued digits
failed_after_leaving = refl

doubt_is_no_news : news (doubted (on b Failed 4)) ≡ false
unfolding own_of table_of record_of story roster put_by queued queue_rows digits
doubt_is_no_news = refl

-- Nothing ousts b.
never_ousted : own (told (on b by_c 1000000000)) ≡ left_at 1000000000
unfolding own_of
never_ousted = refl

greatest_is_queued : of_b (told (on b by_c 1000000000)) ≡ Some (row (on b Left 1000000000) 0)
unfolding own_of table_of record_of story roster put_by queued digits
greatest_is_queued = refl

-- An opening forgets the leave. A leave before the opening changes no record.
opened_anew : group_view (Opened (defaults (b ∷ []) here) ∷ left_in 3) ≡ on b Alive 0 ∷ []
unfolding own_of table_of record_of story roster
opened_anew = refl

leaves_unopened : group_view (leaves []) ≡ []
leaves_unopened = refl
