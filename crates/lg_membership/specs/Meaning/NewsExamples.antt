-- Worked logs of b, which is at 127.0.0.1:7000: its arrival, its answers to doubts, the buddies of its Acks, and its
-- news.
use Rattle.std.specs.Prelude.{◌≡◌, ℕ, true, false, [], ◌∷◌, Option, Some, None, refl}
use Rattle.std.specs.Fmt.{digits}
use Rattle.lg_rules.specs.declared.addr.Addr.{Addr}
use Rattle.lg_rules.specs.declared.addr.Ip.TheVariants.{V4}
use Rattle.lg_rules.specs.declared.claim.Claim.{Claim}
use Rattle.lg_rules.specs.declared.claim.Status.{Status}
use Rattle.lg_rules.specs.declared.claim.Status.TheVariants.{Alive, Suspect, Failed, Left}
use Rattle.lg_rules.specs.declared.version.Version.{Version}
use Rattle.lg_rules.specs.declared.version.Version.TheVariants.{One, Two, Three}
use Rattle.lg_rules.specs.Meaning.Own.{OwnValue, own_of}
use Rattle.lg_rules.specs.Meaning.Table.{record_of, story, roster, table_of, takes}
use Rattle.lg_timing.specs.Meaning.Config.{defaults}
use Rattle.lg_gossip.specs.declared.queued.Queued.{Queued}
use Rattle.lg_gossip.specs.Meaning.Queue.{taken_of}
use Rattle.lg_membership.specs.declared.addressee.Addressee.{Addressee}
use Rattle.lg_membership.specs.declared.addressee.Addressee.TheVariants.{Anybody, Pinged, Acked}
use Rattle.lg_membership.specs.declared.origin.Origin.TheVariants.{Group}
use Rattle.lg_membership.specs.Meaning.Log.{GroupLog, Opened, Said, Sent, group_view, table}
use Rattle.lg_membership.specs.Meaning.Suspicions.{suspicions}
use Rattle.lg_membership.specs.Meaning.Gossip.{doubts, put_by, queued, queue_rows, queue, news}
use Rattle.lg_membership.specs.Meaning.Gossip.{buddy_record, taken, fill}

-- the letters that name the members
abbrev a : ℕ
a = 97

abbrev b : ℕ
b = 98

abbrev c : ℕ
c = 99

abbrev here : Addr
here = record { ip = V4 (127 ∷ 0 ∷ 0 ∷ 1 ∷ []); port = 7000 }

abbrev by_a : Status
by_a = Suspect (a ∷ [])

abbrev on : ℕ → Status → ℕ → Claim
on letter status i = record { name = letter ∷ []; addr = here; status = status; incarnation = i }

-- b is opened with a version and the default numbers. The group says a claim.
abbrev opened_in : ℕ → GroupLog
opened_in wire = Opened (record (defaults (b ∷ []) here) { wire = wire }) ∷ []

abbrev hears : Claim → GroupLog → GroupLog
hears claim log = Said 0 Group claim ∷ log

abbrev row : Claim → ℕ → Queued
row claim sends = record { claim = claim; sends = sends }

-- The opening queues b's own record in version 3, and nothing in the others.
arrives_in_three : queue (opened_in 3) ≡ record { lambda = 4; version = Three; rows = row (on b Alive 0) 0 ∷ [] }
unfolding own_of table_of record_of story roster put_by queued queue_rows
arrives_in_three = refl

arrives_in_two : queue (opened_in 2) ≡ record { lambda = 4; version = Two; rows = [] }
unfolding own_of table_of record_of story roster put_by queued queue_rows
arrives_in_two = refl

arrives_in_one : queue (opened_in 1) ≡ record { lambda = 4; version = One; rows = [] }
unfolding own_of table_of record_of story roster put_by queued queue_rows
arrives_in_one = refl

arrival_is_sent : fill Anybody (opened_in 3) ≡ on b Alive 0 ∷ []
unfolding own_of table_of record_of story roster put_by queued queue_rows taken_of digits
arrival_is_sent = refl

-- b is at incarnation 1. A claim doubts it if it says Suspect or Failed of b at 0.
abbrev b_at_one : OwnValue
b_at_one = record { name = b ∷ []; addr = here; number = 1; ousted = false; left = false }

suspect_doubts : doubts b_at_one (on b by_a 0) ≡ true
suspect_doubts = refl

failed_doubts : doubts b_at_one (on b Failed 0) ≡ true
failed_doubts = refl

left_does_not : doubts b_at_one (on b Left 0) ≡ false
left_does_not = refl

alive_does_not : doubts b_at_one (on b Alive 0) ≡ false
alive_does_not = refl

own_number_does_not : doubts b_at_one (on b by_a 1) ≡ false
own_number_does_not = refl

another_does_not : doubts b_at_one (on c Failed 0) ≡ false
another_does_not = refl

-- b refuted a suspicion at 0, and four packets took its record, which is as often as it may be sent. Then it hears one
-- claim more. What is queued about b then:
abbrev refuted : ℕ → GroupLog
refuted wire = hears (on b by_a 0) (opened_in wire)

abbrev sent : GroupLog → GroupLog
sent log = Sent (on b Alive 1 ∷ []) ∷ log

abbrev sent_out : ℕ → GroupLog
sent_out wire = sent (sent (sent (sent (refuted wire))))

abbrev of_b : GroupLog → Option Queued
of_b log = queued log (b ∷ [])

four_sends : of_b (sent_out 3) ≡ Some (row (on b Alive 1) 4)
unfolding own_of table_of record_of story roster put_by queued digits
four_sends = refl

suspect_is_answered : of_b (hears (on b by_a 0) (sent_out 3)) ≡ Some (row (on b Alive 1) 0)
unfolding own_of table_of record_of story roster put_by queued digits
suspect_is_answered = refl

failed_is_answered : of_b (hears (on b Failed 0) (sent_out 3)) ≡ Some (row (on b Alive 1) 0)
unfolding own_of table_of record_of story roster put_by queued digits
failed_is_answered = refl

left_is_not_answered : of_b (hears (on b Left 0) (sent_out 3)) ≡ Some (row (on b Alive 1) 4)
unfolding own_of table_of record_of story roster put_by queued digits
left_is_not_answered = refl

alive_is_not_answered : of_b (hears (on b Alive 0) (sent_out 3)) ≡ Some (row (on b Alive 1) 4)
unfolding own_of table_of record_of story roster put_by queued digits
alive_is_not_answered = refl

-- A claim at b's own incarnation is refuted as ever. In version 2 no doubt is answered.
own_number_is_refuted : of_b (hears (on b by_a 1) (sent_out 3)) ≡ Some (row (on b Alive 2) 0)
unfolding own_of table_of record_of story roster put_by queued digits
own_number_is_refuted = refl

none_is_answered_in_two : of_b (hears (on b by_a 0) (sent_out 2)) ≡ Some (row (on b Alive 1) 4)
unfolding own_of table_of record_of story roster put_by queued digits
none_is_answered_in_two = refl

-- A doubt isn't answered while the record may still be sent. An answer changes no record.
still_waits : of_b (hears (on b by_a 0) (sent (refuted 3))) ≡ Some (row (on b Alive 1) 1)
unfolding own_of table_of record_of story roster put_by queued digits
still_waits = refl

not_answered_twice :
    of_b (hears (on b Failed 0) (sent (hears (on b by_a 0) (sent_out 3)))) ≡ Some (row (on b Alive 1) 1)
unfolding own_of table_of record_of story roster put_by queued digits
not_answered_twice = refl

answered_once_more :
    of_b (hears (on b Failed 0) (sent (sent (sent (sent (hears (on b by_a 0) (sent_out 3)))))))
    ≡ Some (row (on b Alive 1) 0)
unfolding own_of table_of record_of story roster put_by queued digits
answered_once_more = refl

answer_changes_none : group_view (hears (on b by_a 0) (sent_out 3)) ≡ on b Alive 1 ∷ []
unfolding own_of table_of record_of story roster
answer_changes_none = refl

-- b has news while a claim may still be sent.
unopened_has_none : news [] ≡ false
unfolding own_of table_of record_of story roster put_by queued queue_rows digits
unopened_has_none = refl

arrival_is_news : news (opened_in 3) ≡ true
unfolding own_of table_of record_of story roster put_by queued queue_rows digits
arrival_is_news = refl

no_news_in_two : news (opened_in 2) ≡ false
unfolding own_of table_of record_of story roster put_by queued queue_rows digits
no_news_in_two = refl

sent_out_is_none : news (sent_out 3) ≡ false
unfolding own_of table_of record_of story roster put_by queued queue_rows digits
sent_out_is_none = refl

answer_is_news : news (hears (on b Failed 0) (sent_out 3)) ≡ true
unfolding own_of table_of record_of story roster put_by queued queue_rows digits
answer_is_news = refl

-- In version 3 an Ack to c begins with c's record, if that is Suspect or Failed, and takes b's own from the queue.
abbrev with_c : ℕ → Status → GroupLog
with_c wire status = hears (on c status 2) (opened_in wire)

ack_to_suspect : fill (Acked (c ∷ [])) (with_c 3 by_a) ≡ on c by_a 2 ∷ on b Alive 0 ∷ []
unfolding own_of table_of record_of story roster takes put_by queued queue_rows suspicions taken_of digits
ack_to_suspect = refl

ack_to_failed : fill (Acked (c ∷ [])) (with_c 3 Failed) ≡ on c Failed 2 ∷ on b Alive 0 ∷ []
unfolding own_of table_of record_of story roster takes put_by queued queue_rows suspicions taken_of digits
ack_to_failed = refl

ack_takes_others : taken (Acked (c ∷ [])) (with_c 3 Failed) ≡ on b Alive 0 ∷ []
unfolding own_of table_of record_of story roster takes put_by queued queue_rows suspicions taken_of digits
ack_takes_others = refl

ack_to_left : fill (Acked (c ∷ [])) (with_c 3 Left) ≡ on b Alive 0 ∷ on c Left 2 ∷ []
unfolding own_of table_of record_of story roster takes put_by queued queue_rows suspicions taken_of digits
ack_to_left = refl

ping_to_failed : fill (Pinged (c ∷ [])) (with_c 3 Failed) ≡ on b Alive 0 ∷ on c Failed 2 ∷ []
unfolding own_of table_of record_of story roster takes put_by queued queue_rows suspicions taken_of digits
ping_to_failed = refl

-- In version 2 it has no buddy: c's record is one of those that are taken from the queue.
ack_in_two : taken (Acked (c ∷ [])) (with_c 2 by_a) ≡ on c by_a 2 ∷ []
unfolding own_of table_of record_of story roster takes put_by queued queue_rows suspicions taken_of digits
ack_in_two = refl

-- The buddies of packets of each version.
abbrev buddy : Version → Addressee → Status → Option Claim
buddy v to status = buddy_record v to (table (with_c 3 status))

ack_to_suspect_in_two : buddy Two (Acked (c ∷ [])) by_a ≡ None
unfolding table_of record_of story roster
ack_to_suspect_in_two = refl

ack_to_failed_in_one : buddy One (Acked (c ∷ [])) Failed ≡ None
unfolding table_of record_of story roster
ack_to_failed_in_one = refl

ping_to_suspect_in_one : buddy One (Pinged (c ∷ [])) by_a ≡ Some (on c by_a 2)
unfolding table_of record_of story roster
ping_to_suspect_in_one = refl

ping_to_suspect_in_three : buddy Three (Pinged (c ∷ [])) by_a ≡ Some (on c by_a 2)
unfolding table_of record_of story roster
ping_to_suspect_in_three = refl

ack_to_alive : buddy Three (Acked (c ∷ [])) Alive ≡ None
unfolding table_of record_of story roster
ack_to_alive = refl

ack_to_stranger : buddy Three (Acked (a ∷ [])) Failed ≡ None
unfolding table_of record_of story roster
ack_to_stranger = refl

ack_to_oneself : buddy Three (Acked (b ∷ [])) Failed ≡ None
unfolding table_of record_of story roster
ack_to_oneself = refl

anybody_has_none : buddy Three Anybody by_a ≡ None
unfolding table_of record_of story roster
anybody_has_none = refl
