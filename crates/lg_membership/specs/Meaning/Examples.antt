-- Worked logs of b, which is at 127.0.0.1:7000.
use Rattle.std.specs.Prelude.{◌≡◌, ℕ, false, List, [], ◌∷◌, ◌++◌, map, replicate, Option, Some, None, refl}
use Rattle.std.specs.Fmt.{digits}
use Rattle.lg_rules.specs.declared.addr.Addr.{Addr}
use Rattle.lg_rules.specs.declared.addr.Ip.TheVariants.{V4, V6}
use Rattle.lg_rules.specs.declared.claim.Claim.{Claim}
use Rattle.lg_rules.specs.declared.claim.Status.{Status}
use Rattle.lg_rules.specs.declared.claim.Status.TheVariants.{Alive, Suspect, Failed}
use Rattle.lg_rules.specs.declared.version.Version.TheVariants.{One, Three}
use Rattle.lg_rules.specs.Meaning.Own.{own_of}
use Rattle.lg_rules.specs.Meaning.Table.{record_of, story, roster, table_of, takes}
use Rattle.lg_timing.specs.Meaning.Config.{defaults}
use Rattle.lg_timing.specs.Meaning.Tables.{log10_of, ratio_of}
use Rattle.lg_timing.specs.Meaning.TimeoutValue.{TimeoutValue}
use Rattle.lg_timing.specs.Meaning.Timeouts.{range_of, timeout_of}
use Rattle.lg_suspicion.specs.Meaning.Accusers.{counted_accusers, deadline_of}
use Rattle.lg_gossip.specs.declared.queued.Queued.{Queued}
use Rattle.lg_gossip.specs.Meaning.Queue.{taken_of, fill_of}
use Rattle.lg_membership.specs.declared.addressee.Addressee.{Addressee}
use Rattle.lg_membership.specs.declared.addressee.Addressee.TheVariants.{Anybody, Pinged}
use Rattle.lg_membership.specs.declared.applied.Presence.{Presence}
use Rattle.lg_membership.specs.declared.applied.Presence.TheVariants.{Stays as Remains, Joins, Leaves}
use Rattle.lg_membership.specs.declared.origin.Origin.TheVariants.{Seed, Group}
use Rattle.lg_membership.specs.Meaning.Log.{GroupFact, GroupLog, Opened, Said, Sent, own, table, live, live_others}
use Rattle.lg_membership.specs.Meaning.Log.{group_view}
use Rattle.lg_membership.specs.Meaning.Suspicions.{SuspectedValue, suspicions, suspected}
use Rattle.lg_membership.specs.Meaning.Gossip.{put_by, queued, queue_rows, queue, buddy_record}
use Rattle.lg_membership.specs.Meaning.Gossip.{taken, fill}
use Rattle.lg_membership.specs.Meaning.Applied.{is_live, presence_of}

-- the letters that name the members
abbrev a : ℕ
a = 97

abbrev b : ℕ
b = 98

abbrev c : ℕ
c = 99

abbrev d : ℕ
d = 100

abbrev e : ℕ
e = 101

abbrev here : Addr
here = record { ip = V4 (127 ∷ 0 ∷ 0 ∷ 1 ∷ []); port = 7000 }

abbrev accused_by : ℕ → Status
accused_by letter = Suspect (letter ∷ [])

abbrev on : ℕ → Status → ℕ → Claim
on letter status i = record { name = letter ∷ []; addr = here; status = status; incarnation = i }

-- The member is opened with the default numbers. The group says a claim at a moment.
abbrev opened : GroupFact
opened = Opened (defaults (b ∷ []) here)

abbrev says : ℕ → Claim → GroupFact
says now claim = Said now Group claim

-- b knows that a, c, d and e are alive
abbrev others : GroupLog
others = says 0 (on e Alive 0) ∷ says 0 (on d Alive 0) ∷ says 0 (on c Alive 0) ∷ says 0 (on a Alive 0) ∷ opened
    ∷ []

five_live : live others ≡ 5
unfolding table_of record_of story roster
five_live = refl

-- c is suspected by d at 2000, then by d again, and then by e
abbrev by_d : GroupLog
by_d = says 2000 (on c (accused_by d) 0) ∷ others

abbrev by_d_and_e : GroupLog
by_d_and_e = says 2600 (on c (accused_by e) 0) ∷ says 2500 (on c (accused_by d) 0) ∷ by_d

abbrev of_c : List (List ℕ) → SuspectedValue
of_c accusers =
    let range : TimeoutValue = record { min = 5000; max = 30000; confirmations = 3 } in
    record { name = c ∷ []; suspicion = record { raised = 2000; timeout = range; accusers = accusers } }

suspected_by_d : suspicions by_d ≡ of_c ((d ∷ []) ∷ []) ∷ []
unfolding table_of record_of story roster suspicions suspected range_of log10_of counted_accusers
suspected_by_d = refl

suspected_by_d_and_e : suspicions by_d_and_e ≡ of_c ((d ∷ []) ∷ (e ∷ []) ∷ []) ∷ []
unfolding table_of record_of story roster suspicions suspected range_of log10_of counted_accusers
suspected_by_d_and_e = refl

abbrev deadlines : GroupLog → List ℕ
deadlines log = map (λ r. deadline_of r.suspicion) (suspicions log)

deadline_by_d : deadlines by_d ≡ 32000 ∷ []
unfolding table_of record_of story roster suspicions suspected range_of timeout_of log10_of ratio_of counted_accusers
deadline_by_d = refl

deadline_by_d_and_e : deadlines by_d_and_e ≡ 19500 ∷ []
unfolding table_of record_of story roster suspicions suspected range_of timeout_of log10_of ratio_of counted_accusers
deadline_by_d_and_e = refl

-- The suspicion ends if c is alive at a greater incarnation, and if it failed.
ended_by_c : deadlines (says 3000 (on c Alive 1) ∷ by_d_and_e) ≡ []
unfolding table_of record_of story roster suspicions suspected range_of timeout_of log10_of ratio_of counted_accusers
ended_by_c = refl

ended_by_failing : deadlines (says 19500 (on c Failed 0) ∷ by_d_and_e) ≡ []
unfolding table_of record_of story roster suspicions suspected range_of timeout_of log10_of ratio_of counted_accusers
ended_by_failing = refl

stands_at_the_number : deadlines (says 3000 (on c Alive 0) ∷ by_d) ≡ 32000 ∷ []
unfolding table_of record_of story roster suspicions suspected range_of timeout_of log10_of ratio_of counted_accusers
stands_at_the_number = refl

-- A suspicion at a greater incarnation is raised anew.
raised_anew : deadlines (says 4000 (on c (accused_by a) 1) ∷ by_d_and_e) ≡ 34000 ∷ []
unfolding table_of record_of story roster suspicions suspected range_of timeout_of log10_of ratio_of counted_accusers
raised_anew = refl

-- Two live members are too few for three confirmations, so the suspicion has its least timeout.
too_few : deadlines (says 2000 (on c (accused_by d) 0) ∷ opened ∷ []) ≡ 7000 ∷ []
unfolding table_of record_of story roster suspicions suspected range_of timeout_of log10_of ratio_of counted_accusers
too_few = refl

-- A member isn't live once the claim that it failed is applied.
four_live : live (says 2000 (on c Failed 0) ∷ others) ≡ 4
unfolding table_of record_of story roster
four_live = refl

-- a joins the others that aren't gone, and stays among them while it is suspected. When it fails it leaves them. It
-- joins them again when it is alive at a greater incarnation.
abbrev begun : GroupLog
begun = opened ∷ []

abbrev with_a : GroupLog
with_a = says 0 (on a Alive 0) ∷ begun

abbrev suspected_a : GroupLog
suspected_a = says 2000 (on a (accused_by c) 0) ∷ with_a

abbrev failed_a : GroupLog
failed_a = says 7000 (on a Failed 0) ∷ suspected_a

a_is_live : live_others suspected_a ≡ (a ∷ []) ∷ []
unfolding table_of record_of story roster
a_is_live = refl

abbrev back_a : GroupLog
back_a = says 8000 (on a Alive 1) ∷ failed_a

none_is_live : live_others (says 8000 (on a Alive 0) ∷ failed_a) ≡ []
unfolding table_of record_of story roster
none_is_live = refl

a_is_live_again : live_others back_a ≡ (a ∷ []) ∷ []
unfolding table_of record_of story roster
a_is_live_again = refl

abbrev presence_of_a : GroupLog → GroupLog → Presence
presence_of_a before after = presence_of (is_live before (a ∷ [])) (is_live after (a ∷ []))

a_joins : presence_of_a begun with_a ≡ Joins
unfolding table_of record_of story roster
a_joins = refl

a_stays : presence_of_a with_a suspected_a ≡ Remains
unfolding table_of record_of story roster
a_stays = refl

a_leaves : presence_of_a suspected_a failed_a ≡ Leaves
unfolding table_of record_of story roster
a_leaves = refl

a_joins_again : presence_of_a failed_a back_a ≡ Joins
unfolding table_of record_of story roster
a_joins_again = refl

-- b is suspected by a and then by c, both at 0. It refutes that once.
abbrev refuted : GroupLog
refuted = says 0 (on b (accused_by c) 0) ∷ says 0 (on b (accused_by a) 0) ∷ opened ∷ []

own_number : own refuted ≡ record { name = b ∷ []; addr = here; number = 1; ousted = false; left = false }
unfolding own_of
own_number = refl

refutation_is_queued :
    queue refuted ≡ record { lambda = 4; version = One; rows = record { claim = on b Alive 1; sends = 0 } ∷ [] }
unfolding own_of table_of record_of story roster takes put_by queued queue_rows suspicions
refutation_is_queued = refl

-- Two claims say that b failed at 0. b raises its incarnation once, and that is queued.
abbrev raised_by_failing : GroupLog
raised_by_failing = says 0 (on b Failed 0) ∷ says 0 (on b Failed 0) ∷ opened ∷ []

number_after_failing :
    own raised_by_failing ≡ record { name = b ∷ []; addr = here; number = 1; ousted = false; left = false }
unfolding own_of
number_after_failing = refl

raised_number_is_queued :
    queue raised_by_failing
    ≡ record { lambda = 4; version = One; rows = record { claim = on b Alive 1; sends = 0 } ∷ [] }
unfolding own_of table_of record_of story roster takes put_by queued queue_rows suspicions
raised_number_is_queued = refl

-- A seed is known, but isn't queued. A claim that overrides it is queued.
abbrev seeded : GroupLog
seeded = Said 0 Seed (on c Alive 0) ∷ opened ∷ []

seed_is_known : group_view seeded ≡ on b Alive 0 ∷ on c Alive 0 ∷ []
unfolding own_of table_of record_of story roster
seed_is_known = refl

seed_is_not_queued : (queue seeded).rows ≡ []
unfolding table_of record_of story roster takes put_by queued queue_rows suspicions
seed_is_not_queued = refl

overridden_seed : (queue (says 0 (on c Alive 1) ∷ seeded)).rows ≡ record { claim = on c Alive 1; sends = 0 } ∷ []
unfolding table_of record_of story roster takes put_by queued queue_rows suspicions
overridden_seed = refl

-- Nobody is known before the opening.
unopened : group_view [] ≡ []
unopened = refl

-- A claim is sent four times among fewer than ten members.
abbrev alive-c : Claim
alive-c = on c Alive 0

abbrev sent : GroupLog → GroupLog
sent log = Sent (alive-c ∷ []) ∷ log

abbrev heard : GroupLog
heard = says 0 alive-c ∷ opened ∷ []

fourth_packet : fill_of (queue (sent (sent (sent heard)))) None 2 ≡ alive-c ∷ []
unfolding table_of record_of story roster takes put_by queued queue_rows suspicions taken_of digits
fourth_packet = refl

fifth_packet : fill_of (queue (sent (sent (sent (sent heard))))) None 2 ≡ []
unfolding table_of record_of story roster takes put_by queued queue_rows suspicions taken_of digits
fifth_packet = refl

sendable_again : fill_of (queue (sent (sent (sent (sent heard))))) None 10 ≡ alive-c ∷ []
unfolding table_of record_of story roster takes put_by queued queue_rows suspicions taken_of digits
sendable_again = refl

-- A claim that is queued anew has no sends.
queued_afresh :
    (queue (says 0 (on c Alive 1) ∷ sent heard)).rows ≡ record { claim = on c Alive 1; sends = 0 } ∷ []
unfolding table_of record_of story roster takes put_by queued queue_rows suspicions
queued_afresh = refl

-- c is suspected by a, and d is alive. A Ping to c begins with c's record and takes the claim about d from the queue.
-- So the packet after it still has both.
abbrev suspected-c : Claim
suspected-c = on c (accused_by a) 2

abbrev alive-d : Claim
alive-d = on d Alive 0

abbrev two_heard : GroupLog
two_heard = says 0 alive-d ∷ says 0 suspected-c ∷ opened ∷ []

ping_begins_with_buddy : fill (Pinged (c ∷ [])) two_heard ≡ suspected-c ∷ alive-d ∷ []
unfolding table_of record_of story roster takes put_by queued queue_rows suspicions taken_of digits
ping_begins_with_buddy = refl

ping_takes_others : taken (Pinged (c ∷ [])) two_heard ≡ alive-d ∷ []
unfolding table_of record_of story roster takes put_by queued queue_rows suspicions taken_of digits
ping_takes_others = refl

ping_to_one_alive : fill (Pinged (d ∷ [])) two_heard ≡ suspected-c ∷ alive-d ∷ []
unfolding table_of record_of story roster takes put_by queued queue_rows suspicions taken_of digits
ping_to_one_alive = refl

after_that_ping : (queue (Sent (alive-d ∷ []) ∷ two_heard)).rows
    ≡ record { claim = suspected-c; sends = 0 } ∷ record { claim = alive-d; sends = 1 } ∷ []
unfolding table_of record_of story roster takes put_by queued queue_rows suspicions
after_that_ping = refl

-- In version 1 no packet but a Ping has a buddy. The claim that was sent least often comes first, here that about d.
abbrev sent_c : GroupLog
sent_c = Sent (suspected-c ∷ []) ∷ two_heard

no_ping_has_a_buddy : fill Anybody sent_c ≡ alive-d ∷ suspected-c ∷ []
unfolding table_of record_of story roster takes put_by queued queue_rows suspicions taken_of digits
no_ping_has_a_buddy = refl

ping_still_has_its_buddy : fill (Pinged (c ∷ [])) sent_c ≡ suspected-c ∷ alive-d ∷ []
unfolding table_of record_of story roster takes put_by queued queue_rows suspicions taken_of digits
ping_still_has_its_buddy = refl

-- A name that isn't known has no record here, and nor has this member itself. So a Ping to either has no buddy.
abbrev buddy_to : Addressee → Option Claim
buddy_to to = buddy_record One to (table two_heard)

target_is_known : buddy_to (Pinged (c ∷ [])) ≡ Some suspected-c
unfolding table_of record_of story roster
target_is_known = refl

target_is_a_stranger : buddy_to (Pinged (e ∷ [])) ≡ None
unfolding table_of record_of story roster
target_is_a_stranger = refl

target_is_oneself : buddy_to (Pinged (b ∷ [])) ≡ None
unfolding table_of record_of story roster
target_is_oneself = refl

-- A claim of a new accuser that counts is queued. A claim of one that counts already isn't.
abbrev queued_about : ℕ → GroupLog → Option Queued
queued_about letter log = queued log (letter ∷ [])

confirmation_is_queued : queued_about c by_d_and_e ≡ Some record { claim = on c (accused_by e) 0; sends = 0 }
unfolding table_of record_of story roster takes put_by queued suspicions suspected range_of log10_of counted_accusers
confirmation_is_queued = refl

repetition_is_not_queued :
    queued_about c (says 2500 (on c (accused_by d) 0) ∷ Sent (on c (accused_by d) 0 ∷ []) ∷ by_d)
    ≡ Some record { claim = on c (accused_by d) 0; sends = 1 }
unfolding table_of record_of story roster takes put_by queued suspicions suspected range_of log10_of counted_accusers
repetition_is_not_queued = refl

-- c is at 2001:db8::1, an address of IPv6, which version 1 can't tell. The claim about it is known and queued, with 200
-- sends, and no packet takes it. In version 3 it is queued with none, and taken, and so is the arrival of b.
abbrev far : Addr
far = record { ip = V6 (0x20 ∷ 0x01 ∷ 0x0d ∷ 0xb8 ∷ replicate 11 0 ++ 1 ∷ []); port = 7000 }

abbrev far-c : Claim
far-c = record { name = c ∷ []; addr = far; status = accused_by a; incarnation = 2 }

abbrev far_heard : GroupFact → GroupLog
far_heard opening = says 0 far-c ∷ opening ∷ []

abbrev opened_in_three : GroupFact
opened_in_three = Opened (record (defaults (b ∷ []) here) { wire = 3 })

far_is_known : group_view (far_heard opened) ≡ on b Alive 0 ∷ far-c ∷ []
unfolding own_of table_of record_of story roster
far_is_known = refl

far_has_200_sends :
    queue (far_heard opened) ≡ record { lambda = 4; version = One; rows = record { claim = far-c; sends = 200 } ∷ [] }
unfolding table_of record_of story roster takes put_by queued queue_rows suspicions
far_has_200_sends = refl

far_is_not_taken : taken Anybody (far_heard opened) ≡ []
unfolding table_of record_of story roster takes put_by queued queue_rows suspicions taken_of digits
far_is_not_taken = refl

far_is_no_buddy : fill (Pinged (c ∷ [])) (far_heard opened) ≡ []
unfolding table_of record_of story roster takes put_by queued queue_rows suspicions taken_of digits
far_is_no_buddy = refl

far_has_no_sends_in_three :
    queue (far_heard opened_in_three)
    ≡ record {
      lambda = 4;
      version = Three;
      rows = record { claim = on b Alive 0; sends = 0 } ∷ record { claim = far-c; sends = 0 } ∷ [];
    }
unfolding own_of table_of record_of story roster takes put_by queued queue_rows suspicions
far_has_no_sends_in_three = refl

far_is_taken_in_three : taken Anybody (far_heard opened_in_three) ≡ on b Alive 0 ∷ far-c ∷ []
unfolding own_of table_of record_of story roster takes put_by queued queue_rows suspicions taken_of digits
far_is_taken_in_three = refl

far_is_a_buddy_in_three : fill (Pinged (c ∷ [])) (far_heard opened_in_three) ≡ far-c ∷ on b Alive 0 ∷ []
unfolding own_of table_of record_of story roster takes put_by queued queue_rows suspicions taken_of digits
far_is_a_buddy_in_three = refl
