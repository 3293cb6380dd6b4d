-- Worked events of b, which is at 127.0.0.1:7000 and hears from port 1: its opening, packets that it hears, ticks,
-- and questions.
use Rattle.std.specs.Prelude.{◌≡◌, ℕ, Bool, true, false, List, [], ◌∷◌, Some, None, reverse, refl}
use Rattle.std.specs.Fmt.{digits}
use Rattle.lg_rules.specs.declared.addr.Addr.{Addr}
use Rattle.lg_rules.specs.declared.addr.Ip.TheVariants.{V4}
use Rattle.lg_rules.specs.declared.claim.Claim.{Claim}
use Rattle.lg_rules.specs.declared.claim.Status.{Status}
use Rattle.lg_rules.specs.declared.claim.Status.TheVariants.{Alive, Suspect, Failed}
use Rattle.lg_rules.specs.Meaning.Own.{OwnValue, own_of}
use Rattle.lg_rules.specs.Meaning.Table.{record_of, roster, story, table_of, takes}
use Rattle.lg_timing.specs.declared.config.Seed.{Seed}
use Rattle.lg_timing.specs.Meaning.Config.{check_of, defaults}
use Rattle.lg_timing.specs.Meaning.Tables.{log10_of, ratio_of}
use Rattle.lg_timing.specs.Meaning.Timeouts.{range_of, timeout_of}
use Rattle.lg_suspicion.specs.Meaning.Accusers.{counted_accusers}
use Rattle.lg_gossip.specs.Meaning.Queue.{taken_of}
use Rattle.lg_packet.specs.declared.packet.Body.{Body}
use Rattle.lg_packet.specs.declared.packet.Body.TheVariants.{Ping, Ack}
use Rattle.lg_rules.specs.declared.version.Version.{Version}
use Rattle.lg_rules.specs.declared.version.Version.TheVariants.{One}
use Rattle.lg_timers.specs.declared.timer.Timer.{Timer}
use Rattle.lg_timers.specs.declared.timer.TimerId.{TimerId}
use Rattle.lg_timers.specs.declared.timer.TimerId.TheVariants.{RoundStart}
use Rattle.lg_timers.specs.Meaning.Timers.{in_turn}
use Rattle.lg_membership.specs.Meaning.Log.{own}
use Rattle.lg_membership.specs.Meaning.Suspicions.{suspicions, suspected}
use Rattle.lg_membership.specs.Meaning.Gossip.{put_by, queued, queue_rows}
use Rattle.lg_detector.specs.declared.event.Event.{Event}
use Rattle.lg_detector.specs.declared.event.Event.TheVariants.{Open, Tick, Heard, Ask, Health}
use Rattle.lg_detector.specs.declared.reply.Answer.TheVariants.{Status as OfStatus, Health as OfHealth}
use Rattle.lg_detector.specs.declared.reply.Outgoing.{Outgoing}
use Rattle.lg_detector.specs.declared.reply.Reply.{Reply}
use Rattle.lg_detector.specs.Meaning.Log.{Log, group_log}
use Rattle.lg_detector.specs.Meaning.Step.{log_of, reply_after, view_after, deadline_after, own_standing_after}
use Rattle.lg_detector.specs.Meaning.Step.{is_accepted, moment_after}

-- What has to be unfolded to compute a worked event.
unfoldable pub by_computing : Unit {0}
unfolding digits own_of record_of roster story table_of takes check_of log10_of ratio_of range_of timeout_of
    counted_accusers taken_of in_turn suspicions suspected put_by queued queue_rows
by_computing = tt

-- the letters that name the members
abbrev pub a : ℕ
a = 97

abbrev pub b : ℕ
b = 98

abbrev pub c : ℕ
c = 99

abbrev pub d : ℕ
d = 100

abbrev pub e : ℕ
e = 101

abbrev pub f : ℕ
f = 102

abbrev pub z : ℕ
z = 122

abbrev pub at : ℕ → Addr
at port = record { ip = V4 (127 ∷ 0 ∷ 0 ∷ 1 ∷ []); port = port }

-- claims about the member with a name of one letter
abbrev pub on : ℕ → Status → ℕ → Claim
on letter status i = record { name = letter ∷ []; addr = at 7000; status = status; incarnation = i }

abbrev pub alive : ℕ → ℕ → Claim
alive letter i = on letter Alive i

abbrev pub failed : ℕ → ℕ → Claim
failed letter i = on letter Failed i

abbrev pub suspect : ℕ → ℕ → ℕ → Claim
suspect letter i accuser = on letter (Suspect (accuser ∷ [])) i

-- b is opened with the default numbers.
abbrev pub opening : ℕ → Event
opening now = Open now (defaults (b ∷ []) (at 7000))

abbrev pub opening_with : ℕ → List Seed → Event
opening_with interval seeds =
    Open 0 (record (defaults (b ∷ []) (at 7000)) { interval_ms = interval; seeds = record { items = seeds } })

abbrev pub seeded : Event
seeded = opening_with 1000 (record { name = c ∷ []; addr = at 7000 } ∷ [])

-- a packet of a, in some version and in version 1; and one that is a Ping for a member
abbrev pub says_in : Version → ℕ → Body → List Claim → Event
says_in version now body claims =
    Heard now (at 1)
    (record { version = version; group = None; sender = a ∷ []; body = body; claims = record { items = claims } })

abbrev pub says : ℕ → Body → List Claim → Event
says now body claims = says_in One now body claims

abbrev pub pings : ℕ → ℕ → ℕ → List Claim → Event
pings now number target claims = says now (Ping number (target ∷ [])) claims

-- c is accused in a Ping for b
abbrev pub accusing : ℕ → ℕ → Event
accusing now accuser = pings now 1 b (suspect c 0 accuser ∷ [])

abbrev pub ticks : ℕ → Event
ticks now = Tick now (0 ∷ 1 ∷ 2 ∷ 3 ∷ 4 ∷ 5 ∷ 6 ∷ 7 ∷ [])

abbrev pub timer_of : ℕ → TimerId → Timer
timer_of deadline id = record { deadline = deadline; id = id }

abbrev pub start_of_round : ℕ → Timer
start_of_round deadline = timer_of deadline RoundStart

-- the reply that says nothing, with this least deadline
abbrev pub nothing : ℕ → Reply
nothing next =
    record {
      fired = None;
      sends = record { items = [] };
      changed = record { items = [] };
      forgotten = record { items = [] };
      answer = None;
      ousted = false;
      next = next;
    }

-- what b sends to a port, in some version and in version 1; and an Ack that it sends to port 1
abbrev pub sent_in : Version → ℕ → Body → List Claim → List Outgoing
sent_in version port body claims =
    record {
      to = at port;
      packet = record {
        version = version;
        group = None;
        sender = b ∷ [];
        body = body;
        claims = record { items = claims };
      };
    }
    ∷ []

abbrev pub sent : ℕ → Body → List Claim → List Outgoing
sent port body claims = sent_in One port body claims

abbrev pub acks : ℕ → List Claim → List Outgoing
acks number claims = sent 1 (Ack number None) claims

-- the log of some events, the earliest first
abbrev pub log_after : List Event → Log
log_after events = log_of (reverse events)

-- c is suspected and a is alive, by one Ack. No packet has taken these claims yet.
abbrev pub suspects_c : List Event
suspects_c = opening 0 ∷ says 2000 (Ack 7 None) (suspect c 0 d ∷ alive a 0 ∷ []) ∷ []

-- OPEN
-- A seed is known, and the opening's reply shows no change. No packet takes the seed's claim, but one takes the claim
-- that overrides it.
opening_says_nothing : reply_after [] seeded ≡ nothing 0
unfolding by_computing
opening_says_nothing = refl

seeds_are_known : view_after (seeded ∷ []) ≡ alive b 0 ∷ alive c 0 ∷ []
unfolding by_computing
seeds_are_known = refl

seeds_are_not_sent : (reply_after (seeded ∷ []) (pings 0 1 b (alive c 0 ∷ []))).sends.items ≡ acks 1 []
unfolding by_computing
seeds_are_not_sent = refl

what_overrides_a_seed_is_sent :
    (reply_after (seeded ∷ []) (pings 0 1 b (alive c 1 ∷ []))).sends.items ≡ acks 1 (alive c 1 ∷ [])
unfolding by_computing
what_overrides_a_seed_is_sent = refl

-- An accepted list begins with its one opening, and with a configuration that passes its check.
nothing_is_accepted : is_accepted [] ≡ true
nothing_is_accepted = refl

begins_with_an_opening : is_accepted (opening 0 ∷ Ask 0 (b ∷ []) ∷ pings 0 1 b [] ∷ []) ≡ true
unfolding by_computing
begins_with_an_opening = refl

begins_with_a_question : is_accepted (Ask 0 (b ∷ []) ∷ opening 0 ∷ []) ≡ false
begins_with_a_question = refl

opened_twice : is_accepted (opening 0 ∷ Ask 0 (b ∷ []) ∷ opening 0 ∷ []) ≡ false
unfolding by_computing
opened_twice = refl

interval_too_short : is_accepted (opening_with 5 [] ∷ []) ≡ false
unfolding by_computing
interval_too_short = refl

-- HEAR
-- A Ping of a for c claims that c is alive: it isn't acked. Then a pings b.
a_ping_for_another_is_not_acked :
    reply_after (opening 0 ∷ []) (pings 0 7 c (alive c 0 ∷ []))
    ≡ record (nothing 0) { changed = record { items = alive c 0 ∷ [] } }
unfolding by_computing
a_ping_for_another_is_not_acked = refl

an_ack_takes_what_was_heard :
    reply_after (opening 0 ∷ pings 0 7 c (alive c 0 ∷ []) ∷ []) (pings 0 8 b [])
    ≡ record (nothing 0) { sends = record { items = acks 8 (alive c 0 ∷ []) } }
unfolding by_computing
an_ack_takes_what_was_heard = refl

-- An Ack is heard: its claims are applied, and it isn't acked.
an_ack_is_not_acked :
    reply_after (opening 0 ∷ []) (says 0 (Ack 7 None) (alive c 0 ∷ []))
    ≡ record (nothing 0) { changed = record { items = alive c 0 ∷ [] } }
unfolding by_computing
an_ack_is_not_acked = refl

the_claims_of_an_ack_are_said :
    view_after (opening 0 ∷ says 0 (Ack 7 None) (alive c 0 ∷ []) ∷ []) ≡ alive b 0 ∷ alive c 0 ∷ []
unfolding by_computing
the_claims_of_an_ack_are_said = refl

-- One packet claims that a, and then that c, suspects b, both at 0. b refutes the first claim alone, before it acks.
abbrev pub accused_twice : Event
accused_twice = pings 0 9 b (suspect b 0 a ∷ suspect b 0 c ∷ [])

refutes_once :
    reply_after (opening 0 ∷ []) accused_twice
    ≡ record (nothing 0) {
      sends = record { items = acks 9 (alive b 1 ∷ []) };
      changed = record { items = alive b 1 ∷ [] };
    }
unfolding by_computing
refutes_once = refl

-- this member's incarnation, and whether it was ousted; it hasn't left
abbrev oneself_after : List Event → OwnValue
oneself_after f = own (group_log (log_after f))

abbrev b_is : ℕ → Bool → OwnValue
b_is number ousted = record { name = b ∷ []; addr = at 7000; number = number; ousted = ousted; left = false }

a_refutation_raises_the_number : oneself_after (opening 0 ∷ accused_twice ∷ []) ≡ b_is 1 false
unfolding by_computing
a_refutation_raises_the_number = refl

-- b is claimed to have failed: its incarnation rises, and its score stays.
a_claim_that_b_failed_raises_it :
    reply_after (opening 0 ∷ []) (pings 0 1 b (failed b 0 ∷ []))
    ≡ record (nothing 0) {
      sends = record { items = acks 1 (alive b 1 ∷ []) };
      changed = record { items = alive b 1 ∷ [] };
    }
unfolding by_computing
a_claim_that_b_failed_raises_it = refl

-- b is claimed to have failed, or is suspected, at the greatest incarnation: its own incarnation stays, no record
-- changes, and no claim is sent.
abbrev ousted : Reply
ousted = record (nothing 0) { sends = record { items = acks 1 [] }; ousted = true }

failed_beyond_coming_back : reply_after (opening 0 ∷ []) (pings 0 1 b (failed b 1000000000 ∷ [])) ≡ ousted
unfolding by_computing
failed_beyond_coming_back = refl

beyond_refuting : reply_after (opening 0 ∷ []) (pings 0 1 b (suspect b 1000000000 a ∷ [])) ≡ ousted
unfolding by_computing
beyond_refuting = refl

one_that_is_ousted_keeps_its_number :
    oneself_after (opening 0 ∷ pings 0 1 b (suspect b 1000000000 a ∷ []) ∷ []) ≡ b_is 0 true
unfolding by_computing
one_that_is_ousted_keeps_its_number = refl

-- what it knows of itself: a refutation of a suspicion marks the score, and one that is ousted says so
abbrev accused_at_the_bound : List Event
accused_at_the_bound = opening 0 ∷ pings 0 1 b (suspect b 1000000000 a ∷ []) ∷ []

it_knows_its_score :
    own_standing_after (opening 0 ∷ accused_twice ∷ []) ≡ record { score = 1; number = 1; ousted = false }
unfolding by_computing
it_knows_its_score = refl

it_knows_that_it_is_ousted : own_standing_after accused_at_the_bound ≡ record { score = 0; number = 0; ousted = true }
unfolding by_computing
it_knows_that_it_is_ousted = refl

-- Moments may go back: an event at an earlier moment leaves the moment as it is, and no packet moves a deadline.
the_greatest_moment_counts : moment_after (opening 5000 ∷ pings 4000 1 b [] ∷ []) ≡ 5000
the_greatest_moment_counts = refl

a_packet_moves_no_deadline : (reply_after (opening 5000 ∷ []) (pings 4000 1 b [])).next ≡ 5000
unfolding by_computing
a_packet_moves_no_deadline = refl

a_later_packet_moves_none : deadline_after (opening 5000 ∷ pings 6000 1 b [] ∷ []) ≡ Some 5000
unfolding by_computing
a_later_packet_moves_none = refl

no_deadline_before_the_opening : deadline_after [] ≡ None
unfolding by_computing
no_deadline_before_the_opening = refl

-- TICK
-- c is suspected by d in a Ping at 2000. There are two members then, so the suspicion runs out at 7000.
abbrev pub suspecting : List Event
suspecting = opening 0 ∷ accusing 2000 d ∷ []

nothing_is_due : reply_after (opening 0 ∷ ticks 0 ∷ []) (ticks 999) ≡ nothing 1000
unfolding by_computing
nothing_is_due = refl

-- The next round starts one interval after the greatest moment, here that of a question.
a_round_counts_from_the_greatest_moment :
    reply_after (opening 0 ∷ Health 5000 ∷ []) (ticks 4000)
    ≡ record (nothing 6000) { fired = Some (start_of_round 0) }
unfolding by_computing
a_round_counts_from_the_greatest_moment = refl

-- At a score of 1 the interval is twice as long.
a_round_counts_by_the_score :
    reply_after (opening 0 ∷ accused_twice ∷ []) (ticks 0)
    ≡ record (nothing 2000) { fired = Some (start_of_round 0) }
unfolding by_computing
a_round_counts_by_the_score = refl

-- A claim that overrides the record ends the suspicion, and its deadline with it.
an_ended_suspicion_has_no_deadline :
    (reply_after (opening 0 ∷ accusing 2000 d ∷ pings 3000 2 b (alive c 1 ∷ []) ∷ []) (ticks 6500)).next
    ≡ 7000
unfolding by_computing
an_ended_suspicion_has_no_deadline = refl

-- c is suspected at 2000 among five members, by d, by d again, and by e. The round starts at 31500.
abbrev alive_others : List Claim
alive_others = alive a 0 ∷ alive d 0 ∷ alive e 0 ∷ []

-- what comes after b has heard of the others
abbrev among_five : List Event → List Event
among_five f = opening 0 ∷ says 0 (Ack 7 None) alive_others ∷ f

an_accuser_counts_once :
    (reply_after (among_five (accusing 2000 d ∷ accusing 2000 d ∷ [])) (ticks 31500)).next ≡ 32000
unfolding by_computing
an_accuser_counts_once = refl

another_accuser_shortens_the_deadline :
    (reply_after (among_five (accusing 2000 d ∷ accusing 2000 d ∷ accusing 2000 e ∷ [])) (ticks 31500)).next
    ≡ 19500
unfolding by_computing
another_accuser_shortens_the_deadline = refl

-- The accusation of e counts, so it is sent. It goes before the claims that came with an earlier Ack.
an_accusation_that_counts_is_sent :
    (reply_after (among_five (accusing 2000 d ∷ [])) (accusing 2000 e)).sends.items
    ≡ acks 1 (suspect c 0 e ∷ alive_others)
unfolding by_computing
an_accusation_that_counts_is_sent = refl

-- ASK
-- b is asked for c, for itself and for a stranger.
abbrev knows_c : List Event
knows_c = opening 0 ∷ says 0 (Ack 7 None) (alive c 0 ∷ []) ∷ []

asked_for_c :
    reply_after knows_c (Ask 20 (c ∷ [])) ≡ record (nothing 0) { answer = Some (OfStatus (Some (alive c 0))) }
unfolding by_computing
asked_for_c = refl

asked_for_itself :
    reply_after knows_c (Ask 20 (b ∷ [])) ≡ record (nothing 0) { answer = Some (OfStatus (Some (alive b 0))) }
unfolding by_computing
asked_for_itself = refl

asked_for_a_stranger : reply_after knows_c (Ask 20 (z ∷ [])) ≡ record (nothing 0) { answer = Some (OfStatus None) }
unfolding by_computing
asked_for_a_stranger = refl

-- A new member has the score 0 and the incarnation 0. Of two accusations one was refuted, so both are 1.
health_at_the_opening : (reply_after (opening 0 ∷ []) (Health 0)).answer ≡ Some (OfHealth 0 0 1)
unfolding by_computing
health_at_the_opening = refl

health_after_a_refutation :
    (reply_after (opening 0 ∷ accused_twice ∷ []) (Health 0)).answer ≡ Some (OfHealth 1 1 1)
unfolding by_computing
health_after_a_refutation = refl

-- A member that is suspected counts, and one that has failed doesn't.
a_suspect_counts : (reply_after suspecting (Health 2000)).answer ≡ Some (OfHealth 0 0 2)
unfolding by_computing
a_suspect_counts = refl

one_that_failed_does_not_count :
    (reply_after (opening 0 ∷ accusing 2000 d ∷ pings 3000 2 b (failed c 0 ∷ []) ∷ []) (Health 3000)).answer
    ≡ Some (OfHealth 0 0 1)
unfolding by_computing
one_that_failed_does_not_count = refl
