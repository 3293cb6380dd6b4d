-- Worked turns of b, which is opened at 0.
use Rattle.std.specs.Prelude.{◌≡◌, ℕ, ◌<◌, List, [], ◌∷◌, Bool, true, false, Some, None, Ok, refl}
use Rattle.std.specs.List.{flat_map, sum_by}
use Rattle.std.proofs.Common.{lit≤, lit<, inr}
use Rattle.std.proofs.lemmas.List.Elements.{All-nil, All-cons}
use Rattle.lg_packet.specs.declared.packet.Body.TheVariants.{Ping}
use Rattle.lg_packet.specs.declared.packet.Packet.{Packet}
use Rattle.lg_rules.specs.declared.version.Version.TheVariants.{One}
use Rattle.lg_packet.specs.Meaning.Reading.{name_at, head_at, body_at, claims_at, packet_at, packet_of}
use Rattle.lg_packet.specs.Meaning.Spelling.{spelling}
use Rattle.lg_packet.specs.declared.fault.Fault.TheVariants.{Short}
use Rattle.lg_detector.specs.declared.event.Event.{Event}
use Rattle.lg_detector.specs.declared.event.Event.TheVariants as events
use Rattle.lg_detector.specs.declared.reply.Outgoing.{Outgoing}
use Rattle.lg_detector.specs.Meaning.Step.{reply_after}
use Rattle.lg_detector.specs.Meaning.Examples.{by_computing, a, b, at, opening, nothing, acks, ticks}
use Rattle.lg_agent.specs.declared.receipt.Receipt.{Receipt}
use Rattle.lg_agent.specs.declared.refusal.Refusal.TheVariants.{HistoryFull, NoMemory}
use Rattle.lg_agent.specs.Meaning.Values.{PassValue}
use Rattle.lg_agent.specs.Meaning.Calls.{IsCall}
use Rattle.lg_turns.specs.declared.ending.Why.TheVariants.{Ousted, LinkFailed, Refused}
use Rattle.lg_turns.specs.Meaning.Links.{handed, lost}
use Rattle.lg_turns.specs.Meaning.Links.LinkEvent.{Received, Silent, Handed}
use Rattle.lg_turns.specs.Meaning.Turns.{Turn, deeds, drops, losses, peers_in, stops, IsTurn, Follows}
use Rattle.lg_turns.specs.Meaning.Turns.{SeesDue, SeesNoneDue}
use Rattle.lg_turns.specs.Meaning.Turns.Turn.{Quiet, Broken, Dropped, Heard, Unheard, Ticked, Pulled}

-- a Ping of a for b, numbered 7, and the Ack to it
abbrev ping : Packet
ping = record { version = One; group = None; sender = a ∷ []; body = Ping 7 (b ∷ []); claims = record { items = [] } }

abbrev ping_bytes : List ℕ
ping_bytes = 0x53 ∷ 0x4c ∷ 1 ∷ 1 ∷ 1 ∷ 97 ∷ 0 ∷ 0 ∷ 0 ∷ 7 ∷ 1 ∷ 98 ∷ 0 ∷ []

abbrev ack_bytes : List ℕ
ack_bytes = 0x53 ∷ 0x4c ∷ 1 ∷ 3 ∷ 1 ∷ 98 ∷ 0 ∷ 0 ∷ 0 ∷ 7 ∷ 0 ∷ []

-- the event of the Ping, and its receipt as the first call
abbrev asked : Event
asked = events.Heard 20 (at 1) ping

abbrev answer : Receipt
answer = record { place = 1; reply = record (nothing 0) { sends = record { items = acks 7 [] } } }

abbrev pass : List Event → List ℕ → PassValue
pass seen mine = record { name = b ∷ []; seat = 1; seen = seen; gone = 0; mine = mine }

abbrev before : PassValue
before = pass (opening 0 ∷ []) []

abbrev after : PassValue
after = pass (opening 0 ∷ asked ∷ []) (1 ∷ [])

it_is_read : packet_of ping_bytes ≡ Ok ping
unfolding packet_of packet_at head_at name_at body_at claims_at
it_is_read = refl

it_is_called : IsCall before asked answer after
unfolding by_computing
it_is_called = record {
  answered = record {
    before = opening 0 ∷ [];
    begins = ([], refl);
    ends = refl;
    accepted = refl;
    place = refl;
    reply = refl;
  };
  moved = 0;
  few = lit≤ tt;
  gone = refl;
  mine = refl;
  later = All-nil (λ k. k < 1);
  seat = refl;
  name = refl;
}

-- No datagram comes, then one that is cut short, and then the Ping.
abbrev heard : Bool → List Turn
heard was_sent =
    Quiet 20 ∷ Dropped (at 1) (0x53 ∷ []) ∷ Heard 20 (at 1) ping_bytes ping answer (was_sent ∷ []) ∷ []

they_follow : (was_sent : Bool) → Follows before (heard was_sent) after
unfolding packet_of packet_at head_at name_at body_at claims_at
they_follow was_sent =
    (before, refl, (before, (refl, (Short, refl)), (after, (it_is_read, it_is_called, refl), refl)))

the_link_did : flat_map deeds (heard true)
    ≡ Silent 20 ∷ Received (at 1) (0x53 ∷ []) ∷ Received (at 1) ping_bytes ∷ Handed (at 1) ack_bytes true ∷ []
unfolding spelling
the_link_did = refl

one_is_dropped : sum_by drops (heard true) ≡ 1
one_is_dropped = refl

none_is_lost : sum_by losses (heard true) ≡ 0
none_is_lost = refl

-- The Ack isn't sent. It was handed over all the same, and the loop goes on.
it_was_handed_over : deeds (Heard 20 (at 1) ping_bytes ping answer (false ∷ []))
    ≡ Received (at 1) ping_bytes ∷ Handed (at 1) ack_bytes false ∷ []
unfolding spelling
it_was_handed_over = refl

one_is_lost : sum_by losses (heard false) ≡ 1
one_is_lost = refl

a_lost_packet_ends_nothing : stops (Heard 20 (at 1) ping_bytes ping answer (false ∷ [])) ≡ None
a_lost_packet_ends_nothing = refl

-- Of three packets the second is lost. Each was handed over, in order.
abbrev to : ℕ → Outgoing
to port = record { to = at port; packet = ping }

all_are_handed_over : handed (to 1 ∷ to 2 ∷ to 3 ∷ []) (true ∷ false ∷ true ∷ [])
    ≡ Handed (at 1) ping_bytes true ∷ Handed (at 2) ping_bytes false ∷ Handed (at 3) ping_bytes true ∷ []
unfolding spelling
all_are_handed_over = refl

one_of_three : lost (true ∷ false ∷ true ∷ []) ≡ 1
one_of_three = refl

-- Only two entries may be stored, so the history is full when the Ping is heard again. It is rotated, and the call is
-- made again. Both count as one call, and of the call before only the number is kept.
abbrev again : Receipt
again = record { place = 2; reply = reply_after (opening 0 ∷ asked ∷ []) asked }

abbrev rotated : List Event → List ℕ → PassValue
rotated seen mine = record (pass seen mine) { gone = 1 }

it_is_one_call : IsCall after asked again (rotated (opening 0 ∷ asked ∷ asked ∷ []) (2 ∷ []))
unfolding by_computing
it_is_one_call = record {
  answered = record {
    before = opening 0 ∷ asked ∷ [];
    begins = ([], refl);
    ends = refl;
    accepted = refl;
    place = refl;
    reply = refl;
  };
  moved = 1;
  few = lit≤ tt;
  gone = refl;
  mine = refl;
  later = All-cons (λ k. k < 2) 1 [] (lit< tt) (All-nil (λ k. k < 2));
  seat = refl;
  name = refl;
}

-- If memory for that call is refused, the pass was rotated and made no call.
it_is_not_heard : IsTurn after (Unheard 20 (at 1) ping_bytes NoMemory) (rotated (opening 0 ∷ asked ∷ []) [])
it_is_not_heard = (
  inr (
      record {
        early = All-cons (λ k. k < 2) 1 [] (lit< tt) (All-nil (λ k. k < 2));
        moved = 1;
        few = lit≤ tt;
        gone = refl;
        mine = refl;
        seen = refl;
        seat = refl;
        name = refl;
      }
      ),
  tt,
)

-- What ends a loop.
ousting_does : stops (Ticked 20 [] (record answer { reply = record answer.reply { ousted = true } }) []) ≡ Some Ousted
ousting_does = refl

a_refusal_does : stops (Unheard 20 (at 1) ping_bytes (HistoryFull 2)) ≡ Some (Refused (HistoryFull 2))
a_refusal_does = refl

a_broken_link_does : stops Broken ≡ Some LinkFailed
a_broken_link_does = refl

a_bad_datagram_does_not : stops (Dropped (at 1) []) ≡ None
a_bad_datagram_does_not = refl

-- The first round of b is due at once. It knows nobody, so nothing is sent.
abbrev started : Receipt
started = record { place = 1; reply = reply_after (opening 0 ∷ []) (ticks 0) }

abbrev later : PassValue
later = pass (opening 0 ∷ ticks 0 ∷ []) (1 ∷ [])

it_is_due : SeesDue before 0 before
unfolding by_computing
it_is_due = record {
  look = record { begins = ([], refl); accepted = refl; gone = refl; mine = refl; seat = refl; name = refl };
  due = 0;
  deadline = refl;
  come = lit≤ tt;
}

-- The next round is due a second later.
none_is_due : SeesNoneDue later 999 later
unfolding by_computing
none_is_due = record {
  look = record { begins = ([], refl); accepted = refl; gone = refl; mine = refl; seat = refl; name = refl };
  due = 1000;
  deadline = refl;
  later = lit< tt;
}

nothing_is_sent : deeds (Ticked 0 (0 ∷ 1 ∷ 2 ∷ 3 ∷ 4 ∷ 5 ∷ 6 ∷ 7 ∷ []) started []) ≡ []
unfolding by_computing
nothing_is_sent = refl

-- Two seeds are asked, in order, and the second packet isn't sent.
abbrev two_asked : List Turn
two_asked = Pulled 0 (at 1) started (true ∷ []) ∷ Pulled 0 (at 2) started (false ∷ []) ∷ []

both_were_asked : flat_map peers_in two_asked ≡ at 1 ∷ at 2 ∷ []
both_were_asked = refl

one_was_lost : sum_by losses two_asked ≡ 1
one_was_lost = refl
