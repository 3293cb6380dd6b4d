-- Worked choices of b: whom the reply to a start of a round names, and that no other reply names anyone.
use Rattle.std.specs.Prelude.{◌≡◌, List, [], ◌∷◌, Some, None, refl}
use Rattle.lg_packet.specs.declared.packet.Body.TheVariants.{PingReq, Ack}
use Rattle.lg_detector.specs.declared.event.Event.{Event}
use Rattle.lg_detector.specs.Meaning.Step.{reply_after}
use Rattle.lg_detector.specs.Meaning.Choice.{choice_of_reply, targets_after}
use Rattle.lg_detector.specs.Meaning.Examples.{by_computing, c, d, alive, at, opening, says, ticks, suspecting}

-- c is suspected, and the round that starts at 2000 chooses it, the only other.
one_is_told : choice_of_reply (reply_after suspecting (ticks 2000)) ≡ Some (c ∷ [])
unfolding by_computing
one_is_told = refl

-- Nobody is known, so nobody is chosen.
nobody_is_told : choice_of_reply (reply_after (opening 0 ∷ []) (ticks 0)) ≡ None
unfolding by_computing
nobody_is_told = refl

-- A Ping to c that is sent for a is no choice.
a_relayed_ping_tells_of_nobody :
    choice_of_reply (reply_after (opening 0 ∷ []) (says 510 (PingReq 1 (c ∷ []) (at 7003)) [])) ≡ None
unfolding by_computing
a_relayed_ping_tells_of_nobody = refl

-- Nor is what is sent if c didn't ack in time: d is asked to ping it.
abbrev both_known : List Event
both_known = opening 0 ∷ says 0 (Ack 7 None) (alive c 0 ∷ alive d 0 ∷ []) ∷ ticks 0 ∷ []

asking_a_helper_tells_of_nobody : choice_of_reply (reply_after both_known (ticks 500)) ≡ None
unfolding by_computing
asking_a_helper_tells_of_nobody = refl

-- The list of events gives the same: c alone was chosen.
the_list_has_it : targets_after both_known ≡ (c ∷ []) ∷ []
unfolding by_computing
the_list_has_it = refl

a_relayed_ping_adds_nobody :
    targets_after (opening 0 ∷ says 510 (PingReq 1 (c ∷ []) (at 7003)) [] ∷ ticks 510 ∷ []) ≡ []
unfolding by_computing
a_relayed_ping_adds_nobody = refl
