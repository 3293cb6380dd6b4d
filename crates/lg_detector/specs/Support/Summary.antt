-- What a summary is of, and the states and replies that follow from it.
use Rattle.std.specs.Prelude.{◌≡◌, List, [], ◌∷◌}
use Rattle.lg_detector.specs.declared.event.Event.{Event}
use Rattle.lg_detector.specs.declared.reply.Reply.{Reply}
use Rattle.lg_detector.specs.Support.State.{State}
use Rattle.lg_detector.specs.Support.Step.{state_after, step_state, reply_state}

-- A summary of a list of events is the state that they leave.
abbrev pub IsSummary : State → List Event → Type 0
IsSummary s f = s ≡ state_after f

-- a state advanced through further events
abbrev pub led_on : State → List Event → State
led_on s [] = s
led_on s (e ∷ g) = led_on (step_state s e) g

-- the reply to an event after further events
abbrev pub answer_from : State → List Event → Event → Reply
answer_from s g e = reply_state (led_on s g) e
