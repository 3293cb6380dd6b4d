-- Whom the start of a round chose, by the reply alone, and all who were chosen, by the list of events (SWIM, section
-- 4.3).
use Rattle.std.specs.Prelude.{ℕ, List, [], ◌∷◌, reverse, Option, Some, None, if◌then◌else◌}
use Rattle.lg_packet.specs.declared.packet.Body.{Body}
use Rattle.lg_packet.specs.declared.packet.Body.TheVariants.{Ping}
use Rattle.lg_timers.specs.declared.timer.Timer.{Timer}
use Rattle.lg_detector.specs.declared.event.Event.{Event}
use Rattle.lg_detector.specs.declared.reply.Outgoing.{Outgoing}
use Rattle.lg_detector.specs.declared.reply.Reply.{Reply}
use Rattle.lg_detector.specs.Meaning.Probing.{is_round_start}
use Rattle.lg_detector.specs.Meaning.Window.{targets}
use Rattle.lg_detector.specs.Meaning.Step.{log_of}

-- the body of the first of some packets, if there are any
abbrev pub first_body : List Outgoing → Option Body
first_body [] = None
first_body (sent ∷ rest) = Some sent.packet.body

-- the target of a body, if it is that of a Ping
abbrev pub pinged : Option Body → Option (List ℕ)
pinged (Some (Ping number target)) = Some target
pinged _ = None

-- By the timer that fired and the body of the first packet that was sent: if a start of a round fired, the target of
-- its Ping, if it sent one. A Ping that is sent for another member doesn't count, since nothing fired then.
abbrev pub choice_by : Option Timer → Option Body → Option (List ℕ)
choice_by None first = None
choice_by (Some timer) first = if is_round_start timer.id then pinged first else None

-- by a reply
abbrev pub choice_of_reply : Reply → Option (List ℕ)
choice_of_reply reply = choice_by reply.fired (first_body reply.sends.items)

-- by a list of events, the earliest first: the targets that its starts of rounds chose, in the order in which they did
abbrev pub targets_after : List Event → List (List ℕ)
targets_after f = targets (log_of (reverse f)) []
