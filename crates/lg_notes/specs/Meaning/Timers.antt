-- Which timer an entry fired.
use Rattle.std.specs.Prelude.{Bool, true, false, List, ℕ, Option, Some, None}
use Rattle.lg_timers.specs.declared.timer.Timer.{Timer}
use Rattle.lg_timers.specs.declared.timer.TimerId.{TimerId}
use Rattle.lg_timers.specs.declared.timer.TimerId.TheVariants.{RoundEnd, Suspicion, Direct}
use Rattle.lg_detector.specs.declared.reply.Reply.{Reply}
use Rattle.lg_detector.specs.Meaning.Probing.{is_round_start}
use Rattle.lg_notes.specs.Meaning.About.{is_same_name}

-- the timer of the end of a round
abbrev pub is_round_end : TimerId → Bool
is_round_end RoundEnd = true
is_round_end _ = false

-- the timer that asks helpers, since no Ack came in time
abbrev pub asks_helpers : TimerId → Bool
asks_helpers Direct = true
asks_helpers _ = false

-- the timer of the member's suspicion
abbrev pub is_suspicion_of : List ℕ → TimerId → Bool
is_suspicion_of name (Suspicion member) = is_same_name name member
is_suspicion_of name _ = false

-- whether a timer fired that passes a test
abbrev pub has_fired : (TimerId → Bool) → Option Timer → Bool
has_fired test None = false
has_fired test (Some timer) = test timer.id

-- whether a round of the node started with an entry, and whether one ended
abbrev pub starts_round : Reply → Bool
starts_round r = has_fired is_round_start r.fired

abbrev pub ends_round : Reply → Bool
ends_round r = has_fired is_round_end r.fired
