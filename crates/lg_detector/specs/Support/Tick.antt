-- The event Tick, as functions of the state.
use Rattle.std.specs.Prelude.{ℕ, Bool, false, List, [], ◌∷◌, Option, Some, None, if◌then◌else◌}
use Rattle.lg_rules.specs.declared.claim.Claim.{Claim}
use Rattle.lg_timers.specs.declared.timer.Timer.{Timer}
use Rattle.lg_timers.specs.declared.timer.TimerId.{TimerId}
use Rattle.lg_timers.specs.declared.timer.TimerId.TheVariants.{RelayNack, Direct, RoundStart, Gossip}
use Rattle.lg_timers.specs.Meaning.Timers.{due_of}
use Rattle.lg_probe.specs.Meaning.Helpers.{picked}
use Rattle.lg_probe.specs.Meaning.Relays.{asker_at}
use Rattle.lg_membership.specs.declared.origin.Origin.TheVariants.{Group}
use Rattle.lg_membership.specs.Support.State.{shown}
use Rattle.lg_detector.specs.declared.reply.Outgoing.{Outgoing}
use Rattle.lg_detector.specs.declared.message.Message.{Message}
use Rattle.lg_detector.specs.Meaning.Probing.{gossip_to_in}
use Rattle.lg_detector.specs.Meaning.Tick.{fired_claims, gossips_for, ping_to, requests, nack_to}
use Rattle.lg_detector.specs.Meaning.Timing.{is_gossip}
use Rattle.lg_detector.specs.Support.State.{State, has_news_in, come_state, apply_all_state}
use Rattle.lg_detector.specs.Support.State.{fire_state, chosen_state, helpers_state, end_event, gossip_fired}
use Rattle.lg_detector.specs.Support.Send.{send_all_state, send_state, packets_state}

-- the first of the timers that are due
abbrev pub due_state : State → Option Timer
due_state s = due_of s.moment s.timers

-- the claims that it makes, and the packets that it sends
abbrev pub claims_said_state : TimerId → State → List Claim
claims_said_state id s = fired_claims id s.membership.own.name s.round (shown s.membership)

abbrev pub told_state : List ℕ → State → List (List ℕ)
told_state words s = picked (gossip_to_in s.membership.config) words s.order.names

abbrev pub while_news_state : List Message → State → List Message
while_news_state [] s = []
while_news_state (m ∷ ms) s = if has_news_in s.membership then m ∷ while_news_state ms (send_state m.body s) else []

abbrev pub messages_state : TimerId → List ℕ → State → List Message
messages_state RoundStart words s = ping_to s.number (shown s.membership) (chosen_state words s)
messages_state Direct words s = requests s.round (shown s.membership) (helpers_state words s)
messages_state (RelayNack k) words s = nack_to (asker_at k s.relays)
messages_state Gossip words s = while_news_state (gossips_for (shown s.membership) (told_state words s)) s
messages_state _ words s = []

-- it fires, if there is one
abbrev pub fire_due : Option Timer → List ℕ → State → State
fire_due None words s = s
fire_due (Some timer) words s = fire_state timer words s

abbrev pub claims_by : Option Timer → State → List Claim
claims_by None s = []
claims_by (Some timer) s = claims_said_state timer.id s

abbrev pub messages_by : Option Timer → List ℕ → State → List Message
messages_by None words s = []
messages_by (Some timer) words s = messages_state timer.id words s

abbrev pub said_by : Option Timer → List ℕ → State → State
said_by timer words s = apply_all_state Group (claims_by timer s) (fire_due timer words s)

abbrev pub expire_state : Option Timer → List ℕ → State → State
expire_state timer words s = send_all_state (messages_by timer words s) (said_by timer words s)

abbrev pub tick_state : ℕ → List ℕ → State → State
tick_state now words s = expire_state (due_state (come_state now s)) words (come_state now s)

abbrev pub expire_sends_state : Option Timer → List ℕ → State → List Outgoing
expire_sends_state timer words s = packets_state (messages_by timer words s) (said_by timer words s)

abbrev pub sends_at_state : ℕ → List ℕ → State → List Outgoing
sends_at_state now words s = expire_sends_state (due_state (come_state now s)) words (come_state now s)

-- The same up to the end of the event. There the timer of a gossip is still set, so that it can stay in its place.
abbrev pub fired_id : TimerId → Timer → List ℕ → State → State
fired_id Gossip timer words s = send_all_state (messages_state Gossip words s) s
fired_id _ timer words s = expire_state (Some timer) words s

abbrev pub fired_state : Option Timer → List ℕ → State → State
fired_state None words s = s
fired_state (Some timer) words s = fired_id timer.id timer words s

abbrev pub has_gossiped : Option Timer → Bool
has_gossiped None = false
has_gossiped (Some timer) = is_gossip timer.id

abbrev pub ended_state : Option Timer → State → State
ended_state fired s = if has_gossiped fired then end_event (gossip_fired s) else end_event s
