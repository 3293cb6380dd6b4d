-- The state after an event, and the reply to the event, as functions of the state before it.
use Rattle.std.specs.Prelude.{ℕ, Bool, ◌&&◌, not, List, [], reverse, Option}
use Rattle.std.specs.Prelude.{Some, None, nat_lt, ◌==◌, if◌then◌else◌}
use Rattle.lg_rules.specs.declared.claim.Claim.{Claim}
use Rattle.lg_rules.specs.Meaning.View.{changed}
use Rattle.lg_timers.specs.declared.timer.Timer.{Timer}
use Rattle.lg_membership.specs.Meaning.Gossip.{version_sent}
use Rattle.lg_membership.specs.Support.State as group
use Rattle.lg_detector.specs.declared.event.Event.{Event}
use Rattle.lg_detector.specs.declared.event.Event.TheVariants.{Open, Tick, Heard, Ask, Health, Pull, Leave}
use Rattle.lg_detector.specs.declared.reply.Answer.{Answer}
use Rattle.lg_detector.specs.declared.reply.Outgoing.{Outgoing}
use Rattle.lg_detector.specs.declared.reply.Reply.{Reply}
use Rattle.lg_detector.specs.Meaning.Timing.{deadline_in, or_zero}
use Rattle.lg_detector.specs.Meaning.Step.{log_of, is_open_event, opens_well, most_events}
use Rattle.lg_detector.specs.Meaning.Groups.{own_group}
use Rattle.lg_detector.specs.Meaning.Hear.{claims_heard, table_teller}
use Rattle.lg_detector.specs.Support.State.{State, state_of, come_state, end_event, forgotten_each, forgotten_first}
use Rattle.lg_detector.specs.Support.Open.{open_with_state}
use Rattle.lg_detector.specs.Support.Hear.{hear_claims_state, hear_state, sends_to_state}
use Rattle.lg_detector.specs.Support.Tick.{due_state, fired_state, tick_state, sends_at_state}
use Rattle.lg_detector.specs.Support.Ask.{ask_state, status_state, health_state}
use Rattle.lg_detector.specs.Support.Joining.{pull_state, pulls_state}
use Rattle.lg_detector.specs.Support.Leave.{leave_state, leave_sends_state}

-- the state after a list of events, the earliest first
abbrev pub state_after : List Event → State
state_after f = state_of (log_of (reverse f))

-- the first event is a good opening, and there is never another one
abbrev pub accepts_at : ℕ → Event → Bool
accepts_at events e = if events == 0 then opens_well e else (not (is_open_event e) && nat_lt events most_events)

abbrev pub accepts_of : State → Event → Bool
accepts_of s e = accepts_at s.events e

-- the member table
abbrev pub view_state : State → List Claim
view_state s = group.shown s.membership

-- the state after what an event that is accepted does, and after the event
unfoldable pub happen_state : State → Event → State
happen_state s (Open now opening) = open_with_state now opening s
happen_state s (Heard now source packet) = hear_state now source packet s
happen_state s (Tick now words) = tick_state now words s
happen_state s (Ask now name) = ask_state now s
happen_state s (Health now) = ask_state now s
happen_state s (Pull now peer) = pull_state now s
happen_state s (Leave now words) = leave_state now s

-- the same up to the end of the event, where the timer of a gossip that fired is still set
abbrev pub react_state : State → Event → State
react_state s (Tick now words) = fired_state (due_state (come_state now s)) words (come_state now s)
react_state s e = happen_state s e

abbrev pub advance : State → Event → State
advance s e = end_event (happen_state s e)

-- the state after an event; one that isn't accepted changes nothing
abbrev pub step_state : State → Event → State
step_state s e = if accepts_of s e then advance s e else s

-- the parts of the reply
abbrev pub fired_by_state : State → Event → Option Timer
fired_by_state s (Tick now words) = due_state (come_state now s)
fired_by_state s _ = None

abbrev pub sends_by_state : State → Event → List Outgoing
sends_by_state s (Heard now source packet) =
    sends_to_state source packet (hear_claims_state now packet s)
sends_by_state s (Tick now words) = sends_at_state now words s
sends_by_state s (Pull now peer) = pulls_state now peer s
sends_by_state s (Leave now words) = leave_sends_state now words s
sends_by_state s _ = []

abbrev pub changed_by_state : State → Event → List Claim
changed_by_state s (Heard now source packet) = changed (view_state s) (view_state (hear_claims_state now packet s))
changed_by_state s (Tick now words) = changed (view_state s) (view_state (tick_state now words s))
changed_by_state s (Leave now words) = changed (view_state s) (view_state (leave_state now s))
changed_by_state s _ = []

abbrev pub forgotten_by_state : State → Event → List (List ℕ)
forgotten_by_state s (Heard now source packet) =
    let teller = table_teller (version_sent s.membership.config) packet in
    forgotten_each teller (claims_heard (own_group s.membership.config) packet) (come_state now s)
forgotten_by_state s (Tick now words) = forgotten_first (due_state (come_state now s))
forgotten_by_state s _ = []

abbrev pub answer_by_state : State → Event → Option Answer
answer_by_state s (Ask now name) = Some (status_state name s)
answer_by_state s (Health now) = Some (health_state s)
answer_by_state s _ = None

abbrev pub deadline_state : State → Option ℕ
deadline_state s = deadline_in s.timers

-- the reply to an event that is accepted
unfoldable pub reply_state : State → Event → Reply
reply_state s e =
    let behind = advance s e in
    record {
      fired = fired_by_state s e;
      sends = record { items = sends_by_state s e };
      changed = record { items = changed_by_state s e };
      forgotten = record { items = forgotten_by_state s e };
      answer = answer_by_state s e;
      ousted = behind.membership.own.ousted;
      next = or_zero (deadline_state behind);
    }
