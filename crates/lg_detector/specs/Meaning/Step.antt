-- What an event adds to a log, the reply to it, and which lists of events are accepted.
use Rattle.std.specs.Prelude.{
  ℕ,
  ◌+◌,
  Bool,
  true,
  false,
  ◌&&◌,
  not,
  List,
  [],
  ◌∷◌,
  length,
  reverse,
  Option,
  Some,
  None,
  nat_le,
  is_ok,
}
use Rattle.std.specs.List.{list_any}
use Rattle.lg_rules.specs.declared.claim.Claim.{Claim}
use Rattle.lg_rules.specs.Meaning.View.{changed}
use Rattle.lg_timing.specs.Meaning.Config.{check_of}
use Rattle.lg_timers.specs.declared.timer.Timer.{Timer}
use Rattle.lg_suspicion.specs.declared.standing.SuspicionStanding.{SuspicionStanding}
use Rattle.lg_membership.specs.Meaning.Log as group
use Rattle.lg_membership.specs.Meaning.Log.{group_view}
use Rattle.lg_detector.specs.declared.event.Event.{Event}
use Rattle.lg_detector.specs.declared.event.Event.TheVariants.{Open, Tick, Heard, Ask, Health, Pull, Leave}
use Rattle.lg_detector.specs.declared.reply.Answer.{Answer}
use Rattle.lg_detector.specs.declared.reply.Outgoing.{Outgoing}
use Rattle.lg_detector.specs.declared.reply.Reply.{Reply}
use Rattle.lg_detector.specs.declared.standing.Standing.{Standing}
use Rattle.lg_detector.specs.Meaning.Forget.{forgotten}
use Rattle.lg_detector.specs.Meaning.Log.{Log, Ended, group_log, moment}
use Rattle.lg_detector.specs.Meaning.Timing.{due, pending, deadline_in, or_zero}
use Rattle.lg_detector.specs.Meaning.Apply.{come}
use Rattle.lg_detector.specs.Meaning.Open.{open_with}
use Rattle.lg_detector.specs.Meaning.Hear.{hear_claims, hear, sends_to}
use Rattle.lg_detector.specs.Meaning.Tick.{tick, sends_at}
use Rattle.lg_detector.specs.Meaning.Ask.{ask, status, health, own_standing, suspicion_standing}
use Rattle.lg_detector.specs.Meaning.Joining.{pull, pulls}
use Rattle.lg_detector.specs.Meaning.Leave.{leave, leave_sends}

-- the log once an event has come and did what it does, and once that is over
abbrev pub happen : Event → Log → Log
happen (Open now opening) log = open_with now opening log
happen (Heard now source packet) log = hear now source packet log
happen (Tick now words) log = tick now words log
happen (Ask now name) log = ask now log
happen (Health now) log = ask now log
happen (Pull now peer) log = pull now log
happen (Leave now words) log = leave now log

abbrev pub step : Event → Log → Log
step e log = Ended ∷ happen e log

-- the log of some events, the latest first
abbrev pub log_of : List Event → Log
log_of [] = []
log_of (e ∷ past) = step e (log_of past)

-- The reply to an event: the timer that fired, which only a tick does;
abbrev pub fired_by : Event → Log → Option Timer
fired_by (Tick now words) log = due (come now log)
fired_by _ log = None

-- the packets to be sent;
abbrev pub sends_by : Event → Log → List Outgoing
sends_by (Heard now source packet) log = sends_to source packet (hear_claims now packet log)
sends_by (Tick now words) log = sends_at now words log
sends_by (Pull now peer) log = pulls now peer log
sends_by (Leave now words) log = leave_sends now words log
sends_by _ log = []

-- the records of the member table that weren't in it before, except for the opening;
abbrev pub view : Log → List Claim
view log = group_view (group_log log)

abbrev pub changed_by : Event → Log → List Claim
changed_by (Heard now source packet) log = changed (view log) (view (hear_claims now packet log))
changed_by (Tick now words) log = changed (view log) (view (tick now words log))
changed_by (Leave now words) log = changed (view log) (view (leave now log))
changed_by _ log = []

-- the names that were forgotten, in order, also one that is known again;
abbrev pub forgotten_by : Event → Log → List (List ℕ)
forgotten_by e log = forgotten (happen e log)

-- the answer to a question;
abbrev pub answer_by : Event → Log → Option Answer
answer_by (Ask now name) log = Some (status name log)
answer_by (Health now) log = Some (health log)
answer_by _ log = None

-- and, after the event, whether this member was ousted, and the least deadline.
abbrev pub reply : Event → Log → Reply
reply e log =
    let behind = step e log in
    record {
      fired = fired_by e log;
      sends = record { items = sends_by e log };
      changed = record { items = changed_by e log };
      forgotten = record { items = forgotten_by e log };
      answer = answer_by e log;
      ousted = (group.own (group_log behind)).ousted;
      next = or_zero (deadline_in (pending behind));
    }

-- The same after a list of events, the earliest first: the reply to one more event, the member table, the least
-- deadline, what this member knows of itself, how the suspicion of a member stands, and the greatest moment handed in.
abbrev pub reply_after : List Event → Event → Reply
reply_after f e = reply e (log_of (reverse f))

abbrev pub view_after : List Event → List Claim
view_after f = view (log_of (reverse f))

abbrev pub deadline_after : List Event → Option ℕ
deadline_after f = deadline_in (pending (log_of (reverse f)))

abbrev pub own_standing_after : List Event → Standing
own_standing_after f = own_standing (log_of (reverse f))

abbrev pub suspicion_standing_after : List Event → List ℕ → Option SuspicionStanding
suspicion_standing_after f name = suspicion_standing name (log_of (reverse f))

abbrev pub moment_after : List Event → ℕ
moment_after f = moment (log_of (reverse f))

-- the most events of a list that is accepted (this project's choice)
abbrev pub most_events : ℕ
most_events = 4000000000

abbrev pub is_open_event : Event → Bool
is_open_event (Open now opening) = true
is_open_event _ = false

-- whether a list of events begins with an opening
abbrev pub begins_open : List Event → Bool
begins_open [] = false
begins_open (e ∷ es) = is_open_event e

abbrev pub opens_well : Event → Bool
opens_well (Open now opening) = is_ok (check_of opening)
opens_well _ = false

-- A list of events is accepted if it is empty. It is also accepted if its first event is an opening with a
-- configuration that passes its check, no later one is an opening, and it has at most `most_events` events.
abbrev pub is_accepted : List Event → Bool
is_accepted [] = true
is_accepted (e ∷ es) = opens_well e && (not (list_any is_open_event es) && nat_le (length es + 1) most_events)
