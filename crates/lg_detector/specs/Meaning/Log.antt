-- The log of a detector: what happened to it, as a list of facts, the latest first. Read off it here are the number of
-- events, the greatest moment, and the facts that concern the group. The other files of this folder read off the rest.
use Rattle.std.specs.Prelude.{ℕ, ◌+◌, max, List, [], ◌∷◌}
use Rattle.lg_membership.specs.Meaning.Log.{GroupFact, GroupLog}
use Rattle.lg_timers.specs.declared.timer.Timer.{Timer}
use Rattle.lg_probe.specs.declared.relays.Asker.{Asker}

-- The facts:
-- - Came: an event came at this moment, in milliseconds;
-- - Fired: this timer fired, at a tick with these random words;
-- - AckHeard, NackHeard: an Ack, or a Nack, with this number came from the member of this name;
-- - Relayed: a relay to the target of this name was opened for this asker;
-- - Ended: what the event did is done;
-- - OfGroup: a fact that concerns the group. The member was opened, a claim was applied, a packet was sent that took
--   claims of the queue, the member left, or it forgot a name.
pub data Fact : Type 0 where
  Came : ℕ → Fact
  Fired : Timer → List ℕ → Fact
  AckHeard : ℕ → List ℕ → Fact
  NackHeard : ℕ → List ℕ → Fact
  Relayed : List ℕ → Asker → Fact
  Ended : Fact
  OfGroup : GroupFact → Fact

abbrev pub Log : Type 0
Log = List Fact

-- how many events came
abbrev pub event_count : Log → ℕ
event_count [] = 0
event_count (Came now ∷ log) = event_count log + 1
event_count (_ ∷ log) = event_count log

-- the greatest moment handed in (this project's choice)
abbrev pub moment : Log → ℕ
moment [] = 0
moment (Came now ∷ log) = max now (moment log)
moment (_ ∷ log) = moment log

-- what concerns the group: known members, records, suspicions and queue are functions of it
abbrev pub group_log : Log → GroupLog
group_log [] = []
group_log (OfGroup fact ∷ log) = fact ∷ group_log log
group_log (_ ∷ log) = group_log log
