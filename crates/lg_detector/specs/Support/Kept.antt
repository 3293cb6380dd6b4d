-- The state that the parts of a detector hold.
use Rattle.lg_detector.specs.declared.detector.Parts.{Parts}
use Rattle.lg_detector.specs.Support.State.{State}

abbrev pub state_in : Parts → State
state_in parts = record {
  events = parts.events;
  moment = parts.moment;
  score = parts.score;
  timers = parts.timers;
  order = parts.order;
  number = parts.number;
  round = parts.round;
  gossip = parts.gossip;
  relays = parts.relays;
  membership = parts.membership;
}
