-- A state that some log has, of a detector that was opened with a good configuration if it was opened at all; and
-- bounds that hold between the facts of accepted events.
use Rattle.std.specs.Prelude.{◌≡◌, ◌≤◌, length}
use Rattle.lg_membership.specs.Support.Reached.{IsGood}
use Rattle.lg_probe.specs.declared.relays.TheConstants.{MAX_RELAYS}
use Rattle.lg_detector.specs.declared.detector.TheConstants.{MAX_EVENTS}
use Rattle.lg_detector.specs.Meaning.Log.{Log}
use Rattle.lg_detector.specs.Support.State.{State, state_of}

pub record IsReached (s : State) : Type 0 where
  pub log : Log
  pub is : s ≡ state_of log
  pub good : IsGood s.membership.config
  pub few_events : s.events ≤ MAX_EVENTS
  pub few_relays : length s.relays ≤ MAX_RELAYS
