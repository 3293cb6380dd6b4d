use Rattle.std.proofs.Common.{◌≡◌, ◌≤◌, ◌++◌, [], List, true}
use Rattle.std.specs.Prelude.{max}
use Rattle.lg_detector.specs.declared.event.Event.{Event}
use Rattle.lg_detector.specs.Meaning.Step.{is_accepted}
use Rattle.lg_history.specs.Meaning.History.{events}
use Rattle.lg_history.specs.Meaning.Rest.{StandsFor}
use Rattle.lg_agent.proofs.ChoiceSteps.{chosen_before}
use Rattle.lg_agent.proofs.closed.Closed.choices.Given as goal

abbrev pub invariant-loop-place : goal.invariant-loop-place
invariant-loop-place l = record {
  gained : (f : List Event) → StandsFor l.self-inside.summary f → is_accepted (f ++ events l.self-inside.entries.items) ≡ true → chosen_before f l.self-inside.entries.items l.place ≡ chosen_before f l.self-inside.entries.items (max l.from l.self-inside.base) ++ l.names.items;
  none : l.to ≤ max l.from l.self-inside.base → l.names.items ≡ [];
  above : l.self-inside.base ≤ l.place;
}
