use Rattle.std.proofs.Common.{◌≡◌, ℕ, ◌<◌, ◌≤◌, List, [], length, get_or}
use Rattle.lg_detector.specs.declared.event.Event.{Event}
use Rattle.lg_agent.specs.Meaning.Values.{all_events}
use Rattle.lg_agent.proofs.agent.tell_all.Given as goal

abbrev pub invariant-loop-look : goal.invariant-loop-look
invariant-loop-look g l = record {
  told : (k : ℕ) (d : List Event) → k < l.look-index → get_or l.look-items k d ≡ all_events l.fn.kept;
  rest : (k : ℕ) (d : List Event) → l.look-index ≤ k → k < length l.look-items → get_or l.look-items k d ≡ [];
}
