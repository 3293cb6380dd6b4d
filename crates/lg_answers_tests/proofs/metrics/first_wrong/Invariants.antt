-- The name of the last type is text.
use denote.Text.{Utf8}
use denote.Shadow.{shadow}
use Rattle.lg_answers_tests.proofs.metrics.first_wrong.Given as goal

abbrev pub invariant-loop-line : goal.invariant-loop-line
invariant-loop-line l =
    (goal.iterator-loop-line).can_next l.line-iterator × (goal.iterator-loop-line).is_finite l.line-iterator
    × shadow (Utf8 l.name)
