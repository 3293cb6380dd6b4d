use Rattle.lg_view.specs.Meaning.Changes.{changes_behind}
use Rattle.lg_view.proofs.published.Published.blank.Goals as goal

pub invariant_of-result-2 : goal.invariant_of-result-2
unfolding changes_behind
invariant_of-result-2 g c =
    rw (c.front.view_is, c.requires) (c.in_ok-blank.ensures, c.in_ok-new.ensures)
