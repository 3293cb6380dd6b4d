use Rattle.std.proofs.Common.{◌≡◌, List, ◌++◌, subst, ◌∙◌}
use Rattle.lg_changes.specs.declared.change.Change.{Change}
use Rattle.lg_changes.specs.declared.behind.Behind.{Behind}
use Rattle.lg_changes.specs.declared.behind.Behind.TheVariants.{All}
use Rattle.lg_changes.specs.Meaning.Kept.{HasBehind, KeepsNewest}
use Rattle.lg_changes.proofs.KeptLaws.{found_behind}
use Rattle.lg_changes.proofs.ring.Changes.catch_up.Goals as goal

pub returns-in-All : goal.returns-in-All
returns-in-All c all more version kept behind has =
    let all_found : HasBehind (All c.in-All.rows) version (all ++ more) =
    subst (λ (b : Behind). HasBehind b version (all ++ more)) c.in-All.is has in
    let found : c.in-All.rows.items ≡ more = found_behind version (all ++ more) c.in-All.rows.items all_found ∙ behind in
    let rows = c.deref.ensures.value in
    subst (λ (xs : List Change). KeepsNewest c.keep_all.new.self (all ++ xs)) (rows ∙ found) (c.keep_all.ensures all kept)
