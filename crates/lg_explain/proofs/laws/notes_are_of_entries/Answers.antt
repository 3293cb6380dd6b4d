use Rattle.lg_explain.proofs.SourceLaws.{all_rest}
use Rattle.lg_explain.proofs.laws.notes_are_of_entries.Goals as goal

pub returns : goal.returns
returns c = all_rest
