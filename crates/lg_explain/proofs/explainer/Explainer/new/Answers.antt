use Rattle.std.proofs.Common.{refl}
use Rattle.lg_explain.proofs.explainer.Explainer.new.Goals as goal

pub returns : goal.returns
returns c = record {
  question = refl;
  reached = record { at = c.in_ok-position.ensures; told = c.new-gathered.ensures c.args.question };
}
