use Rattle.std.proofs.Common.{rules}
use Rattle.std.proofs.lemmas.Fn.{filter_same}
use Rattle.lg_explain.specs.Meaning.Rounds.{is_recent}
use Rattle.lg_explain.proofs.rounds.drop_earlier.Goals as goal

pub returns : goal.returns
returns c = filter_same _ (is_recent c.args.now) _ (λ end b f' called. search rules) _ _ c.retain.ensures.filtered
