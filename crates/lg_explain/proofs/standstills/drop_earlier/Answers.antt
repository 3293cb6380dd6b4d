use Rattle.std.proofs.Common.{rules}
use Rattle.std.proofs.lemmas.Fn.{filter_same}
use Rattle.lg_explain.proofs.StandstillLaws.{is_within}
use Rattle.lg_explain.proofs.standstills.drop_earlier.Goals as goal

pub returns : goal.returns
returns c = filter_same _ (is_within c.args.now) _ (λ stood b f' called. search rules) _ _ c.retain.ensures.filtered
