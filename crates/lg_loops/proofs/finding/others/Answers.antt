use Rattle.std.proofs.Common.{rules, Bool, not, ap, ◌∙◌}
use Rattle.std.specs.Prelude.{filter}
use Rattle.lg_rules.specs.declared.claim.Claim.{Claim}
use Rattle.lg_rules.specs.Meaning.Rows.{name_cmp, is_same}
use Rattle.lg_rules.proofs.KeyOrder.{names_eq}
use Rattle.lg_loops.proofs.PullingLaws.{filter_kept}
use Rattle.lg_loops.proofs.finding.others.Goals as goal

pub returns : goal.returns
returns g c =
    let kept : Claim → Bool = λ r. not (is_same name_cmp r.name c.args.own.now) in
    (filter_kept _ kept _ (λ x b f' called. search (rules, names_eq)) _ _ c.retain.ensures.filtered ∙ ap (filter kept) c.in-Ok.ensures.0, c.in-Ok.ensures.1)
