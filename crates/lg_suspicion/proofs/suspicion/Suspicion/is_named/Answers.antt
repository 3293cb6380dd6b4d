use Rattle.std.proofs.Common.{ap, ◌∙◌}
use Rattle.std.specs.Prelude.{nat_eq}
use Rattle.std.specs.List.{list_any}
use Rattle.std.specs.Cmp.Lexicographic.{pointwise}
use Rattle.lg_suspicion.proofs.AccuserLaws.{contains-among}
use Rattle.lg_suspicion.proofs.suspicion.Suspicion.is_named.Goals as goal

pub returns : goal.returns
returns c =
    let accuser = c.args.accuser.now in
    rw (← c.self.view_is)
    (c.contains.ensures.value
    ∙ ap (list_any (λ n. pointwise nat_eq n accuser)) c.deref.ensures.0
    ∙ contains-among accuser c.self.inside.named.items)
