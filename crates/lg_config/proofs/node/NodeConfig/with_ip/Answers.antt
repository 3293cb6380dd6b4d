use Rattle.std.proofs.Common.{IfOk, ap, subst, sym, ◌∙◌}
use Rattle.lg_config.specs.Meaning.Families.{unless_untold}
use Rattle.lg_config.specs.Meaning.Finding.{with_own_ip}
use Rattle.lg_config.proofs.MeaningLaws.{HasPassed, passed-own_ip, told-kept}
use Rattle.lg_config.proofs.node.NodeConfig.with_ip.Goals as goal

pub returns-clause-checked : goal.returns-clause-checked
returns-clause-checked c = λ passed.
    let found = with_own_ip c.args.ip c.args.self in
    subst (λ r. IfOk r HasPassed) (sym (c.unless_untold.ensures ∙ ap unless_untold c.with_own_ip.ensures))
    (told-kept HasPassed found (passed-own_ip c.args.ip c.args.self passed))
