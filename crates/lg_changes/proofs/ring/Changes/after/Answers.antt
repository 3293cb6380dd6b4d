use Rattle.std.proofs.Common.{Some, ap, ◌∙◌}
use Rattle.lg_changes.proofs.KeptLaws.{after_found, after_missed}
use Rattle.lg_changes.proofs.ring.Changes.after.Goals as goal

pub returns-then-version-self : goal.returns-then-version-self
returns-then-version-self c all has =
    after_missed c.args.self.now all c.args.version has c.if-version-self.true

pub returns : goal.returns
returns c all has =
    ap Some c.in_ok-found.ensures ∙ after_found c.args.self.now all c.args.version has c.if-version-self.false
