use Rattle.std.proofs.Common.{false, sym, ◌∙◌}
use Rattle.lg_rules.proofs.OwnLaws.{own-nil}
use Rattle.lg_rules.proofs.own.Own.new.Goals as goal

pub returns : goal.returns
returns c = (λ i. record { name = c.args.name; addr = c.args.addr; number = c.default.ensures i; ousted = false; left = false }) ∙ sym (own-nil c.args.name c.args.addr)
