use Rattle.std.proofs.Common.{sym, ◌∙◌}
use Rattle.lg_membership.proofs.Forgetting.{rows-given, known-given, rows-same, known-same}
use Rattle.lg_membership.proofs.suspicions.Suspicions.give_back.Goals as goal

pub returns-in-Some-clause-rows : goal.returns-in-Some-clause-rows
returns-in-Some-clause-rows c =
    rows-given c.args.name.now c.args.members.now c.forget.new.self c.args.self.now c.requires.other
    c.forget.ensures.members c.requires.known c.in-Some.slot (sym c.in-Some.is ∙ c.forget.ensures.slot)
    c.forget_slot.new.self c.forget_slot.ensures

pub returns-in-Some-clause-known : goal.returns-in-Some-clause-known
returns-in-Some-clause-known c =
    known-given c.args.name.now c.args.members.now c.forget.new.self c.args.self.now c.requires.other
    c.forget.ensures.members c.requires.known c.in-Some.slot (sym c.in-Some.is ∙ c.forget.ensures.slot)
    c.forget_slot.new.self c.forget_slot.ensures

pub returns-in-None-clause-rows : goal.returns-in-None-clause-rows
returns-in-None-clause-rows c =
    rows-same c.args.name.now c.args.members.now c.forget.new.self c.args.self.now c.requires.other
    c.forget.ensures.members c.requires.known (sym c.in-None.is ∙ c.forget.ensures.slot)

pub returns-in-None-clause-known : goal.returns-in-None-clause-known
returns-in-None-clause-known c =
    known-same c.args.name.now c.args.members.now c.forget.new.self c.args.self.now c.requires.other
    c.forget.ensures.members c.requires.known (sym c.in-None.is ∙ c.forget.ensures.slot)
