use Rattle.std.proofs.Common.{◌≡◌, false, List, Some, None, sym, ◌∙◌, ap, subst}
use Rattle.lg_timers.specs.declared.timer.Timer.{Timer}
use Rattle.lg_timers.specs.Meaning.Timers.{is_set, without_timer}
use Rattle.lg_timers.specs.Support.Singles.{is_single, has_deadline, first_single, with_singles, AreMany}
use Rattle.lg_timers.proofs.SinglesLaws.{many-without, is_set-many, without-many, is_set-single_id, singles-cancel, other_has, other_deadline}
use Rattle.lg_timers.proofs.timers.Timers.cancel_with.Goals as goal

pub invariant_of-self-in-None : goal.invariant_of-self-in-None
invariant_of-self-in-None g c =
    let s = c.self.inside.singles in
    let many : is_single c.args.id.now ≡ false = other_has c.args.id.now s (sym c.cancel.ensures.was_set ∙ c.in-None.is) in
    record {
      first = c.self.invariant.first ∙ ap first_single (sym (c.cancel.ensures.others ∙ other_deadline c.args.id.now None s many));
      many = subst (λ (ts : List Timer). AreMany ts) (sym c.cancel_with.ensures.others) (many-without c.args.id.now c.self.invariant.many);
    }

pub returns-in-Some-clause-was_set : goal.returns-in-Some-clause-was_set
returns-in-Some-clause-was_set g c =
    let s = c.self.inside.singles in
    let was : has_deadline c.args.id.now s ≡ Some c.in-Some.was_set = sym c.cancel.ensures.was_set ∙ c.in-Some.is in
    is_set-single_id s c.self.invariant.many c.args.id.now c.in-Some.was_set was ∙ ap (is_set c.args.id.now) c.self.view_is

pub returns-in-Some-clause-others : goal.returns-in-Some-clause-others
returns-in-Some-clause-others g c =
    let s = c.self.inside.singles in
    let was : has_deadline c.args.id.now s ≡ Some c.in-Some.was_set = sym c.cancel.ensures.was_set ∙ c.in-Some.is in
    ap (λ x. with_singles x c.self.inside.heap) c.cancel.ensures.others
    ∙ singles-cancel s c.self.invariant.many c.args.id.now c.in-Some.was_set was
    ∙ ap (without_timer c.args.id.now) c.self.view_is

pub returns-in-None-clause-was_set : goal.returns-in-None-clause-was_set
returns-in-None-clause-was_set g c =
    let s = c.self.inside.singles in
    let many : is_single c.args.id.now ≡ false = other_has c.args.id.now s (sym c.cancel.ensures.was_set ∙ c.in-None.is) in
    c.cancel_with.ensures.was_set ∙ sym (is_set-many s c.self.invariant.many c.args.id.now many) ∙ ap (is_set c.args.id.now) c.self.view_is

pub returns-in-None-clause-others : goal.returns-in-None-clause-others
returns-in-None-clause-others g c =
    let s = c.self.inside.singles in
    let many : is_single c.args.id.now ≡ false = other_has c.args.id.now s (sym c.cancel.ensures.was_set ∙ c.in-None.is) in
    let same : c.cancel.new.self ≡ s = c.cancel.ensures.others ∙ other_deadline c.args.id.now None s many in
    (λ i. with_singles (same i) (c.cancel_with.ensures.others i))
    ∙ sym (without-many s c.self.invariant.many c.args.id.now many)
    ∙ ap (without_timer c.args.id.now) c.self.view_is
