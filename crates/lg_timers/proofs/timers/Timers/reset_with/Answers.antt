use Rattle.std.proofs.Common.{◌≡◌, false, true, List, length, Some, sym, ◌∙◌, ap, subst, arith}
use Rattle.lg_timers.specs.declared.timer.Timer.{Timer}
use Rattle.lg_timers.specs.Meaning.Timers.{is_set, with_timer, without_timer}
use Rattle.lg_timers.specs.Support.Singles.{is_single, first_single, with_singles, AreMany}
use Rattle.lg_timers.proofs.SinglesLaws.{many-without, many-reset, singles-length, is_set-many, without-many, singles-reset, with-many, other_deadline}
use Rattle.lg_timers.proofs.timers.Timers.reset_with.Goals as goal

pub reset_with-requires-clause-room : goal.reset_with-requires-clause-room
reset_with-requires-clause-room g c =
    let s = c.self.inside.singles in
    let t = c.args.timer in
    let many : is_single t.id ≡ false = sym c.reset.ensures.single ∙ c.if-reset.false in
    λ apart. omega (arith, singles-length s c.self.invariant.many, ap length c.self.view_is, c.requires.room (ap (is_set t.id) (sym c.self.view_is) ∙ is_set-many s c.self.invariant.many t.id many ∙ apart))

pub invariant_of-self-else-reset : goal.invariant_of-self-else-reset
invariant_of-self-else-reset g c =
    let many : is_single c.args.timer.id ≡ false = sym c.reset.ensures.single ∙ c.if-reset.false in
    record {
      first = c.self.invariant.first ∙ ap first_single (sym (c.reset.ensures.set ∙ other_deadline c.args.timer.id (Some c.args.timer.deadline) c.self.inside.singles many));
      many = subst (λ (ts : List Timer). AreMany ts) (sym c.reset_with.ensures.set) (many-reset c.args.timer many c.self.invariant.many);
    }

pub returns-else-reset-clause-set : goal.returns-else-reset-clause-set
returns-else-reset-clause-set g c =
    let s = c.self.inside.singles in
    let t = c.args.timer in
    let many : is_single t.id ≡ false = sym c.reset.ensures.single ∙ c.if-reset.false in
    let same : c.reset.new.self ≡ s = c.reset.ensures.set ∙ other_deadline t.id (Some t.deadline) s many in
    (λ i. with_singles (same i) (c.reset_with.ensures.set i))
    ∙ sym (with-many s (many-without t.id c.self.invariant.many) t)
    ∙ ap (with_timer t) (sym (without-many s c.self.invariant.many t.id many) ∙ ap (without_timer t.id) c.self.view_is)

pub returns-then-reset-clause-set : goal.returns-then-reset-clause-set
returns-then-reset-clause-set g c =
    let s = c.self.inside.singles in
    let t = c.args.timer in
    let single : is_single t.id ≡ true = sym c.reset.ensures.single ∙ c.if-reset.true in
    ap (λ x. with_singles x c.self.inside.heap) c.reset.ensures.set
    ∙ singles-reset s c.self.invariant.many t single
    ∙ ap (λ ts. with_timer t (without_timer t.id ts)) c.self.view_is
