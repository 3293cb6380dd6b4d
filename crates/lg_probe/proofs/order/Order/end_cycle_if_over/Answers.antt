use Rattle.std.proofs.Common.{◌≡◌, ◌≢◌, [], sym, ◌∙◌, ap, subst}
use Rattle.std.proofs.lemmas.Bool.{eqb-true, eqb-false}
use Rattle.lg_bit_set.specs.Meaning.Flags.{count_set, flags_without}
use Rattle.lg_probe.specs.Meaning.Order.{OrderValue, current_cycle}
use Rattle.lg_probe.proofs.Keeping.{over, goes_on}
use Rattle.lg_probe.proofs.order.Order.end_cycle_if_over.Goals as goal

-- no candidate remains
pub returns-then-is_empty : goal.returns-then-is_empty
returns-then-is_empty c =
    let none = ap count_set (sym c.without.ensures.flags)
    ∙ eqb-true (count_set c.without.result) 0 (sym c.is_empty.ensures.empty ∙ c.if-is_empty.true) in
    let began : current_cycle c.args.self.now.names c.args.self.now.chosen ≡ [] =
    subst (λ (o : OrderValue). current_cycle o.names o.chosen ≡ []) c.self.view_is (over c.self.invariant none) in
    c.begin_cycle.ensures ∙ (λ i. record { names = c.args.self.now.names; chosen = sym began i })

-- one remains
pub returns-else-is_empty : goal.returns-else-is_empty
returns-else-is_empty c =
    let some : count_set (flags_without c.self.inside.joined c.self.inside.chosen) ≢ 0 =
    λ e. eqb-false (count_set c.without.result) 0 (sym c.is_empty.ensures.empty ∙ c.if-is_empty.false)
    (ap count_set c.without.ensures.flags ∙ e) in
    let goes : current_cycle c.args.self.now.names c.args.self.now.chosen ≡ c.args.self.now.chosen =
    subst (λ (o : OrderValue). current_cycle o.names o.chosen ≡ o.chosen) c.self.view_is
    (goes_on c.self.invariant some) in
    λ i. record { names = c.args.self.now.names; chosen = sym goes i }
