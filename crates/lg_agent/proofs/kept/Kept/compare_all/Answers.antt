use Rattle.std.proofs.Common.{◌≡◌, ◌<◌, ◌≤◌, ℕ, slice_index_or, subst, sym, ◌∙◌, arith, ⊎_elim}
use Rattle.std.proofs.lemmas.Bool.{cases_lt}
use mathlib.Core.List.{IsPrefix}
use Rattle.lg_agent.specs.Meaning.Values.{PassValue, all_events}
use Rattle.lg_agent.proofs.ClosingLaws.{any_default}
use Rattle.lg_agent.proofs.kept.Kept.compare_all.Goals as goal

pub loop-spent-preserved : goal.loop-spent-preserved
loop-spent-preserved g c = record {
  so_far = λ k d low.
      let i : ℕ = c.loop-spent.spent-index in
      let P : PassValue → Type 0 = λ s. IsPrefix s.seen (all_events c.args.self.now) in
      let here : slice_index_or c.args.spents.now i d ≡ c.spent-item.result = any_default c.args.spents.now i d c.spent-item.result (omega (arith, c.loop-spent-test.true)) ∙ sym c.spent-item.is in
      ⊎_elim (λ (a : k < i). c.loop-spent.invariant.so_far k d a)
      (λ (b : i ≤ k). let e : k ≡ i = omega (arith, b, low) in subst (λ (j : ℕ). P (slice_index_or c.args.spents.now j d)) (sym e) (subst P (sym here) c.compare_one.ensures))
      (cases_lt k i);
}
