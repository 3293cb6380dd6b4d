-- Which row of a queue is about a buddy's member.
use Rattle.std.proofs.Common.{◌≡◌, ◌≢◌, ℕ, suc, zero, ◌<◌, not, List, [], ◌∷◌, length, get_or, Some, None, inl, inr, sym, ◌∙◌, ap, subst, arith}
use Rattle.std.specs.Prelude.{nat_eq}
use Rattle.std.specs.declared.cmp.Ordering.TheVariants.{Less}
use Rattle.std.proofs.lemmas.Bool.{cases_lt, eq-eqb, ne_eqb}
use Rattle.lg_rules.specs.declared.claim.Claim.{Claim}
use Rattle.lg_rules.specs.Meaning.Rows.{name_cmp, is_same, row_at}
use Rattle.lg_rules.specs.Support.Places.{HasRow}
use Rattle.lg_rules.proofs.KeyOrder.{names_order, same_key, other_key, less_apart}
use Rattle.lg_gossip.specs.declared.queued.Queued.{Queued}
use Rattle.lg_gossip.specs.Meaning.Queue.{queued_name, is_beside}
use Rattle.lg_gossip.specs.Support.Sound.{AreInOrder}
use Rattle.lg_gossip.proofs.BySends.{above_at}
use Rattle.lg_gossip.proofs.Each.{holds_at}
use Rattle.lg_gossip.proofs.Taken.{its_own}

-- of two places the rows have different names
names-rise : (j k : ℕ) (d e : Queued) (rows : List Queued) → j < k → k < length rows → AreInOrder rows → name_cmp (queued_name (get_or rows j d)) (queued_name (get_or rows k e)) ≡ Less
names-rise j k d e [] b l o = absurd (omega arith)
names-rise j zero d e (x ∷ xs) b l o = absurd (omega arith)
names-rise zero (suc k) d e (x ∷ xs) b l o = above_at (queued_name x) k e xs (omega arith) o.0
names-rise (suc j) (suc k) d e (x ∷ xs) b l o = names-rise j k d e xs (omega arith) (omega arith) o.1

module _ (buddy : Claim) (rows : List Queued) (o : AreInOrder rows) (k : ℕ) (d : Queued) (l : k < length rows) where
  pub beside_held : (at : ℕ) → HasRow name_cmp queued_name buddy.name rows at → is_beside (Some buddy) (get_or rows k d) ≡ not (nat_eq k at)
  beside_held at h = ap not (elim (cases_lt k at) [
    | inl b ↦ differs (omega arith) (subst (λ n. queued_name (get_or rows k d) ≢ n) (h.named d) (less_apart names_order _ _ (names-rise k at d d rows b h.within o)))
    | inr g ↦ elim (cases_lt at k) [
      | inl b ↦ differs (omega arith) (λ e. less_apart names_order _ _ (names-rise at k d d rows b l o) (h.named d ∙ sym e))
      | inr f ↦ (let one : k ≡ at = omega arith in same_key names_order _ _ (ap (λ n. queued_name (get_or rows n d)) one ∙ h.named d) ∙ sym (eq-eqb k at one))
    ]
  ])
    where
      differs : k ≢ at → queued_name (get_or rows k d) ≢ buddy.name → is_same name_cmp (queued_name (get_or rows k d)) buddy.name ≡ nat_eq k at
      differs n m = other_key names_order _ _ m ∙ sym (ne_eqb k at n)

  pub beside_missing : row_at name_cmp queued_name buddy.name rows ≡ None → is_beside (Some buddy) (get_or rows k d) ≡ not (nat_eq k (length rows))
  beside_missing m = ap not (other_key names_order _ _ other ∙ sym (ne_eqb k (length rows) (λ e. omega arith)))
    where
      other : queued_name (get_or rows k d) ≢ buddy.name
      other e =
          let found = holds_at (λ q. row_at name_cmp queued_name (queued_name q) rows ≡ Some q) k d rows l (its_own rows o) in
          let none : None ≡ Some (get_or rows k d) = sym m ∙ ap (λ n. row_at name_cmp queued_name n rows) (sym e) ∙ found in
          absurd cc
