-- Whether a row is below a limit, by the sets of rows.
use Rattle.std.proofs.Common.{
  ◌≡◌,
  ℕ,
  ◌+◌,
  ◌<◌,
  Bool,
  true,
  false,
  cond,
  List,
  [],
  ◌∷◌,
  get_or,
  inl,
  inr,
  refl,
  sym,
  ◌∙◌,
  ap,
  arith,
}
use Rattle.std.specs.Prelude.{nat_eq, nat_lt}
use Rattle.std.specs.List.{count_by, list_any}
use Rattle.std.proofs.lemmas.Bool.{cases_lt, false≢true, lt-ltb, le-ltb, eq-eqb, ne_eqb, eqb-true}
use Rattle.std.proofs.lemmas.List.Sums.{sum_by-cons}
use Rattle.lg_bit_set.specs.Meaning.Flags.{count_set}
use Rattle.lg_bit_set.proofs.TestLaws.{count_set-flags_by}
use Rattle.lg_gossip.specs.declared.queued.Queued.{Queued}
use Rattle.lg_gossip.specs.declared.sets.TheConstants.{SETS}
use Rattle.lg_gossip.specs.Support.Sets.{AreSets, was_sent}
use Rattle.lg_gossip.specs.Support.Sound.{AreSent}

module _ (sends : ℕ) where
  -- one row more counts if it was sent exactly so often
  one_more : (q : Queued) (qs : List Queued)
      → count_by (was_sent sends) (q ∷ qs) ≡ cond (was_sent sends q) 1 0 + count_by (was_sent sends) qs
  one_more q qs = sum_by-cons (λ r. cond (was_sent sends r) 1 0) q qs

  counts : (q : Queued) → q.sends ≡ sends → ◌≡◌ {A = ℕ} (cond (was_sent sends q) 1 0) 1
  counts q e = ap (λ b. cond b 1 0) (eq-eqb q.sends sends e)

  counts_not : (q : Queued) → sends < q.sends → ◌≡◌ {A = ℕ} (cond (was_sent sends q) 1 0) 0
  counts_not q l = ap (λ b. cond b 1 0) (ne_eqb q.sends sends (λ e. omega (arith, e, l)))

  -- If none was sent exactly so often, each was sent once more at least.
  next_sent : (rows : List Queued) → count_by (was_sent sends) rows ≡ 0 → AreSent sends rows → AreSent (sends + 1) rows
  next_sent [] e a = tt
  next_sent (q ∷ qs) e a = elim (cases_lt sends q.sends) [
    | inl l ↦ (omega (arith, l), next_sent qs (omega (arith, e, one_more q qs)) a.1)
    | inr g ↦ absurd (omega (arith, e, one_more q qs, counts q (omega (arith, g, a.0))))
  ]

  -- If one was sent exactly so often, it is below each greater limit.
  some_below : (limit : ℕ) (rows : List Queued) → sends < limit → 0 < count_by (was_sent sends) rows
      → list_any (λ q. nat_lt q.sends limit) rows ≡ true
  some_below limit [] l c = absurd (omega (arith, c))
  some_below limit (q ∷ qs) l c = elim (cases_lt q.sends limit) [
    | inl h ↦ rw (lt-ltb q.sends limit h) refl
    | inr g ↦
        let none = counts_not q (omega (arith, g, l)) in
        rw (le-ltb q.sends limit g) (some_below limit qs l (omega (arith, c, one_more q qs, none)))
  ]

  -- The same by the set of the rows that were sent exactly so often.
  module _ (sent : List (List Bool)) (rows : List Queued) (d : List Bool) (empty : Bool) (sets : AreSets sent rows)
      (within : sends < SETS) (is : empty ≡ nat_eq (count_set (get_or sent sends d)) 0) where
    counted : count_set (get_or sent sends d) ≡ count_by (was_sent sends) rows
    counted = ap count_set (sets.each sends d within) ∙ count_set-flags_by (was_sent sends) rows

    pub next-set : empty ≡ true → AreSent sends rows → AreSent (sends + 1) rows
    next-set t a = next_sent rows (sym counted ∙ eqb-true (count_set (get_or sent sends d)) 0 (sym is ∙ t)) a

    pub some-set : (limit : ℕ) → sends < limit → empty ≡ false → list_any (λ q. nat_lt q.sends limit) rows ≡ true
    some-set limit l f = elim (cases_lt 0 (count_by (was_sent sends) rows)) [
      | inl c ↦ some_below limit rows l c
      | inr g ↦
          let none : count_set (get_or sent sends d) ≡ 0 = omega (arith, counted, g) in
          absurd (false≢true (sym f ∙ is ∙ eq-eqb (count_set (get_or sent sends d)) 0 none))
    ]
