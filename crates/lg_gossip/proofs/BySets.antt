-- The rows that a packet takes are those of one set after another.
use Rattle.std.proofs.Common.{
  ◌≡◌,
  ℕ,
  suc,
  ◌<◌,
  Bool,
  true,
  false,
  ◌&&◌,
  List,
  [],
  ◌∷◌,
  ◌++◌,
  inl,
  inr,
  refl,
  sym,
  ◌∙◌,
  ap,
  arith,
}
use Rattle.std.specs.Prelude.{Option, filter, nat_eq, nat_lt}
use Rattle.std.specs.List.{AllByRecursion}
use Rattle.std.specs.declared.cmp.Ordering.TheVariants.{Less}
use Rattle.std.proofs.lemmas.Bool.{cases_Bool, cases_lt, lt-ltb, le-ltb, eq-eqb, ne_eqb}
use Rattle.lg_rules.specs.declared.claim.Claim.{Claim}
use Rattle.lg_rules.specs.Meaning.Rows.{name_cmp}
use Rattle.lg_rules.proofs.Tests.{both}
use Rattle.lg_gossip.specs.declared.queued.Queued.{Queued}
use Rattle.lg_gossip.specs.Meaning.Queue.{queued_name, is_sooner, put_by_sends, by_sends, is_beside, may_go}
use Rattle.lg_gossip.proofs.Each.{all-filter, all-by_sends, all-both, passed}
use Rattle.lg_gossip.proofs.Taken.{above, below_limit}
use Rattle.lg_gossip.specs.Support.Sets.{was_sent}
use Rattle.lg_gossip.specs.Support.Sound.{AreInOrder}

-- A row that is sooner than each of some rows goes before them,
abbrev AreLater : Queued → List Queued → Type 0
AreLater q rows = AllByRecursion (λ r. is_sooner q r ≡ true) rows

before_all : (q : Queued) (rows : List Queued) → AreLater q rows → put_by_sends q rows ≡ q ∷ rows
before_all q [] l = refl
before_all q (r ∷ rs) l = rw l.0 refl

put-front : (q : Queued) (front back : List Queued) → AreLater q back
    → put_by_sends q (front ++ back) ≡ put_by_sends q front ++ back
put-front q [] back l = before_all q back l
put-front q (r ∷ rs) back l = elim (cases_Bool (is_sooner q r)) [
  | inl t ↦ rw t refl
  | inr f ↦ rw f (ap (λ ys. r ∷ ys) (put-front q rs back l))
]

-- and one that is sooner than none of some rows goes behind them.
put-back : (q : Queued) (front back : List Queued) → AllByRecursion (λ r. is_sooner q r ≡ false) front → AreLater q back
    → put_by_sends q (front ++ back) ≡ front ++ q ∷ back
put-back q [] back f l = before_all q back l
put-back q (r ∷ rs) back f l = rw f.0 (ap (λ ys. r ∷ ys) (put-back q rs back f.1 l))

sooner_sent : (q r : Queued) → q.sends < r.sends → is_sooner q r ≡ true
sooner_sent q r l = rw (lt-ltb q.sends r.sends l) refl

later_sent : (q r : Queued) → r.sends < q.sends → is_sooner q r ≡ false
later_sent q r l = rw (le-ltb q.sends r.sends (omega arith), ne_eqb q.sends r.sends (omega arith)) refl

sooner_named : (q r : Queued) → q.sends ≡ r.sends → name_cmp (queued_name q) (queued_name r) ≡ Less
    → is_sooner q r ≡ true
sooner_named q r e l = rw (le-ltb q.sends r.sends (omega arith), eq-eqb q.sends r.sends e, l) refl

-- the rows that a packet may take that were sent exactly so often
abbrev pub may_at : Option Claim → ℕ → Queued → Bool
may_at buddy sends q = was_sent sends q && is_beside buddy q

-- such a row was sent so often
pub at_sends : (buddy : Option Claim) (sends : ℕ) (q : Queued) → may_at buddy sends q ≡ true → q.sends ≡ sends
at_sends buddy sends q e = grind (arith, (both (was_sent sends q) (is_beside buddy q) e).0)

pub and_false : (b : Bool) → (b && false) ≡ false
and_false true = refl
and_false false = refl

module _ (buddy : Option Claim) (sends : ℕ) where
  abbrev pub fewer : List Queued → List Queued
  fewer rows = by_sends (filter (may_go buddy sends) rows)

  abbrev pub exactly : List Queued → List Queued
  exactly rows = filter (may_at buddy sends) rows

  fewer_sent : (rows : List Queued) → AllByRecursion (λ q. q.sends < sends) (fewer rows)
  fewer_sent rows =
      all-by_sends (λ q. q.sends < sends) (filter (may_go buddy sends) rows)
      (all-both _ _ _ (filter (may_go buddy sends) rows) (λ q t _. below_limit buddy sends q t)
      (passed (may_go buddy sends) rows) (passed (may_go buddy sends) rows))

  exactly_sent : (rows : List Queued) → AllByRecursion (λ q. q.sends ≡ sends) (exactly rows)
  exactly_sent rows =
      all-both _ _ _ (exactly rows) (λ q t _. at_sends buddy sends q t)
      (passed (may_at buddy sends) rows) (passed (may_at buddy sends) rows)

  -- Those that were sent no more often than so are those that were sent less often, and then those of this set.
  pub one_more_set : (rows : List Queued) → AreInOrder rows
      → by_sends (filter (may_go buddy (suc sends)) rows) ≡ fewer rows ++ exactly rows
  one_more_set [] o = refl
  one_more_set (q ∷ qs) o = elim (cases_Bool (is_beside buddy q)) [
    | inr same ↦
        let next = and_false (nat_lt q.sends (suc sends)) in
        let before = and_false (nat_lt q.sends sends) in
        let here = and_false (nat_eq q.sends sends) in
        rw (same, next, before, here) (one_more_set qs o.1)
    | inl beside ↦ elim (cases_lt q.sends sends) [
      | inl l ↦
          let next = lt-ltb q.sends (suc sends) (omega arith) in
          let here = ne_eqb q.sends sends (omega arith) in
          rw (beside, lt-ltb q.sends sends l, next, here)
          (ap (put_by_sends q) (one_more_set qs o.1)
          ∙ put-front q (fewer qs) (exactly qs)
          (all-both _ _ _ (exactly qs)
          (λ r e _. sooner_sent q r (omega (arith, e, l))) (exactly_sent qs) (exactly_sent qs)))
      | inr g ↦ elim (cases_lt sends q.sends) [
        | inl m ↦
            let next = le-ltb q.sends (suc sends) (omega arith) in
            let here = ne_eqb q.sends sends (omega arith) in
            rw (beside, le-ltb q.sends sends g, next, here) (one_more_set qs o.1)
        | inr h ↦
            let same : q.sends ≡ sends = omega arith in
            rw (beside, le-ltb q.sends sends g, lt-ltb q.sends (suc sends) (omega arith), eq-eqb q.sends sends same)
            (ap (put_by_sends q) (one_more_set qs o.1)
            ∙ put-back q (fewer qs) (exactly qs)
            (all-both _ _ _ (fewer qs)
            (λ r e _. later_sent q r (omega (arith, e, same))) (fewer_sent qs) (fewer_sent qs))
            (all-both _ _ _ (exactly qs) (λ r e n. sooner_named q r (same ∙ sym e) n) (exactly_sent qs)
            (all-filter _ (may_at buddy sends) qs (above (queued_name q) qs o.0))))
      ]
    ]
  ]
