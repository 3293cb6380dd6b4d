-- The first so many by their turns, one row after another.
use Rattle.std.proofs.Common.{◌≡◌, ℕ, suc, zero, ◌+◌, ◌<◌, ◌≤◌, Bool, true, false, List, [], ◌∷◌, ◌++◌, length, map, take, get_or, inl, inr, refl, sym, ◌∙◌, ap, subst, arith}
use Rattle.std.specs.Prelude.{insert, filter, nat_le, if◌then◌else◌}
use Rattle.std.specs.List.{prefix_len, AllByRecursion}
use Rattle.std.specs.declared.cmp.Ordering.TheVariants.{Less}
use Rattle.std.proofs.lemmas.Bool.{cases_Bool, false≢true, cases_lt, lt-ltb, le-ltb, le-leb, lt-leb, eq-eqb, ne_eqb}
use Rattle.std.proofs.Math.Seq.{take-suc}
use Rattle.std.proofs.lemmas.List.{append-nil}
use Rattle.std.proofs.lemmas.List.Elements.{filter-append}
use Rattle.lg_rules.specs.Meaning.Rows.{name_cmp, AreAbove}
use Rattle.lg_gossip.specs.declared.queued.Queued.{Queued}
use Rattle.lg_gossip.specs.Meaning.Queue.{queued_name, is_sooner, put_by_sends, by_sends}
use Rattle.lg_gossip.proofs.Each.{all-filter}
use Rattle.lg_gossip.specs.Support.Sound.{AreInOrder}

-- a row put behind those that were sent as often
abbrev pub put_last : Queued → List Queued → List Queued
put_last q [] = q ∷ []
put_last q (r ∷ rs) = if nat_le r.sends q.sends then r ∷ put_last q rs else q ∷ r ∷ rs

pub insert-put_last : (q : Queued) (rows : List Queued) → insert rows (prefix_len (λ r. nat_le r.sends q.sends) rows) q ≡ put_last q rows
insert-put_last q [] = refl
insert-put_last q (r ∷ rs) = elim (cases_lt q.sends r.sends) [
  | inl l ↦ rw (lt-leb r.sends q.sends l) refl
  | inr g ↦ (
      let one : 1 + prefix_len (λ r. nat_le r.sends q.sends) rs ≡ suc (prefix_len (λ r. nat_le r.sends q.sends) rs) = omega arith in
      rw (le-leb r.sends q.sends g, one) (ap (λ ys. r ∷ ys) (insert-put_last q rs)))
]

take_twice : (k : ℕ) (xs : List Queued) → take k (take (suc k) xs) ≡ take k xs
take_twice zero xs = refl
take_twice (suc k) [] = refl
take_twice (suc k) (x ∷ xs) = ap (λ ys. x ∷ ys) (take_twice k xs)

behind_first : (k : ℕ) (r : Queued) (rs : List Queued) → take k (r ∷ take k rs) ≡ take k (r ∷ rs)
behind_first zero r rs = refl
behind_first (suc k) r rs = ap (λ ys. r ∷ ys) (take_twice k rs)

-- Of the first so many, one more row shows the first so many of all.
pub take-put_last : (k : ℕ) (q : Queued) (rows : List Queued) → take k (put_last q (take k rows)) ≡ take k (put_last q rows)
take-put_last zero q rows = refl
take-put_last (suc k) q [] = refl
take-put_last (suc k) q (r ∷ rs) = elim (cases_lt q.sends r.sends) [
  | inl l ↦ rw (lt-leb r.sends q.sends l) (ap (λ ys. q ∷ ys) (behind_first k r rs))
  | inr g ↦ rw (le-leb r.sends q.sends g) (ap (λ ys. r ∷ ys) (take-put_last k q rs))
]

-- of two rows in the order of their names the first has its turn sooner, unless it was sent more often
module _ (q x : Queued) (lesser : name_cmp (queued_name x) (queued_name q) ≡ Less) where
  sooner : x.sends ≤ q.sends → is_sooner x q ≡ true
  sooner l = elim (cases_lt x.sends q.sends) [
    | inl a ↦ rw (lt-ltb x.sends q.sends a) refl
    | inr b ↦ rw (le-ltb x.sends q.sends b, eq-eqb x.sends q.sends (omega arith), lesser) refl
  ]

  later : q.sends < x.sends → is_sooner x q ≡ false
  later l = rw (le-ltb x.sends q.sends (omega arith), ne_eqb x.sends q.sends (omega arith)) refl

-- what the turns of two rows say of their sends
pub no_more : (x r : Queued) → is_sooner x r ≡ true → x.sends ≤ r.sends
no_more x r s = elim (cases_lt r.sends x.sends) [
  | inl l ↦ (let not : is_sooner x r ≡ false = rw (le-ltb x.sends r.sends (omega arith), ne_eqb x.sends r.sends (omega arith)) refl in absurd (false≢true (sym not ∙ s)))
  | inr g ↦ g
]

pub not_sooner : (x r : Queued) → is_sooner x r ≡ false → r.sends ≤ x.sends
not_sooner x r n = elim (cases_lt x.sends r.sends) [
  | inl l ↦ (let is : is_sooner x r ≡ true = rw (lt-ltb x.sends r.sends l) refl in absurd (false≢true (sym n ∙ is)))
  | inr g ↦ g
]

-- A row behind which no name is greater goes last among those that were sent as often.
both-put : (q x : Queued) (rows : List Queued) → name_cmp (queued_name x) (queued_name q) ≡ Less → put_by_sends x (put_last q rows) ≡ put_last q (put_by_sends x rows)
both-put q x [] lesser = elim (cases_lt q.sends x.sends) [
  | inl l ↦ rw (later q x lesser l, lt-leb x.sends q.sends l) refl
  | inr g ↦ rw (sooner q x lesser g, le-leb x.sends q.sends g) refl
]
both-put q x (r ∷ rs) lesser = elim (cases_lt q.sends r.sends) [
  | inl l ↦ elim (cases_Bool (is_sooner x r)) [
    | inl s ↦ elim (cases_lt q.sends x.sends) [
      | inl m ↦ rw (lt-leb r.sends q.sends l, s, later q x lesser m, lt-leb x.sends q.sends m) refl
      | inr g ↦ rw (lt-leb r.sends q.sends l, s, sooner q x lesser g, le-leb x.sends q.sends g, lt-leb r.sends q.sends l) refl
    ]
    | inr n ↦ (
        let m : q.sends < x.sends = omega (arith, l, not_sooner x r n) in
        rw (lt-leb r.sends q.sends l, n, later q x lesser m, lt-leb r.sends q.sends l) refl)
  ]
  | inr g ↦ elim (cases_Bool (is_sooner x r)) [
    | inl s ↦ (
        let most : x.sends ≤ q.sends = omega (arith, g, no_more x r s) in
        rw (le-leb r.sends q.sends g, s, le-leb x.sends q.sends most, le-leb r.sends q.sends g) refl)
    | inr n ↦ rw (le-leb r.sends q.sends g, n, le-leb r.sends q.sends g) (ap (λ ys. r ∷ ys) (both-put q x rs lesser))
  ]
]

-- these rows have lesser names than one
abbrev pub AreBefore : Queued → List Queued → Type 0
AreBefore q rows = AllByRecursion (λ x. name_cmp (queued_name x) (queued_name q) ≡ Less) rows

pub by_sends-last : (q : Queued) (rows : List Queued) → AreBefore q rows → by_sends (rows ++ q ∷ []) ≡ put_last q (by_sends rows)
by_sends-last q [] b = refl
by_sends-last q (x ∷ xs) b = ap (put_by_sends x) (by_sends-last q xs b.1) ∙ both-put q x (by_sends xs) b.0

-- the rows before an index have lesser names than the row there
pub above_at : (n : List ℕ) (k : ℕ) (d : Queued) (rows : List Queued) → k < length rows → AreAbove name_cmp n (map queued_name rows) → name_cmp n (queued_name (get_or rows k d)) ≡ Less
above_at n k d [] l a = absurd (omega arith)
above_at n zero d (x ∷ xs) l a = a.0
above_at n (suc k) d (x ∷ xs) l a = above_at n k d xs (omega arith) a.1

before_place : (k : ℕ) (d : Queued) (rows : List Queued) → k < length rows → AreInOrder rows → AreBefore (get_or rows k d) (take k rows)
before_place k d [] l o = absurd (omega arith)
before_place zero d (x ∷ xs) l o = tt
before_place (suc k) d (x ∷ xs) l o = (above_at (queued_name x) k d xs (omega arith) o.0, before_place k d xs (omega arith) o.1)

module _ (p : Queued → Bool) (room k : ℕ) (q : Queued) (rows : List Queued) (l : k < length rows) (read : q ≡ get_or rows k q) (o : AreInOrder rows) where
  one_further : take (k + 1) rows ≡ take k rows ++ q ∷ []
  one_further = let next : k + 1 ≡ suc k = omega arith in rw next (take-suc rows k q l ∙ ap (λ x. take k rows ++ x ∷ []) (sym read))

  -- a row that passes the test is kept among the first so many
  pub goes_in : (first : List Queued) → p q ≡ true → first ≡ take room (by_sends (filter p (take k rows)))
      → take room (insert first (prefix_len (λ r. nat_le r.sends q.sends) first) q) ≡ take room (by_sends (filter p (take (k + 1) rows)))
  goes_in first t is =
      let before : AreBefore q (filter p (take k rows)) = all-filter _ p (take k rows) (subst (λ x. AreBefore x (take k rows)) (sym read) (before_place k q rows l o)) in
      let more : filter p (take (k + 1) rows) ≡ filter p (take k rows) ++ q ∷ [] = ap (filter p) one_further ∙ filter-append p (take k rows) (q ∷ []) ∙ ap (λ b. filter p (take k rows) ++ (if b then q ∷ [] else [])) t in
      ap (take room) (insert-put_last q first ∙ ap (put_last q) is)
      ∙ take-put_last room q (by_sends (filter p (take k rows)))
      ∙ ap (take room) (sym (ap by_sends more ∙ by_sends-last q (filter p (take k rows)) before))

  -- another changes nothing
  pub stays_out : p q ≡ false → take room (by_sends (filter p (take k rows))) ≡ take room (by_sends (filter p (take (k + 1) rows)))
  stays_out f =
      let same : filter p (take (k + 1) rows) ≡ filter p (take k rows) ++ [] = ap (filter p) one_further ∙ filter-append p (take k rows) (q ∷ []) ∙ ap (λ b. filter p (take k rows) ++ (if b then q ∷ [] else [])) f in
      ap (λ rs. take room (by_sends rs)) (sym (same ∙ append-nil (filter p (take k rows))))
