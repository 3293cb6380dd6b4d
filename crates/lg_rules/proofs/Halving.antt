-- Rows whose keys rise: what halving them finds.
use Rattle.std.proofs.Common.{◌≡◌, ◌≢◌, ℕ, zero, suc, ◌+◌, ◌<◌, ◌≤◌, false, List, [], ◌∷◌, length, map, get_or, inl, inr, refl, sym, ◌∙◌, ap, arith}
use Rattle.std.specs.List.{prefix_len}
use Rattle.std.specs.declared.cmp.Ordering.{Ordering}
use Rattle.std.specs.declared.cmp.Ordering.TheVariants.{Less, Equal, Greater}
use Rattle.std.specs.Ordering.{is_lt}
use Rattle.std.proofs.lemmas.Bool.{cases_Bool}
use Rattle.lg_rules.specs.Meaning.Rows.{Rises}
use Rattle.lg_rules.specs.Support.Places.{HasRow, LacksRow}
use Rattle.lg_rules.proofs.KeyOrder.{IsKeyOrder, turned, less_apart}
use Rattle.lg_rules.proofs.Places.{above_at, has_row, lacks_row, lacks_end}

module _ {K : Type 0} {cmp : K → K → Ordering} (order : IsKeyOrder cmp) {R : Type 0} (key : R → K) (n : K) where
  -- how many rows have a lesser key
  abbrev pub lessers : List R → ℕ
  lessers rows = prefix_len (λ r. is_lt (cmp (key r) n)) rows

  -- a row with a lesser key is one of these
  pub lessers_above : (rows : List R) (m : ℕ) (d : R) → Rises cmp (map key rows) → m < length rows → cmp (key (get_or rows m d)) n ≡ Less → m < lessers rows
  lessers_above [] m d rises within less = absurd (omega arith)
  lessers_above (x ∷ rows) zero d rises within less = rw less (omega arith)
  lessers_above (x ∷ rows) (suc m) d rises within less =
      let first : cmp (key x) n ≡ Less = order.total.trans (key x) (key (get_or rows m d)) n (above_at order key (key x) rows m d rises.0 (omega arith)) less in
      let rest : m < lessers rows = lessers_above rows m d rises.1 (omega arith) less in
      rw first (omega (arith, rest))

  -- one with no lesser key isn't
  pub lessers_below : (rows : List R) (m : ℕ) (d : R) → m < length rows → is_lt (cmp (key (get_or rows m d)) n) ≡ false → lessers rows ≤ m
  lessers_below [] m d within e = absurd (omega arith)
  lessers_below (x ∷ rows) zero d within e = rw e (omega arith)
  lessers_below (x ∷ rows) (suc m) d within e = elim (cases_Bool (is_lt (cmp (key x) n))) [
    | inl t ↦ (let rest : lessers rows ≤ m = lessers_below rows m d (omega arith) e in rw t (omega (arith, rest)))
    | inr f ↦ rw f (omega arith)
  ]

  -- the row with the key stands behind the lesser ones
  pub lessers_same : (rows : List R) (m : ℕ) (d : R) → Rises cmp (map key rows) → m < length rows → cmp (key (get_or rows m d)) n ≡ Equal → m ≤ lessers rows
  lessers_same rows zero d rises within same = omega arith
  lessers_same [] (suc m) d rises within same = absurd (omega arith)
  lessers_same (x ∷ rows) (suc m) d rises within same =
      let is : key (get_or rows m d) ≡ n = order.exact (key (get_or rows m d)) n same in
      let first : cmp (key x) n ≡ Less = ap (cmp (key x)) (sym is) ∙ above_at order key (key x) rows m d rises.0 (omega arith) in
      let rest : m ≤ lessers rows = lessers_same rows m d rises.1 (omega arith) same in
      rw first (omega (arith, rest))

  pub has_same : (rows : List R) (m : ℕ) (x : R) → Rises cmp (map key rows) → m < length rows → x ≡ get_or rows m x → cmp (key x) n ≡ Equal → HasRow cmp key n rows m
  has_same rows m x rises within read same =
      let at : cmp (key (get_or rows m x)) n ≡ Equal = ap (λ y. cmp (key y) n) (sym read) ∙ same in
      let above = lessers_same rows m x rises within at in
      let below = lessers_below rows m x within (ap is_lt at) in
      has_row order key n m x rows (omega (arith, above, below)) within read (order.exact (key x) n same)

  -- that at the greatest index that is left has another key, if there is one
  pub lacks_here : (rows : List R) (m : ℕ) → m ≡ lessers rows → ((d : R) → m < length rows → key (get_or rows m d) ≢ n) → LacksRow cmp key n rows m
  lacks_here [] m is other = lacks_end order key n m [] is (omega arith)
  lacks_here (x ∷ rows) m is other = lacks_row order key n m x (x ∷ rows) is (other x)

  pub greater_apart : (m : K) → cmp m n ≡ Greater → m ≢ n
  greater_apart m more e = less_apart order n m (turned order m n Greater more) (sym e)
