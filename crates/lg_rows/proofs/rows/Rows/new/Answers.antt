use Rattle.std.proofs.Common.{◌≡◌, ℕ, ◌<◌, eqb, length, get_or, arith}
use Rattle.std.specs.List.{All, IsDistinct, range_with_len}
use Rattle.std.proofs.lemmas.Bool.{ne_eqb}
use Rattle.std.proofs.lemmas.List.FromFn.{get_or-range_with_len, length-range_with_len}
use Rattle.std.proofs.lemmas.Map.Keys.{IsDistinct-from_apart}
use Rattle.lg_rows.proofs.rows.Rows.new.Goals as goal

-- the numbers below a number
module _ (n : ℕ) where
  at : (i d : ℕ) → i < n → get_or (range_with_len 0 n) i d ≡ i
  at i d l = omega (arith, get_or-range_with_len 0 n i d l)

  long : length (range_with_len 0 n) ≡ n
  long = length-range_with_len 0 n

  below : All (λ place. place < n) (range_with_len 0 n)
  below i d l =
      let inside : i < n = omega (arith, l, long) in
      omega (arith, at i d inside, inside)

  differ : IsDistinct eqb (range_with_len 0 n)
  differ = IsDistinct-from_apart eqb (range_with_len 0 n) (λ i j d order l.
      let inside : j < n = omega (arith, l, long) in
      ne_eqb (get_or (range_with_len 0 n) i d) (get_or (range_with_len 0 n) j d) (λ e. absurd (omega (arith, e, order, at i d (omega (arith, order, inside)), at j d inside))))

pub invariant_of-result : goal.invariant_of-result
invariant_of-result g c =
    let n = g.row.N in
    rw c.all_places.ensures (record {
      long = long n;
      full = c.from_array_in.ensures.len;
      few = omega arith;
      small = c.requires;
      within = below n;
      apart = differ n;
    })
