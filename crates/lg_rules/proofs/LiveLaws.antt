-- How many members aren't gone, once a record is put.
use Rattle.std.proofs.Common.{◌≡◌, ℕ, ◌+◌, not, cond, List, [], ◌∷◌, Some, None, refl, ap, arith}
use Rattle.std.specs.List.{sum_by}
use Rattle.std.specs.declared.cmp.Ordering.{Ordering}
use Rattle.std.proofs.lemmas.List.Sums.{sum_by-cons}
use Rattle.lg_rules.specs.declared.claim.Claim.{Claim}
use Rattle.lg_rules.specs.declared.claim.Status.{Status}
use Rattle.lg_rules.specs.declared.claim.Status.TheVariants.{Alive, Suspect, Failed, Left}
use Rattle.lg_rules.specs.Meaning.Claim.{is_gone, name_of}
use Rattle.lg_rules.specs.Meaning.Rows.{name_cmp, put_row, row_at}
use Rattle.lg_rules.specs.Meaning.Table.{live_in}
use Rattle.lg_rules.specs.Support.Members.{live_weight}
use Rattle.lg_rules.proofs.Cases.{Below, Tied, Above, compared, held_once}

module _ {K : Type 0} (cmp : K → K → Ordering) {R : Type 0} (key : R → K) (f : R → ℕ) where
  sum-put_new : (r : R) (rows : List R) → row_at cmp key (key r) rows ≡ None → sum_by f (put_row cmp key r rows) ≡ f r + sum_by f rows
  sum-put_new r [] gap = sum_by-cons f r []
  sum-put_new r (x ∷ xs) gap = elim (compared (cmp (key r) (key x))) [
    | Below l ↦ rw l (sum_by-cons f r (x ∷ xs))
    | Tied t ↦ (let bad : Some x ≡ None = rw t at gap in absurd cc)
    | Above g ↦ rw g (omega (arith, sum_by-cons f x (put_row cmp key r xs), sum_by-cons f x xs, sum-put_new r xs (rw g at gap)))
  ]

  sum-put_old : (r old : R) (rows : List R) → row_at cmp key (key r) rows ≡ Some old → sum_by f (put_row cmp key r rows) + f old ≡ f r + sum_by f rows
  sum-put_old r old [] found = absurd cc
  sum-put_old r old (x ∷ xs) found = elim (compared (cmp (key r) (key x))) [
    | Below l ↦ (let bad : None ≡ Some old = rw l at found in absurd cc)
    | Tied t ↦ (
        let is : x ≡ old = held_once x old (rw t at found) in
        rw t (omega (arith, sum_by-cons f r xs, sum_by-cons f x xs, ap f is)))
    | Above g ↦ rw g (omega (arith, sum_by-cons f x (put_row cmp key r xs), sum_by-cons f x xs, sum-put_old r old xs (rw g at found)))
  ]

weight-is : (s : Status) → live_weight s ≡ cond (not (is_gone s)) 1 0
weight-is Alive = refl
weight-is (Suspect a) = refl
weight-is Failed = refl
weight-is Left = refl

abbrev counts : Claim → ℕ
counts r = cond (not (is_gone r.status)) 1 0

pub live-put_new : (r : Claim) (rows : List Claim) → row_at name_cmp name_of r.name rows ≡ None → live_in (put_row name_cmp name_of r rows) ≡ live_weight r.status + live_in rows
live-put_new r rows gap = omega (arith, sum-put_new name_cmp name_of counts r rows gap, weight-is r.status)

pub live-put_old : (r old : Claim) (rows : List Claim) → row_at name_cmp name_of r.name rows ≡ Some old
    → live_in (put_row name_cmp name_of r rows) + live_weight old.status ≡ live_weight r.status + live_in rows
live-put_old r old rows found = omega (arith, sum-put_old name_cmp name_of counts r old rows found, weight-is r.status, weight-is old.status)
