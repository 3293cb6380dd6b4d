-- A place is moved to another index: what the places are then, and that they are the same places.
use Rattle.std.proofs.Common.{◌≡◌, ℕ, zero, suc, ◌+◌, ◌-◌, ◌<◌, ◌≤◌, List, [], ◌∷◌, ◌++◌, length, get_or, take, drop, insert, remove, sym, ◌∙◌, ap, append_assoc, add-one, arith}
use Rattle.std.specs.List.Sorted.{IsPermutation}
use Rattle.std.proofs.lemmas.List.{get_or_default, take_more, take_at, drop_at, length-take-le}
use Rattle.std.proofs.lemmas.List.Sorted.{IsPermutation-trans, IsPermutation-remove, IsPermutation-insert}
use borrow.Rule.Slice.PartMut.{put_mid, mid_of}
use Rattle.lg_rows.specs.Support.Places.{moved}

pub permutation-moved : (row : List ℕ) (from to : ℕ) → from < length row → IsPermutation row (moved row from to)
permutation-moved row from to within =
    let place = get_or row from 0 in
    IsPermutation-trans row (place ∷ remove row from) (moved row from to)
    (IsPermutation-remove row from place within (get_or_default row from 0 place within))
    (IsPermutation-insert (remove row from) to place)

-- the last of some places is moved to their front
turned_down : (row part : List ℕ) (from k : ℕ) → k ≡ suc from → from < length row
    → part ≡ drop (length (take k row) - 1) (take k row) ++ take (length (take k row) - 1) (take k row)
    → part ++ drop k row ≡ get_or row from 0 ∷ (take from row ++ drop (suc from) row)
turned_down row part from k is within turned =
    let x = get_or row from 0 in
    let cut : take k row ≡ take from row ++ x ∷ [] = ap (λ n. take n row) (is ∙ sym (add-one from)) ∙ take_more row from 0 within in
    let short : length (take k row) - 1 ≡ from = omega (arith, length-take-le k row (omega (arith, is, within))) in
    let front : length (take from row) ≡ from = length-take-le from row (omega arith) in
    let last : drop (length (take k row) - 1) (take k row) ≡ x ∷ [] = ap (λ n. drop n (take k row)) short ∙ ap (drop from) cut ∙ drop_at (take from row) (x ∷ []) from front in
    let others : take (length (take k row) - 1) (take k row) ≡ take from row = ap (λ n. take n (take k row)) short ∙ ap (take from) cut ∙ take_at (take from row) (x ∷ []) from front in
    ap (λ p. p ++ drop k row) turned
    ∙ ap (λ p. (p ++ take (length (take k row) - 1) (take k row)) ++ drop k row) last
    ∙ ap (λ p. x ∷ (p ++ drop k row)) others
    ∙ ap (λ n. x ∷ (take from row ++ drop n row)) is

pub rotated_down : (row part : List ℕ) (from to k : ℕ) → to + k ≡ suc from → to ≤ from → from < length row
    → part ≡ drop (length (mid_of to k row) - 1) (mid_of to k row) ++ take (length (mid_of to k row) - 1) (mid_of to k row)
    → put_mid to k row part ≡ moved row from to
rotated_down row part from zero k is order within turned = turned_down row part from k (omega arith) within turned
rotated_down [] part from (suc to) k is order within turned = absurd (omega arith)
rotated_down (y ∷ row) part zero (suc to) k is order within turned = absurd (omega arith)
rotated_down (y ∷ row) part (suc from) (suc to) k is order within turned =
    ap (λ ys. y ∷ ys) (rotated_down row part from to k (omega arith) (omega arith) (omega arith) turned)

-- one place more is in use
pub take-moved_down : (row : List ℕ) (from to : ℕ) → to ≤ from → from < length row
    → take (suc from) (moved row from to) ≡ insert (take from row) to (get_or row from 0)
take-moved_down row from zero order within =
    ap (λ ys. get_or row from 0 ∷ ys) (take_at (take from row) (drop (suc from) row) from (length-take-le from row (omega arith)))
take-moved_down [] from (suc to) order within = absurd (omega arith)
take-moved_down (y ∷ row) zero (suc to) order within = absurd (omega arith)
take-moved_down (y ∷ row) (suc from) (suc to) order within =
    ap (λ ys. y ∷ ys) (take-moved_down row from to (omega arith) (omega arith))

pub rotated_up : (row part : List ℕ) (from to k : ℕ) → from + k ≡ suc to → from ≤ to → to < length row
    → part ≡ drop 1 (mid_of from k row) ++ take 1 (mid_of from k row)
    → put_mid from k row part ≡ moved row from to
rotated_up [] part from to k is order within turned = absurd (omega arith)
rotated_up (y ∷ row) part zero to zero is order within turned = absurd (omega arith)
rotated_up (y ∷ row) part zero to (suc k) is order within turned =
    let same : k ≡ to = omega arith in
    ap (λ p. p ++ drop k row) turned
    ∙ append_assoc (take k row) (y ∷ []) (drop k row)
    ∙ ap (λ n. take n row ++ y ∷ drop n row) same
rotated_up (y ∷ row) part (suc from) zero k is order within turned = absurd (omega arith)
rotated_up (y ∷ row) part (suc from) (suc to) k is order within turned =
    ap (λ ys. y ∷ ys) (rotated_up row part from to k (omega arith) (omega arith) (omega arith) turned)

-- one place less is in use
pub take-moved_up : (row : List ℕ) (from to : ℕ) → from ≤ to → to < length row
    → take to (moved row from to) ≡ remove (take (suc to) row) from
take-moved_up [] from to order within = absurd (omega arith)
take-moved_up (y ∷ row) zero to order within = take_at (take to row) (y ∷ drop to row) to (length-take-le to row (omega arith))
take-moved_up (y ∷ row) (suc from) zero order within = absurd (omega arith)
take-moved_up (y ∷ row) (suc from) (suc to) order within =
    ap (λ ys. y ∷ ys) (take-moved_up row from to (omega arith) (omega arith))
