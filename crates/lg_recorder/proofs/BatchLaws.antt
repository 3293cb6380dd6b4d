-- Lists of numbered entries, of which some are left out.
use Rattle.std.proofs.Common.{◌≡◌, ℕ, ◌+◌, Bool, true, false, List, [], ◌∷◌, ◌++◌, suc, length, take, drop, refl, sym, ap, ◌∙◌, subst, arith, append-nil, length-append}
use Rattle.std.specs.List.{enumerate_from}
use Rattle.std.proofs.lemmas.List.{take-append-drop}
use Rattle.lg_recorder.specs.Meaning.Batches.{LeavesOut, masked}

masked_both : {X : Type 0} → (m m' : List Bool) (xs ys : List X) → length m ≡ length xs → masked (m ++ m') (xs ++ ys) ≡ masked m xs ++ masked m' ys
unfolding masked
masked_both [] m' [] ys same = refl
masked_both [] m' (x ∷ xs) ys same = absurd (omega arith)
masked_both (b ∷ m) m' [] ys same = absurd (omega arith)
masked_both (true ∷ m) m' (x ∷ xs) ys same = ap (λ l. x ∷ l) (masked_both m m' xs ys (omega arith))
masked_both (false ∷ m) m' (x ∷ xs) ys same = masked_both m m' xs ys (omega arith)

-- one list behind another
pub leaves_both : {X : Type 0} → (xs all ys more : List X) → LeavesOut xs all → LeavesOut ys more → LeavesOut (xs ++ ys) (all ++ more)
leaves_both xs all ys more p q = record {
  mask = p.mask ++ q.mask;
  each = length-append p.mask q.mask ∙ ap (λ n. n + length q.mask) p.each ∙ ap (λ n. length all + n) q.each ∙ sym (length-append all more);
  are = masked_both p.mask q.mask all more p.each ∙ ap (λ l. l ++ masked q.mask more) p.are ∙ ap (λ l. xs ++ l) q.are;
}

-- none are left out
pub leaves_none : {X : Type 0} → (xs : List X) → LeavesOut xs xs
unfolding masked
leaves_none [] = record { mask = []; each = refl; are = refl }
leaves_none (x ∷ xs) =
    let rest = leaves_none xs in
    record { mask = true ∷ rest.mask; each = ap suc rest.each; are = ap (λ l. x ∷ l) rest.are }

-- all are
pub leaves_all : {X : Type 0} → (xs : List X) → LeavesOut [] xs
unfolding masked
leaves_all [] = record { mask = []; each = refl; are = refl }
leaves_all (x ∷ xs) =
    let rest = leaves_all xs in
    record { mask = false ∷ rest.mask; each = ap suc rest.each; are = rest.are }

-- numbered entries, one list behind another
pub numbered_both : (n : ℕ) (xs ys : List (List ℕ)) → enumerate_from n (xs ++ ys) ≡ enumerate_from n xs ++ enumerate_from (n + length xs) ys
numbered_both n [] ys = let on : n ≡ n + 0 = omega arith in ap (λ k. enumerate_from k ys) on
numbered_both n (x ∷ xs) ys =
    let on : (n + 1) + length xs ≡ n + length (x ∷ xs) = omega arith in
    ap (λ l. (n, x) ∷ l) (numbered_both (n + 1) xs ys ∙ ap (λ k. enumerate_from (n + 1) xs ++ enumerate_from k ys) on)

-- the first entries, and those behind them left out
pub leaves_rest : (n k : ℕ) (xs : List (List ℕ)) → LeavesOut (enumerate_from n (take k xs)) (enumerate_from n xs)
leaves_rest n k xs =
    let front = enumerate_from n (take k xs) in
    let rest = enumerate_from (n + length (take k xs)) (drop k xs) in
    let whole : enumerate_from n xs ≡ front ++ rest = ap (λ l. enumerate_from n l) (sym (take-append-drop k xs)) ∙ numbered_both n (take k xs) (drop k xs) in
    let both = leaves_both front front [] rest (leaves_none front) (leaves_all rest) in
    rw whole (subst (λ (l : List (ℕ × List ℕ)). LeavesOut l (front ++ rest)) (append-nil front) both)
