-- The positions of a seat's entries, where one entry more comes.
use Rattle.std.proofs.Common.{◌≡◌, ℕ, suc, ◌+◌, ◌==◌, Bool, true, false, if◌then◌else◌, List, [], ◌∷◌, ◌++◌, length, ap, ◌∙◌, arith}
use Rattle.lg_history.specs.Meaning.History.{Entry, positions}

abbrev one_if : Bool → ℕ → List ℕ
one_if counts n = if counts then n ∷ [] else []

pub positions-append : (seat n : ℕ) (h : List Entry) (x : Entry) → positions seat n (h ++ x ∷ []) ≡ positions seat n h ++ (if x.seat == seat then (n + length h) ∷ [] else [])
positions-append seat n [] x = ap (λ (k : ℕ). one_if (x.seat == seat) k) (omega arith)
positions-append seat n (y ∷ h) x =
    let rest : positions seat (n + 1) (h ++ x ∷ []) ≡ positions seat (n + 1) h ++ one_if (x.seat == seat) (n + suc (length h)) =
    positions-append seat (n + 1) h x ∙ ap (λ (k : ℕ). positions seat (n + 1) h ++ one_if (x.seat == seat) k) (omega arith) in
    elim (y.seat == seat) as (λ (b : Bool). (if b then n ∷ positions seat (n + 1) (h ++ x ∷ []) else positions seat (n + 1) (h ++ x ∷ [])) ≡ (if b then n ∷ positions seat (n + 1) h else positions seat (n + 1) h) ++ one_if (x.seat == seat) (n + suc (length h)))
    [ true ↦ ap (λ (l : List ℕ). n ∷ l) rest | false ↦ rest ]
