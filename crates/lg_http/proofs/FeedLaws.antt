-- A read of the first bytes that are held takes some of them, and what is held then follows.
use Rattle.std.proofs.Common.{◌≡◌, ℕ, ◌+◌, ◌≤◌, List, ◌++◌, length, take, drop, ap, sym, ◌∙◌, append_assoc, arith}
use Rattle.std.proofs.lemmas.List.{take-append-drop, drop_at, length-take-le, length-append, length-drop}

-- what was taken, what was offered besides, and what wasn't offered, are what was held
pub held_whole : (held taken rest : List ℕ) (len : ℕ) → take len held ≡ taken ++ rest → held ≡ taken ++ (rest ++ drop len held)
held_whole held taken rest len e =
    sym (take-append-drop len held) ∙ ap (λ (x : List ℕ). x ++ drop len held) e ∙ append_assoc taken rest (drop len held)

-- what was given and what is held stay one text
pub fed_stream : (held received held' received' taken rest : List ℕ) (len n : ℕ) → take len held ≡ taken ++ rest → length taken ≡ n
    → received' ≡ received ++ taken → held' ≡ drop n held → received' ++ held' ≡ received ++ held
fed_stream held received held' received' taken rest len n e counted given left =
    let whole = held_whole held taken rest len e in
    let after : held' ≡ rest ++ drop len held =
    left ∙ ap (λ (x : List ℕ). drop n x) whole ∙ drop_at taken (rest ++ drop len held) n counted in
    rw (given, after)
    (append_assoc received taken (rest ++ drop len held) ∙ ap (λ (x : List ℕ). received ++ x) (sym whole))

-- no more is taken than was offered
pub fed_bound : (held taken rest : List ℕ) (len n : ℕ) → len ≤ length held → take len held ≡ taken ++ rest → length taken ≡ n → n ≤ len
fed_bound held taken rest len n fits e counted =
    omega (arith, sym (length-take-le len held fits) ∙ ap (λ (x : List ℕ). length x) e ∙ length-append taken rest, counted)

-- what is left is shorter by that
pub fed_count : (held held' : List ℕ) (len n : ℕ) → n ≤ len → len ≤ length held → held' ≡ drop n held → length held ≡ n + length held'
fed_count held held' len n bound fits left = rw left (omega (arith, length-drop n held, bound, fits))

-- what is held grew by what was read, and so did the whole text
pub grown_stream : (received held held' more : List ℕ) → held' ≡ held ++ more → received ++ held' ≡ received ++ held ++ more
grown_stream received held held' more e = rw e (sym (append_assoc received held more))
