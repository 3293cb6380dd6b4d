-- Reading seeds one after the other, as a loop does.
use Rattle.std.proofs.Common.{◌≡◌, ℕ, suc, ◌-◌, ◌+◌, ◌≤◌, ◌<◌, List, [], ◌∷◌, ◌++◌, length, Result, Ok, Err, refl, sym, ap, ◌∙◌, append_assoc, arith}
use Rattle.std.proofs.lemmas.List.{append-nil, length_push}
use Rattle.lg_timing.specs.declared.config.Seed.{Seed}
use Rattle.lg_fields.specs.declared.fault.FieldFault.{FieldFault}
use Rattle.lg_fields.specs.Meaning.Scanned.{◌>>=◌, seed_scan, seeds_scan}

-- what is read, with the seeds that were read before it
abbrev pub behind_some : List Seed → Result (List Seed × List ℕ) FieldFault → Result (List Seed × List ℕ) FieldFault
behind_some front (Ok x) = Ok (front ++ x.0, x.1)
behind_some front (Err f) = Err f

-- of count seeds, as many as the turn were read, and the rest still comes to the same
pub record ReadsSome (front : List Seed) (rest : List ℕ) (turn count : ℕ) (total : Result (List Seed × List ℕ) FieldFault) : Type 0 where
  pub len : length front ≡ turn
  pub comes : behind_some front (seeds_scan (count - turn) rest) ≡ total

one_first : (front : List Seed) (s : Seed) (read : Result (List Seed × List ℕ) FieldFault) → behind_some front (read >>= λ x. Ok (s ∷ x.0, x.1)) ≡ behind_some (front ++ s ∷ []) read
one_first front s (Ok x) = ap (λ (seeds : List Seed). Ok (seeds, x.1)) (sym (append_assoc front (s ∷ []) x.0))
one_first front s (Err f) = refl

pub one_more : (front : List Seed) (rest after : List ℕ) (s : Seed) (turn count : ℕ) (total : Result (List Seed × List ℕ) FieldFault)
    → turn < count → seed_scan rest ≡ Ok (s, after) → ReadsSome front rest turn count total → ReadsSome (front ++ s ∷ []) after (turn + 1) count total
unfolding seeds_scan
one_more front rest after s turn count total left read so_far =
    let k : count - turn ≡ suc (count - (turn + 1)) = omega arith in
    let more : behind_some front (seeds_scan (count - turn) rest) ≡ behind_some (front ++ s ∷ []) (seeds_scan (count - (turn + 1)) after) = rw (k, read) (one_first front s (seeds_scan (count - (turn + 1)) after)) in
    record { len = omega (arith, length_push front s, so_far.len); comes = sym more ∙ so_far.comes }

pub stops : (front : List Seed) (rest : List ℕ) (f : FieldFault) (turn count : ℕ) (total : Result (List Seed × List ℕ) FieldFault)
    → turn < count → seed_scan rest ≡ Err f → ReadsSome front rest turn count total → total ≡ Err f
unfolding seeds_scan
stops front rest f turn count total left read so_far =
    let k : count - turn ≡ suc (count - (turn + 1)) = omega arith in
    let stopped : behind_some front (seeds_scan (count - turn) rest) ≡ Err f = rw (k, read) refl in
    sym so_far.comes ∙ stopped

pub all_read : (front : List Seed) (rest : List ℕ) (turn count : ℕ) (total : Result (List Seed × List ℕ) FieldFault)
    → count ≤ turn → ReadsSome front rest turn count total → total ≡ Ok (front, rest)
unfolding seeds_scan
all_read front rest turn count total done so_far =
    let k : count - turn ≡ 0 = omega arith in
    let ended : behind_some front (seeds_scan (count - turn) rest) ≡ Ok (front, rest) = rw k (ap (λ (seeds : List Seed). Ok (seeds, rest)) (append-nil front)) in
    sym so_far.comes ∙ ended
