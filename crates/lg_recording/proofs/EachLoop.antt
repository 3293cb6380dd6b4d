-- Reading fields of one kind one after the other, as a loop does.
use Rattle.std.proofs.Common.{◌≡◌, ℕ, suc, ◌-◌, ◌+◌, ◌≤◌, ◌<◌, List, [], ◌∷◌, ◌++◌, length, Result, Ok, Err, refl, sym, ap, ◌∙◌, append_assoc, arith}
use Rattle.std.proofs.lemmas.List.{append-nil, length_push}
use Rattle.lg_fields.specs.declared.fault.FieldFault.{FieldFault}
use Rattle.lg_fields.specs.Meaning.Scanned.{◌>>=◌}
use Rattle.lg_recording.specs.Meaning.Scanning.{each_scan}

-- what is read, with what was read before it
abbrev pub behind_front : {X : Type 0} → List X → Result (List X × List ℕ) FieldFault → Result (List X × List ℕ) FieldFault
behind_front front (Ok x) = Ok (front ++ x.0, x.1)
behind_front front (Err f) = Err f

-- of count fields, as many as the turn were read, and the rest still comes to the same
pub record ReadsEach {X : Type 0} (scan : List ℕ → Result (X × List ℕ) FieldFault) (front : List X) (rest : List ℕ) (turn count : ℕ) (total : Result (List X × List ℕ) FieldFault) : Type 0 where
  pub len : length front ≡ turn
  pub comes : behind_front front (each_scan scan (count - turn) rest) ≡ total

one_first : {X : Type 0} (front : List X) (c : X) (read : Result (List X × List ℕ) FieldFault) → behind_front front (read >>= λ x. Ok (c ∷ x.0, x.1)) ≡ behind_front (front ++ c ∷ []) read
one_first {X} front c (Ok x) = ap (λ (cs : List X). Ok (cs, x.1)) (sym (append_assoc front (c ∷ []) x.0))
one_first {X} front c (Err f) = refl

pub one_more : {X : Type 0} (scan : List ℕ → Result (X × List ℕ) FieldFault) (front : List X) (rest after : List ℕ) (c : X) (turn count : ℕ) (total : Result (List X × List ℕ) FieldFault)
    → turn < count → scan rest ≡ Ok (c, after) → ReadsEach scan front rest turn count total → ReadsEach scan (front ++ c ∷ []) after (turn + 1) count total
unfolding each_scan
one_more {X} scan front rest after c turn count total left read so_far =
    let k : count - turn ≡ suc (count - (turn + 1)) = omega arith in
    let more : behind_front front (each_scan scan (count - turn) rest) ≡ behind_front (front ++ c ∷ []) (each_scan scan (count - (turn + 1)) after) = rw (k, read) (one_first front c (each_scan scan (count - (turn + 1)) after)) in
    record { len = omega (arith, length_push front c, so_far.len); comes = sym more ∙ so_far.comes }

pub stops : {X : Type 0} (scan : List ℕ → Result (X × List ℕ) FieldFault) (front : List X) (rest : List ℕ) (f : FieldFault) (turn count : ℕ) (total : Result (List X × List ℕ) FieldFault)
    → turn < count → scan rest ≡ Err f → ReadsEach scan front rest turn count total → total ≡ Err f
unfolding each_scan
stops {X} scan front rest f turn count total left read so_far =
    let k : count - turn ≡ suc (count - (turn + 1)) = omega arith in
    let stopped : behind_front front (each_scan scan (count - turn) rest) ≡ Err f = rw (k, read) refl in
    sym so_far.comes ∙ stopped

pub all_read : {X : Type 0} (scan : List ℕ → Result (X × List ℕ) FieldFault) (front : List X) (rest : List ℕ) (turn count : ℕ) (total : Result (List X × List ℕ) FieldFault)
    → count ≤ turn → ReadsEach scan front rest turn count total → total ≡ Ok (front, rest)
unfolding each_scan
all_read {X} scan front rest turn count total done so_far =
    let k : count - turn ≡ 0 = omega arith in
    let ended : behind_front front (each_scan scan (count - turn) rest) ≡ Ok (front, rest) = rw k (ap (λ (cs : List X). Ok (cs, rest)) (append-nil front)) in
    sym so_far.comes ∙ ended
