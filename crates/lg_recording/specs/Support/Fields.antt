-- What the proofs say of a field: how it is spelled, what is told of it, and how it is read.
use Rattle.std.specs.Prelude.{◌≡◌, ℕ, ◌≤◌, List, ◌++◌, Result, Ok}
use Rattle.std.specs.List.{AllByRecursion}
use Rattle.lg_packet.specs.Meaning.Bytes.{IsByte}
use Rattle.lg_fields.specs.declared.fault.FieldFault.{FieldFault}

-- reading a field: its value and the bytes behind it, or a fault
abbrev pub Scan : Type 0 → Type 0
Scan X = List ℕ → Result (X × List ℕ) FieldFault

-- each of these is a byte
abbrev pub AreAllBytes : List ℕ → Type 0
AreAllBytes bytes = AllByRecursion IsByte bytes

-- What fits is read again as what is told of it, whatever follows. What is read is spelled so, fits, and tells itself.
pub record IsField {X : Type 0} (spell : X → List ℕ) (told : X → X) (Fits : X → Type 0)
    (scan : List ℕ → Result (X × List ℕ) FieldFault) : Type 0 where
  pub again : (x : X) (rest : List ℕ) → Fits x → scan (spell x ++ rest) ≡ Ok (told x, rest)
  pub takes : (bytes : List ℕ) (x : X × List ℕ) → AllByRecursion IsByte bytes → scan bytes ≡ Ok x
      → (bytes ≡ spell x.0 ++ x.1) × Fits x.0 × (told x.0 ≡ x.0)

-- told as it is
abbrev pub same : {X : Type 0} → X → X
same x = x

-- whatever it is
abbrev pub anything : {X : Type 0} → X → Type 0
anything x = Unit {0}

-- a number that is at most another
abbrev pub IsAtMost : ℕ → ℕ → Type 0
IsAtMost most n = n ≤ most
