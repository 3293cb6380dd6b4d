-- What a file of a recording begins with: its magic bytes, the version of its format, and the chunk of its head.
use Rattle.std.specs.Prelude.{ℕ, ◌==◌, if◌then◌else◌, List, [], ◌∷◌, Result, Ok, Err}
use Rattle.lg_fields.specs.declared.fault.FieldFault.{FieldFault}
use Rattle.lg_fields.specs.declared.fault.FieldFault.TheVariants as faults
use Rattle.lg_fields.specs.Meaning.Spelled.{chunk}
use Rattle.lg_fields.specs.Meaning.Scanned.{◌>>=◌, chunk_scan}

-- the magic bytes LGR, the version 1, and the chunk of the head's body
abbrev pub spelled_start : List ℕ → List ℕ
spelled_start head = 0x4c ∷ 0x47 ∷ 0x52 ∷ 1 ∷ chunk head

-- a byte that is due: another one is this fault
abbrev pub due_scan : FieldFault → ℕ → List ℕ → Result (List ℕ) FieldFault
due_scan fault due [] = Err faults.Short
due_scan fault due (b ∷ rest) = if b == due then Ok rest else Err fault

unfoldable pub magic_scan : List ℕ → Result (List ℕ) FieldFault
magic_scan bytes = do
  first ← due_scan faults.Magic 0x4c bytes
  second ← due_scan faults.Magic 0x47 first
  third ← due_scan faults.Magic 0x52 second
  due_scan faults.Version 1 third

-- the head's body, and the bytes behind its chunk
unfoldable pub start_scan : List ℕ → Result (List ℕ × List ℕ) FieldFault
start_scan bytes = do
  rest ← magic_scan bytes
  chunk_scan rest
