-- What a function of the reader returned is what scanning gives.
use Rattle.std.specs.Prelude.{◌≡◌, Result, Ok, Err}
use Rattle.lg_fields.specs.declared.fault.FieldFault.{FieldFault}

-- either both are the same fault, or scanning gives the value that was returned, seen through view
abbrev pub Scans : {X Y : Type 0} → (X → Y) → Result X FieldFault → Result Y FieldFault → Type 0
Scans view (Ok x) scanned = scanned ≡ Ok (view x)
Scans view (Err f) scanned = scanned ≡ Err f
