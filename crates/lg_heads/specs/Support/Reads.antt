-- What a function that may need memory returned is what scanning gives.
use Rattle.std.specs.Prelude.{◌≡◌, ⊤, Result, Ok, Err}
use Rattle.lg_fields.specs.declared.fault.FieldFault.{FieldFault}
use Rattle.lg_heads.specs.declared.fault.HeadFault.{HeadFault}
use Rattle.lg_heads.specs.declared.fault.HeadFault.TheVariants.{Field, NoMemory}

-- either both are the same fault, or scanning gives the value that was returned, seen through view; nothing is known if
-- memory was refused
abbrev pub Reads : {X Y : Type 0} → (X → Y) → Result X HeadFault → Result Y FieldFault → Type 0
Reads view (Ok x) scanned = scanned ≡ Ok (view x)
Reads view (Err (Field f)) scanned = scanned ≡ Err f
Reads view (Err NoMemory) scanned = ⊤
