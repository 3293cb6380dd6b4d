-- What a function of the reader returned is what reading gives.
use Rattle.std.specs.Prelude.{◌≡◌, Result, Ok, Err}
use Rattle.lg_packet.specs.declared.fault.Fault.{Fault}

-- either both are the same fault, or reading gives the value that was returned, seen through view
abbrev pub Gives : {X Y : Type 0} → (X → Y) → Result X Fault → Result Y Fault → Type 0
Gives view (Ok x) read = read ≡ Ok (view x)
Gives view (Err f) read = read ≡ Err f
