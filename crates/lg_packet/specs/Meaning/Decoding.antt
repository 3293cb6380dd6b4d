-- What bytes decode to: the packet that they spell or, if they spell none, their fault.
use Rattle.std.specs.Prelude.{◌≡◌, ℕ, List, Result, Ok, Err}
use Rattle.lg_packet.specs.declared.fault.Fault.{Fault}
use Rattle.lg_packet.specs.declared.packet.Packet.{Packet}
use Rattle.lg_packet.specs.Meaning.Spelling.{Spells}
use Rattle.lg_packet.specs.Meaning.Fault.{fault_of}

abbrev pub DecodesTo : List ℕ → Result Packet Fault → Type 0
DecodesTo bytes (Ok p) = Spells bytes p
DecodesTo bytes (Err f) = ((p : Packet) → ¬ (Spells bytes p)) × (f ≡ fault_of bytes)
