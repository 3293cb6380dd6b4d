-- What a line of input spells.
use Rattle.std.specs.Prelude.{ℕ, List, Result, Ok, Err, codes}
use Rattle.hex.specs.Hex.{decode_of}
use Rattle.hex.specs.declared.error.FromHexError.{FromHexError}
use Rattle.lg_packet.specs.Meaning.Reading.{packet_of}
use Rattle.lg_packet.specs.declared.fault.Fault.{Fault}
use Rattle.lg_packet.specs.declared.fault.Fault.TheVariants.{Short, Magic, Version, Kind, Name, Count, ClaimKind}
use Rattle.lg_packet.specs.declared.fault.Fault.TheVariants.{Incarnation, Trailing, Family}
use Rattle.lg_packet.specs.declared.packet.Packet.{Packet}
use Rattle.lg_commands.specs.declared.line.LineFault.{LineFault}
use Rattle.lg_commands.specs.declared.line.LineFault.TheVariants.{NotHex, Refused}

abbrev pub of_packet : Result Packet Fault → Result Packet LineFault
of_packet (Ok packet) = Ok packet
of_packet (Err fault) = Err (Refused fault)

abbrev pub of_bytes : Result (List ℕ) FromHexError → Result Packet LineFault
of_bytes (Ok bytes) = of_packet (packet_of bytes)
of_bytes (Err e) = Err NotHex

-- the packet that a line spells in hex of either case, or what is wrong with the line
unfoldable pub packet_in : List ℕ → Result Packet LineFault
packet_in line = of_bytes (decode_of line)

-- the text of a fault: its number and its name
abbrev pub fault_text : LineFault → List ℕ
fault_text NotHex = codes "bad hex"
fault_text (Refused Short) = codes "fault 1 Short"
fault_text (Refused Magic) = codes "fault 2 Magic"
fault_text (Refused Version) = codes "fault 3 Version"
fault_text (Refused Kind) = codes "fault 4 Kind"
fault_text (Refused Name) = codes "fault 5 Name"
fault_text (Refused Count) = codes "fault 6 Count"
fault_text (Refused ClaimKind) = codes "fault 7 ClaimKind"
fault_text (Refused Incarnation) = codes "fault 8 Incarnation"
fault_text (Refused Trailing) = codes "fault 9 Trailing"
fault_text (Refused Family) = codes "fault 10 Family"
