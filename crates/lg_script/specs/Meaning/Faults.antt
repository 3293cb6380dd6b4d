-- The words that report the faults of a line.
use Rattle.std.specs.Prelude.{ℕ, List, codes}
use Rattle.lg_script.specs.declared.fault.ScriptFault.{ScriptFault}
use Rattle.lg_script.specs.declared.fault.ScriptFault.TheVariants.{Command, Words, Value, Double, Full, Member, Packet}

abbrev pub fault_word : ScriptFault → List ℕ
fault_word Command = codes "command"
fault_word Words = codes "words"
fault_word Value = codes "value"
fault_word Double = codes "double"
fault_word Full = codes "full"
fault_word Member = codes "member"
fault_word Packet = codes "packet"
