-- The exit status and the line of each fault (this project's choice).
use Rattle.std.specs.Prelude.{ℕ, List, ◌++◌, codes}
use Rattle.lg_text.specs.Meaning.Faults.{unwritten_text}
use Rattle.lg_text.specs.Meaning.Lines.{newline}
use Rattle.lg_client.specs.declared.fault.AskFault.{AskFault}
use Rattle.lg_client.specs.declared.fault.AskFault.TheVariants.{Address, Bad, Busy, Memory, Unanswered, Write}

abbrev pub ask_fault_status : AskFault → ℕ
ask_fault_status Address = 3
ask_fault_status Unanswered = 7
ask_fault_status Bad = 8
ask_fault_status Busy = 10
ask_fault_status Memory = 1
ask_fault_status (Write fault) = 1

abbrev pub ask_fault_text : AskFault → List ℕ
ask_fault_text Address = codes "lg: bad address" ++ newline
ask_fault_text Unanswered = codes "lg: no answer" ++ newline
ask_fault_text Bad = codes "lg: bad answer" ++ newline
ask_fault_text Busy = codes "lg: busy" ++ newline
ask_fault_text Memory = codes "lg: memory" ++ newline
ask_fault_text (Write fault) = unwritten_text fault.kind
