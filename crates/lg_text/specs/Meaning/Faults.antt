-- The lines that report the faults of a run.
use Rattle.std.specs.Prelude.{ℕ, List, ◌++◌, codes, Bool, true, false}
use Rattle.std.specs.declared.io.ErrorKind.{ErrorKind}
use Rattle.std.specs.declared.io.ErrorKind.TheVariants.{BrokenPipe, FileTooLarge, IsADirectory}
use Rattle.std.specs.declared.io.ErrorKind.TheVariants.{QuotaExceeded, StorageFull, WriteZero}
use Rattle.lg_text.specs.Meaning.Lines.{newline}
use Rattle.lg_text.specs.declared.fault.InputFault.{InputFault}
use Rattle.lg_text.specs.declared.fault.InputFault.TheVariants.{Failed, TooLong}
use Rattle.lg_text.specs.declared.fault.RunFault.{RunFault}
use Rattle.lg_text.specs.declared.fault.RunFault.TheVariants.{Memory, Read, Write}

-- whether a fault is one of reading, whatever the reason
abbrev pub is_unread : RunFault → Bool
is_unread Memory = false
is_unread (Read fault) = true
is_unread (Write fault) = false

-- whether a fault is one of writing, whatever the reason
abbrev pub is_unwritten : RunFault → Bool
is_unwritten Memory = false
is_unwritten (Read fault) = false
is_unwritten (Write fault) = true

-- the lines that report that standard input can't be read, with the reason in words
abbrev pub unread_because : List ℕ → List ℕ
unread_because words = codes "lg: read" ++ newline ++ codes "standard input can't be read: " ++ words ++ newline

abbrev pub unread_text : InputFault → List ℕ
unread_text TooLong = codes "lg: read" ++ newline ++ codes "standard input has more than 1048576 bytes" ++ newline
unread_text (Failed IsADirectory) = unread_because (codes "it is a folder")
unread_text (Failed kind) = unread_because (codes "the machine refuses it")

-- the lines that report that standard output can't be written, with the reason in words
abbrev pub unwritten_because : List ℕ → List ℕ
unwritten_because words = codes "lg: write" ++ newline ++ codes "standard output can't be written: " ++ words ++ newline

abbrev pub unwritten_text : ErrorKind → List ℕ
unwritten_text BrokenPipe = unwritten_because (codes "nobody reads it")
unwritten_text StorageFull = unwritten_because (codes "no space is left")
unwritten_text QuotaExceeded = unwritten_because (codes "no space is left")
unwritten_text FileTooLarge = unwritten_because (codes "the file would be too large")
unwritten_text WriteZero = unwritten_because (codes "it takes nothing")
unwritten_text kind = unwritten_because (codes "the machine refuses it")

abbrev pub run_fault_text : RunFault → List ℕ
run_fault_text Memory = codes "lg: memory" ++ newline
run_fault_text (Read fault) = unread_text fault
run_fault_text (Write fault) = unwritten_text fault.kind
