-- The lines that tell why entries weren't written.
use Rattle.std.specs.Prelude.{ℕ, List, codes}
use Rattle.std.specs.declared.io.ErrorKind.{ErrorKind}
use Rattle.std.specs.declared.io.ErrorKind.TheVariants.{StorageFull, QuotaExceeded, NotFound, PermissionDenied}
use Rattle.std.specs.declared.io.ErrorKind.TheVariants.{ReadOnlyFilesystem, OutOfMemory}

-- the line of a fault of this kind
abbrev pub record_fault_line : ErrorKind → List ℕ
record_fault_line StorageFull = codes "the recording has a gap: the disk is full\n"
record_fault_line QuotaExceeded = codes "the recording has a gap: the disk is full\n"
record_fault_line NotFound = codes "the recording has a gap: the folder isn't there\n"
record_fault_line PermissionDenied = codes "the recording has a gap: the folder can't be written to\n"
record_fault_line ReadOnlyFilesystem = codes "the recording has a gap: the folder can't be written to\n"
record_fault_line OutOfMemory = codes "the recording has a gap: memory is refused\n"
record_fault_line _ = codes "the recording has a gap: the folder failed\n"
