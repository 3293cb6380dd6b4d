-- The numbers of the faults (this project's choice).
use Rattle.std.specs.Prelude.{ℕ}
use Rattle.lg_timing.specs.Meaning.Keys.{config_fault_number}
use Rattle.lg_config.specs.declared.fault.FileFault.{FileFault}
use Rattle.lg_config.specs.declared.fault.FileFault.TheVariants.{Auto, Bind, Config, Family, Syntax, Key, Value, Pull}
use Rattle.lg_config.specs.declared.fault.FileFault.TheVariants.{Status, StatusOpen, StatusNotLoopback, KeyFile, Leave}
use Rattle.lg_config.specs.declared.fault.FileFault.TheVariants.{RecordMb, Resolve, Stall}

abbrev pub fault_number : FileFault → ℕ
fault_number (Config fault) = config_fault_number fault
fault_number Syntax = 12
fault_number Key = 13
fault_number Value = 14
fault_number Pull = 16
fault_number Stall = 17
fault_number Status = 18
fault_number StatusOpen = 19
fault_number StatusNotLoopback = 20
fault_number KeyFile = 21
fault_number Leave = 27
fault_number Bind = 28
fault_number Family = 29
fault_number Resolve = 30
fault_number Auto = 31
fault_number RecordMb = 32
