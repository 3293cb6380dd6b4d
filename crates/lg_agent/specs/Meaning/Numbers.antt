-- The numbers of refusals and of faults of closing.
use Rattle.std.specs.Prelude.{ℕ}
use Rattle.lg_agent.specs.declared.refusal.Refusal.{Refusal}
use Rattle.lg_agent.specs.declared.refusal.Refusal.TheVariants.{BadPacket, NoMemory, HistoryFull}
use Rattle.lg_agent.specs.declared.refusal.Refusal.TheVariants.{Behind, NoPlace, NoView}
use Rattle.lg_agent.specs.declared.refusal.CloseFault.{CloseFault}
use Rattle.lg_agent.specs.declared.refusal.CloseFault.TheVariants.{Missing, Foreign, Differs}

abbrev pub refusal_number : Refusal → ℕ
refusal_number (BadPacket fault) = 1
refusal_number NoMemory = 2
refusal_number (HistoryFull limit) = 3
refusal_number (Behind seen here) = 4
refusal_number NoPlace = 5
refusal_number NoView = 6

abbrev pub close_fault_number : CloseFault → ℕ
close_fault_number Missing = 1
close_fault_number Foreign = 2
close_fault_number (Differs seat index) = 3
