-- How the runs of the commands end.
use Rattle.std.specs.Prelude.{◌≡◌, ⊤, Bool, true, false, ℕ, List, [], is_ok, Option, Result, Ok, Err}
use Rattle.std.specs.Io.KnownBytes.{Appends}
use Rattle.lg_text.specs.Meaning.Faults.{is_unwritten, run_fault_text}
use Rattle.lg_text.specs.Meaning.Reporting.{Reported, Reports}
use Rattle.lg_text.specs.Meaning.Running.{RunsInput}
use Rattle.lg_text.specs.declared.end.RunEnd.{RunEnd}
use Rattle.lg_text.specs.declared.end.RunEnd.TheVariants.{Done, Faulty}
use Rattle.lg_text.specs.declared.fault.RunFault.{RunFault}
use Rattle.lg_text.specs.declared.fault.RunFault.TheVariants.{Memory, Read, Write}
use Rattle.lg_sim.specs.Meaning.Text.{script_end, script_text}
use Rattle.lg_commands.specs.Meaning.Answering.{answer_end, answer_text}
use Rattle.lg_commands.specs.Meaning.Faults.{bad_list_text}
use Rattle.lg_commands.specs.Meaning.Init.{init_text}
use Rattle.lg_commands.specs.Meaning.Timeouts.{timeouts_text}
use Rattle.lg_commands.specs.Meaning.Version.{version_text}
use Rattle.lg_commands.specs.declared.order.BadList.{BadList}
use Rattle.lg_commands.specs.declared.order.OrderFault.{OrderFault}
use Rattle.lg_commands.specs.declared.order.OrderFault.TheVariants.{Bad, Run}
use Rattle.lg_commands.specs.declared.timeouts.Numbers.{Numbers}

-- A run fails by a fault, which is reported, as far as the report is taken. Only a fault of writing leaves anything
-- written.
pub record FailsBy {W : Type 0} (reported reports : Reported) (before after : W) : Type 0 where
  pub fault : RunFault
  pub line : Reports reported reports (run_fault_text fault)
  pub unwritten : is_unwritten fault ≡ false → after ≡ before

abbrev pub status_of : RunEnd → ℕ
status_of Done = 0
status_of Faulty = 3

-- An input that isn't too long is read to its end, and the answer to it is written. The status is that of its end, and
-- nothing is reported.
pub record RunsAnswer
    (left rest held holds : Option (List ℕ)) (reported reports : Reported) (name : List ℕ) (status : ℕ)
    : Type 0 where
  pub end : RunEnd
  pub is : status ≡ status_of end
  pub silent : reports ≡ reported
  pub answers : RunsInput (answer_text name) answer_end left rest held holds end

-- An input that isn't too long is read to its end and run as a script, and its text is written. The status is that of
-- its end, and nothing is reported.
pub record RunsSim (left rest held holds : Option (List ℕ)) (reported reports : Reported) (status : ℕ)
    : Type 0 where
  pub end : RunEnd
  pub is : status ≡ status_of end
  pub silent : reports ≡ reported
  pub runs : RunsInput script_text script_end left rest held holds end

-- The timeouts for some numbers are written, nothing is reported, and the status is 0.
pub record RunsTimeouts (held holds : Option (List ℕ)) (reported reports : Reported) (numbers : Numbers) (status : ℕ)
    : Type 0 where
  pub is : status ≡ 0
  pub silent : reports ≡ reported
  pub written : Appends held holds (timeouts_text numbers)

-- The file of `init` is written, nothing is reported, and the status is 0.
pub record RunsInit (held holds : Option (List ℕ)) (reported reports : Reported) (status : ℕ) : Type 0 where
  pub is : status ≡ 0
  pub silent : reports ≡ reported
  pub written : Appends held holds init_text

-- The version is written, by the end of the program's file, nothing is reported, and the status is 0.
pub record RunsVersion (held holds : Option (List ℕ)) (reported reports : Reported) (end : List ℕ) (status : ℕ)
    : Type 0 where
  pub is : status ≡ 0
  pub silent : reports ≡ reported
  pub written : Appends held holds (version_text end)

-- The choices are written, nothing is reported, and the status is 0.
pub record WritesChoices (held holds : Option (List ℕ)) (reported reports : Reported) (text : List ℕ) (status : ℕ)
    : Type 0 where
  pub is : status ≡ 0
  pub written : Appends held holds text
  pub silent : reports ≡ reported

-- A list is bad. That is reported, as far as the report is taken. Nothing is written, and the status is 3.
pub record TellsBadList (held holds : Option (List ℕ)) (reported reports : Reported) (list : BadList) (status : ℕ)
    : Type 0 where
  pub is : status ≡ 3
  pub unwritten : Appends held holds []
  pub told : Reports reported reports (bad_list_text list)

-- `order` runs: the choices are written, or a list is bad.
abbrev pub RunsOrder :
    (held holds : Option (List ℕ)) (reported reports : Reported) → Result (List ℕ) BadList → ℕ → Type 0
RunsOrder held holds reported reports (Ok text) status = WritesChoices held holds reported reports text status
RunsOrder held holds reported reports (Err list) status = TellsBadList held holds reported reports list status

-- A fault of `order`: the list that is bad, or a fault of memory, or one of writing. The last comes only if both
-- lists are good.
abbrev pub IsFaultOf : Result (List ℕ) BadList → OrderFault → Type 0
IsFaultOf said (Bad list) = said ≡ Err list
IsFaultOf said (Run Memory) = ⊤
IsFaultOf said (Run (Read fault)) = ⊥
IsFaultOf said (Run (Write fault)) = is_ok said ≡ true

-- whether a fault of `order` is one of writing, whatever the reason
abbrev pub is_order_unwritten : OrderFault → Bool
is_order_unwritten (Bad list) = false
is_order_unwritten (Run fault) = is_unwritten fault
