-- A node is asked to leave its group, and one waits until it has ended (this project's choice). Which bytes come, and
-- how long anything takes, is up to the network.
use Rattle.std.specs.Prelude.{◌≡◌, ◌⊎◌, ℕ, zero, suc, ◌≤◌, Bool, true, false, List, [], ◌∷◌, ◌++◌, codes, drop}
use Rattle.std.specs.Prelude.{if◌then◌else◌, Option, Some, None, Result, Ok, Err, option_and_then}
use Rattle.std.specs.Str.{bytes_eq}
use Rattle.lg_text.specs.Meaning.Lines.{newline}
use Rattle.lg_text.specs.Meaning.Names.{member_name_of}
use Rattle.lg_text.specs.Meaning.Reporting.{Reported, Reports}
use Rattle.lg_client.specs.declared.fault.AskFault.{AskFault}
use Rattle.lg_client.specs.declared.fault.AskFault.TheVariants.{Address, Bad, Memory}
use Rattle.lg_client.specs.declared.leave_fault.LeaveFault.{LeaveFault}
use Rattle.lg_client.specs.declared.leave_fault.LeaveFault.TheVariants.{Asking, Name, Staying}
use Rattle.lg_client.specs.declared.receiving.Answer.{Answer}
use Rattle.lg_client.specs.declared.resource.Resource.TheVariants.{Health}
use Rattle.lg_client.specs.declared.unheard.Unheard.{Unheard}
use Rattle.lg_client.specs.Meaning.Addresses.{HasNodeAddress}
use Rattle.lg_client.specs.Meaning.Answers.{IsAnswerBody}
use Rattle.lg_client.specs.Meaning.Faults.{ask_fault_status, ask_fault_text}
use Rattle.lg_client.specs.Meaning.Fields.{json_of, name_at_key}
use Rattle.lg_client.specs.Meaning.Questions.{codes_of, leave_codes}
use Rattle.lg_client.specs.Meaning.Telling.{IsWhyUntold}
use Rattle.lg_client.specs.Meaning.Waiting.{AskEvent, AsksTwice, told_of}
use Rattle.lg_client.specs.Meaning.Waiting.AskEvent.{AskedToLeave, Connected, Paused}

-- the exit status and the line of each fault
abbrev pub leave_fault_status : LeaveFault → ℕ
leave_fault_status Name = 3
leave_fault_status (Asking fault) = ask_fault_status fault
leave_fault_status Staying = 1

abbrev pub leave_fault_text : LeaveFault → List ℕ
leave_fault_text Name = codes "lg: bad names" ++ newline
leave_fault_text (Asking fault) = ask_fault_text fault
leave_fault_text Staying = codes "lg: not ended" ++ newline

-- the name that a body has at a key
abbrev pub name_told : List ℕ → List ℕ → Option (List ℕ)
name_told key body = option_and_then (name_at_key key) (json_of body)

-- The name that leaves, as a body says it. A body that says another than this one says none.
abbrev pub same_name : List ℕ → Option (List ℕ) → Option (List ℕ)
same_name name (Some said) = if bytes_eq said name then Some said else None
same_name name None = None

abbrev pub leaving_told : List ℕ → List ℕ → Option (List ℕ)
leaving_told name body = same_name name (name_told (codes "leaving") body)

-- The name by which a node is asked to leave: the one that is given, or the one that its health says if none is given.
abbrev pub IsAskedAs : List ℕ → List ℕ → Type 0
IsAskedAs given name =
    (member_name_of given ≡ Some name)
    ⊎ ((given ≡ [])
    × ((body : List ℕ) × IsAnswerBody (codes_of Health) body × (name_told (codes "name") body ≡ Some name)))

-- The node answers, to one who asks it by this name, that it leaves.
pub record IsLeaving (given : List ℕ) : Type 0 where
  pub name : List ℕ
  pub named : IsAskedAs given name
  pub body : List ℕ
  pub answered : IsAnswerBody leave_codes body
  pub says : leaving_told name body ≡ Some name

-- Why it isn't known that a node has left: the text that is given is no name; or there is no address, its name isn't
-- told, or it isn't told that it leaves; or that was told, and it didn't end in time.
abbrev pub IsWhyNotLeft : List ℕ → List ℕ → LeaveFault → Type 0
IsWhyNotLeft at given Name = ¬ (given ≡ []) × (member_name_of given ≡ None)
IsWhyNotLeft at given (Asking fault) =
    ((fault ≡ Address) × ¬ (HasNodeAddress at))
    ⊎ (((given ≡ []) × IsWhyUntold at (codes_of Health) (name_told (codes "name")) fault)
    ⊎ ((name : List ℕ) × IsAskedAs given name × IsWhyUntold at leave_codes (leaving_told name) fault))
IsWhyNotLeft at given Staying = HasNodeAddress at × IsLeaving given

-- The node says that it leaves, and nothing is reported. `AwaitsEnd` says how its end is waited for.
pub record HasGone (at given : List ℕ) (reported reports : Reported) (status : ℕ) : Type 0 where
  pub address : HasNodeAddress at
  pub leaving : IsLeaving given
  pub silent : reports ≡ reported
  pub is : status ≡ 0

-- A fault is told in its line, as far as that is taken.
pub record TellsLeaveFault (at given : List ℕ) (reported reports : Reported) (status : ℕ) : Type 0 where
  pub fault : LeaveFault
  pub why : IsWhyNotLeft at given fault
  pub line : Reports reported reports (leave_fault_text fault)
  pub is : status ≡ leave_fault_status fault

-- The node at an address is asked to leave. It says that it does, or a fault is told.
abbrev pub LeavesNode : (at given : List ℕ) (reported reports : Reported) (status : ℕ) → Type 0
LeavesNode at given reported reports status =
    HasGone at given reported reports status ⊎ TellsLeaveFault at given reported reports status

-- How long one pauses between two connections, in milliseconds, and behind how many of them one gives up. That is
-- behind 70,000 milliseconds, and a node that leaves goes on for one interval, 60,000 at most.
abbrev pub pause_ms : ℕ
pause_ms = 100

abbrev pub most_connections : ℕ
most_connections = 700

-- so many connections that could be made, and a pause behind each
abbrev pub connected_again : ℕ → List AskEvent
connected_again zero = []
connected_again (suc n) = connected_again n ++ Connected true ∷ Paused pause_ms ∷ []

-- the connection that can't be made, if the node has ended
abbrev pub last_connection : Bool → List AskEvent
last_connection true = Connected false ∷ []
last_connection false = []

-- One connects to the node, and again behind each connection that can be made, with a pause before. Once one can't be
-- made, the node has ended. It hasn't, as far as is known, if as many could be made as are tried.
pub record AwaitsEnd (log log' : List AskEvent) (ended : Bool) : Type 0 where
  pub count : ℕ
  pub few : count ≤ most_connections
  pub is : log' ≡ log ++ (connected_again count ++ last_connection ended)
  pub all : ended ≡ false → count ≡ most_connections

-- the body of an answer
abbrev pub body_of_answer : Answer → List ℕ
body_of_answer answer = drop answer.start answer.bytes.items

-- What follows of an answer, or of the fault that there is none: the name that its body says, if it is this one. Else
-- the answer is bad, unless memory to read it is refused.
abbrev pub TellsLeaving : List ℕ → Result Answer AskFault → Result (List ℕ) AskFault → Type 0
TellsLeaving name (Err fault) result = result ≡ Err fault
TellsLeaving name (Ok answer) (Ok said) = leaving_told name (body_of_answer answer) ≡ Some said
TellsLeaving name (Ok answer) (Err fault) =
    (fault ≡ Memory) ⊎ ((fault ≡ Bad) × (leaving_told name (body_of_answer answer) ≡ None))

-- The node is asked once to leave, and that is the outcome.
pub record AsksToLeave (name : List ℕ) (log log' : List AskEvent) (result : Result Answer AskFault) : Type 0 where
  pub last : Result Answer Unheard
  pub is : log' ≡ log ++ AskedToLeave name last ∷ []
  pub told : result ≡ told_of last

-- The node is asked for its health, once more if it is busy.
abbrev pub AsksForHealth : List AskEvent → List AskEvent → Type 0
AsksForHealth log log' = (fetched : Result Answer AskFault) × AsksTwice log log' fetched

-- If no name is given, the node is asked for its health. Else nothing is asked.
abbrev pub FindsName : List ℕ → List AskEvent → List AskEvent → Type 0
FindsName given log log' = (¬ (given ≡ []) × (log' ≡ log)) ⊎ ((given ≡ []) × AsksForHealth log log')

-- There is no name to ask by.
abbrev pub EndsUnasked : (log log' : List AskEvent) → Result (Unit {0}) LeaveFault → Type 0
EndsUnasked log log' result = (log' ≡ log) × ((fault : LeaveFault) × (result ≡ Err fault))

-- The node is asked to leave, and doesn't say that it does. Nothing is waited for.
pub record EndsDenied
    (given : List ℕ) (log log' : List AskEvent) (result : Result (Unit {0}) LeaveFault) : Type 0 where
  pub name : List ℕ
  pub named : IsAskedAs given name
  pub fetched : Result Answer AskFault
  pub asks : AsksToLeave name log log' fetched
  pub fault : AskFault
  pub tells : TellsLeaving name fetched (Err fault)
  pub is : result ≡ Err (Asking fault)

-- what is told once the node has ended, or if it hasn't in time
abbrev pub end_told : Bool → Result (Unit {0}) LeaveFault
end_told true = Ok tt
end_told false = Err Staying

-- The node is asked to leave, it says that it does, and its end is waited for.
pub record EndsAwaited
    (given : List ℕ) (log log' : List AskEvent) (result : Result (Unit {0}) LeaveFault) : Type 0 where
  pub name : List ℕ
  pub named : IsAskedAs given name
  pub fetched : Result Answer AskFault
  pub asked : List AskEvent
  pub asks : AsksToLeave name log asked fetched
  pub said : List ℕ
  pub tells : TellsLeaving name fetched (Ok said)
  pub ended : Bool
  pub awaits : AwaitsEnd asked log' ended
  pub is : result ≡ end_told ended

-- What is done, in order: the name is found, the node is asked to leave, and its end is waited for, as far as it comes.
pub record LeavesInOrder
    (given : List ℕ) (log log' : List AskEvent) (result : Result (Unit {0}) LeaveFault) : Type 0 where
  pub known : List AskEvent
  pub finds : FindsName given log known
  pub goes_on :
      EndsUnasked known log' result ⊎ (EndsDenied given known log' result ⊎ EndsAwaited given known log' result)
