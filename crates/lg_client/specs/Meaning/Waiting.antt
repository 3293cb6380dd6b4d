-- When a node that can't serve is asked again, and after how long (RFC 9110, sections 10.2.3 and 15.6.4).
use Rattle.std.specs.Prelude.{◌≡◌, ◌⊎◌, ℕ, ◌+◌, ◌-◌, ◌≤◌, ◌^◌, min, max, List, [], ◌∷◌, ◌++◌, length, map, codes}
use Rattle.std.specs.Prelude.{Bool, false, Option, Some, None, Result, Ok, Err, if◌then◌else◌}
use Rattle.std.specs.Str.{str_eq_ignore_ascii_case}
use Rattle.httparse.specs.Spans.{name_and_value}
use Rattle.lg_text.specs.Meaning.Numbers.{number_of}
use Rattle.lg_client.specs.declared.fault.AskFault.{AskFault}
use Rattle.lg_client.specs.declared.fault.AskFault.TheVariants.{Bad, Busy, Memory, Unanswered}
use Rattle.lg_client.specs.declared.unheard.Delay.{Delay}
use Rattle.lg_client.specs.declared.unheard.Delay.TheVariants.{Closed, Told}
use Rattle.lg_client.specs.declared.unheard.Unheard.{Unheard}
use Rattle.lg_client.specs.declared.unheard.Unheard.TheVariants.{Lacking, Later, NoMemory, Wrong}
use Rattle.lg_client.specs.declared.receiving.Answer.{Answer}
use Rattle.lg_client.specs.Meaning.Answers.{IsDisallowed, IsHttpAnswer}
use Rattle.lg_client.specs.Meaning.Questions.{is_code_of}

-- the status code of a server that can't serve now
abbrev pub unavailable : ℕ
unavailable = 503

-- whether a name is that of the field that says after how long to ask again
abbrev pub is_retry : List ℕ → Bool
is_retry name = str_eq_ignore_ascii_case name (codes "retry-after")

-- The seconds that a field says, or else those that others say. A date says none, nor does a number of more than 16
-- digits (this project's choice).
abbrev pub delay_with : List ℕ → List ℕ → Option ℕ → Option ℕ
delay_with name value others = if is_retry name then number_of value else others

-- the seconds that fields say, each given by its name and its value: those of the first field with that name
abbrev pub delay_said : List (List ℕ × List ℕ) → Option ℕ
delay_said [] = None
delay_said (field ∷ others) = delay_with field.0 field.1 (delay_said others)

-- the bytes are an answer that says after how many seconds to ask again
pub record SaysLater (bytes : List ℕ) (seconds : ℕ) : Type 0 where
  pub body : List ℕ
  pub is : IsHttpAnswer bytes unavailable body
  pub says : delay_said (map name_and_value is.head.fields) ≡ Some seconds

-- the bytes are an answer whose status code isn't allowed, and it doesn't say after how many seconds to ask again
pub record IsTurnedDown (allowed : List ℕ) (bytes : List ℕ) : Type 0 where
  pub disallowed : IsDisallowed allowed bytes
  pub final : (seconds : ℕ) → ¬ (SaysLater bytes seconds)

-- The node is too busy for a question: its connection was closed before a byte came, or the answer says to ask later,
-- and this status code isn't one of those that are allowed.
abbrev pub IsPutOff : List ℕ → List ℕ → Type 0
IsPutOff allowed bytes =
    (bytes ≡ []) ⊎ ((seconds : ℕ) × SaysLater bytes seconds × (is_code_of allowed unavailable ≡ false))

-- the least and the most that is waited, in seconds (this project's choice)
abbrev pub least_wait : ℕ
least_wait = 1

abbrev pub most_wait : ℕ
most_wait = 5

-- How long is waited, in seconds: as the answer says, but at least 1 and at most 5. Behind a connection that was closed
-- it is 1.
abbrev pub seconds_of : Delay → ℕ
seconds_of (Told said) = max least_wait (min most_wait said)
seconds_of Closed = least_wait

-- A question and its outcome, or a wait of so many seconds. Or a node was asked to leave by this name, with this
-- outcome; or it was tried to connect to it, and whether that could be done; or a pause of so many milliseconds.
pub data AskEvent : Type 0 where
  Asked : Result Answer Unheard → AskEvent
  Waited : ℕ → AskEvent
  AskedToLeave : List ℕ → Result Answer Unheard → AskEvent
  Connected : Bool → AskEvent
  Paused : ℕ → AskEvent

-- the fault that is told if a question has this outcome and isn't asked again
abbrev pub ask_fault_of : Unheard → AskFault
ask_fault_of (Later delay) = Busy
ask_fault_of Lacking = Unanswered
ask_fault_of Wrong = Bad
ask_fault_of NoMemory = Memory

abbrev pub told_of : Result Answer Unheard → Result Answer AskFault
told_of (Ok answer) = Ok answer
told_of (Err why) = Err (ask_fault_of why)

-- why a question is to be asked later, if its outcome says so
abbrev pub put_off_by : Unheard → Option Delay
put_off_by (Later delay) = Some delay
put_off_by Lacking = None
put_off_by Wrong = None
put_off_by NoMemory = None

abbrev pub delay_of : Result Answer Unheard → Option Delay
delay_of (Ok answer) = None
delay_of (Err why) = put_off_by why

-- A question is asked once, and that is the outcome.
pub record AsksOnce (log log' : List AskEvent) (result : Result Answer AskFault) : Type 0 where
  pub last : Result Answer Unheard
  pub is : log' ≡ log ++ Asked last ∷ []
  pub told : result ≡ told_of last

-- The outcome of a question says to ask later. So one waits, and asks once more.
pub record AsksOnceMore (log log' : List AskEvent) (result : Result Answer AskFault) : Type 0 where
  pub delay : Delay
  pub last : Result Answer Unheard
  pub is : log' ≡ log ++ Asked (Err (Later delay)) ∷ Waited (seconds_of delay) ∷ Asked last ∷ []
  pub told : result ≡ told_of last

-- A question is asked, and once more if the outcome says to ask later.
abbrev pub AsksTwice : List AskEvent → List AskEvent → Result Answer AskFault → Type 0
AsksTwice log log' result =
    ((it : AsksOnce log log' result) × (delay_of it.last ≡ None)) ⊎ AsksOnceMore log log' result

-- delays, each waited for; the latest of them comes first
abbrev pub put_off : List Delay → List AskEvent
put_off [] = []
put_off (delay ∷ earlier) = put_off earlier ++ Asked (Err (Later delay)) ∷ Waited (seconds_of delay) ∷ []

-- how often the connection was closed in a row, by how often it was before a delay
abbrev pub closed_with : ℕ → Delay → ℕ
closed_with before (Told said) = 0
closed_with before Closed = before + 1

-- the same, behind some delays
abbrev pub closed_in_row : List Delay → ℕ
closed_in_row [] = 0
closed_in_row (delay ∷ earlier) = closed_with (closed_in_row earlier) delay

-- how often in a row it may be closed until one asks no more (this project's choice)
abbrev pub most_closed : ℕ
most_closed = 60

-- how often one is put off until one asks no more, which takes longer than any machine lasts
abbrev pub most_put_off : ℕ
most_put_off = 2 ^ 64 - 1

-- A question is asked, and again for as long as the outcome says to ask later. One waits before each. It ends by
-- another outcome, or by the connection that is closed for the 60th time in a row.
pub record AsksAgain (log log' : List AskEvent) (result : Result Answer AskFault) : Type 0 where
  pub delays : List Delay
  pub last : Result Answer Unheard
  pub is : log' ≡ log ++ (put_off delays ++ Asked last ∷ [])
  pub told : result ≡ told_of last
  pub patient : (delay : Delay) → delay_of last ≡ Some delay
      → (closed_in_row (delay ∷ delays) ≡ most_closed) ⊎ (most_put_off ≤ length delays)
