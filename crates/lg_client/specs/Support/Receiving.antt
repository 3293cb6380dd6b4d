-- What the steps of receiving give.
use Rattle.std.specs.Prelude.{◌≡◌, ◌⊎◌, ℕ, ◌+◌, ◌≤◌, nat_lt, List, [], ◌∷◌, ◌++◌, length, drop, map, ⊤, if◌then◌else◌}
use Rattle.std.specs.Prelude.{false, Option, Result, Ok, Err}
use Rattle.httparse.specs.Spans.{name_and_value}
use Rattle.lg_client.specs.declared.fault.AskFault.{AskFault}
use Rattle.lg_client.specs.declared.fault.AskFault.TheVariants.{Address, Bad, Busy, Memory, Unanswered, Write}
use Rattle.lg_client.specs.declared.heard.Heard.{Heard}
use Rattle.lg_client.specs.declared.heard.Heard.TheVariants.{Cut, Other, Whole}
use Rattle.lg_client.specs.declared.heard.Said.{Said}
use Rattle.lg_client.specs.declared.heard.Said.TheVariants.{Length, Nothing, Unclear}
use Rattle.lg_client.specs.declared.receiving.Answer.{Answer}
use Rattle.lg_client.specs.declared.unheard.Delay.{Delay}
use Rattle.lg_client.specs.declared.unheard.Delay.TheVariants.{Closed, Told}
use Rattle.lg_client.specs.declared.unheard.Unheard.{Unheard}
use Rattle.lg_client.specs.declared.unheard.Unheard.TheVariants.{Lacking, Later, NoMemory, Wrong}
use Rattle.lg_client.specs.Meaning.Answers.{IsAnswerBody, IsCutShort, IsHttpAnswer, IsOther, most_answer}
use Rattle.lg_client.specs.Meaning.Questions.{is_code_of}
use Rattle.lg_client.specs.Meaning.Waiting.{AskEvent, IsPutOff, IsTurnedDown, SaysLater}
use Rattle.lg_client.specs.Meaning.Waiting.{closed_in_row, delay_said, put_off, unavailable}

-- what so many bytes are if the body ends there
abbrev pub heard_until : ℕ → ℕ → ℕ → ℕ → Heard
heard_until count code start end =
    if nat_lt most_answer end then Other
    else if nat_lt end count then Other
    else if nat_lt count end then Cut
    else Whole code start

-- what so many bytes are if their head is whole, its body begins at `start`, and its fields say this of the length
abbrev pub heard_by : ℕ → ℕ → ℕ → Said → Heard
heard_by count code start Nothing = Other
heard_by count code start (Length n) = heard_until count code start (start + n)
heard_by count code start Unclear = Other

-- The bytes that came are an answer, or why none came.
abbrev pub IsReceived : Result Answer Unheard → Type 0
IsReceived (Ok answer) =
    (answer.start ≤ length answer.bytes.items)
    × IsHttpAnswer answer.bytes.items answer.code (drop answer.start answer.bytes.items)
IsReceived (Err (Later (Told seconds))) = ⊥
IsReceived (Err (Later Closed)) = ⊤
IsReceived (Err Lacking) = (bytes : List ℕ) × IsCutShort bytes
IsReceived (Err Wrong) = (bytes : List ℕ) × IsOther bytes
IsReceived (Err NoMemory) = ⊤

-- What the end of a connection means behind some bytes: a busy node closes it before the first, and else the answer
-- is lacking.
abbrev pub end_behind : List ℕ → Unheard
end_behind [] = Later Closed
end_behind (byte ∷ bytes) = Lacking

-- Why no more bytes come behind these. That a busy node closed the connection it is only if there are none.
abbrev pub IsEndBehind : List ℕ → Unheard → Type 0
IsEndBehind bytes (Later (Told seconds)) = ⊥
IsEndBehind bytes (Later Closed) = bytes ≡ []
IsEndBehind bytes Lacking = ⊤
IsEndBehind bytes Wrong = ⊥
IsEndBehind bytes NoMemory = ⊤

-- What was received, if only some status codes are allowed.
abbrev pub IsHeard : List ℕ → Result Answer Unheard → Type 0
IsHeard allowed (Ok answer) =
    (answer.start ≤ length answer.bytes.items) × IsAnswerBody allowed (drop answer.start answer.bytes.items)
IsHeard allowed (Err (Later (Told seconds))) =
    (bytes : List ℕ) × SaysLater bytes seconds × (is_code_of allowed unavailable ≡ false)
IsHeard allowed (Err (Later Closed)) = ⊤
IsHeard allowed (Err Lacking) = (bytes : List ℕ) × IsCutShort bytes
IsHeard allowed (Err Wrong) =
    ((bytes : List ℕ) × IsOther bytes) ⊎ ((bytes : List ℕ) × IsTurnedDown allowed bytes)
IsHeard allowed (Err NoMemory) = ⊤

-- Why an answer with a status code that isn't allowed doesn't count.
abbrev pub IsTurnedDownBy : List ℕ → Unheard → Type 0
IsTurnedDownBy allowed (Later (Told seconds)) =
    (bytes : List ℕ) × SaysLater bytes seconds × (is_code_of allowed unavailable ≡ false)
IsTurnedDownBy allowed (Later Closed) = ⊥
IsTurnedDownBy allowed Lacking = ⊥
IsTurnedDownBy allowed Wrong = (bytes : List ℕ) × IsTurnedDown allowed bytes
IsTurnedDownBy allowed NoMemory = ⊥

-- What was heard, once the question isn't asked again.
abbrev pub IsFetched : List ℕ → Result Answer AskFault → Type 0
IsFetched allowed (Ok answer) =
    (answer.start ≤ length answer.bytes.items) × IsAnswerBody allowed (drop answer.start answer.bytes.items)
IsFetched allowed (Err Address) = ⊥
IsFetched allowed (Err Unanswered) = (bytes : List ℕ) × IsCutShort bytes
IsFetched allowed (Err Busy) = (bytes : List ℕ) × IsPutOff allowed bytes
IsFetched allowed (Err Bad) =
    ((bytes : List ℕ) × IsOther bytes) ⊎ ((bytes : List ℕ) × IsTurnedDown allowed bytes)
IsFetched allowed (Err Memory) = ⊤
IsFetched allowed (Err (Write fault)) = ⊥

-- the seconds that the head says if the bytes are an answer
abbrev pub HeadSays : List ℕ → Option ℕ → Type 0
HeadSays bytes said = (code : ℕ) (body : List ℕ) (it : IsHttpAnswer bytes code body)
    → delay_said (map name_and_value it.head.fields) ≡ said

-- Delays that were waited for so far, and how often the connection was closed in a row.
pub record IsPatient (log log' : List AskEvent) (count closed : ℕ) : Type 0 where
  pub delays : List Delay
  pub is : log' ≡ log ++ put_off delays
  pub count_is : length delays ≡ count
  pub closed_is : closed_in_row delays ≡ closed
