-- A node is asked a question, and what it answers is told. Which bytes come is up to the network.
use Rattle.std.specs.Prelude.{◌≡◌, ◌⊎◌, ℕ, Bool, List, Option, Some, None, if◌then◌else◌}
use Rattle.std.specs.Io.KnownBytes.{Appends}
use Rattle.lg_text.specs.Meaning.Reporting.{Reported, Reports}
use Rattle.lg_text.specs.Meaning.Running.{AppendsFront}
use Rattle.lg_text.specs.declared.fault.WriteFault.{WriteFault}
use Rattle.lg_client.specs.declared.fault.AskFault.{AskFault}
use Rattle.lg_client.specs.declared.fault.AskFault.TheVariants.{Address, Bad, Busy, Memory, Unanswered, Write}
use Rattle.lg_client.specs.declared.resource.Resource.{Resource}
use Rattle.lg_client.specs.Meaning.Addresses.{HasNodeAddress}
use Rattle.lg_client.specs.Meaning.Answers.{IsAnswerBody, IsCutShort, IsOther}
use Rattle.lg_client.specs.Meaning.Faults.{ask_fault_status, ask_fault_text}
use Rattle.lg_client.specs.Meaning.Questions.{codes_of}
use Rattle.lg_client.specs.Meaning.Told.{AnswerText, question_told}
use Rattle.lg_client.specs.Meaning.Waiting.{IsPutOff, IsTurnedDown}

-- Bytes that came are bad: they are no answer, whatever follows; or an answer with a status code that isn't allowed,
-- which doesn't say to ask later; or one whose body tells nothing.
abbrev pub IsBad : {A : Type 0} → List ℕ → (List ℕ → Option A) → Type 0
IsBad allowed told =
    (((bytes : List ℕ) × IsOther bytes) ⊎ ((bytes : List ℕ) × IsTurnedDown allowed bytes))
    ⊎ ((body : List ℕ) × IsAnswerBody allowed body × (told body ≡ None))

-- Why nothing is told of an answer: the text spells no address; or it spells one, and what came was cut short or bad,
-- or the node was too busy, or memory was refused.
abbrev pub IsWhyUntold : {A : Type 0} → List ℕ → List ℕ → (List ℕ → Option A) → AskFault → Type 0
IsWhyUntold at allowed told Address = ¬ (HasNodeAddress at)
IsWhyUntold at allowed told Unanswered = HasNodeAddress at × ((bytes : List ℕ) × IsCutShort bytes)
IsWhyUntold at allowed told Bad = HasNodeAddress at × IsBad allowed told
IsWhyUntold at allowed told Busy = HasNodeAddress at × ((bytes : List ℕ) × IsPutOff allowed bytes)
IsWhyUntold at allowed told Memory = HasNodeAddress at
IsWhyUntold at allowed told (Write fault) = ⊥

-- A fault is told in its line, as far as that is taken, and nothing is written.
pub record TellsFaultAlone
    {A W : Type 0} (at allowed : List ℕ) (told : List ℕ → Option A) (before after : W)
    (reported reports : Reported) (status : ℕ)
    : Type 0 where
  pub fault : AskFault
  pub why : IsWhyUntold at allowed told fault
  pub unwritten : after ≡ before
  pub line : Reports reported reports (ask_fault_text fault)
  pub is : status ≡ ask_fault_status fault

-- A text is written whole, and nothing is reported.
pub record WritesWhole (held holds : Option (List ℕ)) (reported reports : Reported) (text : List ℕ) : Type 0 where
  pub written : Appends held holds text
  pub silent : reports ≡ reported

-- A text isn't written whole, but a beginning of it may be. That is told, and why, as far as that is taken.
pub record WritesFront
    (held holds : Option (List ℕ)) (reported reports : Reported) (text : List ℕ) (status : ℕ) : Type 0 where
  pub partly : AppendsFront held holds text
  pub fault : WriteFault
  pub line : Reports reported reports (ask_fault_text (Write fault))
  pub is : status ≡ ask_fault_status (Write fault)

-- the status of what is told
abbrev pub told_status : Bool → ℕ
told_status ousted = if ousted then 4 else 0

-- What an answer tells is written, with its status; or a beginning of it.
abbrev pub IsAnswerTold : (held holds : Option (List ℕ)) (reported reports : Reported) → AnswerText → ℕ → Type 0
IsAnswerTold held holds reported reports told status =
    (WritesWhole held holds reported reports told.text × (status ≡ told_status told.ousted))
    ⊎ WritesFront held holds reported reports told.text status

-- Some answer with an allowed status code comes, and what its body tells is written.
pub record TellsTold
    (at : List ℕ) (resource : Resource) (json : Bool) (held holds : Option (List ℕ)) (reported reports : Reported)
    (status : ℕ)
    : Type 0 where
  pub address : HasNodeAddress at
  pub body : List ℕ
  pub answered : IsAnswerBody (codes_of resource) body
  pub told : AnswerText
  pub says : question_told resource json body ≡ Some told
  pub ends : IsAnswerTold held holds reported reports told status

-- A node is asked a question. What some answer tells is written, or it is told why nothing is.
abbrev pub TellsAnswer :
    {W : Type 0} → (at : List ℕ) → Resource → (json : Bool) (before after : W)
    (held holds : Option (List ℕ)) (reported reports : Reported) (status : ℕ) → Type 0
TellsAnswer at resource json before after held holds reported reports status =
    TellsTold at resource json held holds reported reports status
    ⊎ TellsFaultAlone at (codes_of resource) (question_told resource json) before after reported reports status
