-- What the steps of asking give.
use Rattle.std.specs.Prelude.{◌≡◌, ℕ, Bool, List, [], ⊤, Option, Some, Result, Ok, Err}
use Rattle.lg_text.specs.Meaning.Reporting.{Reported}
use Rattle.lg_client.specs.declared.fault.AskFault.{AskFault}
use Rattle.lg_client.specs.declared.fault.AskFault.TheVariants.{Address, Bad, Busy, Memory, Unanswered, Write}
use Rattle.lg_client.specs.Meaning.Addresses.{HasNodeAddress}
use Rattle.lg_client.specs.Meaning.Answers.{IsAnswerBody, IsCutShort}
use Rattle.lg_client.specs.Meaning.Telling.{IsBad, IsWhyUntold}
use Rattle.lg_client.specs.Meaning.Waiting.{IsPutOff}
use Rattle.lg_client.specs.Meaning.Watching.{Watched, Watches, is_none_yet}

-- why nothing is told of an answer, once there is an address
abbrev pub IsWhyUnheard : {A : Type 0} → List ℕ → (List ℕ → Option A) → AskFault → Type 0
IsWhyUnheard allowed told Address = ⊥
IsWhyUnheard allowed told Unanswered = (bytes : List ℕ) × IsCutShort bytes
IsWhyUnheard allowed told Bad = IsBad allowed told
IsWhyUnheard allowed told Busy = (bytes : List ℕ) × IsPutOff allowed bytes
IsWhyUnheard allowed told Memory = ⊤
IsWhyUnheard allowed told (Write fault) = ⊥

-- what some answer tells, or why nothing is told
abbrev pub AnswersQuestion : {A B : Type 0} → List ℕ → (B → A) → (List ℕ → Option A) → Result B AskFault → Type 0
AnswersQuestion allowed shown told (Ok it) =
    (body : List ℕ) × IsAnswerBody allowed body × (told body ≡ Some (shown it))
AnswersQuestion allowed shown told (Err fault) = IsWhyUnheard allowed told fault

-- the same of the node at an address
abbrev pub IsToldAt :
    {A B : Type 0} → List ℕ → List ℕ → (B → A) → (List ℕ → Option A) → Result B AskFault → Type 0
IsToldAt at allowed shown told (Ok it) =
    HasNodeAddress at × ((body : List ℕ) × IsAnswerBody allowed body × (told body ≡ Some (shown it)))
IsToldAt at allowed shown told (Err fault) = IsWhyUntold at allowed told fault

-- Some answers were told, and where this leaves the watching: the version to ask from, and whether there was none yet.
pub record IsWatching
    {W : Type 0} (json : Bool) (before after : W) (held holds : Option (List ℕ)) (reported reports : Reported)
    (version : ℕ) (is_first : Bool)
    : Type 0 where
  pub bodies : List (List ℕ)
  pub watched : Watched
  pub watches : Watches json bodies watched held holds reported reports
  pub begins : bodies ≡ [] → after ≡ before
  pub version_is : version ≡ watched.version
  pub first_is : is_first ≡ is_none_yet bodies
