-- A node is asked for changes again and again, until that fails. Of several answers the latest comes first.
use Rattle.std.specs.Prelude.{◌≡◌, ◌⊎◌, ℕ, Bool, true, false, nat_lt, List, [], ◌∷◌, ◌++◌, Option, Some, ⊤}
use Rattle.std.specs.Prelude.{if◌then◌else◌}
use Rattle.std.specs.Io.KnownBytes.{Appends}
use Rattle.lg_text.specs.Meaning.Reporting.{Reported}
use Rattle.lg_text.specs.Meaning.Steps.{◌>>=◌}
use Rattle.lg_client.specs.Meaning.Addresses.{HasNodeAddress}
use Rattle.lg_client.specs.Meaning.Answers.{IsAnswerBody}
use Rattle.lg_client.specs.Meaning.Questions.{changes_codes}
use Rattle.lg_client.specs.Meaning.Telling.{TellsFaultAlone, WritesFront}
use Rattle.lg_client.specs.Meaning.Told.{NewsText, changes_told}

-- The version to ask from next: that of the answer. If it is less than what was asked for, the node has begun anew, and
-- it is 0.
abbrev pub next_version : ℕ → ℕ → ℕ
next_version asked version = if nat_lt version asked then 0 else version

-- whether there was no answer yet
abbrev pub is_none_yet : List (List ℕ) → Bool
is_none_yet [] = true
is_none_yet (body ∷ earlier) = false

-- the texts of some answers, one behind another, and the version to ask from next
pub record Watched : Type 0 where
  pub text : List ℕ
  pub version : ℕ

abbrev pub watched_with : Watched → NewsText → Watched
watched_with before news =
    record { text = before.text ++ news.text; version = next_version before.version news.version }

-- what the bodies of some answers tell, the latest first; nothing if one of them tells nothing
abbrev pub bodies_told : Bool → List (List ℕ) → Option Watched
bodies_told json [] = Some record { text = []; version = 0 }
bodies_told json (body ∷ earlier) = do
  before ← bodies_told json earlier
  news ← changes_told json (is_none_yet earlier) body
  Some (watched_with before news)

-- each of them is that of an answer
abbrev pub AreAnswerBodies : List (List ℕ) → Type 0
AreAnswerBodies [] = ⊤
AreAnswerBodies (body ∷ earlier) = IsAnswerBody changes_codes body × AreAnswerBodies earlier

-- The texts of some answers are written, one behind another. Nothing is reported.
pub record Watches
    (json : Bool) (bodies : List (List ℕ)) (watched : Watched) (held holds : Option (List ℕ))
    (reported reports : Reported)
    : Type 0 where
  pub answered : AreAnswerBodies bodies
  pub told : bodies_told json bodies ≡ Some watched
  pub written : Appends held holds watched.text
  pub silent : reports ≡ reported

-- The next answer's text isn't written whole.
pub record BreaksOff
    (json : Bool) (bodies : List (List ℕ)) (held holds : Option (List ℕ)) (reported reports : Reported) (status : ℕ)
    : Type 0 where
  pub body : List ℕ
  pub answered : IsAnswerBody changes_codes body
  pub news : NewsText
  pub told : changes_told json (is_none_yet bodies) body ≡ Some news
  pub ends : WritesFront held holds reported reports news.text status

-- The end, behind some answers: the next isn't told, or isn't written whole.
abbrev pub EndsNews :
    {W : Type 0} → (at : List ℕ) (json : Bool) (bodies : List (List ℕ)) (before after : W)
    (held holds : Option (List ℕ)) (reported reports : Reported) (status : ℕ) → Type 0
EndsNews at json bodies before after held holds reported reports status =
    TellsFaultAlone at changes_codes (changes_told json (is_none_yet bodies)) before after reported reports status
    ⊎ BreaksOff json bodies held holds reported reports status

-- A node is asked for changes. The texts of some answers are written, one behind another, and then it ends. If there is
-- no address, there is no answer.
pub record WatchesChanges
    {W : Type 0} (at : List ℕ) (json : Bool) (before after : W) (held holds : Option (List ℕ))
    (reported reports : Reported) (status : ℕ)
    : Type 0 where
  pub bodies : List (List ℕ)
  pub watched : Watched
  pub between : W
  pub has : Option (List ℕ)
  pub told : Reported
  pub watches : Watches json bodies watched held has reported told
  pub begins : bodies ≡ [] → between ≡ before
  pub ends : EndsNews at json bodies between after has holds told reports status
  pub unasked : ¬ (HasNodeAddress at) → bodies ≡ []
