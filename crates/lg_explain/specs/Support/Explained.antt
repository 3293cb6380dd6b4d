-- An explainer is behind some files.
use Rattle.std.specs.Prelude.{◌≡◌, ℕ, List}
use Rattle.lg_explain.specs.Meaning.Places.{FilesRead, recording_read}
use Rattle.lg_explain.specs.Meaning.Tellings.{all_told}
use Rattle.lg_explain.specs.Support.Episodes.{HasGathered}
use Rattle.lg_explain.specs.Support.Positions.{IsAt}
use Rattle.lg_explain.specs.declared.explainer.Explainer.{Explainer}
use Rattle.lg_explain.specs.declared.question.MemberQuestion.{MemberQuestion}

-- It has come so far.
pub record HasReached (e : Explainer) (r : FilesRead) : Type 0 where
  pub at : IsAt e.position r
  pub told : HasGathered e.gathered e.question (all_told r.entries)

-- It has the same question, and whatever it had read, it read these entries of a file behind that.
pub record ReadsOn (old new : Explainer) (more : FilesRead → FilesRead) : Type 0 where
  pub question : new.question ≡ old.question
  pub reached : (r : FilesRead) → HasReached old r → HasReached new (more r)

-- It has this question, and took these files.
pub record HasExplained (e : Explainer) (asked : MemberQuestion) (files : List (List ℕ)) : Type 0 where
  pub question : e.question ≡ asked
  pub reached : HasReached e (recording_read asked.name files)
