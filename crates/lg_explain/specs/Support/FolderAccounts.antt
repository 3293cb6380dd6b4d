-- How far the explanation of a folder has come.
use Rattle.std.specs.Prelude.{◌≡◌, ℕ, Bool, true, List, [], ◌∷◌, ◌++◌, map}
use Rattle.std.specs.List.{AllByRecursion}
use Rattle.lg_replay.specs.Meaning.Files.{RecordingFile}
use Rattle.lg_replay.specs.Meaning.Folders.{FilesCall, IsReplayable, file_number, files_read}
use Rattle.lg_explain.specs.Meaning.Folders.{file_bytes}
use Rattle.lg_explain.specs.Support.Explained.{HasExplained}
use Rattle.lg_explain.specs.declared.explainer.Explainer.{Explainer}
use Rattle.lg_explain.specs.declared.question.MemberQuestion.{MemberQuestion}

-- Behind the calls `before`, these files were read and taken.
pub record TakenSoFar
    (tells : Bool) (before now : List FilesCall) (e : Explainer) (question : MemberQuestion)
    (files : List RecordingFile)
    : Type 0 where
  pub taken : HasExplained e question (map file_bytes files)
  pub within : AllByRecursion IsReplayable files
  pub calls : tells ≡ true → now ≡ files_read files before

-- And so was one more, of this number.
pub record TakenOnByFile
    (tells : Bool) (before now : List FilesCall) (e : Explainer) (question : MemberQuestion)
    (earlier : List RecordingFile) (number : ℕ)
    : Type 0 where
  pub bytes : List ℕ
  pub so_far : TakenSoFar tells before now e question (earlier ++ record { number = number; bytes = bytes } ∷ [])

-- So were all files with these numbers.
pub record TakenAll
    (tells : Bool) (before now : List FilesCall) (numbers : List ℕ) (e : Explainer) (question : MemberQuestion)
    : Type 0 where
  pub files : List RecordingFile
  pub are : map file_number files ≡ numbers
  pub so_far : TakenSoFar tells before now e question files
