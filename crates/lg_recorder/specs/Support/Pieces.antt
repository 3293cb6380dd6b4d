-- How far the appending of a batch has come.
use Rattle.std.specs.Prelude.{◌≡◌, ℕ, ◌-◌, ◌≤◌, Bool, true, List, ◌++◌, length, take}
use Rattle.std.specs.List.{concat}
use Rattle.lg_recorder.specs.declared.appending.Progress.{Progress}
use Rattle.lg_recorder.specs.Meaning.Folders.{FolderEvent}
use Rattle.lg_recorder.specs.Meaning.Holding.{LatestGrows, NoFileChanged}

-- The first entries of a batch are appended, of at most so many, to a file that had so many bytes left.
pub record Stopped
    (tells : Bool) (chunks : List (List ℕ)) (left : ℕ) (past past' : List FolderEvent) (progress : Progress) (most : ℕ)
    : Type 0 where
  pub within : progress.entries ≤ most
  pub left_is : progress.left ≡ left - length (concat (take progress.entries chunks))
  pub grown : tells ≡ true → LatestGrows past past' (concat (take progress.entries chunks))
  pub same : tells ≡ true → NoFileChanged past past'

-- They are, and the text has those behind them, up to an index.
pub record Appending
    (tells : Bool) (chunks : List (List ℕ)) (left : ℕ) (past past' : List FolderEvent) (progress : Progress)
    (index : ℕ) (text : List ℕ)
    : Type 0 where
  pub stopped : Stopped tells chunks left past past' progress index
  pub text_is : concat (take progress.entries chunks) ++ text ≡ concat (take index chunks)
