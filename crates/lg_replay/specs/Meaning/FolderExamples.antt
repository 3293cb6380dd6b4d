-- Worked rows of the replay of a folder.
use Rattle.std.specs.Prelude.{◌≡◌, Ok, List, [], ◌∷◌, ◌++◌, None, codes, refl}
use Rattle.lg_lines.specs.Meaning.Examples.{by_computing}
use Rattle.lg_text.specs.Meaning.Lines.{newline}
use Rattle.lg_replay.specs.declared.verdict.Verdict.TheVariants.{Same, Differs, Unchecked}
use Rattle.lg_replay.specs.declared.window.Window.{Window}
use Rattle.lg_replay.specs.Meaning.Files.{RecordingFile}
use Rattle.lg_replay.specs.Meaning.Folders.{files_read, text_before}
use Rattle.lg_replay.specs.Meaning.Folders.FilesCall.{Listed, Read}
use Rattle.lg_replay.specs.Meaning.Replays.{replay_text}
use Rattle.lg_replay.specs.Meaning.Verdicts.{counts_of}

-- an empty file, and one of a byte
abbrev both : List RecordingFile
both = record { number = 7; bytes = [] } ∷ record { number = 12; bytes = 76 ∷ [] } ∷ []

-- the latest call is the first
both_are_read :
    files_read both (Listed (7 ∷ 12 ∷ []) (Ok tt) ∷ [])
    ≡ Read 12 (76 ∷ []) (Ok tt) ∷ Read 7 [] (Ok tt) ∷ Listed (7 ∷ 12 ∷ []) (Ok tt) ∷ []
both_are_read = refl

abbrev whole : Window
whole = record { from = 0; to = 9; only = None }

-- while a file is left, there is no last line
some_are_left : text_before whole [] (7 ∷ []) ≡ []
some_are_left = refl

none_is_left : text_before whole [] [] ≡ codes "entries 0 checked 0 differing 0 unchecked 0" ++ newline
unfolding replay_text by_computing
none_is_left = refl

four_are_counted : counts_of (Same ∷ Differs ∷ Unchecked ∷ Same ∷ []) ≡ record {
  entries = 4;
  differing = 1;
  unchecked = 1;
}
four_are_counted = refl
