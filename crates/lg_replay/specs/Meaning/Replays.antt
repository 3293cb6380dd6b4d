-- What the replay of the files of recordings tells, and how it ends. The files are given in the order of their numbers.
use Rattle.std.specs.Prelude.{ℕ, ◌==◌, if◌then◌else◌, Bool, true, false, ◌||◌, ◌&&◌, not}
use Rattle.std.specs.Prelude.{List, [], ◌∷◌, ◌++◌, Option, Some, None, Result, Ok, Err}
use Rattle.std.specs.List.{list_any}
use Rattle.lg_fields.specs.declared.fault.FieldFault.{FieldFault}
use Rattle.lg_fields.specs.declared.fault.FieldFault.TheVariants.{Short}
use Rattle.lg_replay.specs.declared.end.ReplayEnd.{ReplayEnd}
use Rattle.lg_replay.specs.declared.end.ReplayEnd.TheVariants.{Done, Faulty, Unchecked}
use Rattle.lg_replay.specs.declared.verdict.Verdict.{Verdict}
use Rattle.lg_replay.specs.declared.window.Window.{Window}
use Rattle.lg_replay.specs.Meaning.Files.{FileRead, RecordingFile, file_text, file_verdicts, life_over, read_of}
use Rattle.lg_replay.specs.Meaning.Lives.{Life, unknown_life}
use Rattle.lg_replay.specs.Meaning.Verdicts.{counts_line, is_differing, is_unchecked}

-- the life behind some files
abbrev pub lives_over : Life → List RecordingFile → Life
lives_over life [] = life
lives_over life (x ∷ xs) = lives_over (life_over life x) xs

-- the verdicts on all entries of some files
abbrev pub all_verdicts : Life → List RecordingFile → List Verdict
all_verdicts life [] = []
all_verdicts life (x ∷ xs) = file_verdicts life x ++ all_verdicts (life_over life x) xs

-- what is told of some files
abbrev pub files_text : Window → Life → List RecordingFile → List ℕ
files_text window life [] = []
files_text window life (x ∷ xs) = file_text window life x ++ files_text window (life_over life x) xs

-- The fault of a file: that of its head, or the one at which its entries end.
abbrev pub fault_of_read : Result FileRead FieldFault → Option FieldFault
fault_of_read (Ok read) = read.fault
fault_of_read (Err fault) = Some fault

-- whether a file breaks off: its last chunk isn't there whole
abbrev pub is_short : FieldFault → Bool
is_short Short = true
is_short _ = false

abbrev pub breaks_off : Option FieldFault → Bool
breaks_off None = false
breaks_off (Some fault) = is_short fault

-- whether something else is wrong with a file
abbrev pub is_broken : Option FieldFault → Bool
is_broken None = false
is_broken (Some fault) = not (is_short fault)

-- whether a life begins with a file
abbrev pub begins_by : Result FileRead FieldFault → Bool
begins_by (Ok read) = read.head.first == 0
begins_by (Err fault) = false

-- Whether a file with these behind it is the last of a life: none is behind it, or a life begins with the next.
abbrev pub ends_life : List RecordingFile → Bool
ends_life [] = true
ends_life (x ∷ xs) = begins_by (read_of x)

-- Whether a file with these behind it is amiss. It may break off if it is the last of a life: then the node ended
-- while it wrote.
abbrev pub is_amiss : Option FieldFault → List RecordingFile → Bool
is_amiss fault behind = is_broken fault || (breaks_off fault && not (ends_life behind))

abbrev pub any_amiss : List RecordingFile → Bool
any_amiss [] = false
any_amiss (x ∷ xs) = is_amiss (fault_of_read (read_of x)) xs || any_amiss xs

-- what the replay of some files tells
unfoldable pub replay_text : Window → List RecordingFile → List ℕ
replay_text window files =
    files_text window unknown_life files ++ counts_line (all_verdicts unknown_life files)

-- How it ends: faulty if a reply differs or a file is amiss, and unchecked if it isn't, and some replies couldn't be
-- checked.
abbrev pub replay_end_by : (faulty unchecked : Bool) → ReplayEnd
replay_end_by faulty unchecked = if faulty then Faulty else if unchecked then Unchecked else Done

unfoldable pub replay_end : List RecordingFile → ReplayEnd
replay_end files =
    let verdicts = all_verdicts unknown_life files in
    replay_end_by (list_any is_differing verdicts || any_amiss files) (list_any is_unchecked verdicts)
