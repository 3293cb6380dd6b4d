-- Worked rows of recordings. The head of a file is its letter, and an entry is a digit.
use Rattle.std.specs.Prelude.{⊤, ◌≡◌, true, false, List, [], ◌∷◌, Some, None, codes, refl}
use Rattle.lg_recorder.specs.declared.folder.StoredFile.{StoredFile}
use Rattle.lg_recorder.specs.Meaning.Batches.{BatchValue, FileRun, entries_of, masked, run_text, told_by_runs}
use Rattle.lg_recorder.specs.Meaning.FileNames.{number_of_name}
use Rattle.lg_recorder.specs.Meaning.Folders.{FolderEvent, begun, deleted, deleted_behind, held_in, listed}
use Rattle.lg_recorder.specs.Meaning.Folders.{size_of_all}
use Rattle.lg_recorder.specs.Meaning.Folders.FolderEvent.{Listed, Begun, Appended, Closed, Deleted}
use Rattle.lg_recorder.specs.Meaning.Holding.{file_size, record_limit, takes_batch}

-- what the rows have to unfold
unfoldable by_recording : ⊤
unfolding held_in begun deleted deleted_behind listed entries_of told_by_runs masked
by_recording = tt

-- files with these numbers and sizes
abbrev one_and_seven : List StoredFile
one_and_seven = record { number = 1; size = 900 } ∷ record { number = 7; size = 30 } ∷ []

-- Two files are listed and the older one is deleted; file 8 is begun with a head and an entry; a piece isn't written,
-- and the file is closed; and then file 9 is begun with a head. The latest call is the first.
abbrev calls : List FolderEvent
calls =
    Appended (codes "B") true
    ∷ Begun 9 true
    ∷ Listed [] true
    ∷ Closed
    ∷ Appended (codes "23") false
    ∷ Appended (codes "1") true
    ∷ Appended (codes "A") true
    ∷ Begun 8 true
    ∷ Deleted 1 true
    ∷ Listed one_and_seven true
    ∷ []

-- what wasn't written doesn't count
texts_of_calls : held_in calls ≡ record { is_fresh = false; texts = codes "B" ∷ codes "A1" ∷ [] }
unfolding by_recording
texts_of_calls = refl

begun_by_calls : begun calls ≡ 9 ∷ 8 ∷ []
unfolding by_recording
begun_by_calls = refl

deleted_by_calls : deleted calls ≡ 1 ∷ []
unfolding by_recording
deleted_by_calls = refl

listed_by_calls : listed calls ≡ []
unfolding by_recording
listed_by_calls = refl

-- a file that was begun and took nothing is fresh, and isn't among the texts
fresh_file : held_in (Appended (codes "A") false ∷ Begun 1 true ∷ []) ≡ record { is_fresh = true; texts = [] }
unfolding by_recording
fresh_file = refl

-- a file that couldn't be begun changes nothing
not_begun : held_in (Begun 1 false ∷ []) ≡ record { is_fresh = false; texts = [] }
unfolding by_recording
not_begun = refl

both_sizes : size_of_all one_and_seven ≡ 930
both_sizes = refl

both_deleted : deleted_behind one_and_seven (5 ∷ []) ≡ 7 ∷ 1 ∷ 5 ∷ []
unfolding by_recording
both_deleted = refl

-- the batch of the entries 0 to 2, and that of 3 and 4
abbrev three : BatchValue
three = record { first = 0; head = codes "A"; chunks = codes "0" ∷ codes "1" ∷ codes "2" ∷ [] }

abbrev two : BatchValue
two = record { first = 3; head = codes "B"; chunks = codes "3" ∷ codes "4" ∷ [] }

entries_of_both :
    entries_of (two ∷ three ∷ [])
    ≡ (0, codes "0") ∷ (1, codes "1") ∷ (2, codes "2") ∷ (3, codes "3") ∷ (4, codes "4") ∷ []
unfolding by_recording
entries_of_both = refl

-- both in one file
abbrev whole : FileRun
whole = record { begun_with = three; chunks = codes "0" ∷ codes "1" ∷ codes "2" ∷ codes "3" ∷ codes "4" ∷ [] }

text_of_whole : run_text whole ≡ codes "A01234"
text_of_whole = refl

-- the last entry of the first batch is lost, so the second begins a file, whose head is its own
abbrev part : FileRun
part = record { begun_with = three; chunks = codes "0" ∷ codes "1" ∷ [] }

abbrev rest : FileRun
rest = record { begun_with = two; chunks = codes "3" ∷ codes "4" ∷ [] }

told_by_both :
    told_by_runs (rest ∷ part ∷ [])
    ≡ (0, codes "0") ∷ (1, codes "1") ∷ (3, codes "3") ∷ (4, codes "4") ∷ []
unfolding by_recording
told_by_both = refl

entry_left_out :
    masked (true ∷ true ∷ false ∷ true ∷ true ∷ []) (entries_of (two ∷ three ∷ []))
    ≡ told_by_runs (rest ∷ part ∷ [])
unfolding by_recording
entry_left_out = refl

-- an eighth, but at most 64,000,000 bytes
size_of_one : file_size 1 ≡ 125000
size_of_one = refl

size_of_many : file_size 100000 ≡ 64000000
size_of_many = refl

limit_of_64 : record_limit 64 ≡ 64000000
limit_of_64 = refl

due_batch : takes_batch (Some (record { number = 1; left = 1; due = 5; is_bare = false })) 5 ≡ true
due_batch = refl

batch_behind_a_gap : takes_batch (Some (record { number = 1; left = 1; due = 5; is_bare = false })) 6 ≡ false
batch_behind_a_gap = refl

full_file : takes_batch (Some (record { number = 1; left = 0; due = 5; is_bare = false })) 5 ≡ false
full_file = refl

no_file : takes_batch None 0 ≡ false
no_file = refl

number_of_seven : number_of_name (codes "0000000007.lgr") ≡ Some 7
number_of_seven = refl

other_ending : number_of_name (codes "0000000007.txt") ≡ None
other_ending = refl

too_short : number_of_name (codes "000000007.lgr") ≡ None
too_short = refl

no_digit : number_of_name (codes "00000000x7.lgr") ≡ None
no_digit = refl
