-- What is done in a folder of recordings, call by call, and what its files have then.
use Rattle.std.specs.Prelude.{ℕ, ◌+◌, ◌≤◌, ◌<◌, Bool, true, false, List, [], ◌∷◌, ◌++◌, length, drop}
use Rattle.lg_recorder.specs.declared.folder.StoredFile.{StoredFile}

-- One call of a folder, and whether it was done: these files were listed; a file with this number was begun; these
-- bytes were appended to the open file; it was closed; the file with this number was deleted.
pub data FolderEvent : Type 0 where
  Listed : List StoredFile → Bool → FolderEvent
  Begun : ℕ → Bool → FolderEvent
  Appended : List ℕ → Bool → FolderEvent
  Closed : FolderEvent
  Deleted : ℕ → Bool → FolderEvent

-- the number of a file
abbrev pub number_of_file : StoredFile → ℕ
number_of_file file = file.number

-- the size of a file
abbrev pub size_of_file : StoredFile → ℕ
size_of_file file = file.size

-- how many bytes some files have together
abbrev pub size_of_all : List StoredFile → ℕ
size_of_all [] = 0
size_of_all (file ∷ files) = file.size + size_of_all files

-- What the files have that took something since a folder is used: for each the bytes of the calls that appended to it,
-- one behind another, the latest file first; and whether a file was begun since that took nothing yet. What a call has
-- written that wasn't done doesn't count.
pub record HeldTexts : Type 0 where
  pub is_fresh : Bool
  pub texts : List (List ℕ)

-- bytes in a file: in one of their own if it is fresh, else behind those that the latest has
abbrev pub with_bytes : Bool → List ℕ → List (List ℕ) → List (List ℕ)
with_bytes true bytes texts = bytes ∷ texts
with_bytes false bytes [] = bytes ∷ []
with_bytes false bytes (text ∷ texts) = (text ++ bytes) ∷ texts

-- what one call does to what the files have
abbrev pub held_after : FolderEvent → HeldTexts → HeldTexts
held_after (Begun number true) h = record { is_fresh = true; texts = h.texts }
held_after (Appended bytes true) h = record { is_fresh = false; texts = with_bytes h.is_fresh bytes h.texts }
held_after _ h = h

-- what the files have after these calls, the latest call first
unfoldable pub held_in : List FolderEvent → HeldTexts
held_in [] = record { is_fresh = false; texts = [] }
held_in (e ∷ past) = held_after e (held_in past)

-- what the files have if each took something
abbrev pub settled_texts : List (List ℕ) → HeldTexts
settled_texts texts = record { is_fresh = false; texts = texts }

-- the number of the file that a call began, before those that were begun earlier
abbrev pub begun_after : FolderEvent → List ℕ → List ℕ
begun_after (Begun number true) numbers = number ∷ numbers
begun_after _ numbers = numbers

-- the numbers of the files that were begun, the latest first
unfoldable pub begun : List FolderEvent → List ℕ
begun [] = []
begun (e ∷ past) = begun_after e (begun past)

-- the number of the file that a call deleted, before those that were deleted earlier
abbrev pub deleted_after : FolderEvent → List ℕ → List ℕ
deleted_after (Deleted number true) numbers = number ∷ numbers
deleted_after _ numbers = numbers

-- the numbers of the files that were deleted, the latest first
unfoldable pub deleted : List FolderEvent → List ℕ
deleted [] = []
deleted (e ∷ past) = deleted_after e (deleted past)

-- the files that a call listed, or those that were listed earlier
abbrev pub listed_after : FolderEvent → List StoredFile → List StoredFile
listed_after (Listed files true) earlier = files
listed_after _ earlier = earlier

-- the files as they were listed last
unfoldable pub listed : List FolderEvent → List StoredFile
listed [] = []
listed (e ∷ past) = listed_after e (listed past)

-- the numbers of these files, deleted one after another, before those that were deleted earlier
unfoldable pub deleted_behind : List StoredFile → List ℕ → List ℕ
deleted_behind [] numbers = numbers
deleted_behind (file ∷ files) numbers = deleted_behind files (file.number ∷ numbers)

-- So many of the files go, the oldest first: the others have at most so many bytes together, and with fewer gone they
-- would have more.
pub record IsLeastDeleted (room : ℕ) (files : List StoredFile) (count : ℕ) : Type 0 where
  pub within : count ≤ length files
  pub fit : size_of_all (drop count files) ≤ room
  pub least : (k : ℕ) → k < count → room < size_of_all (drop k files)
