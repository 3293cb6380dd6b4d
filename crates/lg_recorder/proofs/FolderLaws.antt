-- What one call more does to what was done in a folder.
use Rattle.std.proofs.Common.{◌≡◌, ℕ, ◌+◌, ◌-◌, ◌≤◌, ◌<◌, Bool, true, false, List, [], ◌∷◌, ◌++◌, zero, suc, length, take, drop, get_or, refl, sym, ap, ◌∙◌, subst, arith, add-one, append-nil, drop-cons}
use Rattle.std.proofs.lemmas.List.{take_more}
use Rattle.lg_recorder.specs.declared.folder.StoredFile.{StoredFile}
use Rattle.lg_recorder.specs.Meaning.Folders.{FolderEvent, HeldTexts, begun, begun_after, deleted, deleted_after, deleted_behind, held_in, held_after, listed, listed_after, size_of_all, settled_texts, IsLeastDeleted}
use Rattle.lg_recorder.specs.Meaning.Folders.FolderEvent.{Listed, Begun, Appended, Closed, Deleted}
use Rattle.lg_recorder.specs.declared.recorder.OpenFile.{OpenFile}
use Rattle.lg_recorder.specs.Meaning.Batches.{BatchValue}
use Rattle.lg_recorder.specs.Meaning.Holding.{LatestGrows, MakesRoom, NoFileChanged}
use Rattle.lg_recorder.specs.Support.Steps.{BeginsFile}

pub held_more : (e : FolderEvent) (past past' : List FolderEvent) → past' ≡ e ∷ past → held_in past' ≡ held_after e (held_in past)
unfolding held_in
held_more e past past' is = ap held_in is

pub begun_more : (e : FolderEvent) (past past' : List FolderEvent) → past' ≡ e ∷ past → begun past' ≡ begun_after e (begun past)
unfolding begun
begun_more e past past' is = ap begun is

pub deleted_more : (e : FolderEvent) (past past' : List FolderEvent) → past' ≡ e ∷ past → deleted past' ≡ deleted_after e (deleted past)
unfolding deleted
deleted_more e past past' is = ap deleted is

pub listed_more : (e : FolderEvent) (past past' : List FolderEvent) → past' ≡ e ∷ past → listed past' ≡ listed_after e (listed past)
unfolding listed
listed_more e past past' is = ap listed is

-- nothing was done
pub nothing_changed : (past past' : List FolderEvent) → past' ≡ past → NoFileChanged past past'
nothing_changed past past' is = record { begun_same = ap begun is; deleted_same = ap deleted is; listed_same = ap listed is }

pub changed_through : (a b c : List FolderEvent) → NoFileChanged a b → NoFileChanged b c → NoFileChanged a c
changed_through a b c p q = record {
  begun_same = q.begun_same ∙ p.begun_same;
  deleted_same = q.deleted_same ∙ p.deleted_same;
  listed_same = q.listed_same ∙ p.listed_same;
}

-- bytes were appended, or not
pub append_changed : {bytes : List ℕ} {done : Bool} (past past' : List FolderEvent) → past' ≡ Appended bytes done ∷ past → NoFileChanged past past'
append_changed {bytes} {done} past past' is = record {
  begun_same = begun_more (Appended bytes done) past past' is;
  deleted_same = deleted_more (Appended bytes done) past past' is;
  listed_same = listed_more (Appended bytes done) past past' is;
}

pub grown_by : {bytes : List ℕ} (text : List ℕ) (past past' : List FolderEvent) → bytes ≡ text → past' ≡ Appended bytes true ∷ past → LatestGrows past past' text
grown_by {bytes} text past past' same is = λ t texts before.
    held_more (Appended bytes true) past past' is ∙ ap (λ (h : HeldTexts). held_after (Appended bytes true) h) before
    ∙ ap (λ (l : List ℕ). settled_texts ((t ++ l) ∷ texts)) same

pub grown_none : (past past' : List FolderEvent) → held_in past' ≡ held_in past → LatestGrows past past' []
grown_none past past' same = λ text texts before.
    same ∙ before ∙ ap (λ (t : List ℕ). settled_texts (t ∷ texts)) (sym (append-nil text))

pub held_unappended : {bytes : List ℕ} (past past' : List FolderEvent) → past' ≡ Appended bytes false ∷ past → held_in past' ≡ held_in past
held_unappended {bytes} past past' is = held_more (Appended bytes false) past past' is

-- the file was closed
pub held_closed : (past past' : List FolderEvent) → past' ≡ Closed ∷ past → held_in past' ≡ held_in past
held_closed past past' is = held_more Closed past past' is

pub close_changed : (past past' : List FolderEvent) → past' ≡ Closed ∷ past → NoFileChanged past past'
close_changed past past' is = record {
  begun_same = begun_more Closed past past' is;
  deleted_same = deleted_more Closed past past' is;
  listed_same = listed_more Closed past past' is;
}

-- a file was deleted, or not
pub held_deleted : {number : ℕ} {done : Bool} (past past' : List FolderEvent) → past' ≡ Deleted number done ∷ past → held_in past' ≡ held_in past
held_deleted {number} {done} past past' is = held_more (Deleted number done) past past' is

pub begun_deleted : {number : ℕ} {done : Bool} (past past' : List FolderEvent) → past' ≡ Deleted number done ∷ past → begun past' ≡ begun past
begun_deleted {number} {done} past past' is = begun_more (Deleted number done) past past' is

pub listed_deleted : {number : ℕ} {done : Bool} (past past' : List FolderEvent) → past' ≡ Deleted number done ∷ past → listed past' ≡ listed past
listed_deleted {number} {done} past past' is = listed_more (Deleted number done) past past' is

pub deleted_deleted : {number : ℕ} (past past' : List FolderEvent) → past' ≡ Deleted number true ∷ past → deleted past' ≡ number ∷ deleted past
deleted_deleted {number} past past' is = deleted_more (Deleted number true) past past' is

-- the files were listed, or not
pub held_listed : {files : List StoredFile} {done : Bool} (past past' : List FolderEvent) → past' ≡ Listed files done ∷ past → held_in past' ≡ held_in past
held_listed {files} {done} past past' is = held_more (Listed files done) past past' is

pub begun_listed : {files : List StoredFile} {done : Bool} (past past' : List FolderEvent) → past' ≡ Listed files done ∷ past → begun past' ≡ begun past
begun_listed {files} {done} past past' is = begun_more (Listed files done) past past' is

pub deleted_listed : {files : List StoredFile} {done : Bool} (past past' : List FolderEvent) → past' ≡ Listed files done ∷ past → deleted past' ≡ deleted past
deleted_listed {files} {done} past past' is = deleted_more (Listed files done) past past' is

pub listed_listed : {files : List StoredFile} (past past' : List FolderEvent) → past' ≡ Listed files true ∷ past → listed past' ≡ files
listed_listed {files} past past' is = listed_more (Listed files true) past past' is

-- a file was begun with a head
pub begun_with : {number : ℕ} {bytes : List ℕ} (head : List ℕ) (a b c : List FolderEvent) → b ≡ Begun number true ∷ a → c ≡ Appended bytes true ∷ b → bytes ≡ head
    → held_in c ≡ settled_texts (head ∷ (held_in a).texts)
begun_with {number} {bytes} head a b c is more same =
    held_more (Appended bytes true) b c more ∙ ap (λ (h : HeldTexts). held_after (Appended bytes true) h) (held_more (Begun number true) a b is)
    ∙ ap (λ (l : List ℕ). settled_texts (l ∷ (held_in a).texts)) same

pub begun_begun : {number : ℕ} (a b : List FolderEvent) → b ≡ Begun number true ∷ a → begun b ≡ number ∷ begun a
begun_begun {number} a b is = begun_more (Begun number true) a b is

pub deleted_begun : {number : ℕ} {done : Bool} (a b : List FolderEvent) → b ≡ Begun number done ∷ a → deleted b ≡ deleted a
deleted_begun {number} {done} a b is = deleted_more (Begun number done) a b is

pub listed_begun : {number : ℕ} {done : Bool} (a b : List FolderEvent) → b ≡ Begun number done ∷ a → listed b ≡ listed a
listed_begun {number} {done} a b is = listed_more (Begun number done) a b is

-- a file was begun that took nothing, or was not begun
pub texts_begun : {number : ℕ} (done : Bool) (a b : List FolderEvent) → b ≡ Begun number done ∷ a → (held_in b).texts ≡ (held_in a).texts
texts_begun {number} true a b is = ap (λ (h : HeldTexts). h.texts) (held_more (Begun number true) a b is)
texts_begun {number} false a b is = ap (λ (h : HeldTexts). h.texts) (held_more (Begun number false) a b is)

-- the numbers of files deleted, with one more
behind_last : (files : List StoredFile) (f : StoredFile) (numbers : List ℕ) → deleted_behind (files ++ f ∷ []) numbers ≡ f.number ∷ deleted_behind files numbers
unfolding deleted_behind
behind_last [] f numbers = refl
behind_last (g ∷ files) f numbers = behind_last files f (g.number ∷ numbers)

pub no_file_behind : (numbers : List ℕ) → deleted_behind [] numbers ≡ numbers
unfolding deleted_behind
no_file_behind numbers = refl

pub deleted_next : (f : StoredFile) (files : List StoredFile) (i : ℕ) (numbers : List ℕ) (past past' : List FolderEvent) → i < length files
    → past' ≡ Deleted (get_or files i f).number true ∷ past → deleted past ≡ deleted_behind (take i files) numbers → deleted past' ≡ deleted_behind (take (i + 1) files) numbers
deleted_next f files i numbers past past' within is so =
    deleted_deleted past past' is ∙ ap (λ (l : List ℕ). (get_or files i f).number ∷ l) so
    ∙ sym (ap (λ (fs : List StoredFile). deleted_behind fs numbers) (take_more files i f within) ∙ behind_last (take i files) (get_or files i f) numbers)

-- how many bytes the files from one on have, by those behind it
pub sized_more : (files : List StoredFile) (i : ℕ) (d : StoredFile) → i < length files
    → size_of_all (drop i files) ≡ (get_or files i d).size + size_of_all (drop (i + 1) files)
sized_more files i d within =
    let whole : drop i files ≡ get_or files i d ∷ drop (i + 1) files = rw add-one (drop-cons files i d within) in
    ap size_of_all whole

-- with fewer gone they have more
pub sized_below : (files : List StoredFile) (k i : ℕ) → k ≤ i → size_of_all (drop i files) ≤ size_of_all (drop k files)
sized_below files zero zero le = omega arith
sized_below [] zero (suc i) le = omega arith
sized_below (f ∷ files) zero (suc i) le = omega (arith, sized_below files zero i (omega arith))
sized_below files (suc k) zero le = absurd (omega arith)
sized_below [] (suc k) (suc i) le = omega arith
sized_below (f ∷ files) (suc k) (suc i) le = sized_below files k i (omega arith)

-- as many files go as have to
pub least_at : (files : List StoredFile) (room kept left : ℕ) (d : StoredFile) → 0 < kept → kept ≤ length files → left + size_of_all (drop kept files) ≡ room
    → left < (get_or files (kept - 1) d).size → IsLeastDeleted room files kept
least_at files room kept left d some within fit large =
    let on : (kept - 1) + 1 ≡ kept = omega arith in
    let sized : size_of_all (drop (kept - 1) files) ≡ (get_or files (kept - 1) d).size + size_of_all (drop kept files) =
    sized_more files (kept - 1) d (omega arith) ∙ ap (λ n. (get_or files (kept - 1) d).size + size_of_all (drop n files)) on in
    record {
      within = within;
      fit = omega (arith, fit);
      least = λ k below. omega (arith, sized, fit, large, sized_below files k (kept - 1) (omega arith));
    }

-- room that was made, with a file begun and appended to behind it
pub begins_file : {bytes : List ℕ} (size room next : ℕ) (batch : BatchValue) (a b c d : List FolderEvent) (file : OpenFile) → MakesRoom room a b → held_in b ≡ held_in a
    → begun b ≡ begun a → c ≡ Begun file.number true ∷ b → d ≡ Appended bytes true ∷ c → bytes ≡ batch.head → next ≤ file.number → file.due ≡ batch.first
    → file.left ≡ size - length batch.head → BeginsFile size room next batch a d file
begins_file {bytes} size room next batch a b c d file makes still same is more text later due left =
    let changed : NoFileChanged c d = append_changed c d more in
    let list_is : listed d ≡ listed b = changed.listed_same ∙ listed_begun b c is in
    let gone_is : deleted d ≡ deleted b = changed.deleted_same ∙ deleted_begun b c is in
    record {
      makes_room = record {
        count = makes.count;
        least = subst (λ (l : List StoredFile). IsLeastDeleted room l makes.count) (sym list_is) makes.least;
        gone = gone_is ∙ makes.gone ∙ ap (λ (l : List StoredFile). deleted_behind (take makes.count l) (deleted a)) (sym list_is);
      };
      is_begun = changed.begun_same ∙ begun_begun b c is ∙ ap (λ (l : List ℕ). file.number ∷ l) same;
      later = later;
      holds = begun_with batch.head b c d is more text ∙ ap (λ (h : HeldTexts). settled_texts (batch.head ∷ h.texts)) still;
      due = due;
      left = left;
    }

-- the open file was closed before
pub begins_closed : (size room next : ℕ) (batch : BatchValue) (a b c : List FolderEvent) (file : OpenFile) → b ≡ Closed ∷ a → BeginsFile size room next batch b c file
    → BeginsFile size room next batch a c file
begins_closed size room next batch a b c file is begins =
    let changed : NoFileChanged a b = close_changed a b is in
    record {
      makes_room = record {
        count = begins.makes_room.count;
        least = begins.makes_room.least;
        gone = begins.makes_room.gone ∙ ap (λ (l : List ℕ). deleted_behind (take begins.makes_room.count (listed c)) l) changed.deleted_same;
      };
      is_begun = begins.is_begun ∙ ap (λ (l : List ℕ). file.number ∷ l) changed.begun_same;
      later = begins.later;
      holds = begins.holds ∙ ap (λ (h : HeldTexts). settled_texts (batch.head ∷ h.texts)) (held_closed a b is);
      due = begins.due;
      left = begins.left;
    }

-- the files were listed, and the oldest ones deleted
pub makes_room : {files : List StoredFile} (room count : ℕ) (list gone : List StoredFile) (a b c : List FolderEvent) → b ≡ Listed files true ∷ a → files ≡ list
    → IsLeastDeleted room list count → gone ≡ take count list → deleted c ≡ deleted_behind gone (deleted b) → listed c ≡ listed b → MakesRoom room a c
makes_room {files} room count list gone a b c is same least first deletes still =
    let list_is : listed c ≡ list = still ∙ listed_listed a b is ∙ same in
    record {
      count = count;
      least = subst (λ (l : List StoredFile). IsLeastDeleted room l count) (sym list_is) least;
      gone = deletes ∙ ap (λ (l : List ℕ). deleted_behind gone l) (deleted_listed a b is)
          ∙ ap (λ (l : List StoredFile). deleted_behind l (deleted a)) (first ∙ ap (λ (l : List StoredFile). take count l) (sym list_is));
    }
