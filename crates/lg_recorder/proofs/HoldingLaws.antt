-- What a recorder has written, with one batch more.
use Rattle.std.proofs.Common.{◌≡◌, ℕ, ◌+◌, ◌-◌, Bool, true, false, List, [], ◌∷◌, ◌++◌, zero, suc, length, take, map, Option, Some, None, refl, sym, ap, ◌∙◌, subst, arith, append_assoc, append-nil, length-append}
use Rattle.std.specs.List.{concat, enumerate_from}
use Rattle.std.specs.Prelude.{IfSome}
use Rattle.std.proofs.lemmas.Bool.Decides.{nat_tests}
use Rattle.std.proofs.lemmas.List.Folds.{concat-append}
use Rattle.std.proofs.Math.Seq.{take-length}
use Rattle.lg_recorder.specs.declared.recorder.OpenFile.{OpenFile}
use Rattle.lg_recorder.specs.Meaning.Batches.{BatchValue, FileRun, run_text, entries_of, told_by_runs, LeavesOut}
use Rattle.lg_recorder.specs.Meaning.Folders.{FolderEvent, HeldTexts, held_in, settled_texts}
use Rattle.lg_recorder.specs.Meaning.Holding.{AllBegunWith, OpenIsLatest, Holds, HoldsMore, takes_batch}
use Rattle.lg_recorder.specs.declared.appending.Progress.{Progress}
use Rattle.lg_recorder.specs.Support.Pieces.{Stopped}
use Rattle.lg_recorder.specs.Support.Steps.{AppendsTo, BeginsFile, OpenBehind}
use Rattle.lg_recorder.proofs.BatchLaws.{leaves_both, leaves_all, leaves_rest, numbered_both}

-- nothing was handed over yet
pub holds_none : (size : ℕ) → Holds size [] [] None
unfolding held_in entries_of told_by_runs
holds_none size = record {
  runs = [];
  are = refl;
  part = leaves_all [];
  heads = tt;
  goes_on = tt;
}

begun_later : (b : BatchValue) (batches : List BatchValue) (runs : List FileRun) → AllBegunWith batches runs → AllBegunWith (b ∷ batches) runs
begun_later b batches [] heads = tt
begun_later b batches (run ∷ runs) heads = ((suc heads.0.0, omega arith, heads.0.2), begun_later b batches runs heads.1)

-- a batch of which no entry was written
part_lost : (b : BatchValue) (batches : List BatchValue) (runs : List FileRun) → LeavesOut (told_by_runs runs) (entries_of batches) → LeavesOut (told_by_runs runs) (entries_of (b ∷ batches))
unfolding entries_of
part_lost b batches runs part =
    subst (λ (l : List (ℕ × List ℕ)). LeavesOut l (entries_of batches ++ enumerate_from b.first b.chunks)) (append-nil (told_by_runs runs))
    (leaves_both (told_by_runs runs) (entries_of batches) [] (enumerate_from b.first b.chunks) part (leaves_all (enumerate_from b.first b.chunks)))

-- a batch of which the first entries were written behind the others
part_written : (b : BatchValue) (batches : List BatchValue) (runs : List FileRun) (k : ℕ) → LeavesOut (told_by_runs runs) (entries_of batches)
    → LeavesOut (told_by_runs runs ++ enumerate_from b.first (take k b.chunks)) (entries_of (b ∷ batches))
unfolding entries_of
part_written b batches runs k part = leaves_both (told_by_runs runs) (entries_of batches) (enumerate_from b.first (take k b.chunks)) (enumerate_from b.first b.chunks) part (leaves_rest b.first k b.chunks)

-- no file took anything of it
pub holds_lost : (size : ℕ) (b : BatchValue) (batches : List BatchValue) (past past' : List FolderEvent) (file : Option OpenFile) → Holds size batches past file
    → (held_in past').texts ≡ (held_in past).texts → Holds size (b ∷ batches) past' None
holds_lost size b batches past past' file holds same = record {
  runs = holds.runs;
  are = same ∙ holds.are;
  part = part_lost b batches holds.runs holds.part;
  heads = begun_later b batches holds.runs holds.heads;
  goes_on = tt;
}

-- it was empty
pub holds_empty : (size : ℕ) (b : BatchValue) (batches : List BatchValue) (past : List FolderEvent) (file : Option OpenFile) → Holds size batches past file
    → Holds size (b ∷ batches) past file
holds_empty size b batches past file holds = record {
  runs = holds.runs;
  are = holds.are;
  part = part_lost b batches holds.runs holds.part;
  heads = begun_later b batches holds.runs holds.heads;
  goes_on = holds.goes_on;
}

-- what is open behind a batch, if its file is the latest
goes_next : (size : ℕ) (b : BatchValue) (file : OpenFile) (k : ℕ) (next : Option OpenFile) (text : List ℕ) (before : ℕ) (run : FileRun) (runs : List FileRun) (is_fresh : Bool)
    → OpenBehind b file k next → file.left ≡ size - length text → is_fresh ≡ false → b.first ≡ run.begun_with.first + before → length run.chunks ≡ before + length (take k b.chunks)
    → run_text run ≡ text ++ concat (take k b.chunks) → OpenIsLatest size is_fresh next (run ∷ runs)
goes_next size b file k None text before run runs is_fresh behind left fresh first count is = tt
goes_next size b file k (Some next) text before run runs is_fresh behind left fresh first count is =
    let whole : take k b.chunks ≡ b.chunks = ap (λ j. take j b.chunks) behind.0 ∙ take-length b.chunks in
    let counted : length (take k b.chunks) ≡ length b.chunks = ap length whole in
    let sized : length (run_text run) ≡ length text + length (concat b.chunks) =
    ap length is ∙ length-append text (concat (take k b.chunks)) ∙ ap (λ l. length text + length (concat l)) whole in
    (fresh, omega (arith, behind.1, first, count, counted), omega (arith, behind.2, left, sized))

-- the first entries of a batch went to a new file
pub holds_new : (size : ℕ) (b : BatchValue) (batches : List BatchValue) (past mid past' : List FolderEvent) (earlier : Option OpenFile) (file : OpenFile) (next : Option OpenFile)
    → Holds size batches past earlier → held_in mid ≡ settled_texts (b.head ∷ (held_in past).texts) → file.left ≡ size - length b.head → AppendsTo b mid past' file next
    → Holds size (b ∷ batches) past' next
unfolding told_by_runs
holds_new size b batches past mid past' earlier file next holds begun left appends =
    let run : FileRun = record { begun_with = b; chunks = take appends.count b.chunks } in
    let is : held_in past' ≡ settled_texts (run_text run ∷ (held_in past).texts) = appends.grown b.head (held_in past).texts begun in
    record {
      runs = run ∷ holds.runs;
      are = ap (λ (h : HeldTexts). h.texts) is ∙ ap (λ (l : List (List ℕ)). run_text run ∷ l) holds.are;
      part = part_written b batches holds.runs appends.count holds.part;
      heads = ((zero, omega arith, refl), begun_later b batches holds.runs holds.heads);
      goes_on =
          goes_next size b file appends.count next b.head 0 run holds.runs (held_in past').is_fresh appends.behind left (ap (λ (h : HeldTexts). h.is_fresh) is) (omega arith)
          (omega arith) refl;
    }

-- the latest run, with the first entries of a batch
abbrev longer : FileRun → List (List ℕ) → FileRun
longer run more = record { begun_with = run.begun_with; chunks = run.chunks ++ more }

longer_text : (run : FileRun) (more : List (List ℕ)) → run_text run ++ concat more ≡ run_text (longer run more)
longer_text run more = append_assoc run.begun_with.head (concat run.chunks) (concat more) ∙ ap (λ l. run.begun_with.head ++ l) (sym (concat-append run.chunks more))

longer_part : (run : FileRun) (runs : List FileRun) (b : BatchValue) (more : List (List ℕ)) → b.first ≡ run.begun_with.first + length run.chunks
    → told_by_runs (run ∷ runs) ++ enumerate_from b.first more ≡ told_by_runs (longer run more ∷ runs)
unfolding told_by_runs
longer_part run runs b more first =
    append_assoc (told_by_runs runs) (enumerate_from run.begun_with.first run.chunks) (enumerate_from b.first more)
    ∙ ap (λ (l : List (ℕ × List ℕ)). told_by_runs runs ++ l)
    (ap (λ n. enumerate_from run.begun_with.first run.chunks ++ enumerate_from n more) first ∙ sym (numbered_both run.begun_with.first run.chunks more))

-- the held_in texts of a latest file
latest_is : (h : HeldTexts) (texts : List (List ℕ)) → h.is_fresh ≡ false → h.texts ≡ texts → h ≡ settled_texts texts
latest_is h texts fresh is =
    let seen : h ≡ record { is_fresh = false; texts = h.texts } = ap (λ (b : Bool). let made : HeldTexts = record { is_fresh = b; texts = h.texts } in made) fresh in
    seen ∙ ap (λ (l : List (List ℕ)). settled_texts l) is

-- the first entries of a batch went to the open file
on_latest : (size : ℕ) (b : BatchValue) (batches : List BatchValue) (past past' : List FolderEvent) (file : OpenFile) (next : Option OpenFile) (runs : List FileRun)
    → (held_in past).texts ≡ map run_text runs → LeavesOut (told_by_runs runs) (entries_of batches) → AllBegunWith batches runs → OpenIsLatest size (held_in past).is_fresh (Some file) runs
    → file.due ≡ b.first → AppendsTo b past past' file next → Holds size (b ∷ batches) past' next
on_latest size b batches past past' file next [] are part heads goes due appends = absurd goes
on_latest size b batches past past' file next (run ∷ runs) are part heads goes due appends =
    let more : List (List ℕ) = take appends.count b.chunks in
    let first : b.first ≡ run.begun_with.first + length run.chunks = sym due ∙ goes.1 in
    let before : held_in past ≡ settled_texts (run_text run ∷ map run_text runs) = latest_is (held_in past) (run_text run ∷ map run_text runs) goes.0 are in
    let is : held_in past' ≡ settled_texts ((run_text run ++ concat more) ∷ map run_text runs) = appends.grown (run_text run) (map run_text runs) before in
    record {
      runs = longer run more ∷ runs;
      are = ap (λ (h : HeldTexts). h.texts) is ∙ ap (λ (l : List ℕ). l ∷ map run_text runs) (longer_text run more);
      part =
          subst (λ (l : List (ℕ × List ℕ)). LeavesOut l (entries_of (b ∷ batches))) (longer_part run runs b more first)
          (part_written b batches (run ∷ runs) appends.count part);
      heads = begun_later b batches (run ∷ runs) heads;
      goes_on =
          goes_next size b file appends.count next (run_text run) (length run.chunks) (longer run more) runs (held_in past').is_fresh appends.behind goes.2
          (ap (λ (h : HeldTexts). h.is_fresh) is) first (length-append run.chunks more) (sym (longer_text run more));
    }

pub holds_old : (size : ℕ) (b : BatchValue) (batches : List BatchValue) (past past' : List FolderEvent) (file : OpenFile) (next : Option OpenFile) → Holds size batches past (Some file)
    → file.due ≡ b.first → AppendsTo b past past' file next → Holds size (b ∷ batches) past' next
holds_old size b batches past past' file next holds due appends = on_latest size b batches past past' file next holds.runs holds.are holds.part holds.heads holds.goes_on due appends

-- what is open behind a batch that was appended
pub open_behind : (b : BatchValue) (file : OpenFile) (count left number : ℕ) (next : Option OpenFile) → number ≡ b.first + length b.chunks → count ≡ length b.chunks → left ≡ file.left - length (concat (take count b.chunks))
    → IfSome next (λ o. o.due ≡ number) → IfSome next (λ o. o.left ≡ left) → OpenBehind b file count next
open_behind b file count left number None numbered whole less due is = tt
open_behind b file count left number (Some next) numbered whole less due is =
    let all : take count b.chunks ≡ b.chunks = ap (λ j. take j b.chunks) whole ∙ take-length b.chunks in
    (whole, due ∙ numbered, is ∙ less ∙ ap (λ (l : List (List ℕ)). file.left - length (concat l)) all)

-- a batch goes to the open file only if its first entry is due
due_is : (file : OpenFile) (first : ℕ) → takes_batch (Some file) first ≡ true → file.due ≡ first
due_is file first takes = grind (arith, nat_tests)

-- a batch went to the open file, or to a new one
pub holds_either : (size room least : ℕ) (b : BatchValue) (batches : List BatchValue) (a m c : List FolderEvent) (current : Option OpenFile) (file : OpenFile) (next : Option OpenFile) (goes : Bool)
    → takes_batch current b.first ≡ goes → (goes ≡ true → (m ≡ a) × (current ≡ Some file)) → (goes ≡ false → BeginsFile size room least b a m file) → AppendsTo b m c file next
    → Holds size batches a current → Holds size (b ∷ batches) c next
holds_either size room least b batches a m c current file next true takes old new appends holds =
    let same : m ≡ a = (old refl).0 in
    let is : current ≡ Some file = (old refl).1 in
    holds_old size b batches a c file next (subst (λ (o : Option OpenFile). Holds size batches a o) is holds)
    (due_is file b.first (ap (λ (o : Option OpenFile). takes_batch o b.first) (sym is) ∙ takes))
    (subst (λ (p : List FolderEvent). AppendsTo b p c file next) same appends)
holds_either size room least b batches a m c current file next false takes old new appends holds =
    holds_new size b batches a m c current file next holds (new refl).holds (new refl).left appends

-- the open file was closed
pub holds_closed : (size : ℕ) (batches : List BatchValue) (a b : List FolderEvent) (file : Option OpenFile) → Holds size batches a file → held_in b ≡ held_in a → Holds size batches b None
holds_closed size batches a b file holds same = record {
  runs = holds.runs;
  are = ap (λ (h : HeldTexts). h.texts) same ∙ holds.are;
  part = holds.part;
  heads = holds.heads;
  goes_on = tt;
}

-- a batch was appended whole
pub appends_to : (tells : Bool) (b : BatchValue) (past past' : List FolderEvent) (file : OpenFile) (progress : Progress) (next : Option OpenFile) (left number : ℕ) → tells ≡ true → left ≡ file.left → number ≡ b.first + length b.chunks
    → Stopped tells b.chunks left past past' progress (length b.chunks) → progress.entries ≡ length b.chunks → IfSome next (λ o. o.due ≡ number)
    → IfSome next (λ o. o.left ≡ progress.left) → AppendsTo b past past' file next
appends_to tells b past past' file progress next left number told begun numbered stopped whole due less = record {
  count = progress.entries;
  within = stopped.within;
  grown = stopped.grown told;
  behind =
      open_behind b file progress.entries progress.left number next numbered whole
      (stopped.left_is ∙ ap (λ n. n - length (concat (take progress.entries b.chunks))) begun) due less;
}

-- a part of a batch was appended, and its file given up
pub appends_none : (tells : Bool) (b : BatchValue) (a m c : List FolderEvent) (file : OpenFile) (progress : Progress) (next : Option OpenFile) (left : ℕ) → tells ≡ true
    → Stopped tells b.chunks left a m progress (length b.chunks) → held_in c ≡ held_in m → next ≡ None → AppendsTo b a c file next
appends_none tells b a m c file progress next left told stopped same none = record {
  count = progress.entries;
  within = stopped.within;
  grown = λ text texts before. same ∙ stopped.grown told text texts before;
  behind = subst (λ (o : Option OpenFile). OpenBehind b file progress.entries o) (sym none) tt;
}

-- more was recorded behind what was
pub more_through : (size size' : ℕ) (batches : List BatchValue) (a b : List FolderEvent) (file next : Option OpenFile) → HoldsMore size batches a file
    → ((earlier : List BatchValue) → Holds size earlier a file → HoldsMore size' earlier b next) → HoldsMore size' batches b next
more_through size size' batches a b file next so turn =
    let later : HoldsMore size' (so.more ++ batches) b next = turn (so.more ++ batches) so.holds in
    record {
      more = later.more ++ so.more;
      holds = subst (λ (l : List BatchValue). Holds size' l b next) (sym (append_assoc later.more so.more batches)) later.holds;
    }

pub more_none : (size : ℕ) (batches : List BatchValue) (past : List FolderEvent) (file : Option OpenFile) → Holds size batches past file → HoldsMore size batches past file
more_none size batches past file holds = record { more = []; holds = holds }

pub more_one : (size : ℕ) (b : BatchValue) (batches : List BatchValue) (past : List FolderEvent) (file : Option OpenFile) → Holds size (b ∷ batches) past file
    → HoldsMore size batches past file
more_one size b batches past file holds = record { more = b ∷ []; holds = holds }

pub more_closed : (size : ℕ) (batches : List BatchValue) (a b : List FolderEvent) (file : Option OpenFile) → HoldsMore size batches a file → held_in b ≡ held_in a
    → HoldsMore size batches b None
more_closed size batches a b file so same = record { more = so.more; holds = holds_closed size (so.more ++ batches) a b file so.holds same }
