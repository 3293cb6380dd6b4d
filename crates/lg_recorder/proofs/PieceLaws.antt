-- The entries of a batch, appended in pieces.
use Rattle.std.proofs.Common.{◌≡◌, ℕ, ◌+◌, ◌-◌, ◌≤◌, ◌<◌, Bool, true, List, [], ◌∷◌, ◌++◌, length, take, get_or, Result, Ok, Err, refl, sym, ap, ◌∙◌, subst, arith, append_assoc, append-nil, length-append}
use Rattle.std.specs.Prelude.{OnErr, OnOk}
use Rattle.std.specs.List.{concat}
use Rattle.std.proofs.lemmas.List.{take_more}
use Rattle.std.proofs.lemmas.List.Folds.{concat-append}
use Rattle.lg_recorder.specs.declared.appending.Progress.{Progress}
use Rattle.lg_recorder.specs.Meaning.Folders.{FolderEvent, held_in, settled_texts}
use Rattle.lg_recorder.specs.Meaning.Holding.{LatestGrows, NoFileChanged}
use Rattle.lg_recorder.specs.Support.Pieces.{Appending, Stopped}
use Rattle.lg_recorder.proofs.FolderLaws.{changed_through, grown_none, nothing_changed}

-- nothing is appended yet, and nothing is in the text
pub appending_none : (tells : Bool) (chunks : List (List ℕ)) (past : List FolderEvent) (progress : Progress) (text : List ℕ) → progress.entries ≡ 0 → text ≡ []
    → Appending tells chunks progress.left past past progress 0 text
appending_none tells chunks past progress text none empty =
    let nothing : concat (take progress.entries chunks) ≡ [] = ap (λ n. concat (take n chunks)) none in
    record {
      stopped = record {
        within = omega (arith, none);
        left_is = omega (arith, ap length nothing);
        grown = λ told. subst (λ (l : List ℕ). LatestGrows past past l) (sym nothing) (grown_none past past refl);
        same = λ told. nothing_changed past past refl;
      };
      text_is = ap (λ l. l ++ text) nothing ∙ empty;
    }

-- the text has one entry more
pub appending_more : (tells : Bool) (chunks : List (List ℕ)) (left : ℕ) (a b : List FolderEvent) (p : Progress) (index : ℕ) (text text' : List ℕ)
    → Appending tells chunks left a b p index text → index < length chunks → text' ≡ text ++ get_or chunks index [] → Appending tells chunks left a b p (index + 1) text'
appending_more tells chunks left a b p index text text' so within more = record {
  stopped = record {
    within = omega (arith, so.stopped.within);
    left_is = so.stopped.left_is;
    grown = so.stopped.grown;
    same = so.stopped.same;
  };
  text_is =
      ap (λ l. concat (take p.entries chunks) ++ l) more ∙ sym (append_assoc (concat (take p.entries chunks)) text (get_or chunks index []))
      ∙ ap (λ l. l ++ get_or chunks index []) so.text_is
      ∙ ap (λ l. concat (take index chunks) ++ l) (sym (append-nil (get_or chunks index [])))
      ∙ sym (concat-append (take index chunks) (get_or chunks index [] ∷ []))
      ∙ ap concat (sym (take_more chunks index [] within));
}

-- what a file has, with two pieces behind one another
grows_both : (a b c : List FolderEvent) (front text whole : List ℕ) → LatestGrows a b front → LatestGrows b c text → front ++ text ≡ whole → LatestGrows a c whole
grows_both a b c front text whole p q is = λ t texts before.
    q (t ++ front) texts (p t texts before) ∙ ap (λ (l : List ℕ). settled_texts (l ∷ texts)) (append_assoc t front text ∙ ap (λ l. t ++ l) is)

-- the text was appended, and is empty
pub appending_on : (tells : Bool) (chunks : List (List ℕ)) (left : ℕ) (a b c : List FolderEvent) (p q : Progress) (index : ℕ) (text text' : List ℕ)
    → Appending tells chunks left a b p index text → q.entries ≡ index → q.left ≡ p.left - length text → text' ≡ [] → (tells ≡ true → LatestGrows b c text)
    → (tells ≡ true → NoFileChanged b c) → Appending tells chunks left a c q index text'
appending_on tells chunks left a b c p q index text text' so moved less empty grown same =
    let front : List ℕ = concat (take p.entries chunks) in
    let whole : front ++ text ≡ concat (take q.entries chunks) = so.text_is ∙ ap (λ n. concat (take n chunks)) (sym moved) in
    record {
      stopped = record {
        within = omega (arith, moved);
        left_is = omega (arith, so.stopped.left_is, less, length-append front text, ap length whole);
        grown = λ told. grows_both a b c front text (concat (take q.entries chunks)) (so.stopped.grown told) (grown told) whole;
        same = λ told. changed_through a b c (so.stopped.same told) (same told);
      };
      text_is = ap (λ l. concat (take q.entries chunks) ++ l) empty ∙ append-nil (concat (take q.entries chunks)) ∙ ap (λ n. concat (take n chunks)) moved;
    }

-- it couldn't be appended
pub stopped_there : (tells : Bool) (chunks : List (List ℕ)) (left : ℕ) (a b c : List FolderEvent) (p : Progress) (index : ℕ) (text : List ℕ)
    → Appending tells chunks left a b p index text → (tells ≡ true → held_in c ≡ held_in b) → (tells ≡ true → NoFileChanged b c) → Stopped tells chunks left a c p index
stopped_there tells chunks left a b c p index text so still same = record {
  within = so.stopped.within;
  left_is = so.stopped.left_is;
  grown = λ told text texts before. still told ∙ so.stopped.grown told text texts before;
  same = λ told. changed_through a b c (so.stopped.same told) (same told);
}

-- of more entries
pub stopped_below : (tells : Bool) (chunks : List (List ℕ)) (left : ℕ) (a b : List FolderEvent) (p : Progress) (few most : ℕ) → Stopped tells chunks left a b p few → few ≤ most
    → Stopped tells chunks left a b p most
stopped_below tells chunks left a b p few most so le = record {
  within = omega (arith, so.within);
  left_is = so.left_is;
  grown = so.grown;
  same = so.same;
}

-- there was nothing to append
pub appending_nothing : (tells : Bool) (chunks : List (List ℕ)) (left : ℕ) (a b : List FolderEvent) (p q : Progress) (index : ℕ) (text : List ℕ)
    → Appending tells chunks left a b p index text → text ≡ [] → q.entries ≡ index → q.left ≡ p.left → Appending tells chunks left a b q index text
appending_nothing tells chunks left a b p q index text so empty moved still =
    appending_on tells chunks left a b b p q index text text so moved (omega (arith, still, ap length empty)) empty
    (λ told. subst (λ (l : List ℕ). LatestGrows b b l) (sym empty) (grown_none b b refl)) (λ told. nothing_changed b b refl)

-- a fact of an error holds of a result of which it isn't known
pub on_err : {T E : Type 0} {P : Type 0} → (r : Result T E) → P → OnErr r P
on_err (Ok v) fact = tt
on_err (Err e) fact = fact

-- and one of an answer
pub on_ok : {T E : Type 0} {P : Type 0} → (r : Result T E) → P → OnOk r P
on_ok (Ok v) fact = fact
on_ok (Err e) fact = tt
