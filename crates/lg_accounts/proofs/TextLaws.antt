-- A text that is written in two parts, or rewritten; and one of some values, with that of one more behind them.
use Rattle.std.proofs.Common.{◌≡◌, ℕ, ◌+◌, ◌<◌, List, [], ◌∷◌, ◌++◌, length, take, map, get_or, sym, ap, ◌∙◌, append-nil, append_assoc, Result, Ok, Err, OnOk}
use Rattle.std.specs.List.{flat_map}
use Rattle.std.proofs.lemmas.List.{map-append, take_more}
use Rattle.std.proofs.lemmas.List.Concat.{flat_map-append}

one_more : {A B : Type 0} (text : B → List ℕ) (value : A → B) (xs : List A) (i : ℕ) (x : A) → i < length xs → x ≡ get_or xs i x
    → flat_map text (map value (take (i + 1) xs)) ≡ flat_map text (map value (take i xs)) ++ text (value x)
one_more text value xs i x within is =
    ap (λ (some : List _). flat_map text (map value some)) (take_more xs i x within)
    ∙ ap (λ (some : List _). flat_map text some) (map-append value (take i xs) (get_or xs i x ∷ []))
    ∙ flat_map-append text (map value (take i xs)) (map value (get_or xs i x ∷ []))
    ∙ ap (λ (it : _). flat_map text (map value (take i xs)) ++ (text (value it) ++ [])) (sym is)
    ∙ ap (λ (more : List ℕ). flat_map text (map value (take i xs)) ++ more) (append-nil (text (value x)))

pub written_more : {A B : Type 0} (text : B → List ℕ) (value : A → B) (xs : List A) (i : ℕ) (x : A) (old now next : List ℕ)
    → i < length xs → x ≡ get_or xs i x → now ≡ old ++ flat_map text (map value (take i xs)) → next ≡ now ++ text (value x)
    → next ≡ old ++ flat_map text (map value (take (i + 1) xs))
written_more text value xs i x old now next within is so_far wrote =
    wrote ∙ ap (λ (before : List ℕ). before ++ text (value x)) so_far
    ∙ append_assoc old (flat_map text (map value (take i xs))) (text (value x))
    ∙ ap (λ (all : List ℕ). old ++ all) (sym (one_more text value xs i x within is))

-- a text behind a comma
pub behind_comma_written : (old between next x : List ℕ) → between ≡ old ++ 44 ∷ [] → next ≡ between ++ x → next ≡ old ++ (44 ∷ x)
behind_comma_written old between next x comma wrote =
    wrote ∙ ap (λ (before : List ℕ). before ++ x) comma ∙ append_assoc old (44 ∷ []) x

pub written_as : {A E : Type 0} (r : Result A E) (before after x y : List ℕ) → OnOk r (after ≡ before ++ x) → x ≡ y → OnOk r (after ≡ before ++ y)
written_as (Ok done) before after x y is same = is ∙ ap (λ (text : List ℕ). before ++ text) same
written_as (Err refused) before after x y is same = tt

pub written_twice : {A E : Type 0} (r : Result A E) (before between after x y : List ℕ) → between ≡ before ++ x → OnOk r (after ≡ between ++ y)
    → OnOk r (after ≡ before ++ (x ++ y))
written_twice (Ok done) before between after x y first second =
    second ∙ ap (λ (text : List ℕ). text ++ y) first ∙ append_assoc before x y
written_twice (Err refused) before between after x y first second = tt
