-- The names and the words of a list, by its parts.
use Rattle.std.proofs.Common.{◌≡◌, ℕ, ◌≤◌, ◌<◌, Bool, true, false, ◌&&◌, cond, eqb, leb, ltb, List, [], ◌∷◌, length, get_or, map, Option, Some, None, Result, Ok, Err, IfErr, OnErr, refl, sym, ap, subst, ◌∙◌, arith}
use Rattle.std.specs.Borrow.{Bor}
use Rattle.std.specs.List.{list_all}
use Rattle.std.specs.Bool.{then_some}
use Rattle.std.specs.Option.{is_some, ok_or, option_map}
use Rattle.std.specs.Result.{result_ok, IsErrAnd}
use Rattle.std.specs.Str.Parse.{digits_value}
use Rattle.std.proofs.lemmas.Bool.{and_left, and_right, le-leb, lt-leb}
use Rattle.std.proofs.lemmas.Bool.Decides.{nat_tests}
use Rattle.std.proofs.lemmas.List.{length-map, map-id}
use Rattle.std.proofs.lemmas.List.Folds.{list_all_at}
use Rattle.lg_rules.specs.Meaning.Name.{bad_byte, is_name, is_name_byte, name_of_text}
use Rattle.lg_rules.proofs.NameLemmas.{is_named}
use Rattle.lg_rules.proofs.Tests.{both}
use Rattle.lg_probe.specs.Meaning.Order.{picks}
use Rattle.lg_script.specs.Meaning.Values.{random_word_of}
use Rattle.lg_commands.specs.Meaning.Choosing.{are_different, are_names, choices_of, comma_parts, is_word, name_lines}
use Rattle.lg_commands.specs.Meaning.Choosing.{names_of_text, order_text, words_of_text}
use Rattle.lg_commands.specs.declared.order.BadList.{BadList}
use Rattle.lg_commands.specs.declared.order.BadList.TheVariants.{Names, Words}

-- ---- a name, by what reading it gives

all_good : (text : List ℕ) → list_all is_name_byte text ≡ true → bad_byte text ≡ None
all_good [] e = refl
all_good (b ∷ bs) e = let p = both (is_name_byte b) (list_all is_name_byte bs) e in rw p.0 (all_good bs p.1)

name_is : (text : List ℕ) → is_name text ≡ true → name_of_text text ≡ Ok text
name_is text good =
    let n = is_named text good in
    let some : eqb (length text) 0 ≡ false = grind (arith, nat_tests, n.some) in
    let few : ltb 32 (length text) ≡ false = grind (arith, nat_tests, n.few) in
    rw (some, few, all_good text n.good) refl

-- ---- the parts of a list, read one after another

-- Each of these parts passes the test, and these are their values.
pub record HasRead {B : Type 0} (test : List ℕ → Bool) (value : List ℕ → B) (parts : List (List ℕ)) (values : List B) : Type 0 where
  pub passed : list_all test parts ≡ true
  pub are : values ≡ map value parts

at_none : {V E P : Type 0} (r : Result V E) → result_ok r ≡ None → OnErr r P → P
at_none (Ok v) none h = absurd cc
at_none (Err e) none h = h

mapped : {A B : Type 0} (f : A → B) (good : Bool) (x : A) → option_map f (then_some good x) ≡ cond good (Some (f x)) None
mapped f true x = refl
mapped f false x = refl

-- ---- the names of a text

not_named : (text : List ℕ) → result_ok (name_of_text text) ≡ None → is_name text ≡ false
not_named text none = go (is_name text) refl
  where
    go : (b : Bool) → is_name text ≡ b → is_name text ≡ false
    go true it = let no : Some text ≡ None = sym (ap result_ok (name_is text it)) ∙ none in absurd cc
    go false it = it

not_names : (text : List ℕ) → are_names (comma_parts text) ≡ false → None ≡ names_of_text text
unfolding names_of_text
not_names text none = rw none refl

-- a part is no name
pub bad_name : (text part : List ℕ) (k : ℕ) (d : List ℕ) → k < length (comma_parts text) → part ≡ get_or (comma_parts text) k d → result_ok (name_of_text part) ≡ None
    → None ≡ names_of_text text
bad_name text part k d within is none =
    let parts = comma_parts text in
    let bad : is_name (get_or parts k d) ≡ false = ap is_name (sym is) ∙ not_named part none in
    not_names text (and_right (leb (length parts) 255) _ (and_left (list_all is_name parts) (are_different parts) (list_all_at is_name parts k d within bad)))

pub many_names : (text : List ℕ) → 255 < length (comma_parts text) → None ≡ names_of_text text
many_names text many =
    let parts = comma_parts text in
    not_names text (and_left (leb (length parts) 255) (list_all is_name parts && are_different parts) (lt-leb (length parts) 255 many))

-- 255 names are read, and there is one part more
pub full_names : {V E : Type 0} (text : List ℕ) (yielded : List (Bor (List ℕ))) (names : List (List ℕ)) (r : Result V E) → HasRead is_name (λ p. p) (map (λ p. p.now) yielded) names
    → result_ok r ≡ None → OnErr r (length names ≡ 255) → length yielded < length (comma_parts text) → None ≡ names_of_text text
full_names text yielded names r has refused full more =
    let some : length names ≡ 255 = at_none r refused full in
    let read : length names ≡ length yielded = ap length has.are ∙ length-map (map (λ (p : Bor (List ℕ)). p.now) yielded) (λ p. p) ∙ length-map yielded (λ p. p.now) in
    many_names text (omega arith)

-- each part is a name
pub all_names : {V : Type 0} (names : V → List (List ℕ)) (v : V) (text : List ℕ) (parts : List (List ℕ)) (different : Bool) → HasRead is_name (λ p. p) parts (names v)
    → parts ≡ comma_parts text → length (names v) ≤ 255 → different ≡ are_different (names v) → option_map names (then_some different v) ≡ names_of_text text
unfolding names_of_text
all_names names v text parts different has ends few is =
    let same : names v ≡ comma_parts text = has.are ∙ map-id parts ∙ ends in
    let fits : leb (length (comma_parts text)) 255 ≡ true = le-leb (length (comma_parts text)) 255 (omega (arith, ap length same)) in
    let good : list_all is_name (comma_parts text) ≡ true = ap (list_all is_name) (sym ends) ∙ has.passed in
    let judged : different ≡ are_different (comma_parts text) = is ∙ ap are_different same in
    mapped names different v ∙ rw (same, judged, fits, good) refl

-- ---- the words of a text

pub no_words : (text items : List ℕ) → eqb (length text) 0 ≡ true → items ≡ [] → Some items ≡ words_of_text text
unfolding words_of_text
no_words text items empty none = rw (empty, none) refl

-- a part is no word
pub bad_word : (text part : List ℕ) (k : ℕ) (d : List ℕ) → eqb (length text) 0 ≡ false → k < length (comma_parts text) → part ≡ get_or (comma_parts text) k d → random_word_of part ≡ None
    → None ≡ words_of_text text
unfolding words_of_text
bad_word text part k d some within is none =
    let parts = comma_parts text in
    let bad : is_word (get_or parts k d) ≡ false = ap is_word (sym is) ∙ ap is_some none in
    rw (some, list_all_at is_word parts k d within bad) refl

-- each part is a word
pub all_words : (text : List ℕ) (parts : List (List ℕ)) (items : List ℕ) → eqb (length text) 0 ≡ false → HasRead is_word (digits_value 10) parts items → parts ≡ comma_parts text
    → Some items ≡ words_of_text text
unfolding words_of_text
all_words text parts items some has ends =
    let good : list_all is_word (comma_parts text) ≡ true = ap (list_all is_word) (sym ends) ∙ has.passed in
    rw (some, good) (ap Some (has.are ∙ ap (map (digits_value 10)) ends))

-- ---- what is written for two lists

-- what holds of a fault holds of the result that is made of it
pub of_fault : {V F : Type 0} (r : Result V F) (e : F) (Q : F → Type 0) → IsErrAnd r (λ y. y ≡ e) → Q e → IfErr r Q
of_fault (Ok v) e Q is q = tt
of_fault (Err y) e Q is q = subst Q (sym is) q

pub names_bad : {V : Type 0} (items : V → List (List ℕ)) (read : Option V) (names words : List ℕ) (e : BadList) → option_map items read ≡ names_of_text names → ok_or read Names ≡ Err e
    → order_text names words ≡ Err e
unfolding order_text
names_bad items None names words e is refused = rw (← is) (let same : Names ≡ e = cc in ap Err same)
names_bad items (Some v) names words e is refused = absurd cc

pub names_good : {V : Type 0} (items : V → List (List ℕ)) (v : V) (read : Option V) (names words : List ℕ) → option_map items read ≡ names_of_text names → ok_or read Names ≡ Ok v
    → order_text names words ≡ Err Names → ⊥
unfolding order_text
names_good items v None names words is taken bad = absurd cc
names_good items v (Some u) names words is taken bad = go (words_of_text words) (rw (← is) at bad)
  where
    go : (listed : Option (List ℕ)) → choices_of (Some (items u)) listed ≡ Err Names → ⊥
    go None e = let same : Words ≡ Names = cc in absurd cc
    go (Some ws) e = absurd cc

pub words_bad : {V W : Type 0} (items : V → List (List ℕ)) (v : V) (read : Option V) (numbers : W → List ℕ) (listed : Option W) (names words : List ℕ) (e : BadList)
    → option_map items read ≡ names_of_text names → ok_or read Names ≡ Ok v → option_map numbers listed ≡ words_of_text words → ok_or listed Words ≡ Err e
    → order_text names words ≡ Err e
unfolding order_text
words_bad items v None numbers listed names words e is taken said refused = absurd cc
words_bad items v (Some u) numbers None names words e is taken said refused = rw (← is, ← said) (let same : Words ≡ e = cc in ap Err same)
words_bad items v (Some u) numbers (Some w) names words e is taken said refused = absurd cc

pub both_good : {V W : Type 0} (items : V → List (List ℕ)) (v : V) (read : Option V) (numbers : W → List ℕ) (w : W) (listed : Option W) (names words : List ℕ)
    → option_map items read ≡ names_of_text names → ok_or read Names ≡ Ok v → option_map numbers listed ≡ words_of_text words → ok_or listed Words ≡ Ok w
    → (chosen : List (List ℕ)) (text : List ℕ) → chosen ≡ picks (items v) (numbers w) → text ≡ name_lines chosen
    → order_text names words ≡ Ok text
unfolding order_text
both_good items v None numbers w listed names words is taken said heard chosen text are written = absurd cc
both_good items v (Some u) numbers w None names words is taken said heard chosen text are written = absurd cc
both_good items v (Some u) numbers w (Some x) names words is taken said heard chosen text are written =
    let same : u ≡ v = cc in
    let too : x ≡ w = cc in
    rw (← is, ← said, same, too) (ap Ok (sym (written ∙ ap name_lines are)))
