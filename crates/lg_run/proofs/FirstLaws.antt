-- A checked configuration stays checked with another first number.
use Rattle.std.proofs.Common.{◌≡◌, ℕ, ◌+◌, Bool, true, false, not, List, [], ◌∷◌, ◌++◌, Option, Some, None, Result, Ok, Err, if◌then◌else◌, refl, sym, ap, ◌∙◌, subst, find, arith}
use Rattle.std.proofs.lemmas.Bool.{le-leb}
use Rattle.std.proofs.lemmas.Nat.{mod_below}
use Rattle.lg_timing.specs.declared.config.Config.{Config}
use Rattle.lg_timing.specs.declared.config.ConfigFault.{ConfigFault}
use Rattle.lg_timing.specs.declared.config.ConfigFault.TheVariants.{Seeds}
use Rattle.lg_timing.specs.declared.keys.Key.{Key}
use Rattle.lg_timing.specs.declared.keys.Key.TheVariants.{IntervalMs, TimeoutMs, Indirect, MaxScore, Alpha, Beta, Confirmations, Lambda, NackThousandths, HistoryLimit, Wire, ForgetMs, GossipMs, GossipTo, First}
use Rattle.lg_timing.specs.Meaning.Config.{IsChecked, are_good_seeds, can_name_group, check_of, fault_checked, first_broken, is_within}
use Rattle.lg_timing.specs.Meaning.Keys.{is_before_seeds, is_in_range, row_of}
use Rattle.lg_config.specs.declared.node.NodeConfig.{NodeConfig}
use Rattle.lg_run.specs.Meaning.FirstNumber.{first_number, started_at}

-- the keys before that of the first number
abbrev front : List Key
front = IntervalMs ∷ TimeoutMs ∷ Indirect ∷ MaxScore ∷ Alpha ∷ Beta ∷ Confirmations ∷ Lambda ∷ NackThousandths ∷ HistoryLimit ∷ Wire ∷ ForgetMs ∷ GossipMs ∷ GossipTo ∷ []

abbrev or_else : Option Key → Option Key → Option Key
or_else (Some key) other = Some key
or_else None other = other

-- the first of some keys and one more
find_last : (p : Key → Bool) (xs : List Key) (y : Key) → find p (xs ++ y ∷ []) ≡ or_else (find p xs) (find p (y ∷ []))
find_last p [] y = refl
find_last p (x ∷ xs) y = step (p x) refl (find_last p xs y)
  where
    step : (held : Bool) → p x ≡ held → find p (xs ++ y ∷ []) ≡ or_else (find p xs) (find p (y ∷ [])) → find p (x ∷ (xs ++ y ∷ [])) ≡ or_else (find p (x ∷ xs)) (find p (y ∷ []))
    step true k rest = rw k refl
    step false k rest = rw k rest

none_before : (o other : Option Key) → or_else o other ≡ None → o ≡ None
none_before None other e = refl
none_before (Some key) other e = absurd cc

-- no key is out of its range if the first number is in its own
first_kept : (c : Config) (n : ℕ) → is_within 1 4294967295 n ≡ true → first_broken c ≡ None → first_broken (record c { first = n }) ≡ None
first_kept c n within e =
    let p : Key → Bool = λ key. not (is_in_range c key) in
    let q : Key → Bool = λ key. not (is_in_range (record c { first = n }) key) in
    let before : find p front ≡ None = none_before (find p front) (find p (First ∷ [])) (sym (find_last p front First) ∙ e) in
    let last : find q (First ∷ []) ≡ None = rw within refl in
    find_last q front First ∙ (ap (λ (o : Option Key). or_else o (find q (First ∷ []))) before ∙ last)

abbrev fault_of : Bool → ConfigFault → Result (Unit {0}) ConfigFault
fault_of early broken = if early then Err broken else Err Seeds

is_fault : (early : Bool) (broken : ConfigFault) → fault_of early broken ≡ Ok tt → ⊥
is_fault true broken e = cc
is_fault false broken e = cc

none_broken : (broken : Option Key) (good named : Bool) → fault_checked broken good named ≡ Ok tt → broken ≡ None
none_broken None good named e = refl
none_broken (Some key) true named e = absurd cc
none_broken (Some key) false named e = absurd (is_fault (is_before_seeds key) (row_of key).fault e)

checked_with : (c : Config) (n : ℕ) → is_within 1 4294967295 n ≡ true → IsChecked c → IsChecked (record c { first = n })
unfolding check_of
checked_with c n within e =
    let good = are_good_seeds c.name c.seeds.items in
    let named = can_name_group c.group c.wire in
    let was = none_broken (first_broken c) good named e in
    let same : first_broken c ≡ first_broken (record c { first = n }) = was ∙ sym (first_kept c n within was) in
    subst (λ (o : Option Key). fault_checked o good named ≡ Ok tt) same e

in_range : (time dice : ℕ) → is_within 1 4294967295 (first_number time dice) ≡ true
in_range time dice =
    let below = mod_below (time + dice) 4294967295 (omega arith) in
    let least = le-leb 1 (first_number time dice) (omega arith) in
    let most = le-leb (first_number time dice) 4294967295 (omega (arith, below)) in
    rw least most

pub started_checked : (time : ℕ) (n : NodeConfig) → IsChecked n.config → IsChecked (started_at time n).config
started_checked time n checked = checked_with n.config (first_number time n.dice) (in_range time n.dice) checked
