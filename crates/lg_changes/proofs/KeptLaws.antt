-- A ring with one change more, the changes behind a version, and the newest change.
use Rattle.std.proofs.Common.{◌≡◌, ℕ, zero, suc, ◌+◌, ◌-◌, ◌<◌, ◌≤◌, max, Bool, true, false, cond, ◌||◌, List, [], ◌∷◌, ◌++◌, length, take, refl, sym, ap, ◌∙◌, arith, append_assoc, length-append}
use Rattle.std.specs.Prelude.{filter, nat_lt, if◌then◌else◌, option_map, unwrap_or, Option, Some, None}
use Rattle.std.specs.List.{last_or, list_any, slice_index_or}
use Rattle.std.proofs.Math.Seq.{take-append_seam}
use Rattle.std.proofs.lemmas.Bool.Decides.{nat_tests}
use Rattle.std.proofs.lemmas.List.Elements.{filter-append}
use Rattle.std.proofs.lemmas.Option.{same_Some}
use Rattle.lg_changes.specs.declared.change.Change.{Change}
use Rattle.lg_changes.specs.Meaning.Changes.{changes_after, dropped, is_after, last_version, most_changes}
use Rattle.lg_changes.specs.declared.ring.Changes.{Changes}
use Rattle.lg_changes.specs.Meaning.Kept.{greatest_version, KeepsNewest}
use Rattle.std.specs.VecDeque.{deque_capacity, deque_len}

pub greatest_more : (xs : List Change) (y : Change) → greatest_version (xs ++ y ∷ []) ≡ max (greatest_version xs) y.version
greatest_more [] y = omega arith
greatest_more (x ∷ xs) y = ap (λ (n : ℕ). max x.version n) (greatest_more xs y) ∙ omega arith

behind_one : (v m n : ℕ) (b : Bool) → b ≡ nat_lt v n → (nat_lt v m || b) ≡ nat_lt v (max m n)
behind_one v m n b is = grind (arith, nat_tests)

-- a change among these is behind a version if the greatest version is
pub behind_greatest : (v : ℕ) (xs : List Change) → list_any (is_after v) xs ≡ nat_lt v (greatest_version xs)
behind_greatest v [] = grind (arith, nat_tests)
behind_greatest v (x ∷ xs) = behind_one v x.version (greatest_version xs) (list_any (is_after v) xs) (behind_greatest v xs)

none_step : {A : Type 0} (b c : Bool) (x : A) (xs : List A) → (b || c) ≡ false → (c ≡ false → xs ≡ []) → cond b (x ∷ xs) xs ≡ []
none_step true c x xs none more = absurd cc
none_step false c x xs none more = more none

-- if no element passes a test, none is found
none_found : {A : Type 0} (p : A → Bool) (xs : List A) → list_any p xs ≡ false → filter p xs ≡ []
none_found p [] none = refl
none_found p (x ∷ xs) none = none_step (p x) (list_any p xs) x (filter p xs) none (none_found p xs)

count_of_others : (k r : ℕ) → r ≤ 1024 → (0 < k → r ≡ 1024) → k + r - 1024 ≡ k
count_of_others zero r few full = omega arith
count_of_others (suc k) r few full =
    let is : r ≡ 1024 = full (omega arith) in
    omega arith

-- the changes that a ring doesn't keep are those that are dropped
pub dropped_are : (others rows : List Change) → length rows ≤ most_changes → (0 < length others → length rows ≡ most_changes)
    → dropped (others ++ rows) ≡ others
dropped_are others rows few full =
    ap (λ (n : ℕ). take (n - 1024) (others ++ rows)) (length-append others rows)
    ∙ ap (λ (n : ℕ). take n (others ++ rows)) (count_of_others (length others) (length rows) few full)
    ∙ take-append_seam others rows

after_by : (b : Bool) (v : ℕ) (others rows : List Change) → list_any (is_after v) others ≡ b
    → cond b None (Some (filter (is_after v) (others ++ rows))) ≡ cond b None (Some (filter (is_after v) rows))
after_by true v others rows is = refl
after_by false v others rows is =
    ap Some (filter-append (is_after v) others rows ∙ ap (λ (xs : List Change). xs ++ filter (is_after v) rows) (none_found (is_after v) others is))

-- so the changes behind a version are among those that it keeps, unless one is dropped
pub after_kept : (v lost : ℕ) (others rows all : List Change) → all ≡ others ++ rows → lost ≡ greatest_version others
    → length rows ≤ most_changes → (0 < length others → length rows ≡ most_changes)
    → changes_after v all ≡ (if nat_lt v lost then None else Some (filter (is_after v) rows))
unfolding changes_after
after_kept v lost others rows all are is few full =
    ap (λ (xs : List Change). changes_after v xs) are
    ∙ ap (λ (xs : List Change). cond (list_any (is_after v) xs) None (Some (filter (is_after v) (others ++ rows)))) (dropped_are others rows few full)
    ∙ after_by (list_any (is_after v) others) v others rows refl
    ∙ ap (λ (b : Bool). cond b None (Some (filter (is_after v) rows))) (behind_greatest v others ∙ ap (nat_lt v) (sym is))

pub after_missed : (ring : Changes) (all : List Change) (v : ℕ) → KeepsNewest ring all → v < ring.lost → None ≡ changes_after v all
after_missed ring all v k below =
    let test : nat_lt v ring.lost ≡ true = grind (arith, nat_tests) in
    sym (after_kept v ring.lost k.others ring.rows.items all k.are k.lost k.few k.full
    ∙ ap (λ (b : Bool). cond b None (Some (filter (is_after v) ring.rows.items))) test)

pub after_found : (ring : Changes) (all : List Change) (v : ℕ) → KeepsNewest ring all → ring.lost ≤ v
    → Some (filter (is_after v) ring.rows.items) ≡ changes_after v all
after_found ring all v k within =
    let test : nat_lt v ring.lost ≡ false = grind (arith, nat_tests) in
    sym (after_kept v ring.lost k.others ring.rows.items all k.are k.lost k.few k.full
    ∙ ap (λ (b : Bool). cond b None (Some (filter (is_after v) ring.rows.items))) test)

-- a ring that isn't full, with one change more
pub keeps_more : (old new : Changes) (all : List Change) (change : Change) → KeepsNewest old all → length old.rows.items < most_changes
    → new.rows.items ≡ old.rows.items ++ change ∷ [] → deque_len new.rows ≡ deque_len old.rows + 1
    → deque_capacity new.rows ≡ deque_capacity old.rows → new.lost ≡ old.lost → KeepsNewest new (all ++ change ∷ [])
keeps_more old new all change k below items len room lost =
    let longer : length new.rows.items ≡ length old.rows.items + 1 = ap length items ∙ length-append old.rows.items (change ∷ []) in
    let others : List Change = k.others in
    record {
      others = others;
      are = ap (λ (xs : List Change). xs ++ change ∷ []) k.are ∙ append_assoc others old.rows.items (change ∷ []) ∙ ap (λ (xs : List Change). others ++ xs) (sym items);
      lost = lost ∙ k.lost;
      few = omega (arith, longer);
      full = λ some. let is : length old.rows.items ≡ 1024 = k.full some in absurd (omega (arith, is));
      room = room ∙ k.room;
      counted = len ∙ ap (λ (n : ℕ). n + 1) k.counted ∙ sym longer;
    }

rejoined : (others rest : List Change) (oldest change : Change) → (others ++ oldest ∷ rest) ++ change ∷ [] ≡ (others ++ oldest ∷ []) ++ (rest ++ change ∷ [])
rejoined others rest oldest change = simp append_assoc

-- a full ring, with one change more
pub keeps_full : (old new : Changes) (all rest : List Change) (oldest change : Change) → KeepsNewest old all → most_changes ≤ length old.rows.items
    → old.rows.items ≡ oldest ∷ rest → new.rows.items ≡ rest ++ change ∷ [] → deque_len new.rows ≡ deque_len old.rows
    → deque_capacity new.rows ≡ deque_capacity old.rows → new.lost ≡ max old.lost oldest.version → KeepsNewest new (all ++ change ∷ [])
keeps_full old new all rest oldest change k above popped items len room lost =
    let shorter : length old.rows.items ≡ length rest + 1 = ap length popped ∙ omega arith in
    let longer : length new.rows.items ≡ length rest + 1 = ap length items ∙ length-append rest (change ∷ []) in
    let others : List Change = k.others in
    record {
      others = others ++ oldest ∷ [];
      are = ap (λ (xs : List Change). xs ++ change ∷ []) (k.are ∙ ap (λ (xs : List Change). others ++ xs) popped)
          ∙ rejoined others rest oldest change ∙ ap (λ (xs : List Change). (others ++ oldest ∷ []) ++ xs) (sym items);
      lost = lost ∙ ap (λ (n : ℕ). max n oldest.version) k.lost ∙ sym (greatest_more others oldest);
      few = let few : length old.rows.items ≤ 1024 = k.few in omega (arith, longer, shorter);
      full = λ some. let few : length old.rows.items ≤ 1024 = k.few in omega (arith, longer, shorter);
      room = room ∙ k.room;
      counted = len ∙ k.counted ∙ shorter ∙ sym longer;
    }

last_behind : (o : Option Change) (xs ys : List Change) → last_or o (xs ++ ys) ≡ last_or (last_or o xs) ys
last_behind o [] ys = refl
last_behind o (x ∷ xs) ys = last_behind (Some x) xs ys

-- the last change is the one at the last place
last_at : (o : Option Change) (xs : List Change) (n : ℕ) (x : Change) → length xs ≡ n + 1 → slice_index_or xs n x ≡ x → last_or o xs ≡ Some x
last_at o [] n x long is = absurd (omega (arith, long))
last_at o (y ∷ []) zero x long is = ap Some is
last_at o (y ∷ []) (suc n) x long is = absurd (omega (arith, long))
last_at o (y ∷ z ∷ zs) zero x long is = absurd (omega (arith, long))
last_at o (y ∷ z ∷ zs) (suc n) x long is = last_at (Some y) (z ∷ zs) n x (omega (arith, long)) is

pub last_is_kept : (ring : Changes) (all : List Change) (x : Change) → KeepsNewest ring all → 0 < deque_len ring.rows
    → slice_index_or ring.rows.items (deque_len ring.rows - 1) x ≡ x → x.version ≡ last_version all
last_is_kept ring all x k some is =
    let long : length ring.rows.items ≡ deque_len ring.rows - 1 + 1 = omega (arith, some, k.counted) in
    sym (ap last_version k.are
    ∙ ap (λ (o : Option Change). unwrap_or (option_map (λ (c : Change). c.version) o) 0)
    (last_behind None k.others ring.rows.items ∙ last_at (last_or None k.others) ring.rows.items (deque_len ring.rows - 1) x long is))

none_before : (o r : ℕ) → (0 < o → r ≡ 1024) → r ≡ 0 → o ≡ 0
none_before zero r full none = refl
none_before (suc o) r full none = let is : r ≡ 1024 = full (omega arith) in absurd (omega (arith, is, none))

of_none : (all others rows : List Change) → all ≡ others ++ rows → length others ≡ 0 → length rows ≡ 0 → 0 ≡ last_version all
of_none all [] [] are o r = sym (ap last_version are)
of_none all (c ∷ cs) rows are o r = absurd (omega (arith, o))
of_none all [] (c ∷ cs) are o r = absurd (omega (arith, r))

pub last_of_none : (ring : Changes) (all : List Change) → KeepsNewest ring all → deque_len ring.rows ≡ 0 → 0 ≡ last_version all
last_of_none ring all k none =
    let empty : length ring.rows.items ≡ 0 = omega (arith, none, k.counted) in
    of_none all k.others ring.rows.items k.are (none_before (length k.others) (length ring.rows.items) k.full empty) empty

cond_some : (b : Bool) (xs ys : List Change) → cond b None (Some xs) ≡ Some ys → ys ≡ xs
cond_some true xs ys is = absurd cc
cond_some false xs ys is = sym (same_Some xs ys is)

-- what is found behind a version are all changes behind it
pub found_behind : (v : ℕ) (all found : List Change) → changes_after v all ≡ Some found → found ≡ filter (is_after v) all
unfolding changes_after
found_behind v all found has = cond_some (list_any (is_after v) (dropped all)) (filter (is_after v) all) found has
