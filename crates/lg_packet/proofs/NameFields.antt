-- The bytes of a name at the front of others.
use Rattle.std.proofs.Common.{◌≡◌, ℕ, ◌≤◌, Bool, true, false, cond, eqb, ltb, IsTrue, List, [], ◌∷◌, ◌++◌, length, take, drop, Option, None, Result, Ok, Err, refl, sym, ap, subst, ◌∙◌, arith, length-append}
use Rattle.std.specs.List.{list_all}
use Rattle.std.specs.Option.{ok_or}
use Rattle.std.specs.Result.{result_ok}
use Rattle.std.proofs.lemmas.Bool.{le-ltb, ltb-false, le-leb, eqb-false, ne_eqb}
use Rattle.std.proofs.lemmas.List.{length-take, take-append-drop, take_at, drop_at}
use Rattle.lg_rules.proofs.NameLemmas.{is_named}
use Rattle.lg_rules.specs.Meaning.Name.{is_name_byte, is_name, bad_byte, name_of_text, unless_bad}
use Rattle.lg_packet.specs.declared.fault.Fault.{Fault}
use Rattle.lg_packet.specs.declared.fault.Fault.TheVariants as faults
use Rattle.lg_packet.specs.Meaning.Reading.{name_bytes_at, name_at}
use Rattle.lg_packet.specs.Meaning.Spelling.{spelled_name}
use Rattle.lg_packet.specs.Support.Gives.{Gives}
use Rattle.lg_packet.proofs.Outcomes.{passed, passed_by, same_ok}

-- where each byte is good, none is bad
none_bad : (text : List ℕ) → list_all is_name_byte text ≡ true → bad_byte text ≡ None
none_bad [] good = refl
none_bad (b ∷ bs) good = step (is_name_byte b) refl (none_bad bs)
  where
    step : (here : Bool) → is_name_byte b ≡ here → (list_all is_name_byte bs ≡ true → bad_byte bs ≡ None) → bad_byte (b ∷ bs) ≡ None
    step true e rest = rw e (rest (rw e at good))
    step false e rest = let bad : false ≡ true = rw e at good in absurd cc

-- 1 to 32 good bytes are a name
pub good_name : (text : List ℕ) → 1 ≤ length text → length text ≤ 32 → list_all is_name_byte text ≡ true → name_of_text text ≡ Ok text
good_name text some few good =
    rw (ne_eqb (length text) 0 (omega arith), le-ltb 32 (length text) few, none_bad text good) refl

-- where some byte is bad, the text is no name
no_name : (text whole : List ℕ) → list_all is_name_byte text ≡ false → result_ok (unless_bad (bad_byte text) whole) ≡ None
no_name [] whole bad = absurd cc
no_name (b ∷ bs) whole bad = step (is_name_byte b) refl (no_name bs whole)
  where
    step : (here : Bool) → is_name_byte b ≡ here → (list_all is_name_byte bs ≡ false → result_ok (unless_bad (bad_byte bs) whole) ≡ None) → result_ok (unless_bad (bad_byte (b ∷ bs)) whole) ≡ None
    step true e later = let rest : list_all is_name_byte bs ≡ false = rw e at bad in rw e (later rest)
    step false e later = rw e refl

pub bad_name : (text : List ℕ) → 1 ≤ length text → length text ≤ 32 → list_all is_name_byte text ≡ false → result_ok (name_of_text text) ≡ None
bad_name text some few bad =
    rw (ne_eqb (length text) 0 (omega arith), le-ltb 32 (length text) few) (no_name text text bad)

-- a name whose bytes are there
pub name_whole : (n : ℕ) (bytes text rest : List ℕ) (r : Result (List ℕ) Fault) → 1 ≤ n → n ≤ 32 → n ≤ length bytes → text ≡ take n bytes → rest ≡ drop n bytes
    → r ≡ ok_or (result_ok (name_of_text text)) faults.Name → Gives (λ x. (x, rest)) r (name_bytes_at n bytes)
name_whole n bytes text rest r some few enough front back e = step (list_all is_name_byte text) refl
  where
    step : (good : Bool) → list_all is_name_byte text ≡ good → Gives (λ x. (x, rest)) r (name_bytes_at n bytes)
    step true good =
        let len : length text ≡ n = omega (arith, ap length front, length-take n bytes) in
        let made : r ≡ Ok text = e ∙ ap (λ m. ok_or (result_ok m) faults.Name) (good_name text (omega arith) (omega arith) good) in
        let read : name_bytes_at n bytes ≡ Ok (text, rest) = rw (sym front, good, le-ltb (length bytes) n enough, sym back) refl in
        subst (λ (s : Result (List ℕ) Fault). Gives (λ x. (x, rest)) s (name_bytes_at n bytes)) (sym made) read
    step false bad =
        let len : length text ≡ n = omega (arith, ap length front, length-take n bytes) in
        let made : r ≡ Err faults.Name = e ∙ ap (λ (m : Option (List ℕ)). ok_or m faults.Name) (bad_name text (omega arith) (omega arith) bad) in
        let read : name_bytes_at n bytes ≡ Err faults.Name = rw (sym front, bad) refl in
        subst (λ (s : Result (List ℕ) Fault). Gives (λ x. (x, rest)) s (name_bytes_at n bytes)) (sym made) read

-- ---- a name that is read, and one that is written

read_parts : (none long good short : Bool) (x y : List ℕ × List ℕ)
    → cond none (Err faults.Name) (cond long (Err faults.Name) (cond good (cond short (Err faults.Short) (Ok x)) (Err faults.Name))) ≡ Ok y
    → (none ≡ false) × (long ≡ false) × (good ≡ true) × (short ≡ false) × (x ≡ y)
read_parts none long good short x y e =
    let a = passed_by none faults.Name (cond long (Err faults.Name) (cond good (cond short (Err faults.Short) (Ok x)) (Err faults.Name))) y e in
    let b = passed_by long faults.Name (cond good (cond short (Err faults.Short) (Ok x)) (Err faults.Name)) y a.1 in
    let d = passed good faults.Name (cond short (Err faults.Short) (Ok x)) y b.1 in
    let f = passed_by short faults.Short (Ok x) y d.1 in
    (a.0, b.0, d.0, f.0, same_ok x y f.1)

pub name_read : (bytes : List ℕ) (x : List ℕ × List ℕ) → name_at bytes ≡ Ok x → (bytes ≡ spelled_name x.0 ++ x.1) × IsTrue (is_name x.0)
unfolding name_at
name_read [] x e = absurd cc
name_read (n ∷ bytes) x e =
    let p = read_parts (eqb n 0) (ltb 32 n) (list_all is_name_byte (take n bytes)) (ltb (length bytes) n) (take n bytes, drop n bytes) x e in
    let some : 1 ≤ n = omega (arith, eqb-false n 0 p.0) in
    let few : n ≤ 32 = ltb-false 32 n p.1 in
    let enough : n ≤ length bytes = ltb-false (length bytes) n p.3 in
    let len : length (take n bytes) ≡ n = omega (arith, length-take n bytes) in
    let whole : n ∷ bytes ≡ spelled_name (take n bytes) ++ drop n bytes = rw (len, take-append-drop) refl in
    let name : is_name (take n bytes) ≡ true = rw (len, le-leb 1 n some, le-leb n 32 few, p.2) refl in
    subst (λ (y : List ℕ × List ℕ). (n ∷ bytes ≡ spelled_name y.0 ++ y.1) × IsTrue (is_name y.0)) p.4 (whole, name)

pub name_again : (name rest : List ℕ) → IsTrue (is_name name) → name_at (spelled_name name ++ rest) ≡ Ok (name, rest)
unfolding name_at
name_again name rest h =
    let n = is_named name h in
    let enough : length name ≤ length (name ++ rest) = omega (arith, length-append name rest) in
    rw (ne_eqb (length name) 0 (omega (arith, n.some)), le-ltb 32 (length name) n.few, take_at name rest (length name) refl, n.good, le-ltb (length (name ++ rest)) (length name) enough, drop_at name rest (length name) refl) refl
