-- Flags and texts: what is read is spelled so, and what is spelled so is read again.
use Rattle.std.proofs.Common.{◌≡◌, ℕ, ◌≤◌, Bool, true, false, cond, eqb, ltb, List, [], ◌∷◌, ◌++◌, length, take, drop, Ok, Err, refl, sym, ap, subst, ◌∙◌, append_assoc, arith, length-append}
use Rattle.std.specs.List.{AllByRecursion}
use Rattle.std.proofs.lemmas.Bool.{eqb-true, le-ltb, ltb-false}
use Rattle.std.proofs.lemmas.List.{length-take, take-append-drop, take_at, drop_at}
use Rattle.lg_packet.specs.Meaning.Bytes.{IsByte}
use Rattle.lg_fields.specs.declared.fault.FieldFault.TheVariants as faults
use Rattle.lg_fields.specs.Meaning.Spelled.{IsCountedText, spelled_count, spelled_flag, spelled_text}
use Rattle.lg_fields.specs.Meaning.Scanned.{byte_scan, count_scan, flag_scan, split_scan, text_scan}
use Rattle.lg_fields.proofs.Results.{step_ok, passed_by, same_ok}
use Rattle.lg_fields.proofs.Numbers.{count_takes, count_again}

-- ---- bytes and flags

pub byte_takes : (bytes : List ℕ) (x : ℕ × List ℕ) → AllByRecursion IsByte bytes → byte_scan bytes ≡ Ok x → (bytes ≡ x.0 ∷ x.1) × IsByte x.0
byte_takes [] x fit e = absurd cc
byte_takes (b ∷ bytes) x fit e = subst (λ (y : ℕ × List ℕ). (b ∷ bytes ≡ y.0 ∷ y.1) × IsByte y.0) (same_ok (b, bytes) x e) (refl, fit.0)

pub flag_takes : (bytes : List ℕ) (x : Bool × List ℕ) → flag_scan bytes ≡ Ok x → bytes ≡ spelled_flag x.0 ++ x.1
flag_takes [] x e = absurd cc
flag_takes (b ∷ bytes) x e = step (eqb b 0) refl (eqb b 1) refl e
  where
    step : (zero : Bool) → eqb b 0 ≡ zero → (one : Bool) → eqb b 1 ≡ one → cond zero (Ok (false, bytes)) (cond one (Ok (true, bytes)) (Err faults.Kind)) ≡ Ok x → b ∷ bytes ≡ spelled_flag x.0 ++ x.1
    step true h one i k = subst (λ (y : Bool × List ℕ). b ∷ bytes ≡ spelled_flag y.0 ++ y.1) (same_ok (false, bytes) x k) (ap (λ (n : ℕ). n ∷ bytes) (eqb-true b 0 h))
    step false h true i k = subst (λ (y : Bool × List ℕ). b ∷ bytes ≡ spelled_flag y.0 ++ y.1) (same_ok (true, bytes) x k) (ap (λ (n : ℕ). n ∷ bytes) (eqb-true b 1 i))
    step false h false i k = absurd cc

pub flag_again : (flag : Bool) (rest : List ℕ) → flag_scan (spelled_flag flag ++ rest) ≡ Ok (flag, rest)
flag_again false rest = refl
flag_again true rest = refl

-- ---- the first bytes, and those behind them

pub split_takes : (n : ℕ) (bytes : List ℕ) (x : List ℕ × List ℕ) → split_scan n bytes ≡ Ok x → (bytes ≡ x.0 ++ x.1) × (length x.0 ≡ n)
split_takes n bytes x e =
    let p = passed_by (ltb (length bytes) n) faults.Short (Ok (take n bytes, drop n bytes)) x e in
    let enough : n ≤ length bytes = ltb-false (length bytes) n p.0 in
    let count : length (take n bytes) ≡ n = omega (arith, length-take n bytes) in
    subst (λ (y : List ℕ × List ℕ). (bytes ≡ y.0 ++ y.1) × (length y.0 ≡ n)) (same_ok (take n bytes, drop n bytes) x p.1) (sym (take-append-drop n bytes), count)

pub split_again : (n : ℕ) (front rest : List ℕ) → length front ≡ n → split_scan n (front ++ rest) ≡ Ok (front, rest)
split_again n front rest count =
    let enough : ltb (length (front ++ rest)) n ≡ false = le-ltb (length (front ++ rest)) n (omega (arith, count, length-append front rest)) in
    rw (enough, take_at front rest n count, drop_at front rest n count) refl

-- ---- texts

pub text_takes : (bytes : List ℕ) (x : List ℕ × List ℕ) → AllByRecursion IsByte bytes → text_scan bytes ≡ Ok x → (bytes ≡ spelled_text x.0 ++ x.1) × IsCountedText x.0
unfolding text_scan
text_takes bytes x fit e =
    let a = step_ok (count_scan bytes) (λ number. split_scan number.0 number.1) x e in
    let number = count_takes bytes a.0 fit a.1 in
    let parts = split_takes a.0.0 a.0.1 x a.2 in
    let whole : bytes ≡ spelled_count (length x.0) ++ (x.0 ++ x.1) =
    number.0 ∙ ap (λ (t : List ℕ). spelled_count a.0.0 ++ t) parts.0 ∙ ap (λ (n : ℕ). spelled_count n ++ (x.0 ++ x.1)) (sym parts.1) in
    (whole ∙ sym (append_assoc (spelled_count (length x.0)) x.0 x.1), omega (arith, number.1, parts.1))

pub text_again : (text rest : List ℕ) → IsCountedText text → text_scan (spelled_text text ++ rest) ≡ Ok (text, rest)
unfolding text_scan
text_again text rest fit =
    ap text_scan (append_assoc (spelled_count (length text)) text rest)
    ∙ rw (count_again (length text) (text ++ rest) fit) (split_again (length text) text rest refl)
