-- Reading entries chunk by chunk gives what the bytes hold.
use Rattle.std.proofs.Common.{◌≡◌, ℕ, zero, suc, ◌+◌, ◌≤◌, ◌<◌, List, [], ◌∷◌, ◌++◌, length, Some, None, Result, Ok, Err, refl, sym, ap, subst, ◌∙◌, arith}
use Rattle.std.specs.List.{AllByRecursion}
use Rattle.std.proofs.lemmas.List.{length-append}
use Rattle.lg_packet.specs.Meaning.Bytes.{IsByte}
use Rattle.lg_fields.specs.declared.fault.FieldFault.{FieldFault}
use Rattle.lg_fields.specs.Meaning.Spelled.{chunk}
use Rattle.lg_fields.specs.Meaning.Scanned.{◌>>=◌}
use Rattle.lg_recording.specs.Meaning.Values.{RecordedEntry}
use Rattle.lg_recording.specs.Meaning.Scanning.{recorded_of}
use Rattle.lg_recording.specs.Meaning.Listing.{entry_chunk_scan, ListedEntries, listing, listed_before, listed_upto, entries_scan}
use Rattle.lg_recording.proofs.FieldLaws.{chunk_field}
use Rattle.lg_recording.proofs.Parts.{same_ok, stepped}
use Rattle.lg_recording.proofs.Torn.{chunk_some, upto_one, none_listed}

-- fewer bytes are left
shorter : (bytes : List ℕ) (x : RecordedEntry × List ℕ) → AllByRecursion IsByte bytes → entry_chunk_scan bytes ≡ Ok x → (length x.1 < length bytes) × AllByRecursion IsByte x.1
unfolding entry_chunk_scan
shorter bytes x fit e =
    let body = stepped chunk_field (λ body. recorded_of body.0 >>= λ entry. Ok (entry, body.1)) bytes x fit e in
    left body.value body.rest body.whole body.are_bytes (recorded_of body.value) body.then
  where
    left : (body rest : List ℕ) → bytes ≡ chunk body ++ rest → AllByRecursion IsByte rest → (r : Result RecordedEntry FieldFault) → (r >>= λ entry. Ok (entry, rest)) ≡ Ok x
        → (length x.1 < length bytes) × AllByRecursion IsByte x.1
    left body rest whole fits (Ok entry) e =
        let some = chunk_some body in
        let sum : length bytes ≡ length (chunk body) + length rest = ap length whole ∙ length-append (chunk body) rest in
        let fewer : length rest < length bytes = omega (arith, some, sum) in
        subst (λ (y : RecordedEntry × List ℕ). (length y.1 < length bytes) × AllByRecursion IsByte y.1) (same_ok (entry, rest) x e) (fewer, fits)
    left body rest whole fits (Err f) e = absurd cc

-- as many steps as there are bytes are enough
enough : (n m : ℕ) (bytes : List ℕ) → AllByRecursion IsByte bytes → length bytes ≤ n → length bytes ≤ m → listed_upto n bytes ≡ listed_upto m bytes
enough n m [] fit few small = none_listed n ∙ sym (none_listed m)
enough zero m (b ∷ bytes) fit few small = absurd (omega (arith, few))
enough (suc n) zero (b ∷ bytes) fit few small = absurd (omega (arith, small))
enough (suc n) (suc m) (b ∷ bytes) fit few small =
    upto_one n (b ∷ bytes) (omega arith)
    ∙ after (entry_chunk_scan (b ∷ bytes)) refl (λ rest fits less. enough n m rest fits (omega (arith, less, few)) (omega (arith, less, small)))
    ∙ sym (upto_one m (b ∷ bytes) (omega arith))
  where
    after : (r : Result (RecordedEntry × List ℕ) FieldFault) → entry_chunk_scan (b ∷ bytes) ≡ r
        → ((rest : List ℕ) → AllByRecursion IsByte rest → length rest < length (b ∷ bytes) → listed_upto n rest ≡ listed_upto m rest)
        → listed_before r (λ rest. listed_upto n rest) ≡ listed_before r (λ rest. listed_upto m rest)
    after (Ok x) is same = let s = shorter (b ∷ bytes) x fit is in ap (λ (l : ListedEntries). listing (x.0 ∷ l.entries) l.fault) (same x.1 s.1 s.0)
    after (Err f) is same = refl

pub no_step : entries_scan [] ≡ listing [] None
no_step = none_listed 0

pub one_step : (bytes rest : List ℕ) (e : RecordedEntry) → AllByRecursion IsByte bytes → entry_chunk_scan bytes ≡ Ok (e, rest) → entries_scan bytes ≡ listing (e ∷ (entries_scan rest).entries) (entries_scan rest).fault
one_step [] rest e fit is = let s = shorter [] (e, rest) fit is in absurd (omega (arith, s.0))
one_step (b ∷ bytes) rest e fit is =
    let s = shorter (b ∷ bytes) (e, rest) fit is in
    upto_one (length bytes) (b ∷ bytes) (omega arith)
    ∙ ap (λ (r : Result (RecordedEntry × List ℕ) FieldFault). listed_before r (λ more. listed_upto (length bytes) more)) is
    ∙ ap (λ (l : ListedEntries). listing (e ∷ l.entries) l.fault) (enough (length bytes) (length rest) rest s.1 (omega (arith, s.0)) (omega arith))

pub last_step : (bytes : List ℕ) (f : FieldFault) → 0 < length bytes → entry_chunk_scan bytes ≡ Err f → entries_scan bytes ≡ listing [] (Some f)
last_step [] f some is = absurd (omega (arith, some))
last_step (b ∷ bytes) f some is =
    upto_one (length bytes) (b ∷ bytes) some
    ∙ ap (λ (r : Result (RecordedEntry × List ℕ) FieldFault). listed_before r (λ more. listed_upto (length bytes) more)) is
