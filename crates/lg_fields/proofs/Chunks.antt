-- Chunks: what is read is spelled so, and what is spelled so is read again.
use Rattle.std.proofs.Common.{◌≡◌, ℕ, true, cond, List, ◌++◌, length, Ok, Err, refl, sym, ap, subst, ◌∙◌, append_assoc, arith}
use Rattle.std.specs.List.{AllByRecursion}
use Rattle.std.specs.Str.{bytes_eq}
use Rattle.std.proofs.lemmas.List.{length-take-le}
use Rattle.std.proofs.lemmas.Slice.Eq.{bytes_eq-Decides}
use Rattle.sha2.specs.Sha256.{sha256}
use Rattle.sha2.proofs.Facts256.{length-sha256}
use Rattle.lg_packet.specs.Meaning.Bytes.{IsByte}
use Rattle.lg_fields.specs.declared.fault.FieldFault.TheVariants as faults
use Rattle.lg_fields.specs.Meaning.Spelled.{IsCountedText, check_of_body, chunk, spelled_text}
use Rattle.lg_fields.specs.Meaning.Scanned.{check_scan, chunk_scan, split_scan, text_scan}
use Rattle.lg_fields.proofs.Results.{step_ok, passed, same_ok}
use Rattle.lg_fields.proofs.Texts.{split_takes, split_again, text_takes, text_again}

pub length-check : (body : List ℕ) → length (check_of_body body) ≡ 4
length-check body = length-take-le 4 (sha256 body) (omega (arith, length-sha256 body))

check_takes : (body bytes : List ℕ) (x : List ℕ × List ℕ) → check_scan body bytes ≡ Ok x → (bytes ≡ check_of_body body ++ x.1) × (x.0 ≡ body)
check_takes body bytes x e =
    let a = step_ok (split_scan 4 bytes) (λ check. cond (bytes_eq check.0 (check_of_body body)) (Ok (body, check.1)) (Err faults.Check)) x e in
    let p = passed (bytes_eq a.0.0 (check_of_body body)) faults.Check (Ok (body, a.0.1)) x a.2 in
    let same : a.0.0 ≡ check_of_body body = (bytes_eq-Decides a.0.0 (check_of_body body)).0 p.0 in
    let whole : bytes ≡ check_of_body body ++ a.0.1 = (split_takes 4 bytes a.0 a.1).0 ∙ ap (λ (t : List ℕ). t ++ a.0.1) same in
    subst (λ (y : List ℕ × List ℕ). (bytes ≡ check_of_body body ++ y.1) × (y.0 ≡ body)) (same_ok (body, a.0.1) x p.1) (whole, refl)

pub chunk_takes : (bytes : List ℕ) (x : List ℕ × List ℕ) → AllByRecursion IsByte bytes → chunk_scan bytes ≡ Ok x → (bytes ≡ chunk x.0 ++ x.1) × IsCountedText x.0
unfolding chunk_scan chunk
chunk_takes bytes x fit e =
    let a = step_ok (text_scan bytes) (λ body. check_scan body.0 body.1) x e in
    let text = text_takes bytes a.0 fit a.1 in
    let check = check_takes a.0.0 a.0.1 x a.2 in
    let whole : bytes ≡ (spelled_text a.0.0 ++ check_of_body a.0.0) ++ x.1 =
    text.0 ∙ ap (λ (t : List ℕ). spelled_text a.0.0 ++ t) check.0 ∙ sym (append_assoc (spelled_text a.0.0) (check_of_body a.0.0) x.1) in
    subst (λ (body : List ℕ). (bytes ≡ (spelled_text body ++ check_of_body body) ++ x.1) × IsCountedText body) (sym check.1) (whole, text.1)

pub chunk_again : (body rest : List ℕ) → IsCountedText body → chunk_scan (chunk body ++ rest) ≡ Ok (body, rest)
unfolding chunk_scan chunk
chunk_again body rest fit =
    let same : bytes_eq (check_of_body body) (check_of_body body) ≡ true = (bytes_eq-Decides (check_of_body body) (check_of_body body)).1 refl in
    ap chunk_scan (append_assoc (spelled_text body) (check_of_body body) rest)
    ∙ rw (text_again body (check_of_body body ++ rest) fit, split_again 4 (check_of_body body) rest (length-check body), same) refl
