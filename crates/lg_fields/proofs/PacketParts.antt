-- The fields that are as in packets: what is read is spelled so, and what is spelled so is read again.
use Rattle.std.proofs.Common.{◌≡◌, ℕ, ◌<◌, ◌≤◌, ◌^◌, IsTrue, cond, ltb, List, ◌++◌, Option, Ok, Err, refl, ap, subst, arith}
use Rattle.std.specs.List.{AllByRecursion}
use Rattle.std.specs.Int.{w32}
use Rattle.std.proofs.lemmas.Bool.{le-ltb, ltb-false}
use Rattle.lg_rules.specs.declared.addr.Addr.{Addr}
use Rattle.lg_rules.specs.declared.version.Version.TheVariants.{Three}
use Rattle.lg_rules.specs.Meaning.Name.{is_name}
use Rattle.lg_packet.specs.declared.fault.Fault.TheVariants as faults
use Rattle.lg_packet.specs.Meaning.Bytes.{IsByte}
use Rattle.lg_packet.specs.Meaning.Spelling.{IsNameIfAny, spelled_name, spelled_number, spelled_or_none}
use Rattle.lg_packet.specs.Meaning.Reading.{addr_at, incarnation_at, name_at, name_or_none_at, number_at}
use Rattle.lg_packet.proofs.DecodingLaws.{are_bytes}
use Rattle.lg_packet.proofs.NameFields.{name_again, name_read}
use Rattle.lg_packet.proofs.Fields.{addr_again, addr_read, group_again, group_read, number_again, number_read}
use Rattle.lg_packet.proofs.Outcomes as packets
use Rattle.lg_fields.specs.Meaning.Spelled.{IsPlace, spelled_place}
use Rattle.lg_fields.specs.Meaning.Scanned.{as_field, incarnation_scan, label_scan, maybe_label_scan, place_scan, word_scan}
use Rattle.lg_fields.proofs.Results.{field_ok}

pub label_takes : (bytes : List ℕ) (x : List ℕ × List ℕ) → label_scan bytes ≡ Ok x → (bytes ≡ spelled_name x.0 ++ x.1) × IsTrue (is_name x.0)
label_takes bytes x e = name_read bytes x (field_ok (name_at bytes) x e)

pub label_again : (name rest : List ℕ) → IsTrue (is_name name) → label_scan (spelled_name name ++ rest) ≡ Ok (name, rest)
label_again name rest fit = rw (name_again name rest fit) refl

pub maybe_label_takes : (bytes : List ℕ) (x : Option (List ℕ) × List ℕ) → maybe_label_scan bytes ≡ Ok x → (bytes ≡ spelled_or_none x.0 ++ x.1) × IsNameIfAny x.0
maybe_label_takes bytes x e = group_read Three bytes x (field_ok (name_or_none_at bytes) x e)

pub maybe_label_again : (name : Option (List ℕ)) (rest : List ℕ) → IsNameIfAny name → maybe_label_scan (spelled_or_none name ++ rest) ≡ Ok (name, rest)
maybe_label_again name rest fit = rw (group_again Three name rest fit) refl

pub word_takes : (bytes : List ℕ) (x : ℕ × List ℕ) → AllByRecursion IsByte bytes → word_scan bytes ≡ Ok x → (bytes ≡ spelled_number x.0 ++ x.1) × (x.0 < 2 ^ 32)
word_takes bytes x fit e = number_read bytes x (are_bytes bytes fit) (field_ok (number_at w32 bytes) x e)

pub word_again : (n : ℕ) (rest : List ℕ) → n < 2 ^ 32 → word_scan (spelled_number n ++ rest) ≡ Ok (n, rest)
word_again n rest fit = ap as_field (number_again n rest fit)

pub incarnation_takes : (bytes : List ℕ) (x : ℕ × List ℕ) → AllByRecursion IsByte bytes → incarnation_scan bytes ≡ Ok x → (bytes ≡ spelled_number x.0 ++ x.1) × (x.0 ≤ 1000000000)
unfolding incarnation_at
incarnation_takes bytes x fit e =
    let a = packets.step_ok (number_at w32 bytes) (λ number. cond (ltb 1000000000 number.0) (Err faults.Incarnation) (Ok number)) x (field_ok (incarnation_at bytes) x e) in
    let b = packets.passed_by (ltb 1000000000 a.0.0) faults.Incarnation (Ok a.0) x a.2 in
    let number = number_read bytes a.0 (are_bytes bytes fit) a.1 in
    subst (λ (y : ℕ × List ℕ). (bytes ≡ spelled_number y.0 ++ y.1) × (y.0 ≤ 1000000000)) (packets.same_ok a.0 x b.1) (number.0, ltb-false 1000000000 a.0.0 b.0)

pub incarnation_again : (n : ℕ) (rest : List ℕ) → n ≤ 1000000000 → incarnation_scan (spelled_number n ++ rest) ≡ Ok (n, rest)
unfolding incarnation_at
incarnation_again n rest fit = rw (number_again n rest (omega arith), le-ltb 1000000000 n fit) refl

pub place_takes : (bytes : List ℕ) (x : Addr × List ℕ) → AllByRecursion IsByte bytes → place_scan bytes ≡ Ok x → (bytes ≡ spelled_place x.0 ++ x.1) × IsPlace x.0
place_takes bytes x fit e = addr_read Three bytes x (are_bytes bytes fit) (field_ok (addr_at Three bytes) x e)

pub place_again : (addr : Addr) (rest : List ℕ) → IsPlace addr → place_scan (spelled_place addr ++ rest) ≡ Ok (addr, rest)
place_again addr rest fit = ap as_field (addr_again Three addr rest fit)
