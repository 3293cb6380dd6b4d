-- Names in their rows.
use Rattle.std.proofs.Common.{◌≡◌, ℕ, ◌-◌, ◌≤◌, Bool, true, false, ◌&&◌, IsTrue, leb, List, [], ◌∷◌, ◌++◌, length, take, drop, replicate, Some, None, refl, ap, arith, length-append}
use Rattle.std.specs.List.{list_all}
use Rattle.std.proofs.Math.Seq.{take-append_seam}
use Rattle.std.proofs.lemmas.Bool.{le-leb, leb-true}
use Rattle.std.proofs.lemmas.List.{drop-replicate, length-replicate}
use Rattle.lg_rules.proofs.Tests.{both}
use Rattle.lg_rules.specs.Meaning.Name.{is_name_byte, is_name, bad_byte}
use Rattle.lg_rules.specs.Support.Padding.{padded, HoldsName}

-- where no byte is bad, each is good
pub none_bad : (text : List ℕ) → bad_byte text ≡ None → list_all is_name_byte text ≡ true
none_bad [] e = refl
none_bad (b ∷ bs) e = step (is_name_byte b) refl (none_bad bs)
  where
    step : (good : Bool) → is_name_byte b ≡ good → (bad_byte bs ≡ None → list_all is_name_byte bs ≡ true) → list_all is_name_byte (b ∷ bs) ≡ true
    step true g rest = rw g (rest (rw g at e))
    step false g rest = let bad : Some b ≡ None = rw g at e in absurd cc

-- so a text of 1 to 32 bytes with no bad one is a name
pub named : (text : List ℕ) → 1 ≤ length text → length text ≤ 32 → bad_byte text ≡ None → is_name text ≡ true
named text some few good = rw (le-leb 1 (length text) some, le-leb (length text) 32 few, none_bad text good) refl

-- the three parts of a name: some bytes, not too many, and each may stand there
pub record IsNamed (text : List ℕ) : Type 0 where
  pub some : 1 ≤ length text
  pub few : length text ≤ 32
  pub good : list_all is_name_byte text ≡ true

pub is_named : (text : List ℕ) → IsTrue (is_name text) → IsNamed text
is_named text name =
    let p = both (leb 1 (length text)) (leb (length text) 32 && list_all is_name_byte text) name in
    let q = both (leb (length text) 32) (list_all is_name_byte text) p.1 in
    record { some = leb-true 1 (length text) p.0; few = leb-true (length text) 32 q.0; good = q.1 }

-- a text copied over zeros
pub holds_copied : (copied text : List ℕ) → copied ≡ text → IsTrue (is_name text) → HoldsName (copied ++ drop (length text) (replicate {A = ℕ} 32 0)) (length text)
holds_copied copied text same name =
    let few = (is_named text name).few in
    rw (same, drop-replicate {X = ℕ} (length text) 32 0) (
    let zeros : List ℕ = replicate (32 - length text) 0 in
    let front : take (length text) (text ++ zeros) ≡ text = take-append_seam text zeros in
    record {
      whole = omega (arith, length-append text zeros, length-replicate {A = ℕ} (32 - length text) 0);
      within = few;
      zeros = ap padded front;
      named = rw front name;
    })
