-- The names of hosts in their rows, and as texts.
use Rattle.std.proofs.Common.{◌≡◌, ℕ, ◌-◌, ◌≤◌, ◌<◌, Bool, true, false, ◌&&◌, IsTrue, leb, List, [], ◌∷◌, ◌++◌, length, take, drop, replicate, refl, ap, arith, length-append}
use Rattle.std.specs.List.{list_all, list_any}
use Rattle.std.specs.Str.{IsAscii, IsUtf8}
use Rattle.std.proofs.Math.Seq.{take-append_seam}
use Rattle.std.proofs.lemmas.Bool.{leb-true}
use Rattle.std.proofs.lemmas.Bool.Decides.{nat_tests}
use Rattle.std.proofs.lemmas.List.{drop-replicate, length-replicate}
use Rattle.std.proofs.lemmas.Str.{IsUtf8-from_ascii}
use Rattle.std.proofs.lemmas.Str.Ascii.{IsAscii-nil, IsAscii-cons}
use Rattle.lg_rules.specs.Meaning.Name.{is_name_byte}
use Rattle.lg_config.specs.Meaning.Bounds.{most_host_bytes}
use Rattle.lg_config.specs.Meaning.Hosts.{is_host, is_letter}
use Rattle.lg_config.specs.Support.HostRows.{HoldsHost, padded_host}

both : (p q : Bool) → (p && q) ≡ true → (p ≡ true) × (q ≡ true)
both true q is = (refl, is)
both false q is = absurd cc

-- the parts of the name of a host: not too many bytes, and each may stand there
pub record IsHostText (text : List ℕ) : Type 0 where
  pub some : 1 ≤ length text
  pub few : length text ≤ most_host_bytes
  pub good : list_all is_name_byte text ≡ true

pub host_parts : (text : List ℕ) → IsTrue (is_host text) → IsHostText text
host_parts text host =
    let p = both (leb 1 (length text) && leb (length text) most_host_bytes) (list_all is_name_byte text && list_any is_letter text) host in
    let q = both (leb 1 (length text)) (leb (length text) most_host_bytes) p.0 in
    let r = both (list_all is_name_byte text) (list_any is_letter text) p.1 in
    record { some = leb-true 1 (length text) q.0; few = leb-true (length text) most_host_bytes q.1; good = r.0 }

-- ---- a name is stored with zeros behind it

pub host_copied : (copied text : List ℕ) → copied ≡ text → IsTrue (is_host text) → HoldsHost (copied ++ drop (length text) (replicate {A = ℕ} 253 0)) (length text)
host_copied copied text same host =
    let few = (host_parts text host).few in
    rw (same, drop-replicate {X = ℕ} (length text) 253 0) (
    let zeros : List ℕ = replicate (253 - length text) 0 in
    let front : take (length text) (text ++ zeros) ≡ text = take-append_seam text zeros in
    record {
      whole = omega (arith, length-append text zeros, length-replicate {A = ℕ} (253 - length text) 0);
      within = few;
      zeros = ap padded_host front;
      named = rw front host;
    })

-- ---- it is UTF-8

byte-low : (b : ℕ) → is_name_byte b ≡ true → b < 128
byte-low b is = grind (arith, nat_tests)

bytes-ascii : (bs : List ℕ) → list_all is_name_byte bs ≡ true → IsAscii bs
bytes-ascii [] is = IsAscii-nil
bytes-ascii (b ∷ bs) is =
    let parts = both (is_name_byte b) (list_all is_name_byte bs) is in
    IsAscii-cons b bs (byte-low b parts.0) (bytes-ascii bs parts.1)

pub host-utf8 : (text : List ℕ) → IsTrue (is_host text) → IsUtf8 text
host-utf8 text host = IsUtf8-from_ascii text (bytes-ascii text (host_parts text host).good)
