-- A name is UTF-8.
use Rattle.std.proofs.Common.{◌≡◌, ℕ, ◌<◌, Bool, true, false, ◌&&◌, List, [], ◌∷◌, refl, arith}
use Rattle.std.specs.List.{list_all}
use Rattle.std.specs.Str.{IsAscii, IsUtf8}
use Rattle.std.proofs.lemmas.Bool.Decides.{nat_tests}
use Rattle.std.proofs.lemmas.Str.{IsUtf8-from_ascii}
use Rattle.std.proofs.lemmas.Str.Ascii.{IsAscii-nil, IsAscii-cons}
use Rattle.lg_rules.specs.Meaning.Name.{is_name, is_name_byte}

byte-low : (b : ℕ) → is_name_byte b ≡ true → b < 128
byte-low b is = grind (arith, nat_tests)

both : (p q : Bool) → (p && q) ≡ true → (p ≡ true) × (q ≡ true)
both true true is = (refl, refl)
both true false is = absurd cc
both false q is = absurd cc

bytes-ascii : (bs : List ℕ) → list_all is_name_byte bs ≡ true → IsAscii bs
bytes-ascii [] is = IsAscii-nil
bytes-ascii (b ∷ bs) is =
    let parts = both (is_name_byte b) (list_all is_name_byte bs) is in
    IsAscii-cons b bs (byte-low b parts.0) (bytes-ascii bs parts.1)

pub name-utf8 : (text : List ℕ) → is_name text ≡ true → IsUtf8 text
name-utf8 text is =
    IsUtf8-from_ascii text (bytes-ascii text (both _ _ (both _ _ is).1).1)
