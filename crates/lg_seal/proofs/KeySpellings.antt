-- The lines that spell a key.
use Rattle.std.proofs.Common.{◌≡◌, ℕ, ◌*◌, List, length, Result, Ok, Err, Some, ap, ◌∙◌, arith}
use Rattle.std.specs.Prelude.{◌↔◌, IsOk, IsSome}
use Rattle.std.specs.List.{AllPass}
use Rattle.std.specs.Result.{result_ok}
use Rattle.hex.proofs.HexLemmas.{IsOk-decode_sized, decode_of-encode_lower, decode_of-encode_upper}
use Rattle.hex.proofs.HexLemmas.{decode_sized-twice, length-encode_with}
use Rattle.hex.specs.Hex.{IsBytes, decode_sized, encode_lower, encode_upper, is_hex_digit, lower_digits, upper_digits}
use Rattle.lg_seal.specs.Meaning.Reading.{key_bytes, key_of}

is_some-ok : {T E : Type 0} (r : Result T E) → IsSome (result_ok r) ↔ IsOk r
is_some-ok (Ok value) = (λ is. is, λ is. is)
is_some-ok (Err fault) = (λ is. is, λ is. is)

pub digits_spell : (line : List ℕ) → IsSome (key_of line) ↔ ((length line ≡ 2 * key_bytes) × AllPass is_hex_digit line)
unfolding key_of
digits_spell line =
    let decoded = is_some-ok (decode_sized line key_bytes) in
    let digits = IsOk-decode_sized line key_bytes in
    (λ is. digits.0 (decoded.0 is), λ are. decoded.1 (digits.1 are))

pub lower_spells : (key : List ℕ) → IsBytes key → length key ≡ key_bytes → key_of (encode_lower key) ≡ Some key
unfolding key_of
lower_spells key bytes long =
    let twice : length (encode_lower key) ≡ 2 * key_bytes = omega (arith, length-encode_with lower_digits key) in
    ap result_ok (decode_sized-twice (encode_lower key) key_bytes twice ∙ decode_of-encode_lower key bytes)

pub upper_spells : (key : List ℕ) → IsBytes key → length key ≡ key_bytes → key_of (encode_upper key) ≡ Some key
unfolding key_of
upper_spells key bytes long =
    let twice : length (encode_upper key) ≡ 2 * key_bytes = omega (arith, length-encode_with upper_digits key) in
    ap result_ok (decode_sized-twice (encode_upper key) key_bytes twice ∙ decode_of-encode_upper key bytes)
