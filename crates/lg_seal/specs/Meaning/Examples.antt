-- Examples of the definitions, which compute.
use Rattle.std.specs.Prelude.{◌≡◌, ◌++◌, refl, codes, replicate, List, [], ◌∷◌, ℕ, Some, None, Ok, Err, take}
use Rattle.hex.specs.Hex.{decode_pairs}
use Rattle.lg_text.specs.Meaning.Lines.{newline}
use Rattle.sha2.specs.Sha256.{compress, digest_bytes, first_words, hash_after, rounds, schedule, sha256}
use Rattle.lg_seal.specs.declared.fault.KeyFault.TheVariants.{NoKey, BadLine, TooManyLines, SameKeys}
use Rattle.lg_seal.specs.Meaning.Reading.{key_of, keys_of}
use Rattle.lg_seal.specs.Meaning.Tags.{hmac, padded_key}

-- ---- HMAC-SHA256: test cases 1, 2 and 3 of RFC 4231, section 4

hmac_case_1 : hmac (replicate 20 0x0B) (codes "Hi There") ≡
    0xB0 ∷ 0x34 ∷ 0x4C ∷ 0x61 ∷ 0xD8 ∷ 0xDB ∷ 0x38 ∷ 0x53 ∷ 0x5C ∷ 0xA8 ∷ 0xAF ∷ 0xCE ∷ 0xAF ∷ 0x0B ∷ 0xF1 ∷
    0x2B ∷ 0x88 ∷ 0x1D ∷ 0xC2 ∷ 0x00 ∷ 0xC9 ∷ 0x83 ∷ 0x3D ∷ 0xA7 ∷ 0x26 ∷ 0xE9 ∷ 0x37 ∷ 0x6C ∷ 0x2E ∷ 0x32 ∷
    0xCF ∷ 0xF7 ∷ []
unfolding hmac padded_key sha256 first_words schedule rounds compress hash_after digest_bytes
hmac_case_1 = refl

hmac_case_2 : hmac (codes "Jefe") (codes "what do ya want for nothing?") ≡
    0x5B ∷ 0xDC ∷ 0xC1 ∷ 0x46 ∷ 0xBF ∷ 0x60 ∷ 0x75 ∷ 0x4E ∷ 0x6A ∷ 0x04 ∷ 0x24 ∷ 0x26 ∷ 0x08 ∷ 0x95 ∷ 0x75 ∷
    0xC7 ∷ 0x5A ∷ 0x00 ∷ 0x3F ∷ 0x08 ∷ 0x9D ∷ 0x27 ∷ 0x39 ∷ 0x83 ∷ 0x9D ∷ 0xEC ∷ 0x58 ∷ 0xB9 ∷ 0x64 ∷ 0xEC ∷
    0x38 ∷ 0x43 ∷ []
unfolding hmac padded_key sha256 first_words schedule rounds compress hash_after digest_bytes
hmac_case_2 = refl

hmac_case_3 : hmac (replicate 20 0xAA) (replicate 50 0xDD) ≡
    0x77 ∷ 0x3E ∷ 0xA9 ∷ 0x1E ∷ 0x36 ∷ 0x80 ∷ 0x0E ∷ 0x46 ∷ 0x85 ∷ 0x4D ∷ 0xB8 ∷ 0xEB ∷ 0xD0 ∷ 0x91 ∷ 0x81 ∷
    0xA7 ∷ 0x29 ∷ 0x59 ∷ 0x09 ∷ 0x8B ∷ 0x3E ∷ 0xF8 ∷ 0xC1 ∷ 0x22 ∷ 0xD9 ∷ 0x63 ∷ 0x55 ∷ 0x14 ∷ 0xCE ∷ 0xD5 ∷
    0x65 ∷ 0xFE ∷ []
unfolding hmac padded_key sha256 first_words schedule rounds compress hash_after digest_bytes
hmac_case_3 = refl

-- ---- texts of keys

-- 64 digits `0`, and 64 digits `f` or `F`
abbrev zeros : List ℕ
zeros = replicate 64 48

abbrev low_fs : List ℕ
low_fs = replicate 64 102

abbrev high_fs : List ℕ
high_fs = replicate 64 70

one_key : keys_of zeros ≡ Ok (record { first = replicate 32 0; second = None })
unfolding key_of decode_pairs
one_key = refl

two_keys : keys_of (low_fs ++ newline ++ zeros ++ newline)
    ≡ Ok (record { first = replicate 32 255; second = Some (replicate 32 0) })
unfolding key_of decode_pairs
two_keys = refl

no_key : keys_of [] ≡ Err NoKey
no_key = refl

empty_line : keys_of newline ≡ Err (BadLine 1)
unfolding key_of decode_pairs
empty_line = refl

short_line : keys_of (take 63 zeros ++ newline) ≡ Err (BadLine 1)
unfolding key_of decode_pairs
short_line = refl

bad_digit : keys_of (zeros ++ newline ++ take 63 zeros ++ codes "g") ≡ Err (BadLine 2)
unfolding key_of decode_pairs
bad_digit = refl

carriage_return : keys_of (zeros ++ codes "\r" ++ newline) ≡ Err (BadLine 1)
unfolding key_of decode_pairs
carriage_return = refl

third_line : keys_of (zeros ++ newline ++ low_fs ++ newline ++ newline) ≡ Err TooManyLines
unfolding key_of decode_pairs
third_line = refl

same_keys : keys_of (low_fs ++ newline ++ high_fs) ≡ Err SameKeys
unfolding key_of decode_pairs
same_keys = refl
