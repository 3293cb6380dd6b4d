-- The tag of some bytes under a key: HMAC-SHA256 (RFC 2104), cut to 16 bytes.
use Rattle.std.specs.Prelude.{ℕ, ◌-◌, List, ◌++◌, length, map, replicate, take, bit_xor}
use Rattle.sha2.specs.Sha256.{sha256}

-- the bytes of a block of SHA-256
abbrev pub block_bytes : ℕ
block_bytes = 64

-- ipad and opad
abbrev pub inner_pad : ℕ
inner_pad = 0x36

abbrev pub outer_pad : ℕ
outer_pad = 0x5c

-- a key with zeros behind it, up to a block
abbrev pub filled_key : List ℕ → List ℕ
filled_key key = key ++ replicate (block_bytes - length key) 0

-- the same with each byte xored with a pad
unfoldable pub padded_key : ℕ → List ℕ → List ℕ
padded_key pad key = map (λ b. bit_xor b pad) (filled_key key)

-- HMAC-SHA256 under a key of at most a block
unfoldable pub hmac : List ℕ → List ℕ → List ℕ
hmac key message = sha256 (padded_key outer_pad key ++ sha256 (padded_key inner_pad key ++ message))

-- the bytes of a tag
abbrev pub tag_bytes : ℕ
tag_bytes = 16

unfoldable pub tag_of : List ℕ → List ℕ → List ℕ
tag_of key bytes = take tag_bytes (hmac key bytes)
