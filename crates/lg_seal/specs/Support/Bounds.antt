-- The numbers of the code are those of the definitions.
use Rattle.std.specs.Prelude.{◌≡◌, ◌+◌, refl, length}
use Rattle.lg_seal.specs.Meaning.Reading.{key_bytes}
use Rattle.lg_seal.specs.Meaning.Sealing.{seal_head}
use Rattle.lg_seal.specs.Meaning.Tags.{block_bytes, inner_pad, outer_pad, tag_bytes}
use Rattle.lg_seal.specs.declared.key.TheConstants.{KEY_LEN}
use Rattle.lg_seal.specs.declared.sealing.TheConstants.{HEAD, SEAL_LEN}
use Rattle.lg_seal.specs.declared.tag.TheConstants.{INNER_PAD, MAX_HMAC_KEY, OUTER_PAD, TAG_LEN}

key_bytes-is : KEY_LEN ≡ key_bytes
key_bytes-is = refl

block_bytes-is : MAX_HMAC_KEY ≡ block_bytes
block_bytes-is = refl

inner_pad-is : INNER_PAD ≡ inner_pad
inner_pad-is = refl

outer_pad-is : OUTER_PAD ≡ outer_pad
outer_pad-is = refl

tag_bytes-is : TAG_LEN ≡ tag_bytes
tag_bytes-is = refl

seal_head-is : HEAD ≡ seal_head
seal_head-is = refl

-- a sealed datagram has a head and a tag more than its packet
seal_len-is : SEAL_LEN ≡ length seal_head + tag_bytes
seal_len-is = refl
