-- Datagrams that are sealed with a key (the format is this project's choice).
use Rattle.std.specs.Prelude.{◌≡◌, ◌⊎◌, ℕ, List, [], ◌∷◌, ◌++◌, length, IsSomeAnd}
use Rattle.lg_seal.specs.declared.fault.SealFault.{SealFault}
use Rattle.lg_seal.specs.declared.fault.SealFault.TheVariants.{Unsigned, Forged}
use Rattle.lg_seal.specs.declared.key.Keys.{Keys}
use Rattle.lg_seal.specs.Meaning.Tags.{tag_bytes, tag_of}

-- the mark, two bytes that tell a sealed datagram from a packet
abbrev pub first_mark : ℕ
first_mark = 0x4c

abbrev pub second_mark : ℕ
second_mark = 0x4b

-- the version of the format
abbrev pub seal_version : ℕ
seal_version = 1

-- what each sealed datagram begins with
abbrev pub seal_head : List ℕ
seal_head = first_mark ∷ second_mark ∷ seal_version ∷ []

-- what a tag is of: the head and the packet
abbrev pub signed_part : List ℕ → List ℕ
signed_part packet = seal_head ++ packet

-- a packet sealed with a key
abbrev pub sealed : List ℕ → List ℕ → List ℕ
sealed key packet = signed_part packet ++ tag_of key (signed_part packet)

-- this is the tag of these bytes under one of the keys
abbrev pub IsTagOf : Keys → List ℕ → List ℕ → Type 0
IsTagOf keys bytes tag = (tag_of keys.first bytes ≡ tag) ⊎ IsSomeAnd keys.second (λ key. tag_of key bytes ≡ tag)

-- a datagram is this packet, sealed with one of the keys
abbrev pub IsSealed : Keys → List ℕ → List ℕ → Type 0
IsSealed keys datagram packet =
    (datagram ≡ sealed keys.first packet) ⊎ IsSomeAnd keys.second (λ key. datagram ≡ sealed key packet)

-- a datagram has the parts of a sealed one, whatever its tag is
pub record IsLikeSealed (datagram : List ℕ) : Type 0 where
  pub packet : List ℕ
  pub tag : List ℕ
  pub long : length tag ≡ tag_bytes
  pub parts : datagram ≡ signed_part packet ++ tag

-- why a datagram is refused
abbrev pub IsRefused : Keys → List ℕ → SealFault → Type 0
IsRefused keys datagram Unsigned = ¬ (IsLikeSealed datagram)
IsRefused keys datagram Forged = IsLikeSealed datagram × ((packet : List ℕ) → ¬ (IsSealed keys datagram packet))
