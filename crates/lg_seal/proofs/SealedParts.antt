-- The parts of a sealed datagram.
use Rattle.std.proofs.Common.{◌≡◌, ℕ, List, ◌++◌, length, take, drop, Option, Some, None}
use Rattle.std.proofs.Common.{refl, sym, ap, subst, ◌∙◌, inl, inr, arith, length-append}
use Rattle.std.specs.Prelude.{IsSomeAnd}
use Rattle.std.proofs.Math.Seq.{drop-append_seam, take-append_seam}
use Rattle.std.proofs.lemmas.List.{append_cancel_left, length-take-le}
use Rattle.sha2.specs.Sha256.{sha256}
use Rattle.sha2.proofs.Facts256.{length-sha256}
use Rattle.lg_seal.specs.declared.fault.SealFault.{SealFault}
use Rattle.lg_seal.specs.declared.fault.SealFault.TheVariants.{Unsigned, Forged}
use Rattle.lg_seal.specs.declared.key.Keys.{Keys}
use Rattle.lg_seal.specs.Meaning.Sealing.{IsRefused, IsSealed, IsTagOf, seal_head, sealed, signed_part}
use Rattle.lg_seal.specs.Meaning.Tags.{hmac, inner_pad, outer_pad, padded_key, tag_bytes, tag_of}

-- a tag has 16 bytes
pub length-tag_of : (key bytes : List ℕ) → length (tag_of key bytes) ≡ tag_bytes
unfolding tag_of hmac
length-tag_of key bytes =
    let message = padded_key outer_pad key ++ sha256 (padded_key inner_pad key ++ bytes) in
    length-take-le 16 (sha256 message) (omega (arith, length-sha256 message))

-- lists that end with as many bytes each begin with as many
begin_alike : (xs ys us vs : List ℕ) → length us ≡ length vs → xs ++ us ≡ ys ++ vs → length xs ≡ length ys
begin_alike xs ys us vs long same = omega (arith, length-append xs us, length-append ys vs, ap length same)

same_front : (xs ys us vs : List ℕ) → length us ≡ length vs → xs ++ us ≡ ys ++ vs → xs ≡ ys
same_front xs ys us vs long same =
    let fronts : take (length xs) (xs ++ us) ≡ take (length ys) (ys ++ vs) =
    ap (λ n. take n (xs ++ us)) (begin_alike xs ys us vs long same) ∙ ap (take (length ys)) same in
    sym (take-append_seam xs us) ∙ fronts ∙ take-append_seam ys vs

same_back : (xs ys us vs : List ℕ) → length us ≡ length vs → xs ++ us ≡ ys ++ vs → us ≡ vs
same_back xs ys us vs long same =
    let backs : drop (length xs) (xs ++ us) ≡ drop (length ys) (ys ++ vs) =
    ap (λ n. drop n (xs ++ us)) (begin_alike xs ys us vs long same) ∙ ap (drop (length ys)) same in
    sym (drop-append_seam xs us) ∙ backs ∙ drop-append_seam ys vs

-- ---- what is sealed under a key

-- a signed part is that of a packet, and a tag is right under a key
pub record IsPartedBy (signed tag key packet : List ℕ) : Type 0 where
  pub of_packet : signed ≡ signed_part packet
  pub right : tag_of key signed ≡ tag

parted : (signed tag key packet : List ℕ) → length tag ≡ tag_bytes → signed ++ tag ≡ sealed key packet
    → IsPartedBy signed tag key packet
parted signed tag key packet long same =
    let due = tag_of key (signed_part packet) in
    let alike : length tag ≡ length due = long ∙ sym (length-tag_of key (signed_part packet)) in
    let front = same_front signed (signed_part packet) tag due alike same in
    record {
      of_packet = front;
      right = ap (tag_of key) front ∙ sym (same_back signed (signed_part packet) tag due alike same);
    }

second_right : (second : Option (List ℕ)) (signed tag packet : List ℕ) → length tag ≡ tag_bytes
    → IsSomeAnd second (λ key. signed ++ tag ≡ sealed key packet)
    → (signed ≡ signed_part packet) × IsSomeAnd second (λ key. tag_of key signed ≡ tag)
second_right None signed tag packet long is = absurd is
second_right (Some key) signed tag packet long is =
    let parts = parted signed tag key packet long is in
    (parts.of_packet, parts.right)

-- the tag of a sealed datagram is right under one of the keys
pub sealed_parts : (keys : Keys) (signed tag packet : List ℕ) → length tag ≡ tag_bytes
    → IsSealed keys (signed ++ tag) packet
    → (signed ≡ signed_part packet) × IsTagOf keys signed tag
sealed_parts keys signed tag packet long (inl first) =
    let parts = parted signed tag keys.first packet long first in
    (parts.of_packet, inl parts.right)
sealed_parts keys signed tag packet long (inr second) =
    let parts = second_right keys.second signed tag packet long second in
    (parts.0, inr parts.1)

-- ---- outcomes

second_like : (second : Option (List ℕ)) (datagram packet : List ℕ)
    → IsSomeAnd second (λ key. datagram ≡ sealed key packet)
    → (tag : List ℕ) × (length tag ≡ tag_bytes) × (datagram ≡ signed_part packet ++ tag)
second_like None datagram packet is = absurd is
second_like (Some key) datagram packet is =
    (tag_of key (signed_part packet), length-tag_of key (signed_part packet), is)

-- a sealed datagram has the parts of one
pub sealed_like : (keys : Keys) (datagram packet : List ℕ) → IsSealed keys datagram packet
    → (tag : List ℕ) × (length tag ≡ tag_bytes) × (datagram ≡ signed_part packet ++ tag)
sealed_like keys datagram packet (inl first) =
    (tag_of keys.first (signed_part packet), length-tag_of keys.first (signed_part packet), first)
sealed_like keys datagram packet (inr second) = second_like keys.second datagram packet second

pub one_packet : (keys : Keys) (datagram p q : List ℕ) → IsSealed keys datagram p → IsSealed keys datagram q → p ≡ q
one_packet keys datagram p q is_p is_q =
    let of_p = sealed_like keys datagram p is_p in
    let of_q = sealed_like keys datagram q is_q in
    let fronts = same_front (signed_part p) (signed_part q) of_p.0 of_q.0 (of_p.1 ∙ sym of_q.1) (sym of_p.2 ∙ of_q.2) in
    append_cancel_left seal_head p q fronts

pub taken_or_refused : (keys : Keys) (datagram packet : List ℕ) (fault : SealFault) → IsSealed keys datagram packet
    → IsRefused keys datagram fault → ⊥
taken_or_refused keys datagram packet Unsigned is refused =
    let like = sealed_like keys datagram packet is in
    refused (record { packet = packet; tag = like.0; long = like.1; parts = like.2 })
taken_or_refused keys datagram packet Forged is refused = refused.1 packet is

-- what has the parts of a sealed datagram and no right tag is forged
pub wrong_tag : (keys : Keys) (packet tag : List ℕ) → length tag ≡ tag_bytes
    → ¬ (IsTagOf keys (signed_part packet) tag) → IsRefused keys (signed_part packet ++ tag) Forged
wrong_tag keys packet tag long wrong = (
  record { packet = packet; tag = tag; long = long; parts = refl },
  λ other is. wrong (sealed_parts keys (signed_part packet) tag other long is).1,
)

-- the same by the parts of a datagram
pub forged_parts : (keys : Keys) (datagram signed tag packet : List ℕ) → datagram ≡ signed ++ tag
    → signed ≡ signed_part packet → length tag ≡ tag_bytes → ¬ (IsTagOf keys signed tag)
    → IsRefused keys datagram Forged
forged_parts keys datagram signed tag packet whole begins long wrong =
    let of_packet : datagram ≡ signed_part packet ++ tag = whole ∙ ap (λ front. front ++ tag) begins in
    subst (λ bytes. IsRefused keys bytes Forged) (sym of_packet)
    (wrong_tag keys packet tag long (subst (λ front. ¬ (IsTagOf keys front tag)) begins wrong))
