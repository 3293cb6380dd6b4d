-- Where the packet of a sealed datagram lies in a buffer.
use Rattle.std.proofs.Common.{◌≡◌, ℕ, ◌+◌, ◌-◌, ◌≤◌, List, ◌++◌, length, take, drop, sym, ap, ◌∙◌, arith, zero-add}
use Rattle.std.proofs.Common.{append_assoc, length-append}
use Rattle.std.proofs.Math.Seq.{take-append_seam}
use Rattle.std.proofs.lemmas.List.{take-append-drop}
use Rattle.std.proofs.lemmas.List.Edits.{take-paste}
use Rattle.std.specs.List.{copy_within}
use Rattle.lg_seal.specs.declared.key.Keys.{Keys}
use Rattle.lg_seal.specs.Meaning.Sealing.{IsSealed, signed_part}
use Rattle.lg_seal.proofs.SealedParts.{sealed_like}

-- behind the head come the packet, the tag, and what else is in the buffer
behind_head : (buffer packet tag : List ℕ) (len : ℕ) → take len buffer ≡ signed_part packet ++ tag
    → drop 3 buffer ≡ packet ++ (tag ++ drop len buffer)
behind_head buffer packet tag len is =
    let whole : buffer ≡ (signed_part packet ++ tag) ++ drop len buffer =
    sym (take-append-drop len buffer) ∙ ap (λ front. front ++ drop len buffer) is in
    ap (drop 3) whole ∙ append_assoc packet tag (drop len buffer)

-- the packet, moved to the start of the buffer
moved : (buffer packet rest : List ℕ) → drop 3 buffer ≡ packet ++ rest
    → take (length packet) (copy_within buffer 3 (3 + length packet) 0) ≡ packet
moved buffer packet rest is =
    let n = length packet in
    let there : n ≤ length (drop 3 buffer) = omega (arith, ap length is, length-append packet rest) in
    let long : (3 + n) - 3 ≡ n = omega arith in
    let copied : take (0 + n) (copy_within buffer 3 (3 + n) 0) ≡ take n (drop 3 buffer) =
    rw long (take-paste buffer 0 (drop 3 buffer) n (omega arith) there) in
    sym (ap (λ k. take k (copy_within buffer 3 (3 + n) 0)) (zero-add n)) ∙ copied ∙ ap (take n) is
    ∙ take-append_seam packet rest

pub packet_moved : (keys : Keys) (buffer packet : List ℕ) (len : ℕ) → IsSealed keys (take len buffer) packet
    → take (length packet) (copy_within buffer 3 (3 + length packet) 0) ≡ packet
packet_moved keys buffer packet len is =
    let like = sealed_like keys (take len buffer) packet is in
    moved buffer packet (like.0 ++ drop len buffer) (behind_head buffer packet like.0 len like.2)
