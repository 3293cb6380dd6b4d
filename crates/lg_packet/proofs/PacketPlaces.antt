-- The fault of the first bad place is the first fault that is met.
use Rattle.std.proofs.Common.{◌≡◌, ℕ, suc, cond, eqb, List, [], ◌∷◌, ◌++◌, length, replicate, Option, Result, Ok, Err, refl, sym, ap, ◌∙◌, arith}
use Rattle.std.specs.Prelude.{IfErr}
use Rattle.std.specs.Int.{w32}
use Rattle.std.proofs.lemmas.Bool.{ne_eqb}
use Rattle.lg_rules.specs.declared.addr.Addr.{Addr}
use Rattle.lg_rules.specs.declared.claim.Claim.{Claim}
use Rattle.lg_rules.specs.declared.version.Version.{Version}
use Rattle.lg_packet.specs.declared.fault.Fault.{Fault}
use Rattle.lg_packet.specs.declared.fault.Fault.TheVariants as faults
use Rattle.lg_packet.specs.declared.kind.Kind.{Kind}
use Rattle.lg_packet.specs.declared.kind.Kind.TheVariants as kinds
use Rattle.lg_packet.specs.declared.packet.Body.{Body}
use Rattle.lg_packet.specs.declared.packet.Body.TheVariants.{Ping, PingReq, Ack, Nack, Pull}
use Rattle.lg_packet.specs.declared.packet.Packet.{Packet}
use Rattle.lg_packet.specs.Meaning.Spelling.{byte_of_kind, byte_of_version}
use Rattle.lg_packet.specs.Meaning.Reading.{◌>>=◌, magic_at, version_at, kind_at, name_at, number_at, addr_at, name_or_none_at, group_at, receiver_at, head_at, body_at, count_at, claims_at, packet_at, packet_of}
use Rattle.lg_packet.specs.Meaning.Fault.{Part, MagicByte, VersionByte, KindByte, LengthByte, CountByte, ClaimKindByte, addr_parts, receiver_parts, body_parts, packet_parts, fault_of}
use Rattle.lg_packet.proofs.Outcomes.{fault_or, fault_then}
use Rattle.lg_packet.proofs.Places.{fault_from, by_places}
use Rattle.lg_packet.proofs.FieldPlaces.{behind_head, magic_fault, version_fault, kind_fault, name_fault, number_fault, addr_fault, or_none_fault, group_fault, receiver_fault, count_fault}
use Rattle.lg_packet.proofs.Packets.{after_sender}
use Rattle.lg_packet.proofs.ClaimPlaces.{claims_fault}

head_fault : (bytes : List ℕ) → fault_from bytes packet_parts ≡ fault_or (λ (x : (Version × Kind) × List ℕ). fault_from x.1 (behind_head x.0.0 x.0.1)) (head_at bytes)
unfolding head_at
head_fault bytes =
    let on = λ (x : (Version × Kind) × List ℕ). fault_from x.1 (behind_head x.0.0 x.0.1) in
    let from_kind : Version × List ℕ → Result ((Version × Kind) × List ℕ) Fault = λ version. kind_at version.0 version.1 >>= λ kind. Ok ((version.0, kind.0), kind.1) in
    let from_version : List ℕ → Result ((Version × Kind) × List ℕ) Fault = λ s. version_at s >>= from_kind in
    let from_second = λ (r : List ℕ). magic_at 0x4c r >>= from_version in
    magic_fault 0x53 (MagicByte 0x4c ∷ VersionByte ∷ []) bytes
    ∙ fault_then (magic_at 0x53 bytes) from_second (λ r. fault_from r (MagicByte 0x4c ∷ VersionByte ∷ [])) on (λ r.
    magic_fault 0x4c (VersionByte ∷ []) r
    ∙ fault_then (magic_at 0x4c r) from_version (λ s. fault_from s (VersionByte ∷ [])) on (λ s.
    version_fault [] s
    ∙ fault_then (version_at s) from_kind (λ (version : Version × List ℕ). fault_from version.1 (KindByte (byte_of_version version.0) ∷ [])) on (λ version.
    kind_fault version.0 version.1
    ∙ fault_then (kind_at version.0 version.1) (λ kind. Ok ((version.0, kind.0), kind.1)) (λ (x : Kind × List ℕ). fault_from x.1 (behind_head version.0 x.0)) on (λ kind. refl))))

body_fault : (v : Version) (kind : Kind) (parts : List Part) (bytes : List ℕ) → fault_from bytes (body_parts (byte_of_version v) (byte_of_kind kind) ++ parts) ≡ fault_or (λ (x : Body × List ℕ). fault_from x.1 parts) (body_at v kind bytes)
unfolding body_at
body_fault v kinds.Ping parts bytes =
    let on = λ (x : Body × List ℕ). fault_from x.1 parts in
    number_fault (LengthByte ∷ parts) bytes
    ∙ fault_then (number_at w32 bytes) (λ number. name_at number.1 >>= λ target. Ok (Ping number.0 target.0, target.1)) (λ (x : ℕ × List ℕ). fault_from x.1 (LengthByte ∷ parts)) on (λ number.
    name_fault parts number.1
    ∙ fault_then (name_at number.1) (λ target. Ok (Ping number.0 target.0, target.1)) (λ (x : List ℕ × List ℕ). fault_from x.1 parts) on (λ target. refl))
body_fault v kinds.PingReq parts bytes =
    let on = λ (x : Body × List ℕ). fault_from x.1 parts in
    let after_target = addr_parts (byte_of_version v) ++ parts in
    number_fault (LengthByte ∷ after_target) bytes
    ∙ fault_then (number_at w32 bytes) (λ number. name_at number.1 >>= λ target. addr_at v target.1 >>= λ addr. Ok (PingReq number.0 target.0 addr.0, addr.1)) (λ (x : ℕ × List ℕ). fault_from x.1 (LengthByte ∷ after_target)) on (λ number.
    name_fault after_target number.1
    ∙ fault_then (name_at number.1) (λ target. addr_at v target.1 >>= λ addr. Ok (PingReq number.0 target.0 addr.0, addr.1)) (λ (x : List ℕ × List ℕ). fault_from x.1 after_target) on (λ target.
    addr_fault v parts target.1
    ∙ fault_then (addr_at v target.1) (λ addr. Ok (PingReq number.0 target.0 addr.0, addr.1)) (λ (x : Addr × List ℕ). fault_from x.1 parts) on (λ addr. refl)))
body_fault v kinds.Ack parts bytes =
    let on = λ (x : Body × List ℕ). fault_from x.1 parts in
    let after_number = receiver_parts (byte_of_version v) ++ parts in
    number_fault after_number bytes
    ∙ fault_then (number_at w32 bytes) (λ number. receiver_at v number.1 >>= λ receiver. Ok (Ack number.0 receiver.0, receiver.1)) (λ (x : ℕ × List ℕ). fault_from x.1 after_number) on (λ number.
    receiver_fault v parts number.1
    ∙ fault_then (receiver_at v number.1) (λ receiver. Ok (Ack number.0 receiver.0, receiver.1)) (λ (x : Option (List ℕ) × List ℕ). fault_from x.1 parts) on (λ receiver. refl))
body_fault v kinds.Nack parts bytes =
    let on = λ (x : Body × List ℕ). fault_from x.1 parts in
    let after_number = receiver_parts (byte_of_version v) ++ parts in
    number_fault after_number bytes
    ∙ fault_then (number_at w32 bytes) (λ number. receiver_at v number.1 >>= λ receiver. Ok (Nack number.0 receiver.0, receiver.1)) (λ (x : ℕ × List ℕ). fault_from x.1 after_number) on (λ number.
    receiver_fault v parts number.1
    ∙ fault_then (receiver_at v number.1) (λ receiver. Ok (Nack number.0 receiver.0, receiver.1)) (λ (x : Option (List ℕ) × List ℕ). fault_from x.1 parts) on (λ receiver. refl))
body_fault v kinds.Pull parts bytes =
    let on = λ (x : Body × List ℕ). fault_from x.1 parts in
    or_none_fault parts bytes
    ∙ fault_then (name_or_none_at bytes) (λ after. Ok (Pull after.0, after.1)) (λ (x : Option (List ℕ) × List ℕ). fault_from x.1 parts) on (λ after. refl)
body_fault v kinds.Page parts bytes = refl
body_fault v kinds.Gossip parts bytes = refl

-- behind the sender
after_fault : (v : Version) (kind : Kind) (group : Option (List ℕ)) (sender bytes : List ℕ)
    → fault_from bytes (body_parts (byte_of_version v) (byte_of_kind kind) ++ CountByte (byte_of_version v) ∷ []) ≡ fault_or (λ (x : Packet × List ℕ). fault_from x.1 []) (after_sender v kind group sender bytes)
after_fault v kind group sender bytes =
    let on = λ (x : Packet × List ℕ). fault_from x.1 [] in
    let count = CountByte (byte_of_version v) in
    body_fault v kind (count ∷ []) bytes
    ∙ fault_then (body_at v kind bytes) (λ body. count_at v body.1 >>= λ count. claims_at v count.0 count.1 >>= λ claims. Ok (record { version = v; group = group; sender = sender; body = body.0; claims = record { items = claims.0 } }, claims.1)) (λ (x : Body × List ℕ). fault_from x.1 (count ∷ [])) on (λ body.
    count_fault v [] body.1
    ∙ fault_then (count_at v body.1) (λ count. claims_at v count.0 count.1 >>= λ claims. Ok (record { version = v; group = group; sender = sender; body = body.0; claims = record { items = claims.0 } }, claims.1)) (λ (x : ℕ × List ℕ). fault_from x.1 (replicate x.0 (ClaimKindByte (byte_of_version v)) ++ [])) on (λ count.
    claims_fault v count.0 [] count.1
    ∙ fault_then (claims_at v count.0 count.1) (λ claims. Ok (record { version = v; group = group; sender = sender; body = body.0; claims = record { items = claims.0 } }, claims.1)) (λ (x : List Claim × List ℕ). fault_from x.1 []) on (λ claims. refl)))

pub packet_fault : (bytes : List ℕ) → fault_from bytes packet_parts ≡ fault_or (λ (x : Packet × List ℕ). fault_from x.1 []) (packet_at bytes)
unfolding packet_at
packet_fault bytes =
    let on = λ (x : Packet × List ℕ). fault_from x.1 [] in
    head_fault bytes
    ∙ fault_then (head_at bytes) (λ head. group_at head.0.0 head.1 >>= λ group. name_at group.1 >>= λ sender. after_sender head.0.0 head.0.1 group.0 sender.0 sender.1)
    (λ (x : (Version × Kind) × List ℕ). fault_from x.1 (behind_head x.0.0 x.0.1)) on (λ head.
    let behind = body_parts (byte_of_version head.0.0) (byte_of_kind head.0.1) ++ CountByte (byte_of_version head.0.0) ∷ [] in
    group_fault head.0.0 (LengthByte ∷ behind) head.1
    ∙ fault_then (group_at head.0.0 head.1) (λ group. name_at group.1 >>= λ sender. after_sender head.0.0 head.0.1 group.0 sender.0 sender.1)
    (λ (x : Option (List ℕ) × List ℕ). fault_from x.1 (LengthByte ∷ behind)) on (λ group.
    name_fault behind group.1
    ∙ fault_then (name_at group.1) (λ sender. after_sender head.0.0 head.0.1 group.0 sender.0 sender.1) (λ (x : List ℕ × List ℕ). fault_from x.1 behind) on (λ sender.
    after_fault head.0.0 head.0.1 group.0 sender.0 sender.1)))

ended : (p : Packet) (rest : List ℕ) → fault_from rest [] ≡ fault_or (λ _. faults.Short) (cond (eqb (length rest) 0) (Ok p) (Err faults.Trailing))
ended p [] = refl
ended p (b ∷ rest) = rw (ne_eqb (suc (length rest)) 0 (omega arith)) refl

whole_fault : (bytes : List ℕ) → fault_of bytes ≡ fault_or (λ _. faults.Short) (packet_of bytes)
unfolding fault_of packet_of
whole_fault bytes =
    by_places [] bytes ∙ packet_fault bytes
    ∙ fault_then (packet_at bytes) (λ packet. cond (eqb (length packet.1) 0) (Ok packet.0) (Err faults.Trailing)) (λ (x : Packet × List ℕ). fault_from x.1 []) (λ _. faults.Short) (λ x. ended x.0 x.1)

pub is_fault : (bytes : List ℕ) (r : Result Packet Fault) → r ≡ packet_of bytes → IfErr r (λ f. f ≡ fault_of bytes)
is_fault bytes (Ok p) e = tt
is_fault bytes (Err f) e = sym (whole_fault bytes ∙ ap (fault_or (λ _. faults.Short)) (sym e))
