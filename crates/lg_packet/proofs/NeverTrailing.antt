-- Reading a packet at the front of bytes never fails by what follows it.
use Rattle.std.proofs.Common.{ℕ, zero, suc, Bool, true, false, cond, eqb, ltb, List, [], ◌∷◌, length, take, drop, Option, Some, None, Result, Ok, Err}
use Rattle.std.specs.List.{list_all}
use Rattle.std.specs.Int.{Width, w16, w32, byte_len, from_be_bytes}
use Rattle.lg_rules.specs.declared.addr.Ip.TheVariants.{V4, V6}
use Rattle.lg_rules.specs.declared.version.Version.{Version}
use Rattle.lg_rules.specs.declared.version.Version.TheVariants as versions
use Rattle.lg_rules.specs.Meaning.Version.{most_claims_of}
use Rattle.lg_rules.specs.Meaning.Name.{is_name_byte}
use Rattle.lg_rules.specs.declared.claim.Status.TheVariants.{Suspect}
use Rattle.lg_packet.specs.declared.fault.Fault.{Fault}
use Rattle.lg_packet.specs.declared.fault.Fault.TheVariants as faults
use Rattle.lg_packet.specs.declared.kind.ClaimKind.{ClaimKind}
use Rattle.lg_packet.specs.declared.kind.ClaimKind.TheVariants as claims
use Rattle.lg_packet.specs.declared.kind.Kind.{Kind}
use Rattle.lg_packet.specs.declared.kind.Kind.TheVariants as kinds
use Rattle.lg_packet.specs.declared.packet.Body.TheVariants.{Ping, PingReq, Ack, Nack, Pull}
use Rattle.lg_packet.specs.Meaning.Reading.{◌>>=◌, magic_at, version_of_byte, version_before, version_at, kind_of_byte, kind_before, kind_at, name_at, number_at, octets_at, ipv4_at, ipv6_at, ip_at, addr_at, some_name_at, name_or_none_at, group_at, receiver_at, head_at, body_at, incarnation_at, claim_kind_of_byte, claim_kind_before, claim_kind_at, status_at, claim_at, count_at, claims_at, packet_at}
use Rattle.lg_packet.proofs.Packets.{after_sender}

abbrev pub IsOther : Fault → Type 0
IsOther faults.Trailing = ⊥
IsOther _ = Unit {0}

-- it is a value, or another fault
abbrev pub NotTrailing : {A : Type 0} → Result A Fault → Type 0
NotTrailing (Ok x) = Unit {0}
NotTrailing (Err f) = IsOther f

step_goes : {A B : Type 0} (r : Result A Fault) (f : A → Result B Fault) → NotTrailing r → ((x : A) → NotTrailing (f x)) → NotTrailing (r >>= f)
step_goes (Ok x) f h k = k x
step_goes (Err d) f h k = h

test_goes : {A : Type 0} (b : Bool) (r s : Result A Fault) → NotTrailing r → NotTrailing s → NotTrailing (cond b r s)
test_goes true r s h k = h
test_goes false r s h k = k

magic_goes : (due : ℕ) (bytes : List ℕ) → NotTrailing (magic_at due bytes)
magic_goes due [] = tt
magic_goes due (b ∷ rest) = test_goes (eqb b due) (Ok rest) (Err faults.Magic) tt tt

version_goes : (bytes : List ℕ) → NotTrailing (version_at bytes)
version_goes [] = tt
version_goes (b ∷ rest) = step (version_of_byte b)
  where
    step : (version : Option Version) → NotTrailing (version_before rest version)
    step None = tt
    step (Some version) = tt

kind_goes : (v : Version) (bytes : List ℕ) → NotTrailing (kind_at v bytes)
kind_goes v [] = tt
kind_goes v (b ∷ rest) = step (kind_of_byte v b)
  where
    step : (kind : Option Kind) → NotTrailing (kind_before rest kind)
    step None = tt
    step (Some kind) = tt

name_goes : (bytes : List ℕ) → NotTrailing (name_at bytes)
unfolding name_at
name_goes [] = tt
name_goes (n ∷ bytes) = step (eqb n 0) (ltb 32 n) (list_all is_name_byte (take n bytes)) (ltb (length bytes) n)
  where
    step : (none long good short : Bool) → NotTrailing {A = List ℕ × List ℕ} (cond none (Err faults.Name) (cond long (Err faults.Name) (cond good (cond short (Err faults.Short) (Ok (take n bytes, drop n bytes))) (Err faults.Name))))
    step true long good short = tt
    step false true good short = tt
    step false false true true = tt
    step false false true false = tt
    step false false false short = tt

number_goes : (w : Width) (bytes : List ℕ) → NotTrailing (number_at w bytes)
number_goes w bytes = test_goes (ltb (length bytes) (byte_len w)) (Err faults.Short) (Ok (from_be_bytes w (take (byte_len w) bytes), drop (byte_len w) bytes)) tt tt

octets_goes : (n : ℕ) (bytes : List ℕ) → NotTrailing (octets_at n bytes)
octets_goes n bytes = test_goes (ltb (length bytes) n) (Err faults.Short) (Ok (take n bytes, drop n bytes)) tt tt

ipv4_goes : (bytes : List ℕ) → NotTrailing (ipv4_at bytes)
ipv4_goes bytes = step_goes (octets_at 4 bytes) (λ octets. Ok (V4 octets.0, octets.1)) (octets_goes 4 bytes) (λ octets. tt)

ipv6_goes : (bytes : List ℕ) → NotTrailing (ipv6_at bytes)
ipv6_goes bytes = step_goes (octets_at 16 bytes) (λ octets. Ok (V6 octets.0, octets.1)) (octets_goes 16 bytes) (λ octets. tt)

ip_goes : (v : Version) (bytes : List ℕ) → NotTrailing (ip_at v bytes)
ip_goes versions.One bytes = ipv4_goes bytes
ip_goes versions.Two bytes = ipv4_goes bytes
ip_goes versions.Three [] = tt
ip_goes versions.Three (b ∷ bytes) =
    test_goes (eqb b 4) (ipv4_at bytes) (cond (eqb b 6) (ipv6_at bytes) (Err faults.Family)) (ipv4_goes bytes) (test_goes (eqb b 6) (ipv6_at bytes) (Err faults.Family) (ipv6_goes bytes) tt)

addr_goes : (v : Version) (bytes : List ℕ) → NotTrailing (addr_at v bytes)
unfolding addr_at
addr_goes v bytes =
    step_goes (ip_at v bytes) (λ ip. number_at w16 ip.1 >>= λ port. Ok (record { ip = ip.0; port = port.0 }, port.1)) (ip_goes v bytes) (λ ip.
    step_goes (number_at w16 ip.1) (λ port. Ok (record { ip = ip.0; port = port.0 }, port.1)) (number_goes w16 ip.1) (λ port. tt))

some_name_goes : (bytes : List ℕ) → NotTrailing (some_name_at bytes)
unfolding some_name_at
some_name_goes bytes = step_goes (name_at bytes) (λ name. Ok (Some name.0, name.1)) (name_goes bytes) (λ name. tt)

or_none_goes : (bytes : List ℕ) → NotTrailing (name_or_none_at bytes)
unfolding name_or_none_at
or_none_goes [] = tt
or_none_goes (n ∷ bytes) = test_goes (eqb n 0) (Ok (None, bytes)) (some_name_at (n ∷ bytes)) tt (some_name_goes (n ∷ bytes))

group_goes : (v : Version) (bytes : List ℕ) → NotTrailing (group_at v bytes)
group_goes versions.One bytes = tt
group_goes versions.Two bytes = tt
group_goes versions.Three bytes = or_none_goes bytes

receiver_goes : (v : Version) (bytes : List ℕ) → NotTrailing (receiver_at v bytes)
receiver_goes versions.One bytes = tt
receiver_goes versions.Two bytes = tt
receiver_goes versions.Three bytes = some_name_goes bytes

head_goes : (bytes : List ℕ) → NotTrailing (head_at bytes)
unfolding head_at
head_goes bytes =
    let from_kind : Version × List ℕ → Result ((Version × Kind) × List ℕ) Fault = λ version. kind_at version.0 version.1 >>= λ kind. Ok ((version.0, kind.0), kind.1) in
    let from_version : List ℕ → Result ((Version × Kind) × List ℕ) Fault = λ s. version_at s >>= from_kind in
    step_goes (magic_at 0x53 bytes) (λ r. magic_at 0x4c r >>= from_version) (magic_goes 0x53 bytes) (λ r.
    step_goes (magic_at 0x4c r) from_version (magic_goes 0x4c r) (λ s.
    step_goes (version_at s) from_kind (version_goes s) (λ version.
    step_goes (kind_at version.0 version.1) (λ kind. Ok ((version.0, kind.0), kind.1)) (kind_goes version.0 version.1) (λ kind. tt))))

body_goes : (v : Version) (kind : Kind) (bytes : List ℕ) → NotTrailing (body_at v kind bytes)
unfolding body_at
body_goes v kinds.Ping bytes =
    step_goes (number_at w32 bytes) (λ number. name_at number.1 >>= λ target. Ok (Ping number.0 target.0, target.1)) (number_goes w32 bytes) (λ number.
    step_goes (name_at number.1) (λ target. Ok (Ping number.0 target.0, target.1)) (name_goes number.1) (λ target. tt))
body_goes v kinds.PingReq bytes =
    step_goes (number_at w32 bytes) (λ number. name_at number.1 >>= λ target. addr_at v target.1 >>= λ addr. Ok (PingReq number.0 target.0 addr.0, addr.1)) (number_goes w32 bytes) (λ number.
    step_goes (name_at number.1) (λ target. addr_at v target.1 >>= λ addr. Ok (PingReq number.0 target.0 addr.0, addr.1)) (name_goes number.1) (λ target.
    step_goes (addr_at v target.1) (λ addr. Ok (PingReq number.0 target.0 addr.0, addr.1)) (addr_goes v target.1) (λ addr. tt)))
body_goes v kinds.Ack bytes =
    step_goes (number_at w32 bytes) (λ number. receiver_at v number.1 >>= λ receiver. Ok (Ack number.0 receiver.0, receiver.1)) (number_goes w32 bytes) (λ number.
    step_goes (receiver_at v number.1) (λ receiver. Ok (Ack number.0 receiver.0, receiver.1)) (receiver_goes v number.1) (λ receiver. tt))
body_goes v kinds.Nack bytes =
    step_goes (number_at w32 bytes) (λ number. receiver_at v number.1 >>= λ receiver. Ok (Nack number.0 receiver.0, receiver.1)) (number_goes w32 bytes) (λ number.
    step_goes (receiver_at v number.1) (λ receiver. Ok (Nack number.0 receiver.0, receiver.1)) (receiver_goes v number.1) (λ receiver. tt))
body_goes v kinds.Pull bytes = step_goes (name_or_none_at bytes) (λ after. Ok (Pull after.0, after.1)) (or_none_goes bytes) (λ after. tt)
body_goes v kinds.Page bytes = tt
body_goes v kinds.Gossip bytes = tt

-- ---- claims

claim_kind_goes : (v : Version) (bytes : List ℕ) → NotTrailing (claim_kind_at v bytes)
claim_kind_goes v [] = tt
claim_kind_goes v (b ∷ rest) = step (claim_kind_of_byte v b)
  where
    step : (kind : Option ClaimKind) → NotTrailing (claim_kind_before rest kind)
    step None = tt
    step (Some kind) = tt

incarnation_goes : (bytes : List ℕ) → NotTrailing (incarnation_at bytes)
unfolding incarnation_at
incarnation_goes bytes =
    step_goes (number_at w32 bytes) (λ number. cond (ltb 1000000000 number.0) (Err faults.Incarnation) (Ok number)) (number_goes w32 bytes) (λ number.
    test_goes (ltb 1000000000 number.0) (Err faults.Incarnation) (Ok number) tt tt)

status_goes : (kind : ClaimKind) (bytes : List ℕ) → NotTrailing (status_at kind bytes)
unfolding status_at
status_goes claims.Alive bytes = tt
status_goes claims.Suspect bytes = step_goes (name_at bytes) (λ accuser. Ok (Suspect accuser.0, accuser.1)) (name_goes bytes) (λ accuser. tt)
status_goes claims.Failed bytes = tt
status_goes claims.Left bytes = tt

claim_goes : (v : Version) (bytes : List ℕ) → NotTrailing (claim_at v bytes)
unfolding claim_at
claim_goes v bytes =
    step_goes (claim_kind_at v bytes) (λ kind. name_at kind.1 >>= λ name. addr_at v name.1 >>= λ addr. incarnation_at addr.1 >>= λ incarnation. status_at kind.0 incarnation.1 >>= λ status.
    Ok (record { name = name.0; addr = addr.0; status = status.0; incarnation = incarnation.0 }, status.1)) (claim_kind_goes v bytes) (λ kind.
    step_goes (name_at kind.1) (λ name. addr_at v name.1 >>= λ addr. incarnation_at addr.1 >>= λ incarnation. status_at kind.0 incarnation.1 >>= λ status.
    Ok (record { name = name.0; addr = addr.0; status = status.0; incarnation = incarnation.0 }, status.1)) (name_goes kind.1) (λ name.
    step_goes (addr_at v name.1) (λ addr. incarnation_at addr.1 >>= λ incarnation. status_at kind.0 incarnation.1 >>= λ status.
    Ok (record { name = name.0; addr = addr.0; status = status.0; incarnation = incarnation.0 }, status.1)) (addr_goes v name.1) (λ addr.
    step_goes (incarnation_at addr.1) (λ incarnation. status_at kind.0 incarnation.1 >>= λ status. Ok (record { name = name.0; addr = addr.0; status = status.0; incarnation = incarnation.0 }, status.1)) (incarnation_goes addr.1) (λ incarnation.
    step_goes (status_at kind.0 incarnation.1) (λ status. Ok (record { name = name.0; addr = addr.0; status = status.0; incarnation = incarnation.0 }, status.1)) (status_goes kind.0 incarnation.1) (λ status. tt)))))

count_goes : (v : Version) (bytes : List ℕ) → NotTrailing (count_at v bytes)
count_goes v [] = tt
count_goes v (n ∷ rest) = test_goes (ltb (most_claims_of v) n) (Err faults.Count) (Ok (n, rest)) tt tt

claims_goes : (v : Version) (n : ℕ) (bytes : List ℕ) → NotTrailing (claims_at v n bytes)
unfolding claims_at
claims_goes v zero bytes = tt
claims_goes v (suc n) bytes =
    step_goes (claim_at v bytes) (λ first. claims_at v n first.1 >>= λ others. Ok (first.0 ∷ others.0, others.1)) (claim_goes v bytes) (λ first.
    step_goes (claims_at v n first.1) (λ others. Ok (first.0 ∷ others.0, others.1)) (claims_goes v n first.1) (λ others. tt))

-- behind the sender
after_goes : (v : Version) (kind : Kind) (group : Option (List ℕ)) (sender bytes : List ℕ) → NotTrailing (after_sender v kind group sender bytes)
after_goes v kind group sender bytes =
    step_goes (body_at v kind bytes) (λ body. count_at v body.1 >>= λ count. claims_at v count.0 count.1 >>= λ claims.
    Ok (record { version = v; group = group; sender = sender; body = body.0; claims = record { items = claims.0 } }, claims.1)) (body_goes v kind bytes) (λ body.
    step_goes (count_at v body.1) (λ count. claims_at v count.0 count.1 >>= λ claims. Ok (record { version = v; group = group; sender = sender; body = body.0; claims = record { items = claims.0 } }, claims.1)) (count_goes v body.1) (λ count.
    step_goes (claims_at v count.0 count.1) (λ claims. Ok (record { version = v; group = group; sender = sender; body = body.0; claims = record { items = claims.0 } }, claims.1)) (claims_goes v count.0 count.1) (λ claims. tt)))

pub packet_goes : (bytes : List ℕ) → NotTrailing (packet_at bytes)
unfolding packet_at
packet_goes bytes =
    step_goes (head_at bytes) (λ head. group_at head.0.0 head.1 >>= λ group. name_at group.1 >>= λ sender. after_sender head.0.0 head.0.1 group.0 sender.0 sender.1) (head_goes bytes) (λ head.
    step_goes (group_at head.0.0 head.1) (λ group. name_at group.1 >>= λ sender. after_sender head.0.0 head.0.1 group.0 sender.0 sender.1) (group_goes head.0.0 head.1) (λ group.
    step_goes (name_at group.1) (λ sender. after_sender head.0.0 head.0.1 group.0 sender.0 sender.1) (name_goes group.1) (λ sender.
    after_goes head.0.0 head.0.1 group.0 sender.0 sender.1)))
