-- The fields of a packet: what is read is spelled so, and what is spelled so is read again.
use Rattle.std.proofs.Common.{◌≡◌, ℕ, zero, suc, ◌^◌, ◌<◌, ◌≤◌, Bool, true, false, cond, eqb, ltb, List, [], ◌∷◌, ◌++◌, length, get_or, take, drop, Option, Some, None, Result, Ok, Err, refl, sym, ap, subst, ◌∙◌, append_assoc, arith, length-append}
use Rattle.std.specs.Int.{w16, w32, byte_at, from_be_bytes, to_be_bytes}
use Rattle.std.specs.List.{AllByRecursion}
use Rattle.std.proofs.lemmas.Bool.{eqb-true, le-ltb, ltb-false, ne_eqb}
use Rattle.std.proofs.lemmas.List.{length-take, take-append-drop, take_at, drop_at}
use Rattle.std.proofs.lemmas.Nat.{be_bytes_2, be_bytes_4, from_be_bytes-to_be_bytes_2, from_be_bytes-to_be_bytes_4}
use Rattle.lg_rules.proofs.NameLemmas.{is_named}
use Rattle.lg_rules.specs.declared.addr.Addr.{Addr}
use Rattle.lg_rules.specs.declared.addr.Ip.{Ip}
use Rattle.lg_rules.specs.declared.addr.Ip.TheVariants.{V4, V6}
use Rattle.lg_rules.specs.declared.version.Version.{Version}
use Rattle.lg_rules.specs.declared.version.Version.TheVariants as versions
use Rattle.lg_rules.specs.Meaning.Version.{most_claims_of}
use Rattle.lg_packet.specs.declared.fault.Fault.{Fault}
use Rattle.lg_packet.specs.declared.fault.Fault.TheVariants as faults
use Rattle.lg_packet.specs.declared.kind.Kind.{Kind}
use Rattle.lg_packet.specs.declared.kind.Kind.TheVariants as kinds
use Rattle.lg_packet.specs.declared.packet.Body.{Body}
use Rattle.lg_packet.specs.declared.packet.Body.TheVariants.{Ping, PingReq, Ack, Nack, Pull, Page, Gossip}
use Rattle.lg_packet.specs.Meaning.Spelling.{kind_of, byte_of_version, byte_of_kind, spelled_number, spelled_name, spelled_ip, spelled_addr, spelled_or_none, spelled_group, spelled_receiver, spelled_head, spelled_body, AreOctets, IsIp, IsAddr, IsNameIfAny, IsGroup, IsReceiver, IsBody}
use Rattle.lg_packet.specs.Meaning.Bytes.{IsByte}
use Rattle.lg_packet.specs.Meaning.Reading.{◌>>=◌, magic_at, version_before, version_at, seventh_kind, kind_of_byte, kind_before, kind_at, number_at, name_at, octets_at, ipv4_at, ipv6_at, ip_at, addr_at, some_name_at, name_or_none_at, group_at, receiver_at, head_at, body_at, count_at}
use Rattle.lg_packet.proofs.Outcomes.{step_ok, passed, passed_by, same_ok}
use Rattle.lg_packet.proofs.NameFields.{name_read, name_again}

abbrev pub AreBytes : List ℕ → Type 0
AreBytes bytes = (i : ℕ) → get_or bytes i 0 < 256

-- what stands behind a front
pub behind : (front rest : List ℕ) → AreBytes (front ++ rest) → AreBytes rest
behind [] rest fit = fit
behind (b ∷ front) rest fit = behind front rest (λ i. fit (suc i))

-- ---- a byte of the magic

magic_read : (due : ℕ) (bytes rest : List ℕ) → magic_at due bytes ≡ Ok rest → bytes ≡ due ∷ rest
magic_read due [] rest e = absurd cc
magic_read due (b ∷ bytes) rest e =
    let p = passed (eqb b due) faults.Magic (Ok bytes) rest e in
    let here : b ≡ due = eqb-true b due p.0 in
    let after : bytes ≡ rest = same_ok bytes rest p.1 in
    cc

-- ---- versions

version_read : (bytes : List ℕ) (x : Version × List ℕ) → version_at bytes ≡ Ok x → bytes ≡ byte_of_version x.0 ∷ x.1
version_read [] x e = absurd cc
version_read (b ∷ bytes) x e = step (eqb b 1) refl (eqb b 2) refl (eqb b 3) refl e
  where
    is : (n : ℕ) (version : Version) → byte_of_version version ≡ n → eqb b n ≡ true → version_before bytes (Some version) ≡ Ok x → b ∷ bytes ≡ byte_of_version x.0 ∷ x.1
    is n version byte h k =
        let here : b ≡ byte_of_version version = eqb-true b n h ∙ sym byte in
        subst (λ (y : Version × List ℕ). b ∷ bytes ≡ byte_of_version y.0 ∷ y.1) (same_ok (version, bytes) x k) (ap (λ (m : ℕ). m ∷ bytes) here)

    step : (one : Bool) → eqb b 1 ≡ one → (two : Bool) → eqb b 2 ≡ two → (three : Bool) → eqb b 3 ≡ three
        → version_before bytes (cond one (Some versions.One) (cond two (Some versions.Two) (cond three (Some versions.Three) None))) ≡ Ok x → b ∷ bytes ≡ byte_of_version x.0 ∷ x.1
    step true h two i three j k = is 1 versions.One refl h k
    step false h true i three j k = is 2 versions.Two refl i k
    step false h false i true j k = is 3 versions.Three refl j k
    step false h false i false j k = absurd cc

version_again : (version : Version) (rest : List ℕ) → version_at (byte_of_version version ∷ rest) ≡ Ok (version, rest)
version_again versions.One rest = refl
version_again versions.Two rest = refl
version_again versions.Three rest = refl

-- ---- kinds

-- the kind is one of the version
abbrev pub IsKindOf : Version → Kind → Type 0
IsKindOf v kind = kind_of_byte v (byte_of_kind kind) ≡ Some kind

abbrev ReadsKind : Version → List ℕ → Kind × List ℕ → Type 0
ReadsKind v bytes x = (bytes ≡ byte_of_kind x.0 ∷ x.1) × IsKindOf v x.0

pub kind_read : (v : Version) (bytes : List ℕ) (x : Kind × List ℕ) → kind_at v bytes ≡ Ok x → (bytes ≡ byte_of_kind x.0 ∷ x.1) × IsKindOf v x.0
kind_read v [] x e = absurd cc
kind_read v (b ∷ bytes) x e = step (eqb b 1) refl (eqb b 2) refl (eqb b 3) refl (eqb b 4) refl (eqb b 5) refl (eqb b 6) refl (eqb b 7) refl e
  where
    is : (n : ℕ) (kind : Kind) → byte_of_kind kind ≡ n → IsKindOf v kind → eqb b n ≡ true → kind_before bytes (Some kind) ≡ Ok x → ReadsKind v (b ∷ bytes) x
    is n kind byte fit h k =
        let here : b ≡ byte_of_kind kind = eqb-true b n h ∙ sym byte in
        subst (λ (y : Kind × List ℕ). ReadsKind v (b ∷ bytes) y) (same_ok (kind, bytes) x k) (ap (λ (m : ℕ). m ∷ bytes) here, fit)

    seventh : (w : Version) → (IsKindOf w kinds.Gossip → IsKindOf v kinds.Gossip) → eqb b 7 ≡ true → kind_before bytes (seventh_kind w) ≡ Ok x → ReadsKind v (b ∷ bytes) x
    seventh versions.One same h k = absurd cc
    seventh versions.Two same h k = absurd cc
    seventh versions.Three same h k = is 7 kinds.Gossip refl (same refl) h k

    step : (one : Bool) → eqb b 1 ≡ one → (two : Bool) → eqb b 2 ≡ two → (three : Bool) → eqb b 3 ≡ three → (four : Bool) → eqb b 4 ≡ four → (five : Bool) → eqb b 5 ≡ five → (six : Bool) → eqb b 6 ≡ six → (seven : Bool) → eqb b 7 ≡ seven
        → kind_before bytes (cond one (Some kinds.Ping) (cond two (Some kinds.PingReq) (cond three (Some kinds.Ack) (cond four (Some kinds.Nack) (cond five (Some kinds.Pull) (cond six (Some kinds.Page) (cond seven (seventh_kind v) None))))))) ≡ Ok x → ReadsKind v (b ∷ bytes) x
    step true h two i three j four l five m six n seven o k = is 1 kinds.Ping refl refl h k
    step false h true i three j four l five m six n seven o k = is 2 kinds.PingReq refl refl i k
    step false h false i true j four l five m six n seven o k = is 3 kinds.Ack refl refl j k
    step false h false i false j true l five m six n seven o k = is 4 kinds.Nack refl refl l k
    step false h false i false j false l true m six n seven o k = is 5 kinds.Pull refl refl m k
    step false h false i false j false l false m true n seven o k = is 6 kinds.Page refl refl n k
    step false h false i false j false l false m false n true o k = seventh v (λ fit. fit) o k
    step false h false i false j false l false m false n false o k = absurd cc

pub kind_again : (v : Version) (kind : Kind) (rest : List ℕ) → IsKindOf v kind → kind_at v (byte_of_kind kind ∷ rest) ≡ Ok (kind, rest)
kind_again v kind rest fit = ap (kind_before rest) fit

gossip_fits : (v : Version) → IsKindOf v (kind_of v Gossip)
gossip_fits versions.One = refl
gossip_fits versions.Two = refl
gossip_fits versions.Three = refl

-- the kind of a body is one of the version
pub kind_fits : (v : Version) (body : Body) → IsKindOf v (kind_of v body)
kind_fits v (Ping number target) = refl
kind_fits v (PingReq number target addr) = refl
kind_fits v (Ack number receiver) = refl
kind_fits v (Nack number receiver) = refl
kind_fits v (Pull after) = refl
kind_fits v Page = refl
kind_fits v Gossip = gossip_fits v

-- ---- the head

pub head_read : (bytes : List ℕ) (x : (Version × Kind) × List ℕ) → head_at bytes ≡ Ok x → (bytes ≡ spelled_head x.0.0 x.0.1 ++ x.1) × IsKindOf x.0.0 x.0.1
unfolding head_at
head_read bytes x e =
    let from_kind : Version × List ℕ → Result ((Version × Kind) × List ℕ) Fault = λ version. kind_at version.0 version.1 >>= λ kind. Ok ((version.0, kind.0), kind.1) in
    let from_version : List ℕ → Result ((Version × Kind) × List ℕ) Fault = λ s. version_at s >>= from_kind in
    let a = step_ok (magic_at 0x53 bytes) (λ r. magic_at 0x4c r >>= from_version) x e in
    let b = step_ok (magic_at 0x4c a.0) from_version x a.2 in
    let d = step_ok (version_at b.0) from_kind x b.2 in
    let f = step_ok (kind_at d.0.0 d.0.1) (λ kind. Ok ((d.0.0, kind.0), kind.1)) x d.2 in
    let kind = kind_read d.0.0 d.0.1 f.0 f.1 in
    let whole : bytes ≡ spelled_head d.0.0 f.0.0 ++ f.0.1 =
    magic_read 0x53 bytes a.0 a.1
    ∙ ap (λ (r : List ℕ). 0x53 ∷ r) (magic_read 0x4c a.0 b.0 b.1
    ∙ ap (λ (r : List ℕ). 0x4c ∷ r) (version_read b.0 d.0 d.1
    ∙ ap (λ (r : List ℕ). byte_of_version d.0.0 ∷ r) kind.0)) in
    subst (λ (y : (Version × Kind) × List ℕ). (bytes ≡ spelled_head y.0.0 y.0.1 ++ y.1) × IsKindOf y.0.0 y.0.1) (same_ok ((d.0.0, f.0.0), f.0.1) x f.2) (whole, kind.1)

pub head_again : (version : Version) (kind : Kind) (rest : List ℕ) → IsKindOf version kind → head_at (spelled_head version kind ++ rest) ≡ Ok ((version, kind), rest)
unfolding head_at
head_again version kind rest fit = rw (version_again version (byte_of_kind kind ∷ rest), kind_again version kind rest fit) refl

-- ---- numbers

-- four bytes that are there
pub number_there : (a b c d : ℕ) (rest : List ℕ) → number_at w32 (a ∷ b ∷ c ∷ d ∷ rest) ≡ Ok (from_be_bytes w32 (a ∷ b ∷ c ∷ d ∷ []), rest)
number_there a b c d rest =
    let enough : ltb (length (a ∷ b ∷ c ∷ d ∷ rest)) 4 ≡ false = le-ltb (length (a ∷ b ∷ c ∷ d ∷ rest)) 4 (omega arith) in
    rw enough refl

pub number_read : (bytes : List ℕ) (x : ℕ × List ℕ) → AreBytes bytes → number_at w32 bytes ≡ Ok x → (bytes ≡ spelled_number x.0 ++ x.1) × (x.0 < 2 ^ 32)
number_read [] x fit e = absurd cc
number_read (a ∷ []) x fit e = absurd cc
number_read (a ∷ b ∷ []) x fit e = absurd cc
number_read (a ∷ b ∷ c ∷ []) x fit e = absurd cc
number_read (a ∷ b ∷ c ∷ d ∷ rest) x fit e =
    let four = a ∷ b ∷ c ∷ d ∷ [] in
    let few : AreBytes four = front_fits in
    let written : to_be_bytes w32 (from_be_bytes w32 four) ≡ four = be_bytes_4 four (from_be_bytes w32 four) refl few refl in
    let below : from_be_bytes w32 four < 2 ^ 32 = omega (arith, fit 0, fit 1, fit 2, fit 3) in
    subst (λ (y : ℕ × List ℕ). (four ++ rest ≡ spelled_number y.0 ++ y.1) × (y.0 < 2 ^ 32)) (same_ok (from_be_bytes w32 four, rest) x (sym (number_there a b c d rest) ∙ e)) (ap (λ (t : List ℕ). t ++ rest) (sym written), below)
  where
    front_fits : AreBytes (a ∷ b ∷ c ∷ d ∷ [])
    front_fits zero = fit 0
    front_fits (suc zero) = fit 1
    front_fits (suc (suc zero)) = fit 2
    front_fits (suc (suc (suc zero))) = fit 3
    front_fits (suc (suc (suc (suc i)))) = omega arith

pub number_again : (n : ℕ) (rest : List ℕ) → n < 2 ^ 32 → number_at w32 (spelled_number n ++ rest) ≡ Ok (n, rest)
number_again n rest fit =
    number_there (byte_at 3 n) (byte_at 2 n) (byte_at 1 n) (byte_at 0 n) rest ∙ rw (from_be_bytes-to_be_bytes_4 n fit) refl

-- ---- addresses

-- of bytes, the first n are bytes
taken : (n : ℕ) (bytes : List ℕ) → AreBytes bytes → AllByRecursion IsByte (take n bytes)
taken zero bytes fit = tt
taken (suc n) [] fit = tt
taken (suc n) (b ∷ bytes) fit = (fit 0, taken n bytes (λ i. fit (suc i)))

octets_read : (n : ℕ) (bytes : List ℕ) (x : List ℕ × List ℕ) → AreBytes bytes → octets_at n bytes ≡ Ok x → (bytes ≡ x.0 ++ x.1) × AreOctets n x.0
octets_read n bytes x fit e =
    let p = passed_by (ltb (length bytes) n) faults.Short (Ok (take n bytes, drop n bytes)) x e in
    let enough : n ≤ length bytes = ltb-false (length bytes) n p.0 in
    let count : length (take n bytes) ≡ n = omega (arith, enough, length-take n bytes) in
    subst (λ (y : List ℕ × List ℕ). (bytes ≡ y.0 ++ y.1) × AreOctets n y.0) (same_ok (take n bytes, drop n bytes) x p.1) (sym (take-append-drop n bytes), record { count = count; bytes = taken n bytes fit })

octets_again : (n : ℕ) (octets rest : List ℕ) → length octets ≡ n → octets_at n (octets ++ rest) ≡ Ok (octets, rest)
octets_again n octets rest count =
    let enough : ltb (length (octets ++ rest)) n ≡ false = le-ltb (length (octets ++ rest)) n (omega (arith, count, length-append octets rest)) in
    rw (enough, take_at octets rest n count, drop_at octets rest n count) refl

-- an IP address that was read: its bytes, and that it is one of the version
abbrev ReadsIp : Version → List ℕ → Ip × List ℕ → Type 0
ReadsIp v bytes x = (bytes ≡ spelled_ip v x.0 ++ x.1) × IsIp v x.0

-- behind the byte for its family
of_family_read : (b : ℕ) (bytes : List ℕ) (x : Ip × List ℕ) (four : Bool) → eqb b 4 ≡ four → (six : Bool) → eqb b 6 ≡ six → AreBytes bytes
    → cond four (ipv4_at bytes) (cond six (ipv6_at bytes) (Err faults.Family)) ≡ Ok x → ReadsIp versions.Three (b ∷ bytes) x
of_family_read b bytes x true h six i fit e =
    let a = step_ok (octets_at 4 bytes) (λ octets. Ok (V4 octets.0, octets.1)) x e in
    let octets = octets_read 4 bytes a.0 fit a.1 in
    let whole : b ∷ bytes ≡ 4 ∷ (a.0.0 ++ a.0.1) = ap (λ (m : ℕ). m ∷ bytes) (eqb-true b 4 h) ∙ ap (λ (t : List ℕ). 4 ∷ t) octets.0 in
    subst (λ (y : Ip × List ℕ). ReadsIp versions.Three (b ∷ bytes) y) (same_ok (V4 a.0.0, a.0.1) x a.2) (whole, octets.1)
of_family_read b bytes x false h true i fit e =
    let a = step_ok (octets_at 16 bytes) (λ octets. Ok (V6 octets.0, octets.1)) x e in
    let octets = octets_read 16 bytes a.0 fit a.1 in
    let whole : b ∷ bytes ≡ 6 ∷ (a.0.0 ++ a.0.1) = ap (λ (m : ℕ). m ∷ bytes) (eqb-true b 6 i) ∙ ap (λ (t : List ℕ). 6 ∷ t) octets.0 in
    subst (λ (y : Ip × List ℕ). ReadsIp versions.Three (b ∷ bytes) y) (same_ok (V6 a.0.0, a.0.1) x a.2) (whole, octets.1)
of_family_read b bytes x false h false i fit e = absurd cc

ip_read : (v : Version) (bytes : List ℕ) (x : Ip × List ℕ) → AreBytes bytes → ip_at v bytes ≡ Ok x → ReadsIp v bytes x
ip_read versions.One bytes x fit e =
    let a = step_ok (octets_at 4 bytes) (λ octets. Ok (V4 octets.0, octets.1)) x e in
    subst (λ (y : Ip × List ℕ). ReadsIp versions.One bytes y) (same_ok (V4 a.0.0, a.0.1) x a.2) (octets_read 4 bytes a.0 fit a.1)
ip_read versions.Two bytes x fit e =
    let a = step_ok (octets_at 4 bytes) (λ octets. Ok (V4 octets.0, octets.1)) x e in
    subst (λ (y : Ip × List ℕ). ReadsIp versions.Two bytes y) (same_ok (V4 a.0.0, a.0.1) x a.2) (octets_read 4 bytes a.0 fit a.1)
ip_read versions.Three [] x fit e = absurd cc
ip_read versions.Three (b ∷ bytes) x fit e = of_family_read b bytes x (eqb b 4) refl (eqb b 6) refl (λ i. fit (suc i)) e

ip_again : (v : Version) (ip : Ip) (rest : List ℕ) → IsIp v ip → ip_at v (spelled_ip v ip ++ rest) ≡ Ok (ip, rest)
ip_again versions.One (V4 octets) rest fit = rw (octets_again 4 octets rest fit.count) refl
ip_again versions.One (V6 octets) rest fit = absurd fit
ip_again versions.Two (V4 octets) rest fit = rw (octets_again 4 octets rest fit.count) refl
ip_again versions.Two (V6 octets) rest fit = absurd fit
ip_again versions.Three (V4 octets) rest fit = rw (octets_again 4 octets rest fit.count) refl
ip_again versions.Three (V6 octets) rest fit = rw (octets_again 16 octets rest fit.count) refl

pub port_there : (a b : ℕ) (rest : List ℕ) → number_at w16 (a ∷ b ∷ rest) ≡ Ok (from_be_bytes w16 (a ∷ b ∷ []), rest)
port_there a b rest =
    let enough : ltb (length (a ∷ b ∷ rest)) 2 ≡ false = le-ltb (length (a ∷ b ∷ rest)) 2 (omega arith) in
    rw enough refl

port_read : (bytes : List ℕ) (x : ℕ × List ℕ) → AreBytes bytes → number_at w16 bytes ≡ Ok x → (bytes ≡ to_be_bytes w16 x.0 ++ x.1) × (x.0 < 2 ^ 16)
port_read [] x fit e = absurd cc
port_read (a ∷ []) x fit e = absurd cc
port_read (a ∷ b ∷ rest) x fit e =
    let two = a ∷ b ∷ [] in
    let written : to_be_bytes w16 (from_be_bytes w16 two) ≡ two = be_bytes_2 two (from_be_bytes w16 two) refl front_fits refl in
    let below : from_be_bytes w16 two < 2 ^ 16 = omega (arith, fit 0, fit 1) in
    subst (λ (y : ℕ × List ℕ). (two ++ rest ≡ to_be_bytes w16 y.0 ++ y.1) × (y.0 < 2 ^ 16)) (same_ok (from_be_bytes w16 two, rest) x (sym (port_there a b rest) ∙ e)) (ap (λ (t : List ℕ). t ++ rest) (sym written), below)
  where
    front_fits : AreBytes (a ∷ b ∷ [])
    front_fits zero = fit 0
    front_fits (suc zero) = fit 1
    front_fits (suc (suc i)) = omega arith

port_again : (n : ℕ) (rest : List ℕ) → n < 2 ^ 16 → number_at w16 (to_be_bytes w16 n ++ rest) ≡ Ok (n, rest)
port_again n rest fit = port_there (byte_at 1 n) (byte_at 0 n) rest ∙ rw (from_be_bytes-to_be_bytes_2 n fit) refl

pub addr_read : (v : Version) (bytes : List ℕ) (x : Addr × List ℕ) → AreBytes bytes → addr_at v bytes ≡ Ok x → (bytes ≡ spelled_addr v x.0 ++ x.1) × IsAddr v x.0
unfolding addr_at
addr_read v bytes x fit e =
    let a = step_ok (ip_at v bytes) (λ ip. number_at w16 ip.1 >>= λ port. Ok (record { ip = ip.0; port = port.0 }, port.1)) x e in
    let b = step_ok (number_at w16 a.0.1) (λ port. Ok (record { ip = a.0.0; port = port.0 }, port.1)) x a.2 in
    let ip = ip_read v bytes a.0 fit a.1 in
    let port = port_read a.0.1 b.0 (behind (spelled_ip v a.0.0) a.0.1 (subst AreBytes ip.0 fit)) b.1 in
    let made : Addr = record { ip = a.0.0; port = b.0.0 } in
    let whole : bytes ≡ spelled_addr v made ++ b.0.1 = ip.0 ∙ ap (λ (t : List ℕ). spelled_ip v a.0.0 ++ t) port.0 ∙ sym (append_assoc (spelled_ip v a.0.0) (to_be_bytes w16 b.0.0) b.0.1) in
    subst (λ (y : Addr × List ℕ). (bytes ≡ spelled_addr v y.0 ++ y.1) × IsAddr v y.0) (same_ok (made, b.0.1) x b.2) (whole, record { ip = ip.1; port = port.1 })

pub addr_again : (v : Version) (addr : Addr) (rest : List ℕ) → IsAddr v addr → addr_at v (spelled_addr v addr ++ rest) ≡ Ok (addr, rest)
unfolding addr_at
addr_again v addr rest fit =
    ap (addr_at v) (append_assoc (spelled_ip v addr.ip) (to_be_bytes w16 addr.port) rest)
    ∙ rw (ip_again v addr.ip (to_be_bytes w16 addr.port ++ rest) fit.ip, port_again addr.port rest fit.port) refl

-- ---- names that may be missing

some_name_read : (bytes : List ℕ) (x : Option (List ℕ) × List ℕ) → some_name_at bytes ≡ Ok x → (bytes ≡ spelled_or_none x.0 ++ x.1) × IsNameIfAny x.0
unfolding some_name_at
some_name_read bytes x e =
    let a = step_ok (name_at bytes) (λ name. Ok (Some name.0, name.1)) x e in
    let name = name_read bytes a.0 a.1 in
    subst (λ (y : Option (List ℕ) × List ℕ). (bytes ≡ spelled_or_none y.0 ++ y.1) × IsNameIfAny y.0) (same_ok (Some a.0.0, a.0.1) x a.2) (name.0, name.1)

or_none_read : (bytes : List ℕ) (x : Option (List ℕ) × List ℕ) → name_or_none_at bytes ≡ Ok x → (bytes ≡ spelled_or_none x.0 ++ x.1) × IsNameIfAny x.0
unfolding name_or_none_at
or_none_read [] x e = absurd cc
or_none_read (n ∷ bytes) x e = step (eqb n 0) refl e
  where
    step : (none : Bool) → eqb n 0 ≡ none → cond none (Ok (None, bytes)) (some_name_at (n ∷ bytes)) ≡ Ok x → (n ∷ bytes ≡ spelled_or_none x.0 ++ x.1) × IsNameIfAny x.0
    step true h k =
        let whole : n ∷ bytes ≡ spelled_or_none None ++ bytes = ap (λ (m : ℕ). m ∷ bytes) (eqb-true n 0 h) in
        subst (λ (y : Option (List ℕ) × List ℕ). (n ∷ bytes ≡ spelled_or_none y.0 ++ y.1) × IsNameIfAny y.0) (same_ok (None, bytes) x k) (whole, tt)
    step false h k = some_name_read (n ∷ bytes) x k

or_none_again : (name : Option (List ℕ)) (rest : List ℕ) → IsNameIfAny name → name_or_none_at (spelled_or_none name ++ rest) ≡ Ok (name, rest)
unfolding name_or_none_at some_name_at
or_none_again None rest fit = refl
or_none_again (Some name) rest fit =
    let n = is_named name fit in
    rw (ne_eqb (length name) 0 (omega (arith, n.some)), name_again name rest fit) refl

-- what no byte tells
untold : (rest : List ℕ) (name : Option (List ℕ)) → name ≡ None → group_at versions.One rest ≡ Ok (name, rest)
untold rest name none = ap (λ (o : Option (List ℕ)). Ok (o, rest)) (sym none)

pub group_read : (v : Version) (bytes : List ℕ) (x : Option (List ℕ) × List ℕ) → group_at v bytes ≡ Ok x → (bytes ≡ spelled_group v x.0 ++ x.1) × IsGroup v x.0
group_read versions.One bytes x e = subst (λ (y : Option (List ℕ) × List ℕ). (bytes ≡ spelled_group versions.One y.0 ++ y.1) × IsGroup versions.One y.0) (same_ok (None, bytes) x e) (refl, refl)
group_read versions.Two bytes x e = subst (λ (y : Option (List ℕ) × List ℕ). (bytes ≡ spelled_group versions.Two y.0 ++ y.1) × IsGroup versions.Two y.0) (same_ok (None, bytes) x e) (refl, refl)
group_read versions.Three bytes x e = or_none_read bytes x e

pub group_again : (v : Version) (group : Option (List ℕ)) (rest : List ℕ) → IsGroup v group → group_at v (spelled_group v group ++ rest) ≡ Ok (group, rest)
group_again versions.One group rest fit = untold rest group fit
group_again versions.Two group rest fit = untold rest group fit
group_again versions.Three group rest fit = or_none_again group rest fit

-- a receiver that was read, in a packet of this sender
abbrev ReadsReceiver : Version → List ℕ → List ℕ → Option (List ℕ) × List ℕ → Type 0
ReadsReceiver v sender bytes x = (bytes ≡ spelled_receiver v sender x.0 ++ x.1) × IsReceiver v x.0

receiver_read : (v : Version) (sender bytes : List ℕ) (x : Option (List ℕ) × List ℕ) → receiver_at v bytes ≡ Ok x → ReadsReceiver v sender bytes x
unfolding some_name_at
receiver_read versions.One sender bytes x e = subst (λ (y : Option (List ℕ) × List ℕ). ReadsReceiver versions.One sender bytes y) (same_ok (None, bytes) x e) (refl, refl)
receiver_read versions.Two sender bytes x e = subst (λ (y : Option (List ℕ) × List ℕ). ReadsReceiver versions.Two sender bytes y) (same_ok (None, bytes) x e) (refl, refl)
receiver_read versions.Three sender bytes x e =
    let a = step_ok (name_at bytes) (λ name. Ok (Some name.0, name.1)) x e in
    subst (λ (y : Option (List ℕ) × List ℕ). ReadsReceiver versions.Three sender bytes y) (same_ok (Some a.0.0, a.0.1) x a.2) (name_read bytes a.0 a.1)

receiver_again : (v : Version) (sender : List ℕ) (receiver : Option (List ℕ)) (rest : List ℕ) → IsReceiver v receiver → receiver_at v (spelled_receiver v sender receiver ++ rest) ≡ Ok (receiver, rest)
unfolding some_name_at
receiver_again versions.One sender receiver rest fit = untold rest receiver fit
receiver_again versions.Two sender receiver rest fit = untold rest receiver fit
receiver_again versions.Three sender None rest fit = absurd fit
receiver_again versions.Three sender (Some name) rest fit = rw (name_again name rest fit) refl

-- ---- bodies

-- a PingReq's spelling, and what stands behind it
regrouped : (v : Version) (sender : List ℕ) (number : ℕ) (target : List ℕ) (addr : Addr) (rest : List ℕ) → spelled_body v sender (PingReq number target addr) ++ rest ≡ spelled_number number ++ (spelled_name target ++ (spelled_addr v addr ++ rest))
regrouped v sender number target addr rest =
    append_assoc (spelled_number number) (spelled_name target ++ spelled_addr v addr) rest
    ∙ ap (λ (t : List ℕ). spelled_number number ++ t) (append_assoc (spelled_name target) (spelled_addr v addr) rest)

-- a body that was read, in a packet of this sender: its bytes, that it is one of the version, and its kind
abbrev pub ReadsBody : Version → List ℕ → Kind → List ℕ → Body × List ℕ → Type 0
ReadsBody v sender kind bytes x = (bytes ≡ spelled_body v sender x.0 ++ x.1) × IsBody v x.0 × (kind_of v x.0 ≡ kind)

ping_read : (v : Version) (sender bytes : List ℕ) (x : Body × List ℕ) → AreBytes bytes → body_at v kinds.Ping bytes ≡ Ok x → ReadsBody v sender kinds.Ping bytes x
unfolding body_at
ping_read v sender bytes x fit e =
    let a = step_ok (number_at w32 bytes) (λ number. name_at number.1 >>= λ target. Ok (Ping number.0 target.0, target.1)) x e in
    let b = step_ok (name_at a.0.1) (λ target. Ok (Ping a.0.0 target.0, target.1)) x a.2 in
    let number = number_read bytes a.0 fit a.1 in
    let target = name_read a.0.1 b.0 b.1 in
    let whole : bytes ≡ spelled_body v sender (Ping a.0.0 b.0.0) ++ b.0.1 =
    number.0 ∙ ap (λ (t : List ℕ). spelled_number a.0.0 ++ t) target.0 ∙ sym (append_assoc (spelled_number a.0.0) (spelled_name b.0.0) b.0.1) in
    subst (λ (y : Body × List ℕ). ReadsBody v sender kinds.Ping bytes y) (same_ok (Ping a.0.0 b.0.0, b.0.1) x b.2) (whole, (number.1, target.1), refl)

ping_req_read : (v : Version) (sender bytes : List ℕ) (x : Body × List ℕ) → AreBytes bytes → body_at v kinds.PingReq bytes ≡ Ok x → ReadsBody v sender kinds.PingReq bytes x
unfolding body_at
ping_req_read v sender bytes x fit e =
    let a = step_ok (number_at w32 bytes) (λ number. name_at number.1 >>= λ target. addr_at v target.1 >>= λ addr. Ok (PingReq number.0 target.0 addr.0, addr.1)) x e in
    let b = step_ok (name_at a.0.1) (λ target. addr_at v target.1 >>= λ addr. Ok (PingReq a.0.0 target.0 addr.0, addr.1)) x a.2 in
    let d = step_ok (addr_at v b.0.1) (λ addr. Ok (PingReq a.0.0 b.0.0 addr.0, addr.1)) x b.2 in
    let number = number_read bytes a.0 fit a.1 in
    let behind_number : AreBytes a.0.1 = behind (spelled_number a.0.0) a.0.1 (subst AreBytes number.0 fit) in
    let target = name_read a.0.1 b.0 b.1 in
    let behind_target : AreBytes b.0.1 = behind (spelled_name b.0.0) b.0.1 (subst AreBytes target.0 behind_number) in
    let addr = addr_read v b.0.1 d.0 behind_target d.1 in
    let whole : bytes ≡ spelled_body v sender (PingReq a.0.0 b.0.0 d.0.0) ++ d.0.1 =
    number.0 ∙ ap (λ (t : List ℕ). spelled_number a.0.0 ++ t) (target.0 ∙ ap (λ (t : List ℕ). spelled_name b.0.0 ++ t) addr.0) ∙ sym (regrouped v sender a.0.0 b.0.0 d.0.0 d.0.1) in
    subst (λ (y : Body × List ℕ). ReadsBody v sender kinds.PingReq bytes y) (same_ok (PingReq a.0.0 b.0.0 d.0.0, d.0.1) x d.2) (whole, (number.1, target.1, addr.1), refl)

-- a number and a receiver that were read
pub record ReadsAnswer (v : Version) (sender bytes : List ℕ) (number : ℕ) (receiver : Option (List ℕ)) (rest : List ℕ) : Type 0 where
  pub whole : bytes ≡ (spelled_number number ++ spelled_receiver v sender receiver) ++ rest
  pub low : number < 2 ^ 32
  pub named : IsReceiver v receiver

answer_read : (v : Version) (sender bytes : List ℕ) (a : ℕ × List ℕ) (b : Option (List ℕ) × List ℕ) → AreBytes bytes → number_at w32 bytes ≡ Ok a → receiver_at v a.1 ≡ Ok b → ReadsAnswer v sender bytes a.0 b.0 b.1
answer_read v sender bytes a b fit e f =
    let number = number_read bytes a fit e in
    let receiver = receiver_read v sender a.1 b f in
    record {
      whole = number.0 ∙ ap (λ (t : List ℕ). spelled_number a.0 ++ t) receiver.0 ∙ sym (append_assoc (spelled_number a.0) (spelled_receiver v sender b.0) b.1);
      low = number.1;
      named = receiver.1;
    }

gossip_read : (v : Version) (sender bytes : List ℕ) → IsKindOf v kinds.Gossip → ReadsBody v sender kinds.Gossip bytes (Gossip, bytes)
gossip_read versions.One sender bytes fit = absurd cc
gossip_read versions.Two sender bytes fit = absurd cc
gossip_read versions.Three sender bytes fit = (refl, tt, refl)

pub body_read : (v : Version) (sender : List ℕ) (kind : Kind) (bytes : List ℕ) (x : Body × List ℕ) → IsKindOf v kind → AreBytes bytes → body_at v kind bytes ≡ Ok x → ReadsBody v sender kind bytes x
unfolding body_at
body_read v sender kinds.Ping bytes x kind fit e = ping_read v sender bytes x fit e
body_read v sender kinds.PingReq bytes x kind fit e = ping_req_read v sender bytes x fit e
body_read v sender kinds.Ack bytes x kind fit e =
    let a = step_ok (number_at w32 bytes) (λ number. receiver_at v number.1 >>= λ receiver. Ok (Ack number.0 receiver.0, receiver.1)) x e in
    let b = step_ok (receiver_at v a.0.1) (λ receiver. Ok (Ack a.0.0 receiver.0, receiver.1)) x a.2 in
    let answer = answer_read v sender bytes a.0 b.0 fit a.1 b.1 in
    subst (λ (y : Body × List ℕ). ReadsBody v sender kinds.Ack bytes y) (same_ok (Ack a.0.0 b.0.0, b.0.1) x b.2) (answer.whole, (answer.low, answer.named), refl)
body_read v sender kinds.Nack bytes x kind fit e =
    let a = step_ok (number_at w32 bytes) (λ number. receiver_at v number.1 >>= λ receiver. Ok (Nack number.0 receiver.0, receiver.1)) x e in
    let b = step_ok (receiver_at v a.0.1) (λ receiver. Ok (Nack a.0.0 receiver.0, receiver.1)) x a.2 in
    let answer = answer_read v sender bytes a.0 b.0 fit a.1 b.1 in
    subst (λ (y : Body × List ℕ). ReadsBody v sender kinds.Nack bytes y) (same_ok (Nack a.0.0 b.0.0, b.0.1) x b.2) (answer.whole, (answer.low, answer.named), refl)
body_read v sender kinds.Pull bytes x kind fit e =
    let a = step_ok (name_or_none_at bytes) (λ after. Ok (Pull after.0, after.1)) x e in
    let after = or_none_read bytes a.0 a.1 in
    subst (λ (y : Body × List ℕ). ReadsBody v sender kinds.Pull bytes y) (same_ok (Pull a.0.0, a.0.1) x a.2) (after.0, after.1, refl)
body_read v sender kinds.Page bytes x kind fit e =
    subst (λ (y : Body × List ℕ). ReadsBody v sender kinds.Page bytes y) (same_ok (Page, bytes) x e) (refl, tt, refl)
body_read v sender kinds.Gossip bytes x kind fit e =
    subst (λ (y : Body × List ℕ). ReadsBody v sender kinds.Gossip bytes y) (same_ok (Gossip, bytes) x e) (gossip_read v sender bytes kind)

gossip_again : (v : Version) (rest : List ℕ) → IsBody v Gossip → body_at v (kind_of v Gossip) rest ≡ Ok (Gossip, rest)
unfolding body_at
gossip_again versions.One rest fit = absurd fit
gossip_again versions.Two rest fit = absurd fit
gossip_again versions.Three rest fit = refl

pub body_again : (v : Version) (sender : List ℕ) (body : Body) (rest : List ℕ) → IsBody v body → body_at v (kind_of v body) (spelled_body v sender body ++ rest) ≡ Ok (body, rest)
unfolding body_at
body_again v sender (Ping number target) rest fit = rw (number_again number (spelled_name target ++ rest) fit.0, name_again target rest fit.1) refl
body_again v sender (PingReq number target addr) rest fit =
    ap (body_at v kinds.PingReq) (regrouped v sender number target addr rest)
    ∙ rw (number_again number (spelled_name target ++ (spelled_addr v addr ++ rest)) fit.0, name_again target (spelled_addr v addr ++ rest) fit.1, addr_again v addr rest fit.2) refl
body_again v sender (Ack number receiver) rest fit =
    ap (body_at v kinds.Ack) (append_assoc (spelled_number number) (spelled_receiver v sender receiver) rest)
    ∙ rw (number_again number (spelled_receiver v sender receiver ++ rest) fit.0, receiver_again v sender receiver rest fit.1) refl
body_again v sender (Nack number receiver) rest fit =
    ap (body_at v kinds.Nack) (append_assoc (spelled_number number) (spelled_receiver v sender receiver) rest)
    ∙ rw (number_again number (spelled_receiver v sender receiver ++ rest) fit.0, receiver_again v sender receiver rest fit.1) refl
body_again v sender (Pull after) rest fit = rw (or_none_again after rest fit) refl
body_again v sender Page rest fit = refl
body_again v sender Gossip rest fit = gossip_again v rest fit

-- ---- the count of claims

pub count_read : (v : Version) (bytes : List ℕ) (x : ℕ × List ℕ) → count_at v bytes ≡ Ok x → (bytes ≡ x.0 ∷ x.1) × (x.0 ≤ most_claims_of v)
count_read v [] x e = absurd cc
count_read v (n ∷ bytes) x e =
    let p = passed_by (ltb (most_claims_of v) n) faults.Count (Ok (n, bytes)) x e in
    subst (λ (y : ℕ × List ℕ). (n ∷ bytes ≡ y.0 ∷ y.1) × (y.0 ≤ most_claims_of v)) (same_ok (n, bytes) x p.1) (refl, ltb-false (most_claims_of v) n p.0)

pub count_again : (v : Version) (n : ℕ) (rest : List ℕ) → n ≤ most_claims_of v → count_at v (n ∷ rest) ≡ Ok (n, rest)
count_again v n rest few = rw (le-ltb (most_claims_of v) n few) refl
