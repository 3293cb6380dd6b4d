-- The first fault of each field, by its places and as it is read.
use Rattle.std.proofs.Common.{◌≡◌, ℕ, zero, suc, Bool, true, false, cond, eqb, ltb, leb, ◌&&◌, ◌||◌, ◌≤◌, List, [], ◌∷◌, ◌++◌, length, take, drop, replicate, Option, Some, None, Ok, Err, refl, sym, ap, subst, ◌∙◌, arith}
use Rattle.std.specs.List.{list_all}
use Rattle.std.specs.Int.{w16, w32}
use Rattle.std.proofs.lemmas.Bool.{le-ltb, lt-ltb, ltb-true, ltb-false, le-leb, lt-leb, leb-true, eqb-true, eqb-false}
use Rattle.std.proofs.Math.Dec.{leb-suc-suc}
use Rattle.lg_rules.specs.Meaning.Name.{is_name_byte}
use Rattle.lg_rules.specs.declared.addr.Addr.{Addr}
use Rattle.lg_rules.specs.declared.addr.Ip.{Ip}
use Rattle.lg_rules.specs.declared.addr.Ip.TheVariants.{V4, V6}
use Rattle.lg_rules.specs.declared.version.Version.{Version}
use Rattle.lg_rules.specs.declared.version.Version.TheVariants as versions
use Rattle.lg_rules.specs.Meaning.Version.{most_claims_of}
use Rattle.lg_packet.specs.declared.fault.Fault.{Fault}
use Rattle.lg_packet.specs.declared.fault.Fault.TheVariants as faults
use Rattle.lg_packet.specs.declared.kind.Kind.{Kind}
use Rattle.lg_packet.specs.declared.kind.Kind.TheVariants as kinds
use Rattle.lg_packet.specs.Meaning.Spelling.{byte_of_kind, byte_of_version}
use Rattle.lg_packet.specs.Meaning.Reading.{◌>>=◌, magic_at, version_at, kind_at, name_at, number_at, octets_at, ipv4_at, ipv6_at, ip_at, addr_at, some_name_at, name_or_none_at, group_at, receiver_at, count_at}
use Rattle.lg_packet.specs.Meaning.Fault.{Part, MagicByte, VersionByte, KindByte, LengthByte, MaybeLengthByte, NameByte, NumberByte, CountByte, ClaimKindByte, most_kind, most_count, number_parts, addr_parts, group_parts, receiver_parts, body_parts}
use Rattle.lg_packet.proofs.Outcomes.{fault_or, fault_then}
use Rattle.lg_packet.proofs.Fields.{number_there, port_there}
use Rattle.lg_packet.proofs.Places.{fault_from}

pub magic_fault : (due : ℕ) (parts : List Part) (bytes : List ℕ) → fault_from bytes (MagicByte due ∷ parts) ≡ fault_or (λ rest. fault_from rest parts) (magic_at due bytes)
magic_fault due parts [] = refl
magic_fault due parts (b ∷ bytes) = step (eqb b due)
  where
    step : (good : Bool) → cond good (fault_from bytes parts) faults.Magic ≡ fault_or (λ rest. fault_from rest parts) (cond good (Ok bytes) (Err faults.Magic))
    step true = refl
    step false = refl

-- a version is 1, 2 or 3
no_version : (b : ℕ) → eqb b 1 ≡ false → eqb b 2 ≡ false → eqb b 3 ≡ false → (leb 1 b && leb b 3) ≡ false
no_version b one two three = step (leb 1 b) refl (leb b 3) refl
  where
    step : (low : Bool) → leb 1 b ≡ low → (high : Bool) → leb b 3 ≡ high → (low && high) ≡ false
    step true h true k = absurd (omega (arith, leb-true 1 b h, leb-true b 3 k, eqb-false b 1 one, eqb-false b 2 two, eqb-false b 3 three))
    step true h false k = refl
    step false h high k = refl

pub version_fault : (parts : List Part) (bytes : List ℕ) → fault_from bytes (VersionByte ∷ parts) ≡ fault_or (λ (x : Version × List ℕ). fault_from x.1 (KindByte (byte_of_version x.0) ∷ parts)) (version_at bytes)
version_fault parts [] = refl
version_fault parts (b ∷ bytes) = step (eqb b 1) refl (eqb b 2) refl (eqb b 3) refl
  where
    Same : ℕ → Type 0
    Same n = fault_from (n ∷ bytes) (VersionByte ∷ parts) ≡ fault_or (λ (x : Version × List ℕ). fault_from x.1 (KindByte (byte_of_version x.0) ∷ parts)) (version_at (n ∷ bytes))

    step : (one : Bool) → eqb b 1 ≡ one → (two : Bool) → eqb b 2 ≡ two → (three : Bool) → eqb b 3 ≡ three → Same b
    step true h two i three j = let here : b ≡ 1 = eqb-true b 1 h in subst Same (sym here) refl
    step false h true i three j = let here : b ≡ 2 = eqb-true b 2 i in subst Same (sym here) refl
    step false h false i true j = let here : b ≡ 3 = eqb-true b 3 j in subst Same (sym here) refl
    step false h false i false j = rw (no_version b h i j, h, i, j) refl

few_kinds : (v : Version) → most_kind (byte_of_version v) ≤ 7
few_kinds versions.One = omega arith
few_kinds versions.Two = omega arith
few_kinds versions.Three = omega arith

-- a kind is 1 to 7
no_kind : (b most : ℕ) → most ≤ 7 → eqb b 1 ≡ false → eqb b 2 ≡ false → eqb b 3 ≡ false → eqb b 4 ≡ false → eqb b 5 ≡ false → eqb b 6 ≡ false → eqb b 7 ≡ false → (leb 1 b && leb b most) ≡ false
no_kind b most few one two three four five six seven = step (leb 1 b) refl (leb b most) refl
  where
    step : (low : Bool) → leb 1 b ≡ low → (high : Bool) → leb b most ≡ high → (low && high) ≡ false
    step true h true k = absurd (omega (arith, few, leb-true 1 b h, leb-true b most k, eqb-false b 1 one, eqb-false b 2 two, eqb-false b 3 three, eqb-false b 4 four, eqb-false b 5 five, eqb-false b 6 six, eqb-false b 7 seven))
    step true h false k = refl
    step false h high k = refl

-- what is due behind the head of a packet of this version and this kind
abbrev pub behind_head : Version → Kind → List Part
behind_head v kind =
    group_parts (byte_of_version v) ++ (LengthByte ∷ (body_parts (byte_of_version v) (byte_of_kind kind) ++ CountByte (byte_of_version v) ∷ []))

-- reading a kind and looking at its place come to the same for this byte
abbrev SameKind : Version → List ℕ → ℕ → Type 0
SameKind v bytes n = fault_from (n ∷ bytes) (KindByte (byte_of_version v) ∷ []) ≡ fault_or (λ (x : Kind × List ℕ). fault_from x.1 (behind_head v x.0)) (kind_at v (n ∷ bytes))

same_kind : (v : Version) (bytes : List ℕ) (kind : Kind) → SameKind v bytes (byte_of_kind kind)
same_kind versions.One bytes kinds.Ping = refl
same_kind versions.One bytes kinds.PingReq = refl
same_kind versions.One bytes kinds.Ack = refl
same_kind versions.One bytes kinds.Nack = refl
same_kind versions.One bytes kinds.Pull = refl
same_kind versions.One bytes kinds.Page = refl
same_kind versions.One bytes kinds.Gossip = refl
same_kind versions.Two bytes kinds.Ping = refl
same_kind versions.Two bytes kinds.PingReq = refl
same_kind versions.Two bytes kinds.Ack = refl
same_kind versions.Two bytes kinds.Nack = refl
same_kind versions.Two bytes kinds.Pull = refl
same_kind versions.Two bytes kinds.Page = refl
same_kind versions.Two bytes kinds.Gossip = refl
same_kind versions.Three bytes kinds.Ping = refl
same_kind versions.Three bytes kinds.PingReq = refl
same_kind versions.Three bytes kinds.Ack = refl
same_kind versions.Three bytes kinds.Nack = refl
same_kind versions.Three bytes kinds.Pull = refl
same_kind versions.Three bytes kinds.Page = refl
same_kind versions.Three bytes kinds.Gossip = refl

pub kind_fault : (v : Version) (bytes : List ℕ) → fault_from bytes (KindByte (byte_of_version v) ∷ []) ≡ fault_or (λ (x : Kind × List ℕ). fault_from x.1 (behind_head v x.0)) (kind_at v bytes)
kind_fault v [] = refl
kind_fault v (b ∷ bytes) = step (eqb b 1) refl (eqb b 2) refl (eqb b 3) refl (eqb b 4) refl (eqb b 5) refl (eqb b 6) refl (eqb b 7) refl
  where
    is : (kind : Kind) → eqb b (byte_of_kind kind) ≡ true → SameKind v bytes b
    is kind h = subst (SameKind v bytes) (sym (eqb-true b (byte_of_kind kind) h)) (same_kind v bytes kind)

    step : (one : Bool) → eqb b 1 ≡ one → (two : Bool) → eqb b 2 ≡ two → (three : Bool) → eqb b 3 ≡ three → (four : Bool) → eqb b 4 ≡ four → (five : Bool) → eqb b 5 ≡ five → (six : Bool) → eqb b 6 ≡ six → (seven : Bool) → eqb b 7 ≡ seven → SameKind v bytes b
    step true h two i three j four k five l six m seven n = is kinds.Ping h
    step false h true i three j four k five l six m seven n = is kinds.PingReq i
    step false h false i true j four k five l six m seven n = is kinds.Ack j
    step false h false i false j true k five l six m seven n = is kinds.Nack k
    step false h false i false j false k true l six m seven n = is kinds.Pull l
    step false h false i false j false k false l true m seven n = is kinds.Page m
    step false h false i false j false k false l false m true n = is kinds.Gossip n
    step false h false i false j false k false l false m false n = rw (no_kind b (most_kind (byte_of_version v)) (few_kinds v) h i j k l m n, h, i, j, k, l, m, n) refl

name_bytes_fault : (n : ℕ) (parts : List Part) (bytes : List ℕ) → fault_from bytes (replicate n NameByte ++ parts)
    ≡ cond (list_all is_name_byte (take n bytes)) (cond (ltb (length bytes) n) faults.Short (fault_from (drop n bytes) parts)) faults.Name
name_bytes_fault zero parts bytes = rw (le-ltb (length bytes) 0 (omega arith)) refl
name_bytes_fault (suc n) parts [] = rw (lt-ltb 0 (suc n) (omega arith)) refl
name_bytes_fault (suc n) parts (b ∷ bytes) = step (is_name_byte b) (name_bytes_fault n parts bytes)
  where
    step : (good : Bool)
        → fault_from bytes (replicate n NameByte ++ parts) ≡ cond (list_all is_name_byte (take n bytes)) (cond (ltb (length bytes) n) faults.Short (fault_from (drop n bytes) parts)) faults.Name
        → cond good (fault_from bytes (replicate n NameByte ++ parts)) faults.Name
        ≡ cond (good && list_all is_name_byte (take n bytes)) (cond (ltb (suc (length bytes)) (suc n)) faults.Short (fault_from (drop n bytes) parts)) faults.Name
    step true others = rw (leb-suc-suc (suc (length bytes)) n) others
    step false others = refl

-- the length of a name, tested in one way and in the other
length_tests : (n : ℕ) (good bad : Fault) → cond (leb 1 n && leb n 32) good bad ≡ cond (eqb n 0) bad (cond (ltb 32 n) bad good)
length_tests n good bad = step (eqb n 0) refl (ltb 32 n) refl
  where
    step : (none : Bool) → eqb n 0 ≡ none → (long : Bool) → ltb 32 n ≡ long → cond (leb 1 n && leb n 32) good bad ≡ cond none bad (cond long bad good)
    step true h long k = rw (lt-leb 1 n (omega (arith, eqb-true n 0 h))) refl
    step false h true k = rw (le-leb 1 n (omega (arith, ltb-true 32 n k)), lt-leb n 32 (ltb-true 32 n k)) refl
    step false h false k = rw (le-leb 1 n (omega (arith, eqb-false n 0 h)), le-leb n 32 (ltb-false 32 n k)) refl

fault_of_tests : {A : Type 0} (none long good short : Bool) (x : A) (go : A → Fault)
    → fault_or go (cond none (Err faults.Name) (cond long (Err faults.Name) (cond good (cond short (Err faults.Short) (Ok x)) (Err faults.Name))))
    ≡ cond none faults.Name (cond long faults.Name (cond good (cond short faults.Short (go x)) faults.Name))
fault_of_tests true long good short x go = refl
fault_of_tests false true good short x go = refl
fault_of_tests false false true true x go = refl
fault_of_tests false false true false x go = refl
fault_of_tests false false false short x go = refl

pub name_fault : (parts : List Part) (bytes : List ℕ) → fault_from bytes (LengthByte ∷ parts) ≡ fault_or (λ (x : List ℕ × List ℕ). fault_from x.1 parts) (name_at bytes)
unfolding name_at
name_fault parts [] = refl
name_fault parts (n ∷ bytes) =
    length_tests n (fault_from bytes (replicate n NameByte ++ parts)) faults.Name
    ∙ ap (λ (f : Fault). cond (eqb n 0) faults.Name (cond (ltb 32 n) faults.Name f)) (name_bytes_fault n parts bytes)
    ∙ sym (fault_of_tests (eqb n 0) (ltb 32 n) (list_all is_name_byte (take n bytes)) (ltb (length bytes) n) (take n bytes, drop n bytes) (λ (x : List ℕ × List ℕ). fault_from x.1 parts))

-- ---- names that may be missing

-- the length of a name, or 0 if there is none, tested in one way and in the other
or_none_tests : (n : ℕ) (good bad : Fault) → cond (leb n 32) good bad ≡ cond (eqb n 0) good (cond (leb 1 n && leb n 32) good bad)
or_none_tests n good bad = step (eqb n 0) refl
  where
    step : (none : Bool) → eqb n 0 ≡ none → cond (leb n 32) good bad ≡ cond none good (cond (leb 1 n && leb n 32) good bad)
    step true h = rw (le-leb n 32 (omega (arith, eqb-true n 0 h))) refl
    step false h = rw (le-leb 1 n (omega (arith, eqb-false n 0 h))) refl

some_name_fault : (parts : List Part) (bytes : List ℕ) → fault_from bytes (LengthByte ∷ parts) ≡ fault_or (λ (x : Option (List ℕ) × List ℕ). fault_from x.1 parts) (some_name_at bytes)
unfolding some_name_at
some_name_fault parts bytes =
    name_fault parts bytes
    ∙ fault_then (name_at bytes) (λ name. Ok (Some name.0, name.1)) (λ (x : List ℕ × List ℕ). fault_from x.1 parts) (λ (x : Option (List ℕ) × List ℕ). fault_from x.1 parts) (λ name. refl)

pub or_none_fault : (parts : List Part) (bytes : List ℕ) → fault_from bytes (MaybeLengthByte ∷ parts) ≡ fault_or (λ (x : Option (List ℕ) × List ℕ). fault_from x.1 parts) (name_or_none_at bytes)
unfolding name_or_none_at
or_none_fault parts [] = refl
or_none_fault parts (n ∷ bytes) =
    or_none_tests n (fault_from bytes (replicate n NameByte ++ parts)) faults.Name ∙ step (eqb n 0) refl
  where
    step : (none : Bool) → eqb n 0 ≡ none
        → cond none (fault_from bytes (replicate n NameByte ++ parts)) (fault_from (n ∷ bytes) (LengthByte ∷ parts))
        ≡ fault_or (λ (x : Option (List ℕ) × List ℕ). fault_from x.1 parts) (cond none (Ok (None, bytes)) (some_name_at (n ∷ bytes)))
    step true h = ap (λ (m : ℕ). fault_from bytes (replicate m NameByte ++ parts)) (eqb-true n 0 h)
    step false h = some_name_fault parts (n ∷ bytes)

pub group_fault : (v : Version) (parts : List Part) (bytes : List ℕ) → fault_from bytes (group_parts (byte_of_version v) ++ parts) ≡ fault_or (λ (x : Option (List ℕ) × List ℕ). fault_from x.1 parts) (group_at v bytes)
group_fault versions.One parts bytes = refl
group_fault versions.Two parts bytes = refl
group_fault versions.Three parts bytes = or_none_fault parts bytes

pub receiver_fault : (v : Version) (parts : List Part) (bytes : List ℕ) → fault_from bytes (receiver_parts (byte_of_version v) ++ parts) ≡ fault_or (λ (x : Option (List ℕ) × List ℕ). fault_from x.1 parts) (receiver_at v bytes)
receiver_fault versions.One parts bytes = refl
receiver_fault versions.Two parts bytes = refl
receiver_fault versions.Three parts bytes = some_name_fault parts bytes

-- ---- numbers and addresses

-- a test from one side and from the other
pub at_most : (n m : ℕ) (good bad : Fault) → cond (leb n m) good bad ≡ cond (ltb m n) bad good
at_most n m good bad = step (ltb m n) refl
  where
    step : (above : Bool) → ltb m n ≡ above → cond (leb n m) good bad ≡ cond above bad good
    step true h = rw (lt-leb n m (ltb-true m n h)) refl
    step false h = rw (le-leb n m (ltb-false m n h)) refl

pub fault_of_test : {A : Type 0} (above : Bool) (fault : Fault) (x : A) (go : A → Fault) → fault_or go (cond above (Err fault) (Ok x)) ≡ cond above fault (go x)
fault_of_test true fault x go = refl
fault_of_test false fault x go = refl

pub number_fault : (parts : List Part) (bytes : List ℕ) → fault_from bytes (number_parts ++ parts) ≡ fault_or (λ (x : ℕ × List ℕ). fault_from x.1 parts) (number_at w32 bytes)
number_fault parts [] = refl
number_fault parts (a ∷ []) = refl
number_fault parts (a ∷ b ∷ []) = refl
number_fault parts (a ∷ b ∷ c ∷ []) = refl
number_fault parts (a ∷ b ∷ c ∷ d ∷ rest) = sym (ap (fault_or (λ (x : ℕ × List ℕ). fault_from x.1 parts)) (number_there a b c d rest))

octets_fault : (n : ℕ) (parts : List Part) (bytes : List ℕ) → fault_from bytes (replicate n NumberByte ++ parts) ≡ fault_or (λ (x : List ℕ × List ℕ). fault_from x.1 parts) (octets_at n bytes)
octets_fault n parts bytes =
    each n bytes
    ∙ sym (fault_of_test (ltb (length bytes) n) faults.Short (take n bytes, drop n bytes) (λ (x : List ℕ × List ℕ). fault_from x.1 parts))
  where
    each : (n : ℕ) (bytes : List ℕ) → fault_from bytes (replicate n NumberByte ++ parts) ≡ cond (ltb (length bytes) n) faults.Short (fault_from (drop n bytes) parts)
    each zero bytes = rw (le-ltb (length bytes) 0 (omega arith)) refl
    each (suc n) [] = rw (lt-ltb 0 (suc n) (omega arith)) refl
    each (suc n) (b ∷ bytes) = rw (leb-suc-suc (suc (length bytes)) n) (each n bytes)

port_fault : (parts : List Part) (bytes : List ℕ) → fault_from bytes (NumberByte ∷ NumberByte ∷ parts) ≡ fault_or (λ (x : ℕ × List ℕ). fault_from x.1 parts) (number_at w16 bytes)
port_fault parts [] = refl
port_fault parts (a ∷ []) = refl
port_fault parts (a ∷ b ∷ rest) = sym (ap (fault_or (λ (x : ℕ × List ℕ). fault_from x.1 parts)) (port_there a b rest))

ipv4_fault : (parts : List Part) (bytes : List ℕ) → fault_from bytes (replicate 4 NumberByte ++ parts) ≡ fault_or (λ (x : Ip × List ℕ). fault_from x.1 parts) (ipv4_at bytes)
ipv4_fault parts bytes =
    octets_fault 4 parts bytes
    ∙ fault_then (octets_at 4 bytes) (λ octets. Ok (V4 octets.0, octets.1)) (λ (x : List ℕ × List ℕ). fault_from x.1 parts) (λ (x : Ip × List ℕ). fault_from x.1 parts) (λ octets. refl)

ipv6_fault : (parts : List Part) (bytes : List ℕ) → fault_from bytes (replicate 16 NumberByte ++ parts) ≡ fault_or (λ (x : Ip × List ℕ). fault_from x.1 parts) (ipv6_at bytes)
ipv6_fault parts bytes =
    octets_fault 16 parts bytes
    ∙ fault_then (octets_at 16 bytes) (λ octets. Ok (V6 octets.0, octets.1)) (λ (x : List ℕ × List ℕ). fault_from x.1 parts) (λ (x : Ip × List ℕ). fault_from x.1 parts) (λ octets. refl)

-- the byte for a family, and what stands behind it
family_fault : (parts : List Part) (bytes : List ℕ) (four six : Bool) → cond (four || six) (fault_from bytes (replicate (cond four 4 16) NumberByte ++ parts)) faults.Family
    ≡ fault_or (λ (x : Ip × List ℕ). fault_from x.1 parts) (cond four (ipv4_at bytes) (cond six (ipv6_at bytes) (Err faults.Family)))
family_fault parts bytes true six = ipv4_fault parts bytes
family_fault parts bytes false true = ipv6_fault parts bytes
family_fault parts bytes false false = refl

ip_fault : (v : Version) (parts : List Part) (bytes : List ℕ) → fault_from bytes (addr_parts (byte_of_version v) ++ parts) ≡ fault_or (λ (x : Ip × List ℕ). fault_from x.1 (NumberByte ∷ NumberByte ∷ parts)) (ip_at v bytes)
ip_fault versions.One parts bytes = ipv4_fault (NumberByte ∷ NumberByte ∷ parts) bytes
ip_fault versions.Two parts bytes = ipv4_fault (NumberByte ∷ NumberByte ∷ parts) bytes
ip_fault versions.Three parts [] = refl
ip_fault versions.Three parts (b ∷ bytes) = family_fault (NumberByte ∷ NumberByte ∷ parts) bytes (eqb b 4) (eqb b 6)

pub addr_fault : (v : Version) (parts : List Part) (bytes : List ℕ) → fault_from bytes (addr_parts (byte_of_version v) ++ parts) ≡ fault_or (λ (x : Addr × List ℕ). fault_from x.1 parts) (addr_at v bytes)
unfolding addr_at
addr_fault v parts bytes =
    let on = λ (x : Addr × List ℕ). fault_from x.1 parts in
    ip_fault v parts bytes
    ∙ fault_then (ip_at v bytes) (λ ip. number_at w16 ip.1 >>= λ port. Ok (record { ip = ip.0; port = port.0 }, port.1)) (λ (x : Ip × List ℕ). fault_from x.1 (NumberByte ∷ NumberByte ∷ parts)) on (λ ip.
    port_fault parts ip.1
    ∙ fault_then (number_at w16 ip.1) (λ port. Ok (record { ip = ip.0; port = port.0 }, port.1)) (λ (x : ℕ × List ℕ). fault_from x.1 parts) on (λ port. refl))

-- ---- the count of claims

same_count : (v : Version) → most_count (byte_of_version v) ≡ most_claims_of v
same_count versions.One = refl
same_count versions.Two = refl
same_count versions.Three = refl

pub count_fault : (v : Version) (parts : List Part) (bytes : List ℕ) → fault_from bytes (CountByte (byte_of_version v) ∷ parts) ≡ fault_or (λ (x : ℕ × List ℕ). fault_from x.1 (replicate x.0 (ClaimKindByte (byte_of_version v)) ++ parts)) (count_at v bytes)
count_fault v parts [] = refl
count_fault v parts (n ∷ bytes) =
    let kind = ClaimKindByte (byte_of_version v) in
    at_most n (most_count (byte_of_version v)) (fault_from bytes (replicate n kind ++ parts)) faults.Count
    ∙ ap (λ (m : ℕ). cond (ltb m n) faults.Count (fault_from bytes (replicate n kind ++ parts))) (same_count v)
    ∙ sym (fault_of_test (ltb (most_claims_of v) n) faults.Count (n, bytes) (λ (x : ℕ × List ℕ). fault_from x.1 (replicate x.0 kind ++ parts)))
