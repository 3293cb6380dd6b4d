-- What a packet is told as has its spelling, and a spelling of its own. A packet that has one of its own is told as it
-- is.
use Rattle.std.proofs.Common.{◌≡◌, List, [], ◌∷◌, ◌++◌, ℕ, ◌≤◌, length, map, take, Option, Some, None, refl, ap, ◌∙◌, sym, arith}
use Rattle.std.specs.List.{flat_map, AllByRecursion}
use Rattle.std.proofs.lemmas.List.Concat.{flat_map-cons}
use Rattle.std.proofs.lemmas.List.{length-map, length-take, take_all}
use Rattle.lg_rules.specs.declared.addr.Ip.{Ip}
use Rattle.lg_rules.specs.declared.addr.Ip.TheVariants.{V4, V6}
use Rattle.lg_rules.specs.declared.claim.Claim.{Claim}
use Rattle.lg_rules.specs.declared.claim.Status.{Status}
use Rattle.lg_rules.specs.declared.claim.Status.TheVariants.{Alive, Suspect, Failed, Left}
use Rattle.lg_rules.specs.declared.version.Version.{Version}
use Rattle.lg_rules.specs.declared.version.Version.TheVariants.{One, Two, Three}
use Rattle.lg_rules.specs.Meaning.Version.{most_claims_of}
use Rattle.lg_packet.specs.declared.packet.Body.{Body}
use Rattle.lg_packet.specs.declared.packet.Body.TheVariants.{Ping, PingReq, Ack, Nack, Pull, Page, Gossip}
use Rattle.lg_packet.specs.declared.packet.Packet.{Packet}
use Rattle.lg_packet.specs.Meaning.Spelling.{kind_of, claim_kind_of, spelled_ip, spelled_group, spelled_receiver, spelled_accuser, spelled_body, spelled_claim, spelled_claims, spelling, spellable_ip, spellable_status, spellable_claim, spellable_group, spellable_receiver, spellable_body, spellable_claims, spellable, IsIp, IsStatus, IsClaim, IsGroup, IsReceiver, IsBody, AreClaims, IsPacket}

-- ---- it has its spelling

spellable-ip : (v : Version) (ip : Ip) → spelled_ip v (spellable_ip v ip) ≡ spelled_ip v ip
spellable-ip v (V4 octets) = refl
spellable-ip One (V6 octets) = refl
spellable-ip Two (V6 octets) = refl
spellable-ip Three (V6 octets) = refl

spellable-kind : (v : Version) (s : Status) → claim_kind_of v (spellable_status v s) ≡ claim_kind_of v s
spellable-kind v Alive = refl
spellable-kind v (Suspect accuser) = refl
spellable-kind v Failed = refl
spellable-kind One Left = refl
spellable-kind Two Left = refl
spellable-kind Three Left = refl

spellable-accuser : (v : Version) (s : Status) → spelled_accuser (spellable_status v s) ≡ spelled_accuser s
spellable-accuser v Alive = refl
spellable-accuser v (Suspect accuser) = refl
spellable-accuser v Failed = refl
spellable-accuser One Left = refl
spellable-accuser Two Left = refl
spellable-accuser Three Left = refl

spellable-claim : (v : Version) (c : Claim) → spelled_claim v (spellable_claim v c) ≡ spelled_claim v c
spellable-claim v c = rw (spellable-ip v c.addr.ip, spellable-kind v c.status, spellable-accuser v c.status) refl

spellable-each : (v : Version) (cs : List Claim) → flat_map (spelled_claim v) (map (spellable_claim v) cs) ≡ flat_map (spelled_claim v) cs
spellable-each v [] = refl
spellable-each v (c ∷ cs) =
    flat_map-cons (spelled_claim v) (spellable_claim v c) (map (spellable_claim v) cs)
    ∙ ap (λ (front : List ℕ). front ++ flat_map (spelled_claim v) (map (spellable_claim v) cs)) (spellable-claim v c)
    ∙ ap (λ (rest : List ℕ). spelled_claim v c ++ rest) (spellable-each v cs)
    ∙ sym (flat_map-cons (spelled_claim v) c cs)

few_told : (v : Version) (cs : List Claim) → length (spellable_claims v cs) ≤ most_claims_of v
few_told v cs = omega (arith, length-map (take (most_claims_of v) cs) (spellable_claim v), length-take (most_claims_of v) cs)

spellable-claims : (v : Version) (cs : List Claim) → spelled_claims v (spellable_claims v cs) ≡ spelled_claims v cs
spellable-claims v cs =
    let told = take (most_claims_of v) cs in
    ap (λ (t : List Claim). length t ∷ flat_map (spelled_claim v) t) (take_all (most_claims_of v) (spellable_claims v cs) (few_told v cs))
    ∙ ap (λ (n : ℕ). n ∷ flat_map (spelled_claim v) (spellable_claims v cs)) (length-map told (spellable_claim v))
    ∙ ap (λ (t : List ℕ). length told ∷ t) (spellable-each v told)

spellable-group : (v : Version) (group : Option (List ℕ)) → spelled_group v (spellable_group v group) ≡ spelled_group v group
spellable-group One group = refl
spellable-group Two group = refl
spellable-group Three group = refl

spellable-receiver : (v : Version) (sender : List ℕ) (receiver : Option (List ℕ)) → spelled_receiver v sender (spellable_receiver v sender receiver) ≡ spelled_receiver v sender receiver
spellable-receiver One sender receiver = refl
spellable-receiver Two sender receiver = refl
spellable-receiver Three sender None = refl
spellable-receiver Three sender (Some name) = refl

spellable-body : (v : Version) (sender : List ℕ) (body : Body) → spelled_body v sender (spellable_body v sender body) ≡ spelled_body v sender body
spellable-body v sender (Ping number target) = refl
spellable-body v sender (PingReq number target addr) = rw (spellable-ip v addr.ip) refl
spellable-body v sender (Ack number receiver) = rw (spellable-receiver v sender receiver) refl
spellable-body v sender (Nack number receiver) = rw (spellable-receiver v sender receiver) refl
spellable-body v sender (Pull after) = refl
spellable-body v sender Page = refl
spellable-body One sender Gossip = refl
spellable-body Two sender Gossip = refl
spellable-body Three sender Gossip = refl

spellable-body_kind : (v : Version) (sender : List ℕ) (body : Body) → kind_of v (spellable_body v sender body) ≡ kind_of v body
spellable-body_kind v sender (Ping number target) = refl
spellable-body_kind v sender (PingReq number target addr) = refl
spellable-body_kind v sender (Ack number receiver) = refl
spellable-body_kind v sender (Nack number receiver) = refl
spellable-body_kind v sender (Pull after) = refl
spellable-body_kind v sender Page = refl
spellable-body_kind One sender Gossip = refl
spellable-body_kind Two sender Gossip = refl
spellable-body_kind Three sender Gossip = refl

pub spellable-spelling : (p : Packet) → spelling (spellable p) ≡ spelling p
unfolding spelling
spellable-spelling p =
    let v = p.version in
    rw (spellable-body_kind v p.sender p.body, spellable-group v p.group, spellable-body v p.sender p.body, spellable-claims v p.claims.items) refl

-- ---- it has a spelling of its own

spellable_each : (v : Version) (cs : List Claim) → AllByRecursion (λ c. IsClaim v (spellable_claim v c)) cs → AllByRecursion (IsClaim v) (map (spellable_claim v) cs)
spellable_each v [] fit = tt
spellable_each v (c ∷ cs) fit = (fit.0, spellable_each v cs fit.1)

pub spellable_fit : (v : Version) (cs : List Claim) → AllByRecursion (λ c. IsClaim v (spellable_claim v c)) (take (most_claims_of v) cs) → AreClaims v (spellable_claims v cs)
spellable_fit v cs fit = record { few = few_told v cs; each = spellable_each v (take (most_claims_of v) cs) fit }

-- ---- what has a spelling of its own is told as it is

own-ip : (v : Version) (ip : Ip) → IsIp v ip → spellable_ip v ip ≡ ip
own-ip v (V4 octets) fit = refl
own-ip One (V6 octets) fit = absurd fit
own-ip Two (V6 octets) fit = absurd fit
own-ip Three (V6 octets) fit = refl

own-status : (v : Version) (s : Status) → IsStatus v s → spellable_status v s ≡ s
own-status v Alive fit = refl
own-status v (Suspect accuser) fit = refl
own-status v Failed fit = refl
own-status One Left fit = absurd fit
own-status Two Left fit = absurd fit
own-status Three Left fit = refl

own-claim : (v : Version) (c : Claim) → IsClaim v c → spellable_claim v c ≡ c
own-claim v c fit = rw (own-ip v c.addr.ip fit.addr.ip, own-status v c.status fit.status) refl

own-each : (v : Version) (cs : List Claim) → AllByRecursion (IsClaim v) cs → map (spellable_claim v) cs ≡ cs
own-each v [] fit = refl
own-each v (c ∷ cs) fit = rw (own-claim v c fit.0, own-each v cs fit.1) refl

own-claims : (v : Version) (cs : List Claim) → AreClaims v cs → spellable_claims v cs ≡ cs
own-claims v cs fit = ap (map (spellable_claim v)) (take_all (most_claims_of v) cs fit.few) ∙ own-each v cs fit.each

own-group : (v : Version) (group : Option (List ℕ)) → IsGroup v group → spellable_group v group ≡ group
own-group One group fit = sym fit
own-group Two group fit = sym fit
own-group Three group fit = refl

own-receiver : (v : Version) (sender : List ℕ) (receiver : Option (List ℕ)) → IsReceiver v receiver → spellable_receiver v sender receiver ≡ receiver
own-receiver One sender receiver fit = sym fit
own-receiver Two sender receiver fit = sym fit
own-receiver Three sender None fit = absurd fit
own-receiver Three sender (Some name) fit = refl

own-body : (v : Version) (sender : List ℕ) (body : Body) → IsBody v body → spellable_body v sender body ≡ body
own-body v sender (Ping number target) fit = refl
own-body v sender (PingReq number target addr) fit = rw (own-ip v addr.ip fit.2.ip) refl
own-body v sender (Ack number receiver) fit = rw (own-receiver v sender receiver fit.1) refl
own-body v sender (Nack number receiver) fit = rw (own-receiver v sender receiver fit.1) refl
own-body v sender (Pull after) fit = refl
own-body v sender Page fit = refl
own-body One sender Gossip fit = absurd fit
own-body Two sender Gossip fit = absurd fit
own-body Three sender Gossip fit = refl

pub own-packet : (p : Packet) → IsPacket p → spellable p ≡ p
own-packet p fit =
    let v = p.version in
    rw (own-group v p.group fit.group, own-body v p.sender p.body fit.body, own-claims v p.claims.items fit.claims) refl
