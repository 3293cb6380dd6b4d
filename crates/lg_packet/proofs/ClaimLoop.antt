-- Reading claims one after the other, as a loop does.
use Rattle.std.proofs.Common.{◌≡◌, ℕ, suc, ◌-◌, ◌+◌, ◌≤◌, ◌<◌, List, [], ◌∷◌, ◌++◌, length, Result, Ok, Err, refl, sym, ap, ◌∙◌, append_assoc, arith}
use Rattle.std.proofs.lemmas.List.{append-nil, length_push}
use Rattle.lg_rules.specs.declared.claim.Claim.{Claim}
use Rattle.lg_rules.specs.declared.version.Version.{Version}
use Rattle.lg_packet.specs.declared.fault.Fault.{Fault}
use Rattle.lg_packet.specs.declared.packet.Packet.{Packet}
use Rattle.lg_packet.specs.Meaning.Reading.{◌>>=◌, claim_at, claims_at}

-- what is read, with the claims that were read before it
abbrev pub behind_some : List Claim → Result (List Claim × List ℕ) Fault → Result (List Claim × List ℕ) Fault
behind_some front (Ok x) = Ok (front ++ x.0, x.1)
behind_some front (Err f) = Err f

-- of count claims, as many as the turn were read, and the rest still comes to the same
pub record Reads (v : Version) (front : List Claim) (rest : List ℕ) (turn count : ℕ) (total : Result (List Claim × List ℕ) Fault) : Type 0 where
  pub len : length front ≡ turn
  pub comes : behind_some front (claims_at v (count - turn) rest) ≡ total

one_first : (front : List Claim) (c : Claim) (read : Result (List Claim × List ℕ) Fault) → behind_some front (read >>= λ x. Ok (c ∷ x.0, x.1)) ≡ behind_some (front ++ c ∷ []) read
one_first front c (Ok x) = ap (λ (cs : List Claim). Ok (cs, x.1)) (sym (append_assoc front (c ∷ []) x.0))
one_first front c (Err f) = refl

pub one_more : (v : Version) (front : List Claim) (rest after : List ℕ) (c : Claim) (turn count : ℕ) (total : Result (List Claim × List ℕ) Fault)
    → turn < count → claim_at v rest ≡ Ok (c, after) → Reads v front rest turn count total → Reads v (front ++ c ∷ []) after (turn + 1) count total
unfolding claims_at
one_more v front rest after c turn count total left read so_far =
    let k : count - turn ≡ suc (count - (turn + 1)) = omega arith in
    let more : behind_some front (claims_at v (count - turn) rest) ≡ behind_some (front ++ c ∷ []) (claims_at v (count - (turn + 1)) after) = rw (k, read) (one_first front c (claims_at v (count - (turn + 1)) after)) in
    record { len = omega (arith, length_push front c, so_far.len); comes = sym more ∙ so_far.comes }

pub stops : (v : Version) (front : List Claim) (rest : List ℕ) (f : Fault) (turn count : ℕ) (total : Result (List Claim × List ℕ) Fault)
    → turn < count → claim_at v rest ≡ Err f → Reads v front rest turn count total → total ≡ Err f
unfolding claims_at
stops v front rest f turn count total left read so_far =
    let k : count - turn ≡ suc (count - (turn + 1)) = omega arith in
    let stopped : behind_some front (claims_at v (count - turn) rest) ≡ Err f = rw (k, read) refl in
    sym so_far.comes ∙ stopped

pub all_read : (v : Version) (front : List Claim) (rest : List ℕ) (turn count : ℕ) (total : Result (List Claim × List ℕ) Fault)
    → count ≤ turn → Reads v front rest turn count total → total ≡ Ok (front, rest)
unfolding claims_at
all_read v front rest turn count total done so_far =
    let k : count - turn ≡ 0 = omega arith in
    let ended : behind_some front (claims_at v (count - turn) rest) ≡ Ok (front, rest) = rw k (ap (λ (cs : List Claim). Ok (cs, rest)) (append-nil front)) in
    sym so_far.comes ∙ ended

-- the same of the claims of a packet, of which all else is as it was before
pub record Fills (v : Version) (before packet : Packet) (rest : List ℕ) (turn count : ℕ) (total : Result (List Claim × List ℕ) Fault) : Type 0 where
  pub reads : Reads v packet.claims.items rest turn count total
  pub front : packet ≡ record before { claims = packet.claims }
