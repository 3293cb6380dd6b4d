-- A leave is told: its packets are written one after another.
use Rattle.std.proofs.Common.{◌≡◌, ℕ, ◌+◌, ◌<◌, ◌≤◌, List, [], ◌∷◌, ◌++◌, append_assoc, get_or, length, drop, set, take, Option, Some, None, option_map, ap, arith, refl, sym, ◌∙◌}
use Rattle.std.specs.Prelude.{unwrap_or}
use Rattle.std.proofs.lemmas.List.{drop_more, length-set, take_more_set}
use Rattle.lg_rules.specs.declared.addr.Addr.{Addr}
use Rattle.lg_rules.specs.declared.claim.Claim.{Claim}
use Rattle.lg_membership.specs.Meaning.Gossip.{version_sent}
use Rattle.lg_membership.specs.Support.State.{shown}
use Rattle.lg_detector.specs.declared.reply.Outgoing.{Outgoing}
use Rattle.lg_detector.specs.Meaning.Leave.{leave_body}
use Rattle.lg_detector.specs.Meaning.Tick.{found}
use Rattle.lg_detector.specs.Support.Joining.{own_packet_state}
use Rattle.lg_detector.specs.Support.Leave.{leave_packet_state, leave_packets_to}
use Rattle.lg_detector.specs.Support.State.{State}

-- after the first so many names, to so many of which a packet was written
pub record HaveToldLeave (s : State) (names : List (List ℕ)) (i count : ℕ) (sends : List Outgoing) : Type 0 where
  pub sent : take count sends ++ leave_packets_to (drop i names) s ≡ leave_packets_to names s
  pub few : count ≤ i
  pub places : length names ≤ length sends

-- the packet to an address, and to a name by the address of its record
abbrev pub told_at : Addr → State → Outgoing
told_at to s = own_packet_state to (leave_body (version_sent s.membership.config)) s

module _ (s : State) where
  at_addr : (r : Option Claim) (to : Addr) → option_map (λ (r : Claim). r.addr) r ≡ Some to → option_map (leave_packet_state s) r ≡ Some (told_at to s)
  at_addr None to is = absurd cc
  at_addr (Some r) to is = ap (λ o. Some (told_at (unwrap_or o to) s)) is

  no_addr : (r : Option Claim) → option_map (λ (r : Claim). r.addr) r ≡ None → option_map (leave_packet_state s) r ≡ None
  no_addr None is = refl
  no_addr (Some r) is = absurd cc

  -- the packets to a name and those behind it
  told_first : (m : List ℕ) (rest : List (List ℕ)) (to : Addr) → option_map (λ (r : Claim). r.addr) (found m (shown s.membership)) ≡ Some to
      → leave_packets_to (m ∷ rest) s ≡ told_at to s ∷ leave_packets_to rest s
  told_first m rest to is = rw (at_addr (found m (shown s.membership)) to is) refl

  none_first : (m : List ℕ) (rest : List (List ℕ)) → option_map (λ (r : Claim). r.addr) (found m (shown s.membership)) ≡ None
      → leave_packets_to (m ∷ rest) s ≡ leave_packets_to rest s
  none_first m rest is = rw (no_addr (found m (shown s.membership)) is) refl

  module _ (names : List (List ℕ)) (i count : ℕ) (sends : List Outgoing) (m : List ℕ) (told : HaveToldLeave s names i count sends) (within : i < length names) (named : m ≡ get_or names i m) where
    -- the names that are left
    left : drop i names ≡ m ∷ drop (i + 1) names
    left = drop_more names i m within ∙ ap (λ n. n ∷ drop (i + 1) names) (sym named)

    -- a name has a record
    pub told_one : (to : Addr) (out : Outgoing) → option_map (λ (r : Claim). r.addr) (found m (shown s.membership)) ≡ Some to → out ≡ told_at to s
        → HaveToldLeave s names (i + 1) (count + 1) (set sends count out)
    told_one to out is written = record {
      sent =
          ap (λ os. os ++ leave_packets_to (drop (i + 1) names) s) (take_more_set sends count out (omega (arith, told.few, told.places, within)))
          ∙ append_assoc (take count sends) (out ∷ []) (leave_packets_to (drop (i + 1) names) s)
          ∙ ap (λ o. take count sends ++ o ∷ leave_packets_to (drop (i + 1) names) s) written
          ∙ ap (λ os. take count sends ++ os) (sym (told_first m (drop (i + 1) names) to is))
          ∙ ap (λ ns. take count sends ++ leave_packets_to ns s) (sym left)
          ∙ told.sent;
      few = omega (arith, told.few);
      places = omega (arith, told.places, length-set sends count out);
    }

    -- or it has none
    pub told_none : option_map (λ (r : Claim). r.addr) (found m (shown s.membership)) ≡ None → HaveToldLeave s names (i + 1) count sends
    told_none is = record {
      sent = ap (λ os. take count sends ++ os) (sym (none_first m (drop (i + 1) names) is)) ∙ ap (λ ns. take count sends ++ leave_packets_to ns s) (sym left) ∙ told.sent;
      few = omega (arith, told.few);
      places = told.places;
    }
