-- The relays that are open. A relay is a probe of a target for another member, its asker, which sent a ping-req. The
-- asker is told of the target's ack (SWIM, section 3.1).
use Rattle.std.specs.Prelude.{ℕ, ⊤, ◌≡◌, Bool, false, ◌&&◌, ◌==◌, List}
use Rattle.std.specs.Prelude.{[], ◌∷◌, ◌++◌, find, Option, if◌then◌else◌}
use Rattle.std.specs.List.{AllByRecursion, list_any}
use Rattle.std.specs.Option.{option_map}
use Rattle.lg_rules.specs.Meaning.Rows.{name_cmp, is_same}
use Rattle.lg_probe.specs.declared.relays.Asker.{Asker}
use Rattle.lg_probe.specs.declared.relays.Relay.{Relay}

-- the asker of a relay: the member that asked for it, where it is reached, and the number of its own probe
abbrev pub asker_of : Relay → Asker
asker_of r = r.asker

-- whether a relay has this number
abbrev pub has_number : ℕ → Relay → Bool
has_number number r = r.number == number

-- whether an ack ends a relay: it has the relay's number, and comes from the relay's target
abbrev pub is_ended : ℕ → List ℕ → Relay → Bool
is_ended number sender r = r.number == number && is_same name_cmp r.target sender

-- the open relay with this number, if there is one
abbrev pub relay_at : ℕ → List Relay → Option Relay
relay_at number relays = find (has_number number) relays

-- its asker
abbrev pub asker_at : ℕ → List Relay → Option Asker
asker_at number relays = option_map asker_of (relay_at number relays)

-- no two relays have the same number
abbrev pub AreApart : List Relay → Type 0
AreApart [] = ⊤
AreApart (r ∷ rs) = AllByRecursion (λ s. (r.number == s.number) ≡ false) rs × AreApart rs

-- whether a relay with this number is open
abbrev pub is_open : ℕ → List Relay → Bool
is_open number relays = list_any (has_number number) relays

-- the asker of the open relay that an ack with this number from this sender ends
abbrev pub ended_asker : ℕ → List ℕ → List Relay → Option Asker
ended_asker number sender relays = option_map asker_of (find (is_ended number sender) relays)

-- what happens to relays: one is opened, an ack with a number comes from a sender, or the relay with a number is
-- closed
pub data RelayFact : Type 0 where
  Opened : Relay → RelayFact
  TargetAcked : ℕ → List ℕ → RelayFact
  Closed : ℕ → RelayFact

-- whether a fact ends a relay: it is an ack with its number from its target, or its closing
abbrev pub ends : Relay → RelayFact → Bool
ends r (Opened other) = false
ends r (TargetAcked number sender) = is_ended number sender r
ends r (Closed number) = has_number number r

-- A past has the latest fact first. These are the relays that were opened in a past and that no fact since their
-- opening ended, neither one of that past nor one of the later facts. They are in the order in which they were
-- opened.
abbrev pub relays_since : List RelayFact → List RelayFact → List Relay
relays_since later [] = []
relays_since later (Opened r ∷ past) =
    relays_since (Opened r ∷ later) past ++ (if list_any (ends r) later then [] else r ∷ [])
relays_since later (fact ∷ past) = relays_since (fact ∷ later) past

-- the relays that are open after a past
abbrev pub relays_after : List RelayFact → List Relay
relays_after past = relays_since [] past
