-- What one fact does to the relays that are open, and what is kept of them.
use Rattle.std.specs.Prelude.{ℕ, ◌≤◌, not, List, [], ◌∷◌, ◌++◌, filter}
use Rattle.std.specs.List.{AllByRecursion}
use Rattle.lg_probe.specs.declared.relays.Relay.{Relay}
use Rattle.lg_probe.specs.Meaning.Relays.{AreApart, RelayFact, Opened, TargetAcked, Closed, has_number, is_ended}

-- these relays after one more fact
abbrev pub relays_with : List Relay → RelayFact → List Relay
relays_with relays (Opened r) = relays ++ r ∷ []
relays_with relays (TargetAcked number sender) = filter (λ r. not (is_ended number sender r)) relays
relays_with relays (Closed number) = filter (λ r. not (has_number number r)) relays

-- none of these relays has a number above this one
abbrev pub AreUpTo : ℕ → List Relay → Type 0
AreUpTo greatest relays = AllByRecursion (λ r. r.number ≤ greatest) relays

-- no two of them have the same number, and none has one above this one
pub record AreKeptRelays (greatest : ℕ) (relays : List Relay) : Type 0 where
  pub apart : AreApart relays
  pub up_to : AreUpTo greatest relays
