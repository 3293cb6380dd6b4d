-- Relays whose numbers aren't above a number.
use Rattle.std.proofs.Common.{◌≡◌, ℕ, ◌≤◌, ◌<◌, Bool, false, inl, inr, List, [], ◌∷◌, ◌++◌, length, None, refl, arith}
use Rattle.std.specs.Prelude.{filter, not, position, ◌==◌}
use Rattle.std.specs.List.{prefix_len}
use Rattle.std.proofs.lemmas.Bool.{cases_Bool, eqb-true, le-ltb}
use Rattle.lg_probe.specs.declared.relays.Relay.{Relay}
use Rattle.lg_probe.specs.Meaning.Relays.{has_number}
use Rattle.lg_probe.specs.Support.Relays.{AreKeptRelays, AreUpTo}
use Rattle.lg_probe.proofs.RelayLaws.{apart-fewer}

-- fewer of them
pub up_to-fewer : (p : Relay → Bool) (n : ℕ) (rs : List Relay) → AreUpTo n rs → AreUpTo n (filter p rs)
up_to-fewer p n [] a = tt
up_to-fewer p n (r ∷ rs) a = elim (cases_Bool (p r)) [
  | inl t ↦ rw t (a.0, up_to-fewer p n rs a.1)
  | inr f ↦ rw f (up_to-fewer p n rs a.1)
]

-- and one more
pub up_to-opened : (n m : ℕ) (r : Relay) (rs : List Relay) → n ≤ m → r.number ≤ m → AreUpTo n rs → AreUpTo m (rs ++ r ∷ [])
up_to-opened n m r [] le own a = (own, tt)
up_to-opened n m r (x ∷ rs) le own a = (omega (arith, le, a.0), up_to-opened n m r rs le own a.1)

-- None has a number above that.
none_has : (n number : ℕ) (rs : List Relay) → n < number → AreUpTo n rs
    → prefix_len (λ r. not (has_number number r)) rs ≡ length rs
none_has n number [] less a = refl
none_has n number (r ∷ rs) less a = elim (cases_Bool (r.number == number)) [
  | inl t ↦ absurd (omega (arith, less, a.0, eqb-true r.number number t))
  | inr f ↦ rw f (omega (arith, none_has n number rs less a.1))
]

pub none_above : (n number : ℕ) (rs : List Relay) → n < number → AreUpTo n rs → position (has_number number) rs ≡ None
none_above n number rs less a =
    rw (none_has n number rs less a, le-ltb (length rs) (length rs) (omega arith)) refl

-- What is kept of some relays is kept of fewer.
pub kept-fewer : (p : Relay → Bool) (n : ℕ) (rs : List Relay) → AreKeptRelays n rs → AreKeptRelays n (filter p rs)
kept-fewer p n rs kept = record {
  apart = apart-fewer p rs kept.apart;
  up_to = up_to-fewer p n rs kept.up_to;
}
