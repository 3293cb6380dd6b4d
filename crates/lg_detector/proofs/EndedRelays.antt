-- An Ack ends the relay of its number, or none.
use Rattle.std.proofs.Common.{◌≡◌, ℕ, true, false, not, List, [], ◌∷◌, inl, inr, refl, sym, ◌∙◌, ap}
use Rattle.std.specs.Prelude.{filter, is_some, ◌==◌}
use Rattle.std.specs.List.{AllByRecursion, list_any}
use Rattle.std.proofs.lemmas.Bool.{cases_Bool, eqb-true, eq-eqb}
use Rattle.lg_rules.proofs.Tests.{both}
use Rattle.lg_probe.specs.declared.relays.Relay.{Relay}
use Rattle.lg_probe.specs.Meaning.Relays.{AreApart, has_number, is_ended, ended_asker}

pub found : (k : ℕ) (sender : List ℕ) (relays : List Relay) → list_any (is_ended k sender) relays ≡ true → is_some (ended_asker k sender relays) ≡ true
found k sender [] e = absurd cc
found k sender (r ∷ rs) e = elim (cases_Bool (is_ended k sender r)) [
  | inl t ↦ rw t refl
  | inr f ↦ rw f (found k sender rs (rw f at e))
]

pub missed : (k : ℕ) (sender : List ℕ) (relays : List Relay) → list_any (is_ended k sender) relays ≡ false → is_some (ended_asker k sender relays) ≡ false
missed k sender [] e = refl
missed k sender (r ∷ rs) e = elim (cases_Bool (is_ended k sender r)) [
  | inl t ↦ (let bad : true ≡ false = rw t at e in absurd cc)
  | inr f ↦ rw f (missed k sender rs (rw f at e))
]

pub ended-none : (k : ℕ) (sender : List ℕ) (relays : List Relay) → list_any (is_ended k sender) relays ≡ false → filter (λ r. not (is_ended k sender r)) relays ≡ relays
ended-none k sender [] e = refl
ended-none k sender (r ∷ rs) e = elim (cases_Bool (is_ended k sender r)) [
  | inl t ↦ (let bad : true ≡ false = rw t at e in absurd cc)
  | inr f ↦ rw f (ap (λ xs. r ∷ xs) (ended-none k sender rs (rw f at e)))
]

-- where one has a number, those behind it don't
others_ended : (k : ℕ) (sender : List ℕ) (n : ℕ) (rs : List Relay) → n ≡ k → AllByRecursion (λ (s : Relay). (n == s.number) ≡ false) rs → list_any (is_ended k sender) rs ≡ false
others_ended k sender n [] e a = refl
others_ended k sender n (s ∷ rs) e a = elim (cases_Bool (has_number k s)) [
  | inl t ↦ (
      let same : (n == s.number) ≡ true = rw (e, eqb-true s.number k t) (eq-eqb k k refl) in
      let bad : true ≡ false = sym same ∙ a.0 in
      absurd cc)
  | inr f ↦ rw f (others_ended k sender n rs e a.1)
]

numbers_other : (k n : ℕ) (rs : List Relay) → n ≡ k → AllByRecursion (λ (s : Relay). (n == s.number) ≡ false) rs → filter (λ r. not (has_number k r)) rs ≡ rs
numbers_other k n [] e a = refl
numbers_other k n (s ∷ rs) e a = elim (cases_Bool (has_number k s)) [
  | inl t ↦ (
      let same : (n == s.number) ≡ true = rw (e, eqb-true s.number k t) (eq-eqb k k refl) in
      let bad : true ≡ false = sym same ∙ a.0 in
      absurd cc)
  | inr f ↦ rw f (ap (λ xs. s ∷ xs) (numbers_other k n rs e a.1))
]

pub ended-number : (k : ℕ) (sender : List ℕ) (relays : List Relay) → AreApart relays → list_any (is_ended k sender) relays ≡ true
    → filter (λ r. not (is_ended k sender r)) relays ≡ filter (λ r. not (has_number k r)) relays
ended-number k sender [] a e = refl
ended-number k sender (r ∷ rs) a e = elim (cases_Bool (is_ended k sender r)) [
  | inl t ↦ (
      let numbered : has_number k r ≡ true = (both _ _ t).0 in
      let is : r.number ≡ k = eqb-true r.number k numbered in
      rw (t, numbered) (ended-none k sender rs (others_ended k sender r.number rs is a.0) ∙ sym (numbers_other k r.number rs is a.0)))
  | inr f ↦ elim (cases_Bool (has_number k r)) [
    | inl n ↦ (
        let is : r.number ≡ k = eqb-true r.number k n in
        let rest : list_any (is_ended k sender) rs ≡ true = rw f at e in
        let bad : true ≡ false = sym rest ∙ others_ended k sender r.number rs is a.0 in
        absurd cc)
    | inr o ↦ rw (f, o) (ap (λ xs. r ∷ xs) (ended-number k sender rs a.1 (rw f at e)))
  ]
]
