-- The names that a table of members hears of leave each suspicion as it is.
use Rattle.std.proofs.Common.{◌≡◌, ℕ, Bool, true, false, List, set, Some, sym, ◌∙◌, ap, subst, inl, inr}
use Rattle.std.proofs.lemmas.Bool.{cases_Bool}
use Rattle.lg_rules.specs.declared.claim.Claim.{Claim}
use Rattle.lg_rules.specs.Meaning.Slots.{free_slot, is_held, with_name}
use Rattle.lg_rules.specs.Meaning.Table.{names_heard}
use Rattle.lg_rules.proofs.Cases.{Missing, Holding, held}
use Rattle.lg_rules.proofs.Naming.{heard-passed, heard-known, heard-named, heard-new}
use Rattle.lg_rules.proofs.SlotLaws.{Slots}
use Rattle.lg_suspicion.specs.Meaning.Parts.{SuspicionParts, suspicion_by, IsKnownTo}
use Rattle.lg_suspicion.proofs.KnownAccusers.{suspicion-given, known-given}

-- Names stay as they are, or one that had no slot is given a free one.
data AreGiven (names after : Slots) : Type 0 where
  Same : after ≡ names → AreGiven names after
  Given : (n : List ℕ) (f : ℕ) → free_slot names ≡ Some f → is_held n names ≡ false → after ≡ set names f (Some n)
      → AreGiven names after

given : (taken : Bool) (names : Slots) (c : Claim) → AreGiven names (names_heard taken names c)
given false names c = Same (heard-passed names c)
given true names c = elim (cases_Bool (is_held c.name names)) [
  | inl t ↦ Same (heard-known true names c t)
  | inr f ↦ elim (held (free_slot names)) [
    | Missing none ↦ Same (heard-named names c f ∙ ap (λ o. with_name o c.name names) none)
    | Holding free is ↦ Given c.name free is f (heard-new names c free f is)
  ]
]

pub known-heard : (taken : Bool) (names : Slots) (c : Claim) (parts : SuspicionParts) → IsKnownTo names parts
    → IsKnownTo (names_heard taken names c) parts
known-heard taken names c parts known = elim (given taken names c) [
  | Same e ↦ subst (λ ns. IsKnownTo ns parts) (sym e) known
  | Given n f free fresh e ↦ subst (λ ns. IsKnownTo ns parts) (sym e) (known-given names n f parts free fresh known)
]

pub suspicion-heard : (taken : Bool) (names : Slots) (c : Claim) (parts : SuspicionParts) → IsKnownTo names parts
    → suspicion_by (names_heard taken names c) parts ≡ suspicion_by names parts
suspicion-heard taken names c parts known = elim (given taken names c) [
  | Same e ↦ ap (λ ns. suspicion_by ns parts) e
  | Given n f free fresh e ↦ ap (λ ns. suspicion_by ns parts) e ∙ suspicion-given names n f parts free known
]
