-- The slots of all accusers are in a set, which may have others: what is changed of the rows keeps that, and a slot
-- that isn't in the set is no accuser's.
use Rattle.std.proofs.Common.{◌≡◌, ◌≢◌, ℕ, ◌<◌, Bool, true, false, ◌||◌, List, [], ◌∷◌, length, map, get_or, set}
use Rattle.std.proofs.Common.{refl, sym, ◌∙◌, ap, inl, inr, arith, zero, suc}
use Rattle.std.proofs.lemmas.Bool.{cases_Bool, cases_eq}
use Rattle.std.proofs.lemmas.List.{get_or-set_same, get_or-set_other}
use Rattle.lg_rules.specs.Meaning.Rows.{name_cmp, is_same, put_row, without_row}
use Rattle.lg_rules.proofs.Cases.{Below, Tied, Above, compared}
use Rattle.lg_suspicion.specs.Meaning.Parts.{SuspicionParts, parts_without, IsKnownTo}
use Rattle.lg_membership.specs.declared.suspected.Suspected.{Suspected}
use Rattle.lg_membership.specs.Support.Rows.{kept_name, row_without, IsWithin, AreAccusersIn}

-- A suspicion that is known to no names at all keeps no slot.
pub within-none : (all : List Bool) (parts : SuspicionParts) → IsKnownTo [] parts → IsWithin all parts.members
within-none all parts known number has =
    let named = (known.slots number has).1 in
    absurd cc

pub within-trans : (more all flags : List Bool) → IsWithin more all → IsWithin all flags → IsWithin more flags
within-trans more all flags p q number has = p number (q number has)

-- what is in one of two sets is in both together
either_first : (a b : Bool) → a ≡ true → (a || b) ≡ true
either_first true b e = refl
either_first false b e = absurd cc

either_second : (a b : Bool) → b ≡ true → (a || b) ≡ true
either_second true b e = refl
either_second false b e = e

module _ (both all flags : List Bool)
    (each : (number : ℕ) → get_or both number false ≡ (get_or all number false || get_or flags number false)) where
  pub within-first : IsWithin both all
  within-first number has = each number ∙ either_first (get_or all number false) (get_or flags number false) has

  pub within-second : IsWithin both flags
  within-second number has = each number ∙ either_second (get_or all number false) (get_or flags number false) has

pub within-more : (more all : List Bool) (rows : List Suspected) → IsWithin more all → AreAccusersIn all rows
    → AreAccusersIn more rows
within-more more all [] p within = within
within-more more all (x ∷ xs) p within =
    (within-trans more all x.suspicion.members p within.0, within-more more all xs p within.1)

module _ (all : List Bool) where
  pub within-at : (rows : List Suspected) (at : ℕ) (d : Suspected) → AreAccusersIn all rows → at < length rows
      → IsWithin all (get_or rows at d).suspicion.members
  within-at [] at d within inside = absurd (omega arith)
  within-at (x ∷ xs) zero d within inside = within.0
  within-at (x ∷ xs) (suc at) d within inside = within-at xs at d within.1 (omega arith)

  pub within-put : (r : Suspected) (rows : List Suspected) → IsWithin all r.suspicion.members → AreAccusersIn all rows
      → AreAccusersIn all (put_row name_cmp kept_name r rows)
  within-put r [] one within = (one, within)
  within-put r (x ∷ xs) one within = elim (compared (name_cmp r.name x.name)) [
    | Below e ↦ rw e (one, within)
    | Tied e ↦ rw e (one, within.1)
    | Above e ↦ rw e (within.0, within-put r xs one within.1)
  ]

  pub within-without : (m : List ℕ) (rows : List Suspected) → AreAccusersIn all rows
      → AreAccusersIn all (without_row name_cmp kept_name m rows)
  within-without m [] within = within
  within-without m (x ∷ xs) within = elim (cases_Bool (is_same name_cmp x.name m)) [
    | inl t ↦ rw t (within-without m xs within.1)
    | inr f ↦ rw f (within.0, within-without m xs within.1)
  ]

  module _ (slot : ℕ) (n : List ℕ) where
    -- a slot that isn't in the set
    lacks : (parts : SuspicionParts) → IsWithin all parts.members → get_or all slot false ≡ false
        → get_or parts.members slot false ≡ false
    lacks parts within out = elim (cases_Bool (get_or parts.members slot false)) [
      | inl t ↦ (let bad : true ≡ false = sym (within slot t) ∙ out in absurd cc)
      | inr f ↦ f
    ]

    pub rows-out : (rows : List Suspected) → AreAccusersIn all rows → get_or all slot false ≡ false
        → rows ≡ map (row_without slot n) rows
    rows-out [] within out = refl
    rows-out (x ∷ xs) within out =
        let one : x ≡ row_without slot n x = rw (lacks x.suspicion within.0 out) refl in
        λ i. one i ∷ rows-out xs within.1 out i

    -- the slot is no accuser's once its name is kept instead
    left : (parts : SuspicionParts) → get_or (parts_without slot n parts).members slot false ≡ false
    left parts = elim (cases_Bool (get_or parts.members slot false)) [
      | inl t ↦ rw t (get_or-set_same parts.members slot false false (held_within parts.members slot t))
      | inr f ↦ rw f f
    ]
      where
        held_within : (flags : List Bool) (i : ℕ) → get_or flags i false ≡ true → i < length flags
        held_within [] i e = absurd cc
        held_within (flag ∷ flags) zero e = omega arith
        held_within (flag ∷ flags) (suc i) e = (let less = held_within flags i e in omega (arith, less))

    others : (parts : SuspicionParts) (number : ℕ) → number ≢ slot
        → get_or (parts_without slot n parts).members number false ≡ get_or parts.members number false
    others parts number other = elim (cases_Bool (get_or parts.members slot false)) [
      | inl t ↦ rw t (get_or-set_other parts.members slot number false false other)
      | inr f ↦ rw f refl
    ]

    within-left : (parts : SuspicionParts) → IsWithin all parts.members
        → IsWithin (set all slot false) (parts_without slot n parts).members
    within-left parts within number has = elim (cases_eq number slot) [
      | inl same ↦
          (let bad : false ≡ true =
          sym (left parts) ∙ ap (λ i. get_or (parts_without slot n parts).members i false) (sym same) ∙ has in
          absurd cc)
      | inr other ↦
          get_or-set_other all slot number false false other
          ∙ within number (sym (others parts number other) ∙ has)
    ]

    pub within-forgotten : (rows : List Suspected) → AreAccusersIn all rows
        → AreAccusersIn (set all slot false) (map (row_without slot n) rows)
    within-forgotten [] within = within
    within-forgotten (x ∷ xs) within = (within-left x.suspicion within.0, within-forgotten xs within.1)
