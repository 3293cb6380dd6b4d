-- A suspicion by the names that have slots: who accuses, and what one more accuser and one more name change.
use Rattle.std.proofs.Common.{◌≡◌, ◌≢◌, ℕ, suc, set, ◌+◌, ◌-◌, ◌<◌, Bool, true, false, ◌||◌, List, [], ◌∷◌, ◌++◌}
use Rattle.std.proofs.Common.{length, length-append, get_or, Option, Some, None, refl, sym, ap, subst, ◌∙◌, inl, inr}
use Rattle.std.proofs.Common.{arith}
use Rattle.std.proofs.lemmas.Bool.{cases_Bool, false≢true}
use Rattle.std.proofs.lemmas.List.{length-set}
use Rattle.std.proofs.lemmas.List.Folds.{list_any-append}
use Rattle.lg_bit_set.specs.Meaning.Flags.{no_flags, count_set}
use Rattle.lg_bit_set.proofs.TestLaws.{none_at}
use Rattle.lg_rules.specs.Meaning.Rows.{name_cmp, is_same, is_among, in_order, put_key}
use Rattle.lg_rules.specs.Meaning.Slots.{slot_in, free_slot, freed, is_held}
use Rattle.lg_rules.proofs.Cases.{held_once}
use Rattle.lg_rules.proofs.KeyOrder.{names_order}
use Rattle.lg_rules.proofs.PastLaws.{neither}
use Rattle.lg_rules.proofs.Rises.{among-put, among-in_order, rises-put, rises-in_order, length-put, same_members}
use Rattle.lg_rules.proofs.SlotLaws.{Slots, free-there, slot-named, slot-kept, slot-held, slot-freed}
use Rattle.lg_timing.specs.Meaning.TimeoutValue.{TimeoutValue}
use Rattle.lg_timing.specs.Meaning.Timeouts.{timeout_of}
use Rattle.lg_suspicion.specs.Meaning.Accusers.{deadline_of}
use Rattle.lg_suspicion.specs.Meaning.Parts.{SuspicionParts, accuser_count, accusers_by, suspicion_by}
use Rattle.lg_suspicion.specs.Meaning.Parts.{deadline_of_parts, names_in, HasName, IsKnownTo}
use Rattle.lg_suspicion.specs.Support.Accusers.{has_slot, members_with, named_with}
use Rattle.lg_suspicion.proofs.SlotSets.{IsSetAt, among-set, set-among, among-inserted, count_set-inserted}
use Rattle.lg_suspicion.proofs.SlotSets.{set-inserted, set-removed, set-back, set-within, set-cleared, names-given, names-freed, none_set, none_counted}

-- each number of a set is the slot of a name
abbrev pub AreSlots : Slots → List Bool → Type 0
AreSlots names members = (slot : ℕ) → get_or members slot false ≡ true → HasName names slot

-- a name that stands at such a slot has it
slot-of_set : (names : Slots) (members : List Bool) (a : List ℕ) → AreSlots names members
    → (at : IsSetAt members names a) → slot_in a names ≡ Some at.number
slot-of_set names members a slots at =
    let other = slots at.number at.is_set in
    let same : other.0 ≡ a = held_once other.0 a (sym (slot-named other.0 names at.number other.1) ∙ at.named) in
    subst (λ n. slot_in n names ≡ Some at.number) same other.1

-- so a name is among the names of the set if its slot is in the set
pub among-slots : (names : Slots) (members : List Bool) (a : List ℕ) (slot : Option ℕ) → AreSlots names members
    → slot ≡ slot_in a names → is_among name_cmp a (names_in members names) ≡ has_slot slot members
among-slots names members a None slots is = elim (cases_Bool (is_among name_cmp a (names_in members names))) [
  | inl among ↦ (
      let has = slot-of_set names members a slots (among-set members names a among) in
      let bad : None ≡ Some (among-set members names a among).number = is ∙ has in
      absurd cc)
  | inr other ↦ other
]
among-slots names members a (Some slot) slots is = elim (cases_Bool (get_or members slot false)) [
  | inl there ↦ set-among members names a slot there (slot-named a names slot (sym is)) ∙ sym there
  | inr clear ↦ elim (cases_Bool (is_among name_cmp a (names_in members names))) [
    | inl among ↦ (
        let at = among-set members names a among in
        let same : slot ≡ at.number = held_once slot at.number (is ∙ slot-of_set names members a slots at) in
        let there = subst (λ i. get_or members i false ≡ true) (sym same) at.is_set in
        absurd (false≢true (sym clear ∙ there)))
    | inr other ↦ other ∙ sym clear
  ]
]

-- whether a name is that of an accuser
pub among-accusers : (names : Slots) (parts : SuspicionParts) (a : List ℕ) (slot : Option ℕ)
    → AreSlots names parts.members → slot ≡ slot_in a names
    → is_among name_cmp a (accusers_by names parts)
    ≡ (has_slot slot parts.members || is_among name_cmp a parts.named)
among-accusers names parts a slot slots is =
    among-in_order names_order a (names_in parts.members names ++ parts.named)
    ∙ list_any-append (λ m. is_same name_cmp m a) (names_in parts.members names) parts.named
    ∙ ap (λ b. b || is_among name_cmp a parts.named) (among-slots names parts.members a slot slots is)

-- one more accuser
abbrev pub parts_with : Option ℕ → List ℕ → SuspicionParts → SuspicionParts
parts_with slot a parts = record {
  raised = parts.raised;
  timeout = parts.timeout;
  members = members_with slot parts.members;
  named = named_with slot a parts.named;
}

or_last : (a b c : Bool) → (a || (b || (c || false))) ≡ (c || (a || b))
or_last true true true = refl
or_last true true false = refl
or_last true false true = refl
or_last true false false = refl
or_last false true true = refl
or_last false true false = refl
or_last false false true = refl
or_last false false false = refl

or_deep : (a b c : Bool) → ((a || b) || c) ≡ (a || (b || c))
or_deep true b c = refl
or_deep false b c = refl

among-all : (m : List ℕ) (xs ys : List (List ℕ))
    → is_among name_cmp m (xs ++ ys) ≡ (is_among name_cmp m xs || is_among name_cmp m ys)
among-all m xs ys = list_any-append (λ k. is_same name_cmp k m) xs ys

among-with : (names : Slots) (parts : SuspicionParts) (a : List ℕ) (slot : Option ℕ)
    → length parts.members ≡ 256 → ((s : ℕ) → slot ≡ Some s → s < 256) → slot ≡ slot_in a names → (m : List ℕ)
    → is_among name_cmp m (names_in (members_with slot parts.members) names ++ named_with slot a parts.named)
    ≡ (is_same name_cmp a m || is_among name_cmp m (names_in parts.members names ++ parts.named))
among-with names parts a None long few is m =
    let row = names_in parts.members names in
    among-all m row (parts.named ++ a ∷ [])
    ∙ ap (λ b. is_among name_cmp m row || b) (among-all m parts.named (a ∷ []))
    ∙ or_last (is_among name_cmp m row) (is_among name_cmp m parts.named) (is_same name_cmp a m)
    ∙ ap (λ b. is_same name_cmp a m || b) (sym (among-all m row parts.named))
among-with names parts a (Some slot) long few is m =
    let row = names_in parts.members names in
    let within : slot < length parts.members = omega (arith, long, few slot refl) in
    among-all m (names_in (members_with (Some slot) parts.members) names) parts.named
    ∙ ap (λ b. b || is_among name_cmp m parts.named)
    (among-inserted parts.members names a slot within (slot-named a names slot (sym is)) m)
    ∙ or_deep (is_same name_cmp a m) (is_among name_cmp m row) (is_among name_cmp m parts.named)
    ∙ ap (λ b. is_same name_cmp a m || b) (sym (among-all m row parts.named))

pub accusers-with : (names : Slots) (parts : SuspicionParts) (a : List ℕ) (slot : Option ℕ)
    → length parts.members ≡ 256 → ((s : ℕ) → slot ≡ Some s → s < 256) → slot ≡ slot_in a names
    → accusers_by names (parts_with slot a parts) ≡ put_key name_cmp a (accusers_by names parts)
accusers-with names parts a slot long few is =
    let before = names_in parts.members names ++ parts.named in
    let after = names_in (members_with slot parts.members) names ++ named_with slot a parts.named in
    same_members names_order (in_order name_cmp after) (put_key name_cmp a (in_order name_cmp before))
    (rises-in_order names_order after)
    (rises-put names_order a (in_order name_cmp before) (rises-in_order names_order before))
    (λ m. among-in_order names_order m after
    ∙ among-with names parts a slot long few is m
    ∙ ap (λ b. is_same name_cmp a m || b) (sym (among-in_order names_order m before))
    ∙ sym (among-put names_order m a (in_order name_cmp before)))

pub count-with : (parts : SuspicionParts) (a : List ℕ) (slot : Option ℕ) → length parts.members ≡ 256
    → ((s : ℕ) → slot ≡ Some s → s < 256) → has_slot slot parts.members ≡ false
    → accuser_count (parts_with slot a parts) ≡ accuser_count parts + 1
count-with parts a None long few clear = omega (arith, length-append parts.named (a ∷ []))
count-with parts a (Some slot) long few clear =
    omega (arith, count_set-inserted parts.members slot (omega (arith, long, few slot refl)) clear)

slots-with : (names : Slots) (members : List Bool) (a : List ℕ) (slot : Option ℕ) → AreSlots names members
    → slot ≡ slot_in a names → AreSlots names (members_with slot members)
slots-with names members a None slots is s e = slots s e
slots-with names members a (Some slot) slots is s e = elim (set-inserted members slot s e) [
  | inl same ↦ (a, sym is ∙ ap Some same)
  | inr before ↦ slots s before
]

-- A new accuser, whose slot isn't in the set and whose name isn't among those that are kept, is one more.
pub known-with : (names : Slots) (parts : SuspicionParts) (a : List ℕ) (slot : Option ℕ)
    → length parts.members ≡ 256 → ((s : ℕ) → slot ≡ Some s → s < 256) → slot ≡ slot_in a names
    → IsKnownTo names parts → (has_slot slot parts.members || is_among name_cmp a parts.named) ≡ false
    → IsKnownTo names (parts_with slot a parts)
known-with names parts a slot long few is known new =
    let all = accusers_by names parts in
    let parts_new = neither (has_slot slot parts.members) (is_among name_cmp a parts.named) new in
    let other : is_among name_cmp a all ≡ false = among-accusers names parts a slot known.slots is ∙ new in
    record {
      slots = slots-with names parts.members a slot known.slots is;
      once = ap length (accusers-with names parts a slot long few is)
          ∙ length-put names_order a all other
          ∙ ap suc known.once
          ∙ omega (arith, count-with parts a slot long few parts_new.0);
    }

-- A suspicion with its first accuser, which is kept by its name.
abbrev pub accused_once : ℕ → TimeoutValue → List ℕ → SuspicionParts
accused_once raised timeout a =
    record { raised = raised; timeout = timeout; members = no_flags; named = a ∷ [] }

pub once-by : (names : Slots) (raised : ℕ) (timeout : TimeoutValue) (a : List ℕ)
    → accusers_by names (accused_once raised timeout a) ≡ a ∷ []
unfolding no_flags
once-by names raised timeout a = ap (λ ns. in_order name_cmp (ns ++ a ∷ [])) (none_set 256 names)

pub once-count : count_set no_flags ≡ 0
unfolding no_flags
once-count = none_counted 256

pub once-known : (names : Slots) (raised : ℕ) (timeout : TimeoutValue) (a : List ℕ)
    → IsKnownTo names (accused_once raised timeout a)
unfolding no_flags
once-known names raised timeout a = record {
  slots = λ slot e. absurd (false≢true (sym (none_at 256 slot) ∙ e));
  once = ap length (once-by names raised timeout a) ∙ omega (arith, none_counted 256);
}

-- the deadline by its parts
pub deadline-by_parts : (names : Slots) (parts : SuspicionParts) → IsKnownTo names parts
    → deadline_of_parts parts ≡ deadline_of (suspicion_by names parts)
deadline-by_parts names parts known = ap (λ n. parts.raised + timeout_of parts.timeout (n - 1)) (sym known.once)

-- as many count once an accuser is kept by its name in place of its slot
pub count-cleared : (members : List Bool) (slot : ℕ) → get_or members slot false ≡ true
    → count_set members ≡ count_set (set members slot false) + 1
count-cleared members slot there =
    let within : slot < length (set members slot false) =
    omega (arith, set-within members slot there, length-set members slot false) in
    sym (ap count_set (set-back members slot there))
    ∙ count_set-inserted (set members slot false) slot within (set-cleared members slot)

pub count-moved : (parts : SuspicionParts) (n : List ℕ) (slot : ℕ) → get_or parts.members slot false ≡ true
    → count_set (set parts.members slot false) + length (parts.named ++ n ∷ []) ≡ accuser_count parts
count-moved parts n slot there =
    omega (arith, count-cleared parts.members slot there, length-append parts.named (n ∷ []))

-- A name that is given a free slot leaves a suspicion.
unset-free : (names : Slots) (members : List Bool) (f : ℕ) → free_slot names ≡ Some f → AreSlots names members
    → get_or members f false ≡ false
unset-free names members f free slots = elim (cases_Bool (get_or members f false)) [
  | inl there ↦ (
      let holder = slots f there in
      let bad : None ≡ Some holder.0 = sym (free-there names f free) ∙ slot-named holder.0 names f holder.1 in
      absurd cc)
  | inr clear ↦ clear
]

accusers-given : (names : Slots) (n : List ℕ) (f : ℕ) (parts : SuspicionParts) → free_slot names ≡ Some f
    → AreSlots names parts.members → accusers_by (set names f (Some n)) parts ≡ accusers_by names parts
accusers-given names n f parts free slots =
    ap (λ ns. in_order name_cmp (ns ++ parts.named))
    (names-given parts.members names f (Some n) (unset-free names parts.members f free slots))

pub suspicion-given : (names : Slots) (n : List ℕ) (f : ℕ) (parts : SuspicionParts) → free_slot names ≡ Some f
    → IsKnownTo names parts → suspicion_by (set names f (Some n)) parts ≡ suspicion_by names parts
suspicion-given names n f parts free known =
    ap (λ ns. record { raised = parts.raised; timeout = parts.timeout; accusers = ns })
    (accusers-given names n f parts free known.slots)

pub known-given : (names : Slots) (n : List ℕ) (f : ℕ) (parts : SuspicionParts) → free_slot names ≡ Some f
    → is_held n names ≡ false → IsKnownTo names parts → IsKnownTo (set names f (Some n)) parts
known-given names n f parts free fresh known = record {
  slots = λ slot e.
      (let holder = known.slots slot e in
      let other : n ≢ holder.0 = λ is.
      false≢true (sym fresh ∙ ap (λ k. is_held k names) is ∙ slot-held holder.0 names slot holder.1) in
      (holder.0, slot-kept n holder.0 names f free other ∙ holder.1));
  once = ap length (accusers-given names n f parts free known.slots) ∙ known.once;
}

-- A name is forgotten. If its slot is in the set, its accusation is kept by the name.
module _ (names : Slots) (parts : SuspicionParts) (n : List ℕ) (slot : ℕ) (has : slot_in n names ≡ Some slot)
    (known : IsKnownTo names parts) where
  -- no other slot of the set is that of this name
  elsewhere : (i : ℕ) → i ≢ slot → get_or parts.members i false ≡ true → get_or names i None ≢ Some n
  elsewhere i d e named =
      d (held_once i slot (sym (slot-of_set names parts.members n known.slots (record { number = i; is_set = e; named = named })) ∙ has))

  other-holder : (i : ℕ) → i ≢ slot → (e : get_or parts.members i false ≡ true) → HasName (freed n names) i
  other-holder i d e =
      let holder = known.slots i e in
      let other : holder.0 ≢ n = λ is. d (held_once i slot (sym holder.1 ∙ ap (λ k. slot_in k names) is ∙ has)) in
      (holder.0, slot-freed n holder.0 names other ∙ holder.1)

  -- it isn't there
  module _ (clear : get_or parts.members slot false ≡ false) where
    apart : (i : ℕ) → get_or parts.members i false ≡ true → i ≢ slot
    apart i e is = false≢true (sym clear ∙ ap (λ k. get_or parts.members k false) (sym is) ∙ e)

    same-accusers : accusers_by (freed n names) parts ≡ accusers_by names parts
    same-accusers =
        ap (λ ns. in_order name_cmp (ns ++ parts.named))
        (names-freed parts.members names n (λ i e. elsewhere i (apart i e) e))

    pub suspicion-left : suspicion_by (freed n names) parts ≡ suspicion_by names parts
    suspicion-left = ap (λ ns. record { raised = parts.raised; timeout = parts.timeout; accusers = ns }) same-accusers

    pub known-left : IsKnownTo (freed n names) parts
    known-left = record {
      slots = λ i e. other-holder i (apart i e) e;
      once = ap length same-accusers ∙ known.once;
    }

  -- it is there
  module _ (there : get_or parts.members slot false ≡ true) where
    abbrev moved : SuspicionParts
    moved = record {
      raised = parts.raised;
      timeout = parts.timeout;
      members = set parts.members slot false;
      named = parts.named ++ n ∷ [];
    }

    left : List Bool
    left = set parts.members slot false

    among-left : (m : List ℕ) → is_among name_cmp m (names_in left names ++ (parts.named ++ n ∷ []))
        ≡ is_among name_cmp m (names_in parts.members names ++ parts.named)
    unfolding left
    among-left m =
        let row = names_in (set parts.members slot false) names in
        let within : slot < length (set parts.members slot false) =
        omega (arith, set-within parts.members slot there, length-set parts.members slot false) in
        among-all m row (parts.named ++ n ∷ [])
        ∙ ap (λ b. is_among name_cmp m row || b) (among-all m parts.named (n ∷ []))
        ∙ or_last (is_among name_cmp m row) (is_among name_cmp m parts.named) (is_same name_cmp n m)
        ∙ sym (or_deep (is_same name_cmp n m) (is_among name_cmp m row) (is_among name_cmp m parts.named))
        ∙ ap (λ b. b || is_among name_cmp m parts.named)
        (sym (among-inserted (set parts.members slot false) names n slot within (slot-named n names slot has) m)
        ∙ ap (λ fs. is_among name_cmp m (names_in fs names)) (set-back parts.members slot there))
        ∙ sym (among-all m (names_in parts.members names) parts.named)

    kept-names : names_in (set parts.members slot false) (freed n names)
        ≡ names_in (set parts.members slot false) names
    kept-names =
        names-freed (set parts.members slot false) names n
        (λ i e. let was = set-removed parts.members slot i e in elsewhere i (λ s. was.0 (sym s)) was.1)

    moved-accusers : accusers_by (freed n names) moved ≡ accusers_by names parts
    unfolding left
    moved-accusers =
        let after = names_in (set parts.members slot false) names ++ (parts.named ++ n ∷ []) in
        let before = names_in parts.members names ++ parts.named in
        ap (λ ns. in_order name_cmp (ns ++ (parts.named ++ n ∷ []))) kept-names
        ∙ same_members names_order (in_order name_cmp after) (in_order name_cmp before)
        (rises-in_order names_order after) (rises-in_order names_order before)
        (λ m. among-in_order names_order m after ∙ among-left m ∙ sym (among-in_order names_order m before))

    pub suspicion-moved : suspicion_by (freed n names) moved ≡ suspicion_by names parts
    suspicion-moved = ap (λ ns. record { raised = parts.raised; timeout = parts.timeout; accusers = ns }) moved-accusers

    pub known-moved : IsKnownTo (freed n names) moved
    known-moved = record {
      slots = λ i e. (let was = set-removed parts.members slot i e in other-holder i (λ s. was.0 (sym s)) was.1);
      once = ap length moved-accusers ∙ known.once ∙ sym (count-moved parts n slot there);
    }
