-- Names by slots: the slot of a name, and what one more name and one less change.
use Rattle.std.proofs.Common.{◌≡◌, ◌≢◌, ℕ, zero, suc, ◌+◌, Bool, true, false, ◌||◌, List, [], ◌∷◌}
use Rattle.std.proofs.Common.{set, replicate, get_or, if◌then◌else◌}
use Rattle.std.proofs.Common.{Option, Some, None, inl, inr, refl, sym, ◌∙◌, ap, arith}
use Rattle.std.proofs.lemmas.Bool.{cases_Bool, false≢true}
use Rattle.lg_rules.specs.Meaning.Rows.{name_cmp, is_same}
use Rattle.lg_rules.specs.Meaning.Slots.{is_held, one_further, slot_in, free_slot, freed}
use Rattle.lg_rules.specs.Support.Slots.{AreHeldOnce, free_count}
use Rattle.lg_rules.proofs.Cases.{Missing, Holding, held, held_once}
use Rattle.lg_rules.proofs.KeyOrder.{names_order, same_key, other_key, cases_key}
use Rattle.lg_rules.proofs.PastLaws.{neither}

abbrev pub Slots : Type 0
Slots = List (Option (List ℕ))

-- the slot behind another one
slot-same : (n m : List ℕ) (os : Slots) → m ≡ n → slot_in n (Some m ∷ os) ≡ Some 0
slot-same n m os e = rw (same_key names_order m n e)

slot-other : (n m : List ℕ) (os : Slots) → m ≢ n → slot_in n (Some m ∷ os) ≡ one_further (slot_in n os)
slot-other n m os d = rw (other_key names_order m n d)

further-back : (o : Option ℕ) (s : ℕ) → one_further o ≡ Some (suc s) → o ≡ Some s
further-back None s e = absurd cc
further-back (Some t) s e = let same : suc t ≡ suc s = held_once (suc t) (suc s) e in ap Some (omega (arith, same))

further-first : (o : Option ℕ) → one_further o ≢ Some 0
further-first None e = cc
further-first (Some t) e = let same : suc t ≡ 0 = held_once (suc t) 0 e in omega (arith, same)

further-none : (o : Option ℕ) → one_further o ≡ None → o ≡ None
further-none None e = refl
further-none (Some t) e = absurd cc

-- at the slot of a name stands the name
pub slot-named : (n : List ℕ) (os : Slots) (s : ℕ) → slot_in n os ≡ Some s → get_or os s None ≡ Some n
slot-named n [] s e = absurd cc
slot-named n (None ∷ os) zero e = absurd (further-first (slot_in n os) e)
slot-named n (None ∷ os) (suc s) e = slot-named n os s (further-back (slot_in n os) s e)
slot-named n (Some m ∷ os) s e = elim (cases_key names_order m n) [
  | inl is ↦ first s (held_once 0 s (sym (slot-same n m os is) ∙ e)) is
  | inr d ↦ later (λ t is. slot-named n os t is) s (sym (slot-other n m os d) ∙ e)
]
  where
    first : (s : ℕ) → 0 ≡ s → m ≡ n → get_or (Some m ∷ os) s None ≡ Some n
    first zero z is = ap Some is
    first (suc s) z is = absurd (omega (arith, z))

    later : ((t : ℕ) → slot_in n os ≡ Some t → get_or os t None ≡ Some n) → (s : ℕ) → one_further (slot_in n os) ≡ Some s
        → get_or (Some m ∷ os) s None ≡ Some n
    later rest zero f = absurd (further-first (slot_in n os) f)
    later rest (suc s) f = rest s (further-back (slot_in n os) s f)

-- so two names never share a slot
pub slot-alone : (n m : List ℕ) (os : Slots) (s : ℕ) → slot_in n os ≡ Some s → slot_in m os ≡ Some s → m ≡ n
slot-alone n m os s e f = held_once m n (sym (slot-named m os s f) ∙ slot-named n os s e)

-- the first name has slot 0
pub slot-first : (n : List ℕ) (os : Slots) → slot_in n (Some n ∷ os) ≡ Some 0
slot-first n os = slot-same n n os refl

-- a name is held if it has a slot, and otherwise it has none
pub slot-held : (n : List ℕ) (os : Slots) (s : ℕ) → slot_in n os ≡ Some s → is_held n os ≡ true
slot-held n [] s e = absurd cc
slot-held n (None ∷ os) zero e = absurd (further-first (slot_in n os) e)
slot-held n (None ∷ os) (suc s) e = slot-held n os s (further-back (slot_in n os) s e)
slot-held n (Some m ∷ os) s e = elim (cases_key names_order m n) [
  | inl is ↦ rw (same_key names_order m n is)
  | inr d ↦ elim (held (slot_in n os)) [
    | Missing none ↦ (let bad : None ≡ Some s = sym (slot-other n m os d ∙ ap one_further none) ∙ e in absurd cc)
    | Holding t is ↦ rw (other_key names_order m n d) (slot-held n os t is)
  ]
]

pub slot-none : (n : List ℕ) (os : Slots) → is_held n os ≡ false → slot_in n os ≡ None
slot-none n [] f = refl
slot-none n (None ∷ os) f = ap one_further (slot-none n os f)
slot-none n (Some m ∷ os) f =
    let parts = neither (is_same name_cmp m n) (is_held n os) f in
    rw (parts.0, slot-none n os parts.1)

-- what stands there is held
pub named-held : (n : List ℕ) (os : Slots) (s : ℕ) → get_or os s None ≡ Some n → is_held n os ≡ true
named-held n [] s e = absurd cc
named-held n (None ∷ os) zero e = absurd cc
named-held n (None ∷ os) (suc s) e = named-held n os s e
named-held n (Some m ∷ os) zero e = rw (same_key names_order m n (held_once m n e))
named-held n (Some m ∷ os) (suc s) e = later (is_same name_cmp m n) (named-held n os s e)
  where
    later : (b : Bool) {a : Bool} → a ≡ true → (b || a) ≡ true
    later true t = refl
    later false t = t

-- if each name has one slot, the name that stands at a slot has this slot
pub named-slot : (n : List ℕ) (os : Slots) (s : ℕ) → AreHeldOnce os → get_or os s None ≡ Some n
    → slot_in n os ≡ Some s
named-slot n [] s once e = absurd cc
named-slot n (None ∷ os) zero once e = absurd cc
named-slot n (None ∷ os) (suc s) once e = ap one_further (named-slot n os s once e)
named-slot n (Some m ∷ os) zero once e = slot-same n m os (held_once m n e)
named-slot n (Some m ∷ os) (suc s) once e =
    let other : m ≢ n = λ is.
    false≢true (sym once.0 ∙ ap (λ k. is_held k os) is ∙ named-held n os s e) in
    slot-other n m os other ∙ ap one_further (named-slot n os s once.1 e)

-- A name is given the lowest free slot. Each other name has the slot that it had,
pub slot-kept : (n m : List ℕ) (os : Slots) (f : ℕ) → free_slot os ≡ Some f → n ≢ m
    → slot_in m (set os f (Some n)) ≡ slot_in m os
slot-kept n m [] f e d = absurd cc
slot-kept n m (None ∷ os) zero e d = slot-other m n os d
slot-kept n m (None ∷ os) (suc f) e d = absurd (let bad : 0 ≡ suc f = held_once 0 (suc f) e in omega (arith, bad))
slot-kept n m (Some k ∷ os) zero e d = absurd (further-first (free_slot os) e)
slot-kept n m (Some k ∷ os) (suc f) e d =
    ap (λ o. if is_same name_cmp k m then Some 0 else one_further o)
    (slot-kept n m os f (further-back (free_slot os) f e) d)

-- the new name has this one,
pub slot-new : (n : List ℕ) (os : Slots) (f : ℕ) → free_slot os ≡ Some f → is_held n os ≡ false
    → slot_in n (set os f (Some n)) ≡ Some f
slot-new n [] f e h = absurd cc
slot-new n (None ∷ os) zero e h = slot-first n os
slot-new n (None ∷ os) (suc f) e h = absurd (let bad : 0 ≡ suc f = held_once 0 (suc f) e in omega (arith, bad))
slot-new n (Some k ∷ os) zero e h = absurd (further-first (free_slot os) e)
slot-new n (Some k ∷ os) (suc f) e h =
    let parts = neither (is_same name_cmp k n) (is_held n os) h in
    rw (parts.0, slot-new n os f (further-back (free_slot os) f e) parts.1)

-- what stands at another slot stands there still,
pub named-kept : (n m : List ℕ) (os : Slots) (f s : ℕ) → free_slot os ≡ Some f → get_or os s None ≡ Some m
    → get_or (set os f (Some n)) s None ≡ Some m
named-kept n m [] f s e h = absurd cc
named-kept n m (None ∷ os) zero zero e h = absurd cc
named-kept n m (None ∷ os) zero (suc s) e h = h
named-kept n m (None ∷ os) (suc f) s e h = absurd (let bad : 0 ≡ suc f = held_once 0 (suc f) e in omega (arith, bad))
named-kept n m (Some k ∷ os) zero s e h = absurd (further-first (free_slot os) e)
named-kept n m (Some k ∷ os) (suc f) zero e h = h
named-kept n m (Some k ∷ os) (suc f) (suc s) e h = named-kept n m os f s (further-back (free_slot os) f e) h

-- each name has one slot still,
held-kept : (n m : List ℕ) (os : Slots) (f : ℕ) → n ≢ m → is_held m os ≡ false → is_held m (set os f (Some n)) ≡ false
held-kept n m [] f d h = refl
held-kept n m (None ∷ os) zero d h = rw (other_key names_order n m d) h
held-kept n m (None ∷ os) (suc f) d h = held-kept n m os f d h
held-kept n m (Some k ∷ os) zero d h =
    let parts = neither (is_same name_cmp k m) (is_held m os) h in
    rw (other_key names_order n m d) parts.1
held-kept n m (Some k ∷ os) (suc f) d h =
    let parts = neither (is_same name_cmp k m) (is_held m os) h in
    rw (parts.0, held-kept n m os f d parts.1)

pub once-new : (n : List ℕ) (os : Slots) (f : ℕ) → free_slot os ≡ Some f → is_held n os ≡ false → AreHeldOnce os
    → AreHeldOnce (set os f (Some n))
once-new n [] f e h once = once
once-new n (None ∷ os) zero e h once = (h, once)
once-new n (None ∷ os) (suc f) e h once = absurd (let bad : 0 ≡ suc f = held_once 0 (suc f) e in omega (arith, bad))
once-new n (Some k ∷ os) zero e h once = absurd (further-first (free_slot os) e)
once-new n (Some k ∷ os) (suc f) e h once =
    let parts = neither (is_same name_cmp k n) (is_held n os) h in
    let other : n ≢ k = λ is. false≢true (sym parts.0 ∙ same_key names_order k n (sym is)) in
    (held-kept n k os f other once.0, once-new n os f (further-back (free_slot os) f e) parts.1 once.1)

-- and one slot less is free.
pub free-new : (n : List ℕ) (os : Slots) (f : ℕ) → free_slot os ≡ Some f
    → free_count (set os f (Some n)) + 1 ≡ free_count os
free-new n [] f e = absurd cc
free-new n (None ∷ os) zero e = omega arith
free-new n (None ∷ os) (suc f) e = absurd (let bad : 0 ≡ suc f = held_once 0 (suc f) e in omega (arith, bad))
free-new n (Some k ∷ os) zero e = absurd (further-first (free_slot os) e)
free-new n (Some k ∷ os) (suc f) e = free-new n os f (further-back (free_slot os) f e)

-- at a free slot stands no name
pub free-there : (os : Slots) (f : ℕ) → free_slot os ≡ Some f → get_or os f None ≡ None
free-there [] f e = absurd cc
free-there (None ∷ os) zero e = refl
free-there (None ∷ os) (suc f) e = absurd (let bad : 0 ≡ suc f = held_once 0 (suc f) e in omega (arith, bad))
free-there (Some k ∷ os) zero e = absurd (further-first (free_slot os) e)
free-there (Some k ∷ os) (suc f) e = free-there os f (further-back (free_slot os) f e)

pub none-free : (os : Slots) → free_slot os ≡ None → free_count os ≡ 0
none-free [] e = refl
none-free (None ∷ os) e = absurd cc
none-free (Some k ∷ os) e = none-free os (further-none (free_slot os) e)

-- A slot is freed. Each other name has the slot that it had,
pub slot-freed : (n m : List ℕ) (os : Slots) → m ≢ n → slot_in m (freed n os) ≡ slot_in m os
slot-freed n m [] d = refl
slot-freed n m (None ∷ os) d = ap one_further (slot-freed n m os d)
slot-freed n m (Some k ∷ os) d = elim (cases_key names_order k n) [
  | inl is ↦ rw (same_key names_order k n is)
      (ap one_further (slot-freed n m os d) ∙ sym (slot-other m k os (λ s. d (sym s ∙ is))))
  | inr u ↦ rw (other_key names_order k n u)
      (ap (λ o. if is_same name_cmp k m then Some 0 else one_further o) (slot-freed n m os d))
]

-- the forgotten one has none,
pub held-freed : (n : List ℕ) (os : Slots) → is_held n (freed n os) ≡ false
held-freed n [] = refl
held-freed n (None ∷ os) = held-freed n os
held-freed n (Some k ∷ os) = elim (cases_Bool (is_same name_cmp k n)) [
  | inl t ↦ rw t (held-freed n os)
  | inr f ↦ rw (f, held-freed n os) (ap (λ b. b || false) f)
]

pub slot-gone : (n : List ℕ) (os : Slots) → slot_in n (freed n os) ≡ None
slot-gone n os = slot-none n (freed n os) (held-freed n os)

-- nothing changes if it had none,
pub freed-none : (n : List ℕ) (os : Slots) → is_held n os ≡ false → freed n os ≡ os
freed-none n [] h = refl
freed-none n (None ∷ os) h = ap (λ ns. None ∷ ns) (freed-none n os h)
freed-none n (Some k ∷ os) h =
    let parts = neither (is_same name_cmp k n) (is_held n os) h in
    rw (parts.0, freed-none n os parts.1)

-- each name has one slot still,
held-less : (n m : List ℕ) (os : Slots) → is_held m os ≡ false → is_held m (freed n os) ≡ false
held-less n m [] h = refl
held-less n m (None ∷ os) h = held-less n m os h
held-less n m (Some k ∷ os) h =
    let parts = neither (is_same name_cmp k m) (is_held m os) h in
    elim (cases_Bool (is_same name_cmp k n)) [
      | inl t ↦ rw t (held-less n m os parts.1)
      | inr f ↦ rw (f, parts.0, held-less n m os parts.1)
    ]

pub once-freed : (n : List ℕ) (os : Slots) → AreHeldOnce os → AreHeldOnce (freed n os)
once-freed n [] once = once
once-freed n (None ∷ os) once = once-freed n os once
once-freed n (Some k ∷ os) once = elim (cases_Bool (is_same name_cmp k n)) [
  | inl t ↦ rw t (once-freed n os once.1)
  | inr f ↦ rw f (held-less n k os once.0, once-freed n os once.1)
]

-- and one slot more is free.
pub free-freed : (n : List ℕ) (os : Slots) (s : ℕ) → AreHeldOnce os → slot_in n os ≡ Some s
    → free_count (freed n os) ≡ free_count os + 1
free-freed n [] s once e = absurd cc
free-freed n (None ∷ os) zero once e = absurd (further-first (slot_in n os) e)
free-freed n (None ∷ os) (suc s) once e =
    omega (arith, free-freed n os s once (further-back (slot_in n os) s e))
free-freed n (Some k ∷ os) s once e = elim (cases_key names_order k n) [
  | inl is ↦ (
      let none : is_held n os ≡ false = ap (λ m. is_held m os) (sym is) ∙ once.0 in
      rw (same_key names_order k n is) (omega (arith, ap free_count (freed-none n os none))))
  | inr u ↦ elim (held (slot_in n os)) [
    | Missing none ↦ (let bad : None ≡ Some s = sym (slot-other n k os u ∙ ap one_further none) ∙ e in absurd cc)
    | Holding t is ↦ rw (other_key names_order k n u) (free-freed n os t once.1 is)
  ]
]

-- which names are held then: the others that were
pub held-freed_other : (n m : List ℕ) (os : Slots) → m ≢ n → is_held m (freed n os) ≡ is_held m os
held-freed_other n m [] d = refl
held-freed_other n m (None ∷ os) d = held-freed_other n m os d
held-freed_other n m (Some k ∷ os) d = elim (cases_key names_order k n) [
  | inl is ↦ rw (same_key names_order k n is, other_key names_order k m (λ s. d (sym s ∙ is))) (held-freed_other n m os d)
  | inr u ↦ rw (other_key names_order k n u) (ap (λ b. is_same name_cmp k m || b) (held-freed_other n m os d))
]

-- and, once a name was given a slot, it and those that were
or_swap : (a b c : Bool) → (a || (b || c)) ≡ (b || (a || c))
or_swap true true c = refl
or_swap true false c = refl
or_swap false b c = refl

pub held-new : (n m : List ℕ) (os : Slots) (f : ℕ) → free_slot os ≡ Some f
    → is_held m (set os f (Some n)) ≡ (is_same name_cmp n m || is_held m os)
held-new n m [] f e = absurd cc
held-new n m (None ∷ os) zero e = refl
held-new n m (None ∷ os) (suc f) e = absurd (let bad : 0 ≡ suc f = held_once 0 (suc f) e in omega (arith, bad))
held-new n m (Some k ∷ os) zero e = absurd (further-first (free_slot os) e)
held-new n m (Some k ∷ os) (suc f) e =
    ap (λ b. is_same name_cmp k m || b) (held-new n m os f (further-back (free_slot os) f e))
    ∙ or_swap (is_same name_cmp k m) (is_same name_cmp n m) (is_held m os)

-- a name with no slot isn't held
pub none-held : (n : List ℕ) (os : Slots) → slot_in n os ≡ None → is_held n os ≡ false
none-held n [] e = refl
none-held n (None ∷ os) e = none-held n os (further-none (slot_in n os) e)
none-held n (Some k ∷ os) e = elim (cases_key names_order k n) [
  | inl is ↦ absurd (let bad : Some 0 ≡ None = sym (slot-same n k os is) ∙ e in cc)
  | inr d ↦ rw (other_key names_order k n d) (none-held n os (further-none (slot_in n os) (sym (slot-other n k os d) ∙ e)))
]

-- slots that are all free
pub held-free : (m : List ℕ) (room : ℕ) → is_held m (replicate room None) ≡ false
held-free m zero = refl
held-free m (suc room) = held-free m room

pub none-count : (room : ℕ) → free_count (replicate room None) ≡ room
none-count zero = refl
none-count (suc room) = omega (arith, none-count room)

pub none-once : (room : ℕ) → AreHeldOnce (replicate room None)
none-once zero = tt
none-once (suc room) = none-once room
