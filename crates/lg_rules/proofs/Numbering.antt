-- The names that a table of members holds: what a search tells of them, and what one more record changes.
use Rattle.std.proofs.Common.{◌≡◌, ◌≢◌, ℕ, zero, suc, ◌+◌, ◌<◌, ◌≤◌, true, false, List, [], ◌∷◌, ◌++◌, length, map, get_or}
use Rattle.std.proofs.Common.{take, drop, set, replicate, ◌⊎◌, Option, Some, None, inl, inr, refl, sym, ◌∙◌, ap, subst, Bool}
use Rattle.std.proofs.Common.{arith, leb, ltb}
use Rattle.std.specs.Prelude.{All, slice_get, ◌==◌}
use Rattle.std.specs.List.{insert, remove, position, position_or_len}
use Rattle.std.proofs.lemmas.Bool.{cases_Bool, cases_lt, lt-ltb, le-ltb, leb-true, leb-false, eq-eqb}
use Rattle.std.proofs.lemmas.Bool.{ne_eqb}
use Rattle.std.proofs.lemmas.List.{length-map, length-set, map-append, take-map, drop-map, get_or-map, map-set}
use Rattle.std.proofs.lemmas.List.{length-replicate, set-get_or}
use Rattle.std.proofs.lemmas.List.Edits.{length-insert, get_or-insert_below, get_or-insert_at, get_or-insert_above}
use Rattle.std.proofs.lemmas.Option.{slice_get-get_or, slice_get_past}
use Rattle.std.proofs.lemmas.List.Elements.{All-from_recursion, All-head, All-tail, All-map, All-weaker, All-set, All-replicate}
use Rattle.lg_rules.specs.declared.claim.Claim.{Claim}
use Rattle.lg_rules.specs.Meaning.Claim.{name_of}
use Rattle.lg_rules.specs.Meaning.Rows.{name_cmp, put_row, row_at, Rises}
use Rattle.lg_rules.specs.Meaning.Slots.{is_held, one_further, slot_in, free_slot, own_slots}
use Rattle.lg_rules.specs.Support.Places.{HasRow, LacksRow}
use Rattle.lg_rules.specs.Support.Slots.{AreHeldOnce, AreNumbered, free_count, held_names, moved_up}
use Rattle.lg_rules.proofs.Cases.{held}
use Rattle.lg_rules.proofs.KeyOrder.{names_order, other_key}
use Rattle.lg_rules.proofs.RowsFound.{rows_found}
use Rattle.lg_rules.proofs.SlotLaws.{slot-held, slot-new, slot-kept, once-new, free-new, none-free, none-count, none-once}

-- what the index of a slot may be, beside so many records
abbrev pub Marked : ℕ → ℕ → Type 0
Marked n i = (i < n) ⊎ (i ≡ 255)

-- two functions that agree at such indexes give the same for them
pub map-marked : {Y : Type 0} (f g : ℕ → Y) (n : ℕ) (is : List ℕ) → All (Marked n) is
    → ((i : ℕ) → Marked n i → f i ≡ g i) → map f is ≡ map g is
map-marked f g n [] all h = refl
map-marked f g n (i ∷ is) all h =
    rw (h i (All-head (Marked n) i is all), map-marked f g n is (All-tail (Marked n) i is all) h)

pub map-twice : {X Y Z : Type 0} (g : Y → Z) (f : X → Y) (xs : List X) → map g (map f xs) ≡ map (λ x. g (f x)) xs
map-twice g f [] = refl
map-twice g f (x ∷ xs) = rw (map-twice g f xs)

pub map-insert : {X Y : Type 0} (f : X → Y) (xs : List X) (at : ℕ) (x : X)
    → map f (insert xs at x) ≡ insert (map f xs) at (f x)
map-insert f xs at x =
    map-append f (take at xs) (x ∷ drop at xs)
    ∙ (λ i. sym (take-map f at xs) i ++ f x ∷ sym (drop-map f at xs) i)

pub map-remove : {X Y : Type 0} (f : X → Y) (xs : List X) (at : ℕ) → map f (remove xs at) ≡ remove (map f xs) at
map-remove f xs at =
    map-append f (take at xs) (drop (suc at) xs) ∙ (λ i. sym (take-map f at xs) i ++ sym (drop-map f (suc at) xs) i)

-- a name that isn't among those of the records, and isn't this member's own, has no slot
unheld : (n : List ℕ) (keys : List (List ℕ)) (is : List ℕ)
    → ((i : ℕ) → i < length keys → get_or keys i [] ≢ n) → is_held n (map (slice_get keys) is) ≡ false
unheld n keys [] h = refl
unheld n keys (i ∷ is) h = elim (cases_lt i (length keys)) [
  | inl l ↦ rw (slice_get-get_or keys i [] l, other_key names_order (get_or keys i []) n (h i l), unheld n keys is h) refl
  | inr m ↦ rw (slice_get_past keys i m, unheld n keys is h) refl
]

-- the first number that passes a test, behind one that passes it and one that doesn't
position-first : (p : ℕ → Bool) (x : ℕ) (xs : List ℕ) → p x ≡ true → position p (x ∷ xs) ≡ Some 0
position-first p x xs e = rw (e, lt-ltb 0 (suc (length xs)) (omega arith)) refl

position-next : (p : ℕ → Bool) (x : ℕ) (xs : List ℕ) → p x ≡ false → position p (x ∷ xs) ≡ one_further (position p xs)
position-next p x xs e =
    let k = position_or_len p xs in
    elim (cases_lt k (length xs)) [
      | inl l ↦ rw (e, lt-ltb k (length xs) l, lt-ltb (1 + k) (suc (length xs)) (omega (arith, l))) (ap Some (omega arith))
      | inr m ↦ rw (e, le-ltb k (length xs) m, le-ltb (1 + k) (suc (length xs)) (omega (arith, m))) refl
    ]

-- the lowest free slot is behind the first index of a free one
free-marked : (keys : List (List ℕ)) (is : List ℕ) → length keys ≤ 255 → All (Marked (length keys)) is
    → free_slot (map (slice_get keys) is) ≡ position (λ i. i == 255) is
free-marked keys [] few all = refl
free-marked keys (i ∷ is) few all = elim (All-head (Marked (length keys)) i is all) [
  | inl l ↦ (
      let other : (i == 255) ≡ false = ne_eqb i 255 (λ e. omega (arith, l, few, e)) in
      rw (slice_get-get_or keys i [] l)
      (ap one_further (free-marked keys is few (All-tail (Marked (length keys)) i is all))
      ∙ sym (position-next (λ j. j == 255) i is other)))
  | inr e ↦ (
      let past : length keys ≤ i = omega (arith, e, few) in
      rw (slice_get_past keys i past) (sym (position-first (λ j. j == 255) i is (eq-eqb i 255 e))))
]

module _ {own : List ℕ} {keys : List (List ℕ)} {slots indexes : List ℕ}
    (held : AreNumbered own keys slots indexes) where
  pub unknown : (n : List ℕ) → own ≢ n → ((i : ℕ) → i < length keys → get_or keys i [] ≢ n)
      → is_held n (held_names own keys indexes) ≡ false
  unknown n d h = rw (other_key names_order own n d) (unheld n keys indexes h)

  pub length-slots : length slots ≡ length keys
  length-slots =
      omega (
        arith,
        ap length held.numbered,
        length-map slots (λ (s : ℕ). Some s),
        length-map keys
            (λ n. slot_in n (held_names own keys indexes)),
      )

  -- the slot of a record's name
  pub numbered-at : (n : List ℕ) (at : ℕ) → at < length keys → get_or keys at [] ≡ n
      → slot_in n (held_names own keys indexes) ≡ Some (get_or slots at 0)
  numbered-at n at l e =
      let names = held_names own keys indexes in
      let l' : at < length slots = omega (arith, length-slots) in
      ap (λ k. slot_in k names) (sym e)
      ∙ sym (get_or-map (λ k. slot_in k names) keys at [] None l)
      ∙ ap (λ os. get_or os at None) held.numbered
      ∙ get_or-map (λ s. Some s) slots at 0 None l'

  pub known-at : (n : List ℕ) (at : ℕ) → at < length keys → get_or keys at [] ≡ n
      → is_held n (held_names own keys indexes) ≡ true
  known-at n at l e = slot-held n (held_names own keys indexes) (get_or slots at 0) (numbered-at n at l e)

  -- the lowest free slot is where the search finds it, and there is one if fewer than 255 others are known
  pub free-at : free_slot (held_names own keys indexes) ≡ one_further (position (λ i. i == 255) indexes)
  free-at = ap one_further (free-marked keys indexes held.few held.marked)

  pub full-at : free_slot (held_names own keys indexes) ≡ None → length keys ≡ 255
  full-at e = omega (arith, held.free, none-free (held_names own keys indexes) e)

  pub room-at : (f : ℕ) → free_slot (held_names own keys indexes) ≡ Some f → length keys < 255
  room-at f e = omega (arith, held.free, free-new [] (held_names own keys indexes) f e)

-- an index that was moved up is that of the same name
moved-same : (keys : List (List ℕ)) (at : ℕ) (n : List ℕ) → at ≤ length keys → length keys < 255 → (i : ℕ)
    → Marked (length keys) i → slice_get (insert keys at n) (moved_up at i) ≡ slice_get keys i
moved-same keys at n l few i (inl within) =
    let more = length-insert keys at n l in
    let small : ltb i 255 ≡ true = lt-ltb i 255 (omega (arith, within, few)) in
    sym (slice_get-get_or keys i [] within
    ∙ elim (cases_Bool (leb at i)) [
      | inl t ↦ rw (t, small) (ap Some (sym (get_or-insert_above keys at n [] i (leb-true at i t) l))
          ∙ sym (slice_get-get_or (insert keys at n) (i + 1) [] (omega (arith, within, more))))
      | inr f ↦ rw f (ap Some (sym (get_or-insert_below keys at n [] i (leb-false at i f) l))
          ∙ sym (slice_get-get_or (insert keys at n) i [] (omega (arith, within, more))))
    ])
moved-same keys at n l few i (inr e) =
    let more = length-insert keys at n l in
    let stays : moved_up at i ≡ i = elim (cases_Bool (leb at i)) [
      | inl t ↦ rw (t, le-ltb i 255 (omega (arith, e))) refl
      | inr f ↦ rw f refl
    ] in
    ap (slice_get (insert keys at n)) stays
    ∙ slice_get_past (insert keys at n) i (omega (arith, e, few, more))
    ∙ sym (slice_get_past keys i (omega (arith, e, few)))

moved-within : (at n : ℕ) → (i : ℕ) → Marked n i → Marked (n + 1) (moved_up at i)
moved-within at n i (inl l) = elim (cases_Bool (leb at i)) [
  | inl t ↦ elim (cases_Bool (ltb i 255)) [
    | inl s ↦ rw (t, s) (inl (omega arith))
    | inr b ↦ rw (t, b) (inl (omega arith))
  ]
  | inr f ↦ rw f (inl (omega arith))
]
moved-within at n i (inr e) = elim (cases_Bool (leb at i)) [
  | inl t ↦ rw (t, le-ltb i 255 (omega (arith, e))) (inr e)
  | inr f ↦ rw f (inr e)
]

-- One more record is inserted at an index: its name has the lowest free slot.
module _ {own : List ℕ} {keys : List (List ℕ)} {slots indexes : List ℕ} (held : AreNumbered own keys slots indexes)
    (n : List ℕ) (at : ℕ) (l : at ≤ length keys) (f : ℕ) (found : position (λ i. i == 255) indexes ≡ Some f) where
  free-here : free_slot (held_names own keys indexes) ≡ Some (suc f)
  free-here = free-at held ∙ ap one_further found

  pub names-inserted : held_names own (insert keys at n) (set (map (moved_up at) indexes) f at)
      ≡ set (held_names own keys indexes) (suc f) (Some n)
  names-inserted =
      let name : ℕ → Option (List ℕ) = slice_get (insert keys at n) in
      let few = room-at held (suc f) free-here in
      let more = length-insert keys at n l in
      let new : name at ≡ Some n =
      slice_get-get_or (insert keys at n) at [] (omega (arith, l, more)) ∙ ap Some (get_or-insert_at keys at n [] l) in
      let kept : map name (map (moved_up at) indexes) ≡ map (slice_get keys) indexes =
      map-twice name (moved_up at) indexes
      ∙ map-marked (λ i. name (moved_up at i)) (slice_get keys) (length keys) indexes held.marked
      (moved-same keys at n l few) in
      ap (λ os. Some own ∷ os)
      (map-set name (map (moved_up at) indexes) f at ∙ (λ i. set (kept i) f (new i)))

  pub numbered-inserted : is_held n (held_names own keys indexes) ≡ false
      → AreNumbered own (insert keys at n) (insert slots at (f + 1)) (set (map (moved_up at) indexes) f at)
  numbered-inserted fresh =
      let names = held_names own keys indexes in
      let few = room-at held (suc f) free-here in
      let more : length (insert keys at n) ≡ length keys + 1 = length-insert keys at n l in
      let slot_of : List ℕ → Option ℕ = λ k. slot_in k (set names (suc f) (Some n)) in
      let next : slot_of n ≡ Some (f + 1) = slot-new n names (suc f) free-here fresh ∙ ap Some (omega arith) in
      let numbered : map slot_of (insert keys at n) ≡ map Some (insert slots at (f + 1)) =
      map-insert slot_of keys at n
      ∙ (λ i. insert (slots-kept keys slots held.numbered fresh i) at (next i))
      ∙ sym (map-insert (λ s. Some s) slots at (f + 1)) in
      record {
        count = omega (arith, held.count, length-map indexes (moved_up at), length-set (map (moved_up at) indexes) f at);
        few = omega (arith, more, few);
        marked = subst (λ k. All (Marked k) (set (map (moved_up at) indexes) f at)) (sym more)
            (All-set (Marked (length keys + 1)) (map (moved_up at) indexes) f at
            (inl (omega (arith, l))) (All-map (Marked (length keys + 1)) (moved_up at) indexes
            (All-weaker (Marked (length keys)) (λ i. Marked (length keys + 1) (moved_up at i))
            (moved-within at (length keys)) indexes held.marked)));
        once = subst AreHeldOnce (sym names-inserted) (once-new n names (suc f) free-here fresh held.once);
        free = omega (arith, ap free_count names-inserted, free-new n names (suc f) free-here, held.free, more);
        numbered =
            subst (λ ns. map (λ k. slot_in k ns) (insert keys at n) ≡ map Some (insert slots at (f + 1)))
            (sym names-inserted) numbered;
      }
    where
      differ : false ≢ true
      differ e = absurd cc

      -- each name of a record has the slot that it had
      slots-kept : (ks : List (List ℕ)) (ss : List ℕ)
          → map (λ k. slot_in k (held_names own keys indexes)) ks ≡ map Some ss
          → is_held n (held_names own keys indexes) ≡ false
          → map (λ k. slot_in k (set (held_names own keys indexes) (suc f) (Some n))) ks ≡ map Some ss
      slots-kept [] [] e fresh = refl
      slots-kept [] (s ∷ ss) e fresh = absurd cc
      slots-kept (k ∷ ks) [] e fresh = absurd cc
      slots-kept (k ∷ ks) (s ∷ ss) e fresh =
          let names = held_names own keys indexes in
          let first : slot_in k names ≡ Some s = cc in
          let rest : map (λ k. slot_in k names) ks ≡ map Some ss = cc in
          let other : n ≢ k = λ is. differ (sym fresh ∙ ap (λ m. is_held m names) is ∙ slot-held k names s first) in
          rw (slot-kept n k names (suc f) free-here other ∙ first, slots-kept ks ss rest fresh) refl

-- What a search finds among rows tells where their keys are.
pub key-at : {R : Type 0} (key : R → List ℕ) (n : List ℕ) (rows : List R) (at : ℕ) → HasRow name_cmp key n rows at
    → get_or (map key rows) at [] ≡ n
key-at key n [] at has = let none : at < 0 = has.within in absurd (omega arith)
key-at key n (x ∷ xs) at has = get_or-map key (x ∷ xs) at x [] has.within ∙ has.named x

pub keys-apart : {R : Type 0} (key : R → List ℕ) (n : List ℕ) (rows : List R) → Rises name_cmp (map key rows)
    → row_at name_cmp key n rows ≡ None → (i : ℕ) → i < length (map key rows) → get_or (map key rows) i [] ≢ n
keys-apart key n [] rise none i l e = absurd (omega arith)
keys-apart key n (x ∷ xs) rise none i l e =
    let rows = x ∷ xs in
    let within : i < length rows = omega (arith, length-map rows key) in
    let found =
    All-from_recursion (λ r. row_at name_cmp key (key r) rows ≡ Some r) rows
    (rows_found names_order key rows rise) i x within in
    let same : key (get_or rows i x) ≡ n = sym (get_or-map key rows i x [] within) ∙ e in
    let bad : None ≡ Some (get_or rows i x) = sym none ∙ ap (λ k. row_at name_cmp key k rows) (sym same) ∙ found in
    absurd cc

-- the name that stands at a slot, and that none stands at a free one
pub name-at : (own : List ℕ) (keys : List (List ℕ)) (indexes : List ℕ) (slot other : ℕ) → slot ≡ suc other
    → other < length indexes → get_or indexes other 0 < length keys
    → get_or (held_names own keys indexes) slot None ≡ Some (get_or keys (get_or indexes other 0) [])
name-at own keys indexes slot other e l m =
    ap (λ s. get_or (held_names own keys indexes) s None) e
    ∙ get_or-map (slice_get keys) indexes other 0 None l
    ∙ slice_get-get_or keys (get_or indexes other 0) [] m

pub name-free : (own : List ℕ) (keys : List (List ℕ)) (indexes : List ℕ) (slot other : ℕ) → slot ≡ suc other
    → other < length indexes → length keys ≤ get_or indexes other 0
    → get_or (held_names own keys indexes) slot None ≡ None
name-free own keys indexes slot other e l m =
    ap (λ s. get_or (held_names own keys indexes) s None) e
    ∙ get_or-map (slice_get keys) indexes other 0 None l
    ∙ slice_get_past keys (get_or indexes other 0) m

-- a record that replaces the one of its name leaves the keys as they were, and an inserted one adds its key
pub keys-set : {R : Type 0} (key : R → List ℕ) (n : List ℕ) (r : R) (rows : List R) (at : ℕ)
    → HasRow name_cmp key n rows at
    → key r ≡ n → map key (put_row name_cmp key r rows) ≡ map key rows
keys-set key n r rows at has e =
    ap (map key) (sym (has.set r e))
    ∙ map-set key rows at r
    ∙ ap (set (map key rows) at) (e ∙ sym (key-at key n rows at has))
    ∙ set-get_or (map key rows) at []

pub keys-inserted : {R : Type 0} (key : R → List ℕ) (n : List ℕ) (r : R) (rows : List R) (at : ℕ)
    → LacksRow name_cmp key n rows at
    → key r ≡ n → map key (put_row name_cmp key r rows) ≡ insert (map key rows) at n
keys-inserted key n r rows at lacks e =
    ap (map key) (sym (lacks.insert r e)) ∙ map-insert key rows at r ∙ ap (insert (map key rows) at) e

pub numbered-same : {own : List ℕ} {keys keys' : List (List ℕ)} {slots slots' indexes indexes' : List ℕ}
    → keys' ≡ keys → slots' ≡ slots → indexes' ≡ indexes
    → AreNumbered own keys slots indexes → AreNumbered own keys' slots' indexes'
numbered-same {own} {keys} {keys'} {slots} {slots'} {indexes} {indexes'} k s i held =
    subst (λ ks. AreNumbered own ks slots' indexes') (sym k)
    (subst (λ ss. AreNumbered own keys ss indexes') (sym s) (subst (λ is. AreNumbered own keys slots is) (sym i) held))

-- no record, no name but this member's own
none-held : (room i : ℕ) → (let keys : List (List ℕ) = [] in map (slice_get keys) (replicate room i) ≡ replicate room None)
none-held zero i = refl
none-held (suc room) i = ap (λ os. None ∷ os) (none-held room i)

pub held-none : (own : List ℕ) (rows : List Claim) (indexes : List ℕ) → rows ≡ [] → indexes ≡ replicate 255 255
    → held_names own (map name_of rows) indexes ≡ own_slots own
held-none own rows indexes e f =
    (λ i. held_names own (map name_of (e i)) (f i)) ∙ ap (λ os. Some own ∷ os) (none-held 255 255)

none-marked : (room : ℕ) → All (Marked 0) (replicate room 255)
none-marked room = All-replicate (Marked 0) room 255 (inr refl)

pub none-numbered : (own : List ℕ) (rows : List Claim) (slots indexes : List ℕ) → rows ≡ [] → slots ≡ []
    → indexes ≡ replicate 255 255 → AreNumbered own (map name_of rows) slots indexes
none-numbered own rows slots indexes e s f =
    let start : AreNumbered own [] [] (replicate 255 255) = record {
      count = (let mark : ℕ = 255 in length-replicate 255 mark);
      few = omega arith;
      marked = none-marked 255;
      once = (none-free-held 255, subst AreHeldOnce (sym (none-held 255 255)) (none-once 255));
      free = omega (arith, ap free_count (none-held 255 255), none-count 255);
      numbered = refl;
    } in
    numbered-same (ap (map name_of) e) s f start
  where
    none-free-held : (room : ℕ) → is_held own (map (slice_get []) (replicate room 255)) ≡ false
    none-free-held zero = refl
    none-free-held (suc room) = none-free-held room
