-- The names that a table of members holds, once a record is removed.
use Rattle.std.proofs.Common.{◌≡◌, ◌≢◌, ℕ, suc, ◌+◌, ◌-◌, ◌<◌, ◌≤◌, true, false, List, [], ◌∷◌, length, map, get_or}
use Rattle.std.proofs.Common.{Option, Some, None, inl, inr, refl, sym, ◌∙◌, ap, subst, arith, eqb, ltb, if◌then◌else◌}
use Rattle.std.specs.Prelude.{slice_get}
use Rattle.std.specs.List.{remove}
use Rattle.std.proofs.lemmas.Bool.{cases_Bool, cases_lt, lt-ltb, le-ltb, eqb-true, eqb-false, ltb-true, ltb-false, ne_eqb}
use Rattle.std.proofs.lemmas.List.{length-map}
use Rattle.std.proofs.lemmas.List.Edits.{length-remove, get_or-remove_below, get_or-remove_above}
use Rattle.std.proofs.lemmas.Option.{slice_get-get_or, slice_get_past}
use Rattle.std.proofs.lemmas.List.Elements.{All-map, All-weaker}
use Rattle.lg_rules.specs.Meaning.Rows.{name_cmp, Rises}
use Rattle.lg_rules.specs.Meaning.Slots.{holds, slot_in, freed}
use Rattle.lg_rules.specs.Support.Slots.{AreHeldOnce, AreNumbered, free_count, held_names, moved_down}
use Rattle.lg_rules.proofs.KeyOrder.{names_order, same_key, other_key}
use Rattle.lg_rules.proofs.Numbering.{Marked, map-marked, map-twice, map-remove, numbered-at}
use Rattle.lg_rules.proofs.Removing.{at-once}
use Rattle.lg_rules.proofs.SlotLaws.{slot-freed, once-freed, free-freed}

-- An index that was moved down is that of the same name, but the one of the record that was removed.
module _ {own : List ℕ} {keys : List (List ℕ)} {slots indexes : List ℕ} (held : AreNumbered own keys slots indexes)
    (rise : Rises name_cmp keys) (n : List ℕ) (at : ℕ) (l : at < length keys) (named : get_or keys at [] ≡ n) where
  freed-one : Option (List ℕ) → Option (List ℕ)
  freed-one o = if holds n o then None else o

  less : length (remove keys at) + 1 ≡ length keys
  less = length-remove keys at l

  moved-freed : (i : ℕ) → Marked (length keys) i
      → slice_get (remove keys at) (moved_down at i) ≡ freed-one (slice_get keys i)
  unfolding freed-one
  moved-freed i (inl within) = elim (cases_Bool (eqb i at)) [
    | inl t ↦ (
        let is : i ≡ at = eqb-true i at t in
        let there : slice_get keys i ≡ Some n = slice_get-get_or keys i [] within ∙ ap (λ k. Some (get_or keys k [])) is
        ∙ ap Some named in
        rw (t, there, same_key names_order n n refl)
        (slice_get_past (remove keys at) 255 (omega (arith, less, held.few))))
    | inr f ↦ (
        let apart : i ≢ at = eqb-false i at f in
        let there : slice_get keys i ≡ Some (get_or keys i []) = slice_get-get_or keys i [] within in
        let other : get_or keys i [] ≢ n = λ e.
        apart (at-once names_order (λ k. k) keys i at [] (subst (Rises name_cmp) (sym (map-itself keys)) rise) within l
        (e ∙ sym named)) in
        let small : ltb i 255 ≡ true = lt-ltb i 255 (omega (arith, within, held.few)) in
        rw (f, there, other_key names_order (get_or keys i []) n other)
        (elim (cases_Bool (ltb at i)) [
          | inl t ↦ (
              let above : at < i = ltb-above at i t in
              rw (t, small) (slice_get-get_or (remove keys at) (i - 1) [] (omega (arith, within, less, above))
              ∙ ap Some (get_or-remove_above keys at [] (i - 1) (omega (arith, above)) l
              ∙ ap (λ k. get_or keys k []) (omega (arith, above)))))
          | inr g ↦ (
              let below : i < at = ltb-below at i g apart in
              rw g (slice_get-get_or (remove keys at) i [] (omega (arith, l, less, below))
              ∙ ap Some (get_or-remove_below keys at [] i below l)))
        ]))
  ]
    where
      map-itself : (ks : List (List ℕ)) → map (λ k. k) ks ≡ ks
      map-itself [] = refl
      map-itself (k ∷ ks) = ap (λ ms. k ∷ ms) (map-itself ks)

      ltb-above : (a b : ℕ) → ltb a b ≡ true → a < b
      ltb-above a b t = ltb-true a b t

      ltb-below : (a b : ℕ) → ltb a b ≡ false → b ≢ a → b < a
      ltb-below a b g d = (let le = ltb-false a b g in omega (arith, le, d))
  moved-freed i (inr e) =
      let apart : eqb i at ≡ false = ne_eqb i at (λ is. omega (arith, e, is, l, held.few)) in
      let past : slice_get keys i ≡ None = slice_get_past keys i (omega (arith, e, held.few)) in
      rw (apart, past, le-ltb i 255 (omega (arith, e)))
      (elim (cases_Bool (ltb at i)) [
        | inl t ↦ rw t (slice_get_past (remove keys at) i (omega (arith, e, less, held.few)))
        | inr f ↦ rw f (slice_get_past (remove keys at) i (omega (arith, e, less, held.few)))
      ])

  pub names-removed : own ≢ n
      → held_names own (remove keys at) (map (moved_down at) indexes) ≡ freed n (held_names own keys indexes)
  unfolding freed-one
  names-removed d =
      let name : ℕ → Option (List ℕ) = slice_get (remove keys at) in
      let rest : map name (map (moved_down at) indexes) ≡ freed n (map (slice_get keys) indexes) =
      map-twice name (moved_down at) indexes
      ∙ map-marked (λ i. name (moved_down at i)) (λ i. freed-one (slice_get keys i)) (length keys) indexes held.marked
      moved-freed
      ∙ sym (map-twice freed-one (slice_get keys) indexes) in
      rw (other_key names_order own n d) (ap (λ os. Some own ∷ os) rest)

  moved-less : (i : ℕ) → Marked (length keys) i → Marked (length (remove keys at)) (moved_down at i)
  moved-less i (inl within) = elim (cases_Bool (eqb i at)) [
    | inl t ↦ rw t (inr refl)
    | inr f ↦ (
        let apart : i ≢ at = eqb-false i at f in
        rw (f, lt-ltb i 255 (omega (arith, within, held.few)))
        (elim (cases_Bool (ltb at i)) [
          | inl t ↦ (let above : at < i = ltb-true at i t in rw t (inl (omega (arith, within, less, above))))
          | inr g ↦ (let below : i ≤ at = ltb-false at i g in rw g (inl (omega (arith, l, less, below, apart))))
        ]))
  ]
  moved-less i (inr e) =
      let apart : eqb i at ≡ false = ne_eqb i at (λ is. omega (arith, e, is, l, held.few)) in
      rw (apart, le-ltb i 255 (omega (arith, e)))
      (elim (cases_Bool (ltb at i)) [
        | inl t ↦ rw t (inr e)
        | inr f ↦ rw f (inr e)
      ])

  pub numbered-removed : own ≢ n
      → AreNumbered own (remove keys at) (remove slots at) (map (moved_down at) indexes)
  numbered-removed d =
      let names = held_names own keys indexes in
      let slot_of : List ℕ → Option ℕ = λ k. slot_in k (freed n names) in
      let was : List ℕ → Option ℕ = λ k. slot_in k names in
      let numbered : map slot_of (remove keys at) ≡ map Some (remove slots at) =
      same-slots (remove keys at) apart-all
      ∙ map-remove was keys at ∙ ap (λ os. remove os at) held.numbered ∙ sym (map-remove (λ s. Some s) slots at) in
      record {
        count = omega (arith, held.count, length-map indexes (moved_down at));
        few = omega (arith, less, held.few);
        marked = All-map (Marked (length (remove keys at))) (moved_down at) indexes
            (All-weaker (Marked (length keys)) (λ i. Marked (length (remove keys at)) (moved_down at i))
            moved-less indexes held.marked);
        once = subst AreHeldOnce (sym (names-removed d)) (once-freed n names held.once);
        free = omega (
          arith,
          ap free_count (names-removed d),
          less,
          held.free,
          free-freed n names (get_or slots at 0) held.once (numbered-at held n at l named),
        );
        numbered =
            subst (λ ns. map (λ k. slot_in k ns) (remove keys at) ≡ map Some (remove slots at))
            (sym (names-removed d)) numbered;
      }
    where
      same-slots : (ks : List (List ℕ)) → ((i : ℕ) → i < length ks → get_or ks i [] ≢ n)
          → map (λ k. slot_in k (freed n (held_names own keys indexes))) ks
          ≡ map (λ k. slot_in k (held_names own keys indexes)) ks
      same-slots [] h = refl
      same-slots (k ∷ ks) h =
          rw (slot-freed n k (held_names own keys indexes) (h 0 (omega arith)), same-slots ks (λ i m. h (suc i) (omega arith)))
          refl

      map-self : (ks : List (List ℕ)) → map (λ k. k) ks ≡ ks
      map-self [] = refl
      map-self (k ∷ ks) = ap (λ ms. k ∷ ms) (map-self ks)

      once-at : (i : ℕ) → i < length keys → get_or keys i [] ≡ n → i ≡ at
      once-at i m e =
          at-once names_order (λ k. k) keys i at [] (subst (Rises name_cmp) (sym (map-self keys)) rise) m l (e ∙ sym named)

      apart-all : (i : ℕ) → i < length (remove keys at) → get_or (remove keys at) i [] ≢ n
      apart-all i m e = elim (cases_lt i at) [
        | inl below ↦ (
            let is : i ≡ at = once-at i (omega (arith, below, l)) (sym (get_or-remove_below keys at [] i below l) ∙ e) in
            omega (arith, is, below))
        | inr above ↦ (
            let is : i + 1 ≡ at =
            once-at (i + 1) (omega (arith, m, less)) (sym (get_or-remove_above keys at [] i above l) ∙ e) in
            omega (arith, is, above))
      ]
