-- Timers in several parts, one kind behind another: cancelled part by part, set in a part, and counted.
use Rattle.std.proofs.Common.{◌≡◌, ◌≢◌, ℕ, ◌+◌, ◌≤◌, Bool, true, false, not, ◌||◌, ◌&&◌, ◌==◌, eqb, List, [], ◌∷◌, ◌++◌, length, map, inl, inr, refl, sym, ◌∙◌, ap, arith, append_assoc, length-append}
use Rattle.std.specs.Prelude.{filter}
use Rattle.std.proofs.lemmas.Bool.{cases_Bool, eqb-true, eqb-false}
use Rattle.std.proofs.lemmas.List.Elements.{filter-append, filter_agree}
use Rattle.std.proofs.lemmas.List.Folds.{list_any-append}
use Rattle.std.proofs.lemmas.List.Sorted.{IsPermutation-middle}
use Rattle.lg_rules.specs.Meaning.Rows.{name_cmp, is_same, put_row, without_row, Rises}
use Rattle.lg_rules.proofs.KeyOrder.{names_order, same_key, other_key}
use Rattle.lg_timers.specs.declared.timer.Timer.{Timer}
use Rattle.lg_timers.specs.declared.timer.TimerId.{TimerId}
use Rattle.lg_timers.specs.declared.timer.TimerId.TheVariants.{Suspicion, RelayNack, RelayEnd}
use Rattle.lg_timers.specs.Meaning.Timers.{kind_number, id_key, has_id, is_set, with_timer, without_timer, in_turn}
use Rattle.lg_timers.proofs.Pending.{NoSuspicion, without-in_turn, length_in_turn-le, firsts-put, firsts-without}
use Rattle.lg_timers.proofs.RowOrder.{in_turn-permutation}

-- tests one after another: in either order, or as one test
pub filter-both : {R : Type 0} (p q r : R → Bool) (rows : List R) → ((x : R) → r x ≡ (p x && q x)) → filter p (filter q rows) ≡ filter r rows
filter-both p q r [] h = refl
filter-both p q r (x ∷ rows) h =
    let rest = filter-both p q r rows h in
    elim (cases_Bool (q x)) [
      | inl kept ↦ elim (cases_Bool (p x)) [
        | inl both ↦ rw (h x, kept, both) (ap (λ xs. x ∷ xs) rest)
        | inr gone ↦ rw (h x, kept, gone) rest
      ]
      | inr gone ↦ elim (cases_Bool (p x)) [ inl one ↦ rw (h x, gone, one) rest | inr neither ↦ rw (h x, gone, neither) rest ]
    ]

pub filter-swap : {R : Type 0} (p q : R → Bool) (rows : List R) → filter p (filter q rows) ≡ filter q (filter p rows)
filter-swap p q rows =
    filter-both p q (λ x. p x && q x) rows (λ x. refl) ∙ sym (filter-both q p (λ x. p x && q x) rows (λ x. either_way (p x) (q x)))
  where
    either_way : (a b : Bool) → (a && b) ≡ (b && a)
    either_way true true = refl
    either_way true false = refl
    either_way false true = refl
    either_way false false = refl

-- what agrees at each row gives the same
pub filter-same : {R : Type 0} (p q : R → Bool) (rows : List R) → ((x : R) → p x ≡ q x) → filter p rows ≡ filter q rows
filter-same p q rows same = filter_agree p q same rows

pub map-same : {R S : Type 0} (f g : R → S) (rows : List R) → ((x : R) → f x ≡ g x) → map f rows ≡ map g rows
map-same f g rows same = λ i. map (λ x. same x i) rows

-- a timer of another kind has another id
pub other_kind : (id : TimerId) (t : Timer) → kind_number t.id ≢ kind_number id → has_id id t ≡ false
other_kind id t other = other_key names_order (id_key t.id) (id_key id) (λ keys. other (same_kind keys))
  where
    same_kind : id_key t.id ≡ id_key id → kind_number t.id ≡ kind_number id
    same_kind keys = cc

-- the timers of rows, without those of an id: those of the rows that a test doesn't find
pub without-found : {R : Type 0} (id : TimerId) (f : R → Timer) (p : R → Bool) (rows : List R) → ((r : R) → has_id id (f r) ≡ p r) → without_timer id (map f rows) ≡ map f (filter (λ r. not (p r)) rows)
without-found id f p [] h = refl
without-found id f p (r ∷ rows) h = elim (cases_Bool (p r)) [
  | inl gone ↦ rw (h r, gone) (without-found id f p rows h)
  | inr kept ↦ rw (h r, kept) (ap (λ ts. f r ∷ ts) (without-found id f p rows h))
]

-- where no row's timer has an id, none is cancelled, and none is set
pub without-map : {R : Type 0} (id : TimerId) (f : R → Timer) (rows : List R) → ((r : R) → has_id id (f r) ≡ false) → without_timer id (map f rows) ≡ map f rows
without-map id f [] other = refl
without-map id f (r ∷ rows) other = rw (other r) (ap (λ ts. f r ∷ ts) (without-map id f rows other))

pub is_set-map_other : {R : Type 0} (id : TimerId) (f : R → Timer) (rows : List R) → ((r : R) → has_id id (f r) ≡ false) → is_set id (map f rows) ≡ false
is_set-map_other id f [] other = refl
is_set-map_other id f (r ∷ rows) other = rw (other r) (is_set-map_other id f rows other)

-- the same where each has a kind that isn't the id's: where both kinds are written out, `λ r. refl` shows it
pub without-kind : {R : Type 0} (id : TimerId) (f : R → Timer) (rows : List R) → ((r : R) → eqb (kind_number (f r).id) (kind_number id) ≡ false) → without_timer id (map f rows) ≡ map f rows
without-kind id f rows other = without-map id f rows (λ r. other_kind id (f r) (eqb-false (kind_number (f r).id) (kind_number id) (other r)))

-- two lists of a kind and a number
same_numbers : (kind j k : ℕ) → is_same name_cmp (kind ∷ j ∷ []) (kind ∷ k ∷ []) ≡ (j == k)
same_numbers kind j k = elim (cases_Bool (eqb j k)) [
  | inl e ↦ same_key names_order (kind ∷ j ∷ []) (kind ∷ k ∷ []) (ap (λ n. kind ∷ n ∷ []) (eqb-true j k e)) ∙ sym e
  | inr e ↦ other_key names_order (kind ∷ j ∷ []) (kind ∷ k ∷ []) (λ keys. eqb-false j k e (numbers keys)) ∙ sym e
]
  where
    numbers : (kind ∷ j ∷ []) ≡ (kind ∷ k ∷ []) → j ≡ k
    numbers keys = cc

-- of two timers of a relay's kind, which have one id: those with one number
pub has_nack : (d j k : ℕ) → has_id (RelayNack k) (record { deadline = d; id = RelayNack j }) ≡ (j == k)
has_nack d j k = same_numbers 4 j k

pub has_end : (d j k : ℕ) → has_id (RelayEnd k) (record { deadline = d; id = RelayEnd j }) ≡ (j == k)
has_end d j k = same_numbers 5 j k

-- the timers of relays, without those of one relay
pub without-nacks : {R : Type 0} (number : R → ℕ) (at : ℕ → ℕ) (k : ℕ) (rows : List R)
    → without_timer (RelayNack k) (map (λ r. record { deadline = at (number r); id = RelayNack (number r) }) rows)
    ≡ map (λ r. record { deadline = at (number r); id = RelayNack (number r) }) (filter (λ r. not (number r == k)) rows)
without-nacks number at k rows =
    without-found (RelayNack k) (λ r. record { deadline = at (number r); id = RelayNack (number r) }) (λ r. number r == k) rows (λ r. has_nack (at (number r)) (number r) k)

pub without-ends : {R : Type 0} (number : R → ℕ) (at : ℕ → ℕ) (k : ℕ) (rows : List R)
    → without_timer (RelayEnd k) (map (λ r. record { deadline = at (number r); id = RelayEnd (number r) }) rows)
    ≡ map (λ r. record { deadline = at (number r); id = RelayEnd (number r) }) (filter (λ r. not (number r == k)) rows)
without-ends number at k rows =
    without-found (RelayEnd k) (λ r. record { deadline = at (number r); id = RelayEnd (number r) }) (λ r. number r == k) rows (λ r. has_end (at (number r)) (number r) k)

-- timers in four parts, where one id is cancelled: each part without it
pub without-parts : (id : TimerId) (A B C D E F G H : List Timer) → without_timer id A ≡ E → without_timer id B ≡ F → without_timer id C ≡ G → without_timer id D ≡ H
    → without_timer id (in_turn (A ++ (B ++ (C ++ D)))) ≡ in_turn (E ++ (F ++ (G ++ H)))
without-parts id A B C D E F G H a b c d = without-in_turn id (A ++ (B ++ (C ++ D))) ∙ ap in_turn all
  where
    last : without_timer id (C ++ D) ≡ G ++ H
    last = filter-append (λ t. not (has_id id t)) C D ∙ (λ i. c i ++ d i)

    later : without_timer id (B ++ (C ++ D)) ≡ F ++ (G ++ H)
    later = filter-append (λ t. not (has_id id t)) B (C ++ D) ∙ (λ i. b i ++ last i)

    all : without_timer id (A ++ (B ++ (C ++ D))) ≡ E ++ (F ++ (G ++ H))
    all = filter-append (λ t. not (has_id id t)) A (B ++ (C ++ D)) ∙ (λ i. a i ++ later i)

-- a timer that stands behind some others in no order
pub in_turn-middle : (t : Timer) (A B : List Timer) → in_turn (A ++ t ∷ B) ≡ with_timer t (in_turn (A ++ B))
unfolding in_turn
in_turn-middle t A B = in_turn-permutation (A ++ t ∷ B) (t ∷ A ++ B) (IsPermutation-middle A t B)

with_inner : (t : Timer) (A B C : List Timer) → with_timer t (in_turn (A ++ (B ++ C))) ≡ in_turn (A ++ ((B ++ t ∷ []) ++ C))
with_inner t A B C =
    ap (λ ts. with_timer t (in_turn ts)) (sym (append_assoc A B C))
    ∙ sym (in_turn-middle t (A ++ B) C)
    ∙ ap in_turn (append_assoc A B (t ∷ C) ∙ ap (λ ts. A ++ ts) (sym (append_assoc B (t ∷ []) C)))

-- a timer is set at the start of the first part, or at the end of the first, the second, or the third
pub with-first : (t : Timer) (A B C D : List Timer) → with_timer t (in_turn (A ++ (B ++ (C ++ D)))) ≡ in_turn ((t ∷ A) ++ (B ++ (C ++ D)))
unfolding in_turn
with-first t A B C D = refl

pub with-last : (t : Timer) (A B C D : List Timer) → with_timer t (in_turn (A ++ (B ++ (C ++ D)))) ≡ in_turn ((A ++ t ∷ []) ++ (B ++ (C ++ D)))
with-last t A B C D = with_inner t [] A (B ++ (C ++ D))

pub with-second : (t : Timer) (A B C D : List Timer) → with_timer t (in_turn (A ++ (B ++ (C ++ D)))) ≡ in_turn (A ++ ((B ++ t ∷ []) ++ (C ++ D)))
with-second t A B C D = with_inner t A B (C ++ D)

pub with-third : (t : Timer) (A B C D : List Timer) → with_timer t (in_turn (A ++ (B ++ (C ++ D)))) ≡ in_turn (A ++ (B ++ ((C ++ t ∷ []) ++ D)))
with-third t A B C D =
    ap (λ ts. with_timer t (in_turn ts)) (sym (append_assoc A B (C ++ D)))
    ∙ with_inner t (A ++ B) C D
    ∙ ap in_turn (append_assoc A B ((C ++ t ∷ []) ++ D))

-- no more are pending than stand in the parts
pub length-parts : (A B C D : List Timer) → length (in_turn (A ++ (B ++ (C ++ D)))) ≤ length A + (length B + (length C + length D))
length-parts A B C D =
    omega (arith, length_in_turn-le (A ++ (B ++ (C ++ D))), length-append A (B ++ (C ++ D)), length-append B (C ++ D), length-append C D)

-- none of two parts is a suspicion's
pub no_suspicion-append : (A B : List Timer) → NoSuspicion A → NoSuspicion B → NoSuspicion (A ++ B)
no_suspicion-append A B a b m =
    list_any-append (has_id (Suspicion m)) A B ∙ ap (λ x. x || is_set (Suspicion m) B) (a m) ∙ b m

pub no_suspicion-map : {R : Type 0} (f : R → Timer) (rows : List R) → ((m : List ℕ) (r : R) → has_id (Suspicion m) (f r) ≡ false) → NoSuspicion (map f rows)
no_suspicion-map f rows other m = is_set-map_other (Suspicion m) f rows (other m)

-- suspicions behind three parts
module _ {R : Type 0} (key : R → List ℕ) (timer : R → Timer) (ids : (r : R) → (timer r).id ≡ Suspicion (key r)) where
  joined : (A B C D : List Timer) → (A ++ (B ++ C)) ++ D ≡ A ++ (B ++ (C ++ D))
  joined A B C D = append_assoc A (B ++ C) D ∙ ap (λ ts. A ++ ts) (append_assoc B C D)

  none : (A B C : List Timer) → NoSuspicion A → NoSuspicion B → NoSuspicion C → NoSuspicion (A ++ (B ++ C))
  none A B C a b c = no_suspicion-append A (B ++ C) a (no_suspicion-append B C b c)

  -- one row is put: its timer takes the place of its suspicion's
  pub parts-put : (r : R) (A B C : List Timer) (rows : List R) → NoSuspicion A → NoSuspicion B → NoSuspicion C → Rises name_cmp (map key rows)
      → in_turn (A ++ (B ++ (C ++ map timer (put_row name_cmp key r rows)))) ≡ with_timer (timer r) (without_timer (Suspicion (key r)) (in_turn (A ++ (B ++ (C ++ map timer rows)))))
  parts-put r A B C rows a b c rises =
      ap in_turn (sym (joined A B C (map timer (put_row name_cmp key r rows))))
      ∙ firsts-put key timer ids r (A ++ (B ++ C)) rows (none A B C a b c) rises
      ∙ ap (λ ts. with_timer (timer r) (without_timer (Suspicion (key r)) (in_turn ts))) (joined A B C (map timer rows))

  -- one row is taken out: its suspicion's timer is cancelled
  pub parts-without : (m : List ℕ) (A B C : List Timer) (rows : List R) → NoSuspicion A → NoSuspicion B → NoSuspicion C
      → in_turn (A ++ (B ++ (C ++ map timer (without_row name_cmp key m rows)))) ≡ without_timer (Suspicion m) (in_turn (A ++ (B ++ (C ++ map timer rows))))
  parts-without m A B C rows a b c =
      ap in_turn (sym (joined A B C (map timer (without_row name_cmp key m rows))))
      ∙ firsts-without key timer ids m (A ++ (B ++ C)) rows (none A B C a b c)
      ∙ ap (λ ts. without_timer (Suspicion m) (in_turn ts)) (joined A B C (map timer rows))
