-- The timers that are pending, by the rows that give them: some first timers, and one of each suspected member.
use Rattle.std.proofs.Common.{◌≡◌, ◌≢◌, ℕ, suc, ◌≤◌, Bool, true, false, not, ◌||◌, ◌&&◌, List, [], ◌∷◌, ◌++◌, length, map, Some, None, inl, inr, refl, sym, ◌∙◌, ap, arith}
use Rattle.std.specs.List.{list_any}
use Rattle.std.specs.Prelude.{filter}
use Rattle.std.specs.declared.cmp.Ordering.TheVariants.{Greater}
use Rattle.std.proofs.lemmas.Bool.{cases_Bool}
use Rattle.std.proofs.lemmas.List.Folds.{list_any-append}
use Rattle.std.proofs.lemmas.List.Elements.{filter-append}
use mathlib.Core.List.{map-append}
use Rattle.lg_rules.specs.Meaning.Rows.{name_cmp, is_same, is_among, put_row, without_row, Rises, AreAbove}
use Rattle.lg_rules.proofs.Cases.{Below, Tied, Above, compared}
use Rattle.lg_rules.proofs.KeyOrder.{names_order, turned, same_key, other_key, less_apart}
use Rattle.lg_rules.proofs.Rises.{above_lower, among-in_order, among-filter, same_members}
use Rattle.lg_timers.specs.declared.timer.Timer.{Timer}
use Rattle.lg_timers.specs.declared.timer.TimerId.{TimerId}
use Rattle.lg_timers.specs.declared.timer.TimerId.TheVariants.{Suspicion, RoundStart}
use Rattle.lg_timers.specs.Meaning.Timers.{id_key, timer_key, timer_cmp, has_id, is_set, with_timer, without_timer, in_turn, least_of}
use Rattle.lg_timers.specs.Support.InTurn.{earlier}
use Rattle.lg_timers.proofs.KeyLaws.{timer_is}
use Rattle.lg_timers.proofs.TurnLaws.{map-in_turn, rises-in_turn, least-with_timer}
use Rattle.lg_timers.proofs.CancelLaws.{fewer}
use Rattle.lg_timers.proofs.TimerSets.{same_keys, rises_filter}

-- whether this is the list of a timer that has an id
abbrev list_has : TimerId → List ℕ → Bool
list_has id [] = false
list_has id (d ∷ key) = is_same name_cmp key (id_key id)

keys-without : (id : TimerId) (timers : List Timer) → map timer_key (without_timer id timers) ≡ filter (λ k. not (list_has id k)) (map timer_key timers)
keys-without id [] = refl
keys-without id (t ∷ timers) = elim (cases_Bool (has_id id t)) [
  | inl gone ↦ rw gone (keys-without id timers)
  | inr kept ↦ rw kept (ap (λ ks. timer_key t ∷ ks) (keys-without id timers))
]

-- the same timers are set, once they are in turn
pub among-in_turn : (k : List ℕ) (timers : List Timer) → is_among name_cmp k (map timer_key (in_turn timers)) ≡ is_among name_cmp k (map timer_key timers)
among-in_turn k timers = ap (is_among name_cmp k) (map-in_turn timers) ∙ among-in_order names_order k (map timer_key timers)

among-without : (k : List ℕ) (id : TimerId) (timers : List Timer) → is_among name_cmp k (map timer_key (without_timer id timers)) ≡ (not (list_has id k) && is_among name_cmp k (map timer_key timers))
among-without k id timers = ap (is_among name_cmp k) (keys-without id timers) ∙ among-filter names_order (λ k. not (list_has id k)) k (map timer_key timers)

-- timers in turn are known by which they are
pub rising_is : (xs ys : List Timer) → Rises name_cmp (map timer_key xs) → Rises name_cmp (map timer_key ys)
    → ((k : List ℕ) → is_among name_cmp k (map timer_key xs) ≡ is_among name_cmp k (map timer_key ys)) → xs ≡ ys
rising_is xs ys r s same = same_keys xs ys (same_members names_order (map timer_key xs) (map timer_key ys) r s same)

pub in_turn-same : (xs ys : List Timer) → ((k : List ℕ) → is_among name_cmp k (map timer_key xs) ≡ is_among name_cmp k (map timer_key ys)) → in_turn xs ≡ in_turn ys
in_turn-same xs ys same =
    rising_is (in_turn xs) (in_turn ys) (rises-in_turn xs) (rises-in_turn ys) (λ k. among-in_turn k xs ∙ same k ∙ sym (among-in_turn k ys))

-- timers are cancelled before or after they are put in turn
pub without-in_turn : (id : TimerId) (timers : List Timer) → without_timer id (in_turn timers) ≡ in_turn (without_timer id timers)
without-in_turn id timers =
    rising_is (without_timer id (in_turn timers)) (in_turn (without_timer id timers))
    (rises_filter (λ t. not (has_id id t)) (in_turn timers) (rises-in_turn timers))
    (rises-in_turn (without_timer id timers))
    (λ k. among-without k id (in_turn timers) ∙ ap (λ b. not (list_has id k) && b) (among-in_turn k timers) ∙ sym (among-without k id timers) ∙ sym (among-in_turn k (without_timer id timers)))

pub or_swap : (a b c : Bool) → (a || (b || c)) ≡ (b || (a || c))
or_swap true true c = refl
or_swap true false c = refl
or_swap false b c = refl

or_twice : (a b : Bool) → (a || (a || b)) ≡ (a || b)
or_twice true b = refl
or_twice false b = refl

-- a test of some timer, once one is set, whether it is fresh or not
pub any-with : (p : Timer → Bool) (t : Timer) (timers : List Timer) → list_any p (with_timer t timers) ≡ (p t || list_any p timers)
any-with p t [] = refl
any-with p t (u ∷ timers) = elim (compared (timer_cmp t u)) [
  | Below l ↦ rw l
  | Tied e ↦ (
      let one : p u ≡ p t = ap p (sym (timer_is t u (names_order.exact (timer_key t) (timer_key u) e))) in
      rw (e, one) (sym (or_twice (p t) (list_any p timers))))
  | Above g ↦ rw g (ap (λ b. p u || b) (any-with p t timers) ∙ or_swap (p u) (p t) (list_any p timers))
]

pub any-turned : (p : Timer → Bool) (timers : List Timer) → list_any p (in_turn timers) ≡ list_any p timers
unfolding in_turn
any-turned p [] = refl
any-turned p (t ∷ timers) = any-with p t (in_turn timers) ∙ ap (λ b. p t || b) (any-turned p timers)

pub is_set-in_turn : (id : TimerId) (timers : List Timer) → is_set id (in_turn timers) ≡ is_set id timers
is_set-in_turn id timers = any-turned (has_id id) timers

pub length_with-le : (t : Timer) (timers : List Timer) → length (with_timer t timers) ≤ suc (length timers)
length_with-le t [] = omega arith
length_with-le t (u ∷ timers) = elim (compared (timer_cmp t u)) [
  | Below l ↦ rw l (omega arith)
  | Tied e ↦ rw e (omega arith)
  | Above g ↦ rw g (omega (arith, length_with-le t timers))
]

pub length_in_turn-le : (timers : List Timer) → length (in_turn timers) ≤ length timers
unfolding in_turn
length_in_turn-le [] = omega arith
length_in_turn-le (t ∷ timers) = omega (arith, length_with-le t (in_turn timers), length_in_turn-le timers)

pub length_without-le : (id : TimerId) (timers : List Timer) → length (without_timer id timers) ≤ length timers
length_without-le id timers = fewer (λ t. not (has_id id t)) timers

-- where one is set, one fires first
pub in_turn-some : (t : Timer) (timers : List Timer) → least_of (in_turn (t ∷ timers)) ≢ None
unfolding in_turn
in_turn-some t timers e =
    let some : Some (earlier (least_of (in_turn timers)) t) ≡ None = sym (least-with_timer t (in_turn timers)) ∙ e in
    absurd cc

-- the first timer's own id
pub has_own : (id : TimerId) (t : Timer) → t.id ≡ id → has_id id t ≡ true
has_own id t e = same_key names_order (id_key t.id) (id_key id) (ap id_key e)

pub is_set-first : (id : TimerId) (t : Timer) (timers : List Timer) → t.id ≡ id → is_set id (in_turn (t ∷ timers)) ≡ true
is_set-first id t timers e = is_set-in_turn id (t ∷ timers) ∙ ap (λ b. b || is_set id timers) (has_own id t e)

pub round_start-set : (t : Timer) (timers : List Timer) → t.id ≡ RoundStart → is_set RoundStart (in_turn (t ∷ timers)) ≡ true
round_start-set t timers e = is_set-first RoundStart t timers e

-- where no timer has an id, none is cancelled
pub without-none : (id : TimerId) (timers : List Timer) → is_set id timers ≡ false → without_timer id timers ≡ timers
without-none id [] e = refl
without-none id (t ∷ timers) e = elim (cases_Bool (has_id id t)) [
  | inl has ↦ (let bad : true ≡ false = rw has at e in absurd cc)
  | inr other ↦ rw other (ap (λ ts. t ∷ ts) (without-none id timers (rw other at e)))
]

-- the rows above a key don't have it
without-above : {R : Type 0} (key : R → List ℕ) (m : List ℕ) (rows : List R) → AreAbove name_cmp m (map key rows) → without_row name_cmp key m rows ≡ rows
without-above key m [] a = refl
without-above key m (x ∷ rows) a =
    let other : is_same name_cmp (key x) m ≡ false = other_key names_order (key x) m (λ e. less_apart names_order m (key x) a.0 (sym e)) in
    rw other (ap (λ rs. x ∷ rs) (without-above key m rows a.1))

-- which lists are among those of the rows, once a row is put in its place
pub among-put_row : {R : Type 0} (key : R → List ℕ) (f : R → List ℕ) (k : List ℕ) (r : R) (rows : List R) → Rises name_cmp (map key rows)
    → is_among name_cmp k (map f (put_row name_cmp key r rows)) ≡ (is_same name_cmp (f r) k || is_among name_cmp k (map f (without_row name_cmp key (key r) rows)))
among-put_row key f k r [] s = refl
among-put_row key f k r (x ∷ rows) s = elim (compared (name_cmp (key r) (key x))) [
  | Below l ↦ (
      let all : without_row name_cmp key (key r) (x ∷ rows) ≡ x ∷ rows = without-above key (key r) (x ∷ rows) (l, above_lower names_order (key r) (key x) (map key rows) l s.0) in
      let put : is_among name_cmp k (map f (put_row name_cmp key r (x ∷ rows))) ≡ is_among name_cmp k (map f (r ∷ x ∷ rows)) = rw l refl in
      put ∙ ap (λ rs. is_same name_cmp (f r) k || is_among name_cmp k (map f rs)) (sym all))
  | Tied t ↦ (
      let one : key x ≡ key r = sym (names_order.exact (key r) (key x) t) in
      let gone : is_same name_cmp (key x) (key r) ≡ true = same_key names_order (key x) (key r) one in
      let rest : without_row name_cmp key (key x) rows ≡ rows = without-above key (key x) rows s.0 in
      let all : without_row name_cmp key (key r) (x ∷ rows) ≡ rows = rw gone (ap (λ m. without_row name_cmp key m rows) (sym one) ∙ rest) in
      let put : is_among name_cmp k (map f (put_row name_cmp key r (x ∷ rows))) ≡ is_among name_cmp k (map f (r ∷ rows)) = rw t refl in
      put ∙ ap (λ rs. is_same name_cmp (f r) k || is_among name_cmp k (map f rs)) (sym all))
  | Above g ↦ (
      let other : is_same name_cmp (key x) (key r) ≡ false = other_key names_order (key x) (key r) (less_apart names_order (key x) (key r) (turned names_order (key r) (key x) Greater g)) in
      rw (g, other) (ap (λ b. is_same name_cmp (f x) k || b) (among-put_row key f k r rows s.1) ∙ or_swap (is_same name_cmp (f x) k) (is_same name_cmp (f r) k) (is_among name_cmp k (map f (without_row name_cmp key (key r) rows)))))
]

map-map : {R : Type 0} (timer : R → Timer) (rows : List R) → map timer_key (map timer rows) ≡ map (λ r. timer_key (timer r)) rows
map-map timer [] = refl
map-map timer (r ∷ rows) = ap (λ ks. timer_key (timer r) ∷ ks) (map-map timer rows)

-- no timer of these is a suspicion's
abbrev pub NoSuspicion : List Timer → Type 0
NoSuspicion timers = (m : List ℕ) → is_set (Suspicion m) timers ≡ false

pub no_suspicion-nil : NoSuspicion []
no_suspicion-nil m = refl

pub no_suspicion-start : (t : Timer) → t.id ≡ RoundStart → NoSuspicion (t ∷ [])
no_suspicion-start t e m = ap (λ id. is_same name_cmp (id_key id) (id_key (Suspicion m)) || false) e

-- some rows, and the timer of each
module _ {R : Type 0} (key : R → List ℕ) (timer : R → Timer) (ids : (r : R) → (timer r).id ≡ Suspicion (key r)) where
  has_suspicion : (m : List ℕ) (r : R) → has_id (Suspicion m) (timer r) ≡ is_same name_cmp (key r) m
  has_suspicion m r = ap (λ id. is_same name_cmp (id_key id) (id_key (Suspicion m))) (ids r)

  -- a suspicion's timer is set where its member has a row
  pub is_set-rows : (m : List ℕ) (rows : List R) → is_set (Suspicion m) (map timer rows) ≡ is_among name_cmp m (map key rows)
  is_set-rows m [] = refl
  is_set-rows m (r ∷ rows) = rw (has_suspicion m r, is_set-rows m rows)

  without-rows : (m : List ℕ) (rows : List R) → without_timer (Suspicion m) (map timer rows) ≡ map timer (without_row name_cmp key m rows)
  without-rows m [] = refl
  without-rows m (r ∷ rows) = elim (cases_Bool (is_same name_cmp (key r) m)) [
    | inl e ↦ rw (has_suspicion m r, e) (without-rows m rows)
    | inr e ↦ rw (has_suspicion m r, e) (ap (λ ts. timer r ∷ ts) (without-rows m rows))
  ]

  -- no row gives the timer of the start of a round
  pub rows-not_start : (rows : List R) → is_set RoundStart (map timer rows) ≡ false
  rows-not_start [] = refl
  rows-not_start (r ∷ rows) =
      let other : has_id RoundStart (timer r) ≡ false = ap (λ id. is_same name_cmp (id_key id) (id_key RoundStart)) (ids r) in
      rw other (rows-not_start rows)

  without-firsts : (m : List ℕ) (first : List Timer) (rows : List R) → NoSuspicion first
      → without_timer (Suspicion m) (in_turn (first ++ map timer rows)) ≡ in_turn (first ++ map timer (without_row name_cmp key m rows))
  without-firsts m first rows none =
      without-in_turn (Suspicion m) (first ++ map timer rows)
      ∙ ap in_turn (filter-append (λ t. not (has_id (Suspicion m) t)) first (map timer rows))
      ∙ ap (λ ts. in_turn (ts ++ without_timer (Suspicion m) (map timer rows))) (without-none (Suspicion m) first (none m))
      ∙ ap (λ ts. in_turn (first ++ ts)) (without-rows m rows)

  among-rows : (k : List ℕ) (first : List Timer) (rows : List R)
      → is_among name_cmp k (map timer_key (first ++ map timer rows)) ≡ (is_among name_cmp k (map timer_key first) || is_among name_cmp k (map (λ r. timer_key (timer r)) rows))
  among-rows k first rows =
      ap (is_among name_cmp k) (map-append timer_key first (map timer rows))
      ∙ list_any-append (λ m. is_same name_cmp m k) (map timer_key first) (map timer_key (map timer rows))
      ∙ ap (λ ks. is_among name_cmp k (map timer_key first) || is_among name_cmp k ks) (map-map timer rows)

  -- one row is taken out: its suspicion's timer is cancelled
  pub firsts-without : (m : List ℕ) (first : List Timer) (rows : List R) → NoSuspicion first
      → in_turn (first ++ map timer (without_row name_cmp key m rows)) ≡ without_timer (Suspicion m) (in_turn (first ++ map timer rows))
  firsts-without m first rows none = sym (without-firsts m first rows none)

  -- one row is put: its timer takes the place of its suspicion's
  pub firsts-put : (r : R) (first : List Timer) (rows : List R) → NoSuspicion first → Rises name_cmp (map key rows)
      → in_turn (first ++ map timer (put_row name_cmp key r rows)) ≡ with_timer (timer r) (without_timer (Suspicion (key r)) (in_turn (first ++ map timer rows)))
  unfolding in_turn
  firsts-put r first rows none rises =
      in_turn-same (first ++ map timer (put_row name_cmp key r rows)) (timer r ∷ first ++ map timer left) same
      ∙ ap (with_timer (timer r)) (firsts-without (key r) first rows none)
    where
      left : List R
      left = without_row name_cmp key (key r) rows

      same : (k : List ℕ) → is_among name_cmp k (map timer_key (first ++ map timer (put_row name_cmp key r rows))) ≡ is_among name_cmp k (map timer_key (timer r ∷ first ++ map timer (without_row name_cmp key (key r) rows)))
      same k =
          among-rows k first (put_row name_cmp key r rows)
          ∙ ap (λ b. is_among name_cmp k (map timer_key first) || b) (among-put_row key (λ x. timer_key (timer x)) k r rows rises)
          ∙ or_swap (is_among name_cmp k (map timer_key first)) (is_same name_cmp (timer_key (timer r)) k) (is_among name_cmp k (map (λ x. timer_key (timer x)) (without_row name_cmp key (key r) rows)))
          ∙ ap (λ b. is_same name_cmp (timer_key (timer r)) k || b) (sym (among-rows k first (without_row name_cmp key (key r) rows)))

  -- the same behind a round's start
  pub pending-put : (r : R) (t : Timer) (rows : List R) → t.id ≡ RoundStart → Rises name_cmp (map key rows)
      → in_turn (t ∷ map timer (put_row name_cmp key r rows)) ≡ with_timer (timer r) (without_timer (Suspicion (key r)) (in_turn (t ∷ map timer rows)))
  pending-put r t rows e rises = firsts-put r (t ∷ []) rows (no_suspicion-start t e) rises

  pub pending-without : (m : List ℕ) (t : Timer) (rows : List R) → t.id ≡ RoundStart
      → in_turn (t ∷ map timer (without_row name_cmp key m rows)) ≡ without_timer (Suspicion m) (in_turn (t ∷ map timer rows))
  pending-without m t rows e = firsts-without m (t ∷ []) rows (no_suspicion-start t e)

  -- another start of a round takes the place of the one before
  pub pending-first : (t u : Timer) (rows : List R) → t.id ≡ RoundStart → u.id ≡ RoundStart
      → in_turn (u ∷ map timer rows) ≡ with_timer u (without_timer RoundStart (in_turn (t ∷ map timer rows)))
  unfolding in_turn
  pending-first t u rows s e = ap (with_timer u) (sym (without-in_turn RoundStart (t ∷ map timer rows) ∙ ap in_turn left))
    where
      left : without_timer RoundStart (t ∷ map timer rows) ≡ map timer rows
      left = rw (has_own RoundStart t s) (without-none RoundStart (map timer rows) (rows-not_start rows))

  -- and with no first timer
  pub timers-put : (r : R) (rows : List R) → Rises name_cmp (map key rows)
      → in_turn (map timer (put_row name_cmp key r rows)) ≡ with_timer (timer r) (without_timer (Suspicion (key r)) (in_turn (map timer rows)))
  timers-put r rows rises = firsts-put r [] rows no_suspicion-nil rises

  pub timers-without : (m : List ℕ) (rows : List R) → in_turn (map timer (without_row name_cmp key m rows)) ≡ without_timer (Suspicion m) (in_turn (map timer rows))
  timers-without m rows = firsts-without m [] rows no_suspicion-nil

  -- which suspicions' timers are pending
  pub is_set-pending : (m : List ℕ) (t : Timer) (rows : List R) → t.id ≡ RoundStart → is_set (Suspicion m) (in_turn (t ∷ map timer rows)) ≡ is_among name_cmp m (map key rows)
  is_set-pending m t rows e =
      is_set-in_turn (Suspicion m) (t ∷ map timer rows)
      ∙ ap (λ id. is_same name_cmp (id_key id) (id_key (Suspicion m)) || is_set (Suspicion m) (map timer rows)) e
      ∙ is_set-rows m rows
