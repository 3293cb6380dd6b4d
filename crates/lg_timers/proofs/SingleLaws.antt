-- Timers in the order in which they fire, with one more of an id that none of them has, if its deadline is there.
use Rattle.std.proofs.Common.{◌≡◌, ℕ, ◌≤◌, false, not, ◌||◌, List, [], ◌∷◌, length, map, Option, Some, None, refl, sym, ◌∙◌, ap, subst, arith}
use Rattle.std.specs.Prelude.{is_some}
use Rattle.lg_rules.specs.Meaning.Rows.{name_cmp, is_same, is_among, Rises}
use Rattle.lg_rules.proofs.Cases.{Below, Tied, Above, compared}
use Rattle.lg_rules.proofs.KeyOrder.{names_order, same_key}
use Rattle.lg_rules.proofs.Rises.{rises-put, among-put}
use Rattle.lg_timers.specs.declared.timer.Timer.{Timer}
use Rattle.lg_timers.specs.declared.timer.TimerId.{TimerId}
use Rattle.lg_timers.specs.Meaning.Timers.{id_key, timer_key, timer_cmp, has_id, is_set, with_timer, without_timer, least_of, is_forget, first_forget}
use Rattle.lg_timers.specs.Support.InTurn.{IsTimerSet, earlier}
use Rattle.lg_timers.specs.Support.Singles.{timer_of, first_of_both, with_single}
use Rattle.lg_timers.proofs.CancelLaws.{filter-with_passing, filter-with_failing}
use Rattle.lg_timers.proofs.Forgetting.{forgets}
use Rattle.lg_timers.proofs.Pending.{or_swap, rising_is, any-with, without-none}
use Rattle.lg_timers.proofs.TimerSets.{set-with, apart_fresh}
use Rattle.lg_timers.proofs.TurnLaws.{map-with_timer, least-with_timer}

pub rises-with : (t : Timer) (timers : List Timer) → Rises name_cmp (map timer_key timers) → Rises name_cmp (map timer_key (with_timer t timers))
rises-with t timers r = subst (Rises name_cmp) (sym (map-with_timer t timers)) (rises-put names_order (timer_key t) (map timer_key timers) r)

among-with : (k : List ℕ) (t : Timer) (timers : List Timer) → is_among name_cmp k (map timer_key (with_timer t timers)) ≡ (is_same name_cmp (timer_key t) k || is_among name_cmp k (map timer_key timers))
among-with k t timers = ap (is_among name_cmp k) (map-with_timer t timers) ∙ among-put names_order k (timer_key t) (map timer_key timers)

-- two timers are set in either order
pub with-swap : (s t : Timer) (timers : List Timer) → Rises name_cmp (map timer_key timers) → with_timer s (with_timer t timers) ≡ with_timer t (with_timer s timers)
with-swap s t timers r =
    rising_is (with_timer s (with_timer t timers)) (with_timer t (with_timer s timers))
    (rises-with s (with_timer t timers) (rises-with t timers r))
    (rises-with t (with_timer s timers) (rises-with s timers r))
    (λ k. both s t k ∙ or_swap (is_same name_cmp (timer_key s) k) (is_same name_cmp (timer_key t) k) (is_among name_cmp k (map timer_key timers)) ∙ sym (both t s k))
  where
    both : (u v : Timer) (k : List ℕ) → is_among name_cmp k (map timer_key (with_timer u (with_timer v timers))) ≡ (is_same name_cmp (timer_key u) k || (is_same name_cmp (timer_key v) k || is_among name_cmp k (map timer_key timers)))
    both u v k = among-with k u (with_timer v timers) ∙ ap (λ b. is_same name_cmp (timer_key u) k || b) (among-with k v timers)

length-with : (t : Timer) (timers : List Timer) → length timers ≤ length (with_timer t timers)
length-with t [] = omega arith
length-with t (u ∷ timers) = elim (compared (timer_cmp t u)) [
  | Below l ↦ rw l (omega arith)
  | Tied e ↦ rw e (omega arith)
  | Above g ↦ rw g (omega (arith, length-with t timers))
]

-- the first timer, once one more is set
pub least-with : (t : Timer) (timers : List Timer) → least_of (with_timer t timers) ≡ first_of_both (least_of timers) (Some t)
least-with t timers = least-with_timer t timers ∙ is (least_of timers)
  where
    is : (o : Option Timer) → Some (earlier o t) ≡ first_of_both o (Some t)
    is None = refl
    is (Some s) = refl

pub first_of_both-none : (o : Option Timer) → first_of_both o None ≡ o
first_of_both-none None = refl
first_of_both-none (Some s) = refl

-- the first of timers doesn't depend on their order
pub first_of_both-swap : (a b : Option Timer) → first_of_both a b ≡ first_of_both b a
first_of_both-swap None b = sym (first_of_both-none b)
first_of_both-swap (Some a) None = refl
first_of_both-swap (Some a) (Some b) = sym (least-with b (a ∷ [])) ∙ ap least_of (with-swap b a [] tt) ∙ least-with a (b ∷ [])

pub first_of_both-group : (a b c : Option Timer) → first_of_both (first_of_both a b) c ≡ first_of_both a (first_of_both b c)
first_of_both-group None b c = refl
first_of_both-group (Some a) None c = refl
first_of_both-group (Some a) (Some b) None = refl
first_of_both-group (Some a) (Some b) (Some c) =
    ap (λ o. first_of_both o (Some c)) (sym (least-with b (a ∷ [])))
    ∙ sym (least-with c (with_timer b (a ∷ [])))
    ∙ ap least_of (ap (with_timer c) (with-swap b a [] tt) ∙ with-swap c a (b ∷ []) (tt, tt))
    ∙ least-with a (with_timer c (b ∷ []))
    ∙ ap (λ o. first_of_both o (Some a)) (least-with c (b ∷ []))
    ∙ first_of_both-swap (first_of_both (Some b) (Some c)) (Some a)

pub rises-single : (id : TimerId) (d : Option ℕ) (timers : List Timer) → Rises name_cmp (map timer_key timers) → Rises name_cmp (map timer_key (with_single id d timers))
unfolding with_single
rises-single id None timers r = r
rises-single id (Some d) timers r = rises-with (record { deadline = d; id = id }) timers r

pub set-single : (id : TimerId) (d : Option ℕ) (timers : List Timer) → IsTimerSet timers → is_set id timers ≡ false → IsTimerSet (with_single id d timers)
unfolding with_single
set-single id None timers s apart = s
set-single id (Some d) timers s apart = set-with (record { deadline = d; id = id }) timers s apart

-- whether another id is set, and whether this one is
pub is_set-single : (j id : TimerId) (d : Option ℕ) (timers : List Timer) → is_same name_cmp (id_key id) (id_key j) ≡ false → is_set j (with_single id d timers) ≡ is_set j timers
unfolding with_single
is_set-single j id None timers other = refl
is_set-single j id (Some d) timers other = any-with (has_id j) (record { deadline = d; id = id }) timers ∙ ap (λ b. b || is_set j timers) other

pub is_set-own : (id : TimerId) (d : Option ℕ) (timers : List Timer) → is_set id timers ≡ false → is_set id (with_single id d timers) ≡ is_some d
unfolding with_single
is_set-own id None timers apart = apart
is_set-own id (Some d) timers apart =
    any-with (has_id id) (record { deadline = d; id = id }) timers ∙ ap (λ b. b || is_set id timers) (same_key names_order (id_key id) (id_key id) refl)

-- the timer of another id is cancelled, or that of this one
pub without-single : (j id : TimerId) (d : Option ℕ) (timers : List Timer) → is_same name_cmp (id_key id) (id_key j) ≡ false → IsTimerSet timers → is_set id timers ≡ false
    → without_timer j (with_single id d timers) ≡ with_single id d (without_timer j timers)
unfolding with_single
without-single j id None timers other s apart = refl
without-single j id (Some d) timers other s apart =
    let t : Timer = record { deadline = d; id = id } in
    filter-with_passing (λ u. not (has_id j u)) t timers (ap not other) s.rises (apart_fresh t timers apart)

pub without-own : (id : TimerId) (d : Option ℕ) (timers : List Timer) → is_set id timers ≡ false → without_timer id (with_single id d timers) ≡ timers
unfolding with_single
without-own id None timers apart = without-none id timers apart
without-own id (Some d) timers apart =
    let t : Timer = record { deadline = d; id = id } in
    filter-with_failing (λ u. not (has_id id u)) t timers (ap not (same_key names_order (id_key id) (id_key id) refl)) (apart_fresh t timers apart)
    ∙ without-none id timers apart

-- a timer is set before or after it
pub with-single : (t : Timer) (id : TimerId) (d : Option ℕ) (timers : List Timer) → Rises name_cmp (map timer_key timers) → with_timer t (with_single id d timers) ≡ with_single id d (with_timer t timers)
unfolding with_single
with-single t id None timers r = refl
with-single t id (Some d) timers r = with-swap t (record { deadline = d; id = id }) timers r

pub least-single : (id : TimerId) (d : Option ℕ) (timers : List Timer) → least_of (with_single id d timers) ≡ first_of_both (least_of timers) (timer_of id d)
unfolding with_single
least-single id None timers = sym (first_of_both-none (least_of timers))
least-single id (Some d) timers = least-with (record { deadline = d; id = id }) timers

-- one of another kind changes nothing about which member is forgotten first
pub forget-single : (id : TimerId) (d : Option ℕ) (timers : List Timer) → is_forget id ≡ false → is_set id timers ≡ false → first_forget (with_single id d timers) ≡ first_forget timers
unfolding with_single
forget-single id None timers other apart = refl
forget-single id (Some d) timers other apart =
    let t : Timer = record { deadline = d; id = id } in
    ap least_of (filter-with_failing forgets t timers other (apart_fresh t timers apart))

pub length-single : (id : TimerId) (d : Option ℕ) (timers : List Timer) → length timers ≤ length (with_single id d timers)
unfolding with_single
length-single id None timers = omega arith
length-single id (Some d) timers = length-with (record { deadline = d; id = id }) timers
