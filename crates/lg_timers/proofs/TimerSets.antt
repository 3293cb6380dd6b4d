-- Sets of timers as contracts see them.
use Rattle.std.proofs.Common.{◌≡◌, ℕ, Bool, false, not, ◌||◌, List, [], ◌∷◌, map, Option, Some, None, refl, sym, subst, inl, inr}
use Rattle.std.specs.Prelude.{filter}
use Rattle.std.proofs.lemmas.Bool.{cases_Bool}
use Rattle.lg_rules.specs.Meaning.Rows.{name_cmp, is_among, Rises}
use Rattle.lg_rules.proofs.KeyOrder.{names_order}
use Rattle.lg_rules.proofs.Rises.{rises-put, same_members}
use Rattle.lg_timers.specs.declared.timer.Timer.{Timer}
use Rattle.lg_timers.specs.declared.timer.TimerId.{TimerId}
use Rattle.lg_timers.specs.Meaning.Timers.{timer_key, has_id, is_set, with_timer, without_timer, timers_left}
use Rattle.lg_timers.specs.Support.InTurn.{IsTimerSet}
use Rattle.lg_timers.proofs.KeyLaws.{not_set, timer_is}
use Rattle.lg_timers.proofs.TurnLaws.{IsFresh, map-with_timer, any-with_timer, distinct-with_timer}
use Rattle.lg_timers.proofs.CancelLaws.{above_filter, distinct-filter}

-- no timer is a set
pub set-nil : IsTimerSet []
set-nil = record { rises = tt; distinct = refl }

pub apart_fresh : (t : Timer) (timers : List Timer) → is_set t.id timers ≡ false → IsFresh t timers
apart_fresh t timers apart = record { apart = not_set t timers apart }

-- a set with a timer of another id is one
pub set-with : (t : Timer) (timers : List Timer) → IsTimerSet timers → is_set t.id timers ≡ false → IsTimerSet (with_timer t timers)
set-with t timers s apart =
    record {
      rises = subst (Rises name_cmp) (sym (map-with_timer t timers)) (rises-put names_order (timer_key t) (map timer_key timers) s.rises);
      distinct = distinct-with_timer t timers (apart_fresh t timers apart) apart s.distinct;
    }

pub rises_filter : (p : Timer → Bool) (timers : List Timer) → Rises name_cmp (map timer_key timers) → Rises name_cmp (map timer_key (filter p timers))
rises_filter p [] r = tt
rises_filter p (t ∷ timers) r = elim (cases_Bool (p t)) [
  | inl kept ↦ rw kept (above_filter p (timer_key t) timers r.0, rises_filter p timers r.1)
  | inr gone ↦ rw gone (rises_filter p timers r.1)
]

-- what is left of a set is one
pub set-without : (id : TimerId) (timers : List Timer) → IsTimerSet timers → IsTimerSet (without_timer id timers)
set-without id timers s =
    let p : Timer → Bool = λ t. not (has_id id t) in
    record { rises = rises_filter p timers s.rises; distinct = distinct-filter p timers s.distinct }

pub set-left_by : (taken : Option Timer) (timers : List Timer) → IsTimerSet timers → IsTimerSet (timers_left taken timers)
set-left_by None timers s = s
set-left_by (Some t) timers s = set-without t.id timers s

-- which ids are set, once a timer of another is
pub is_set-with : (id : TimerId) (t : Timer) (timers : List Timer) → is_set t.id timers ≡ false → is_set id (with_timer t timers) ≡ (has_id id t || is_set id timers)
is_set-with id t timers apart = any-with_timer (has_id id) t timers (apart_fresh t timers apart)

-- once cancelled, an id isn't set
pub is_set-without : (id : TimerId) (timers : List Timer) → is_set id (without_timer id timers) ≡ false
is_set-without id [] = refl
is_set-without id (t ∷ timers) = elim (cases_Bool (has_id id t)) [
  | inl gone ↦ rw gone (is_set-without id timers)
  | inr kept ↦ rw (kept, kept) (is_set-without id timers)
]

pub same_keys : (ss ts : List Timer) → map timer_key ss ≡ map timer_key ts → ss ≡ ts
same_keys [] [] e = refl
same_keys [] (t ∷ ts) e = absurd cc
same_keys (s ∷ ss) [] e = absurd cc
same_keys (s ∷ ss) (t ∷ ts) e =
    let first : timer_key s ≡ timer_key t = cc in
    let others : map timer_key ss ≡ map timer_key ts = cc in
    let one = timer_is s t first in
    let rest = same_keys ss ts others in
    λ i. one i ∷ rest i

-- two sets with the same timers are one
pub same_sets : (ss ts : List Timer) → IsTimerSet ss → IsTimerSet ts → ((k : List ℕ) → is_among name_cmp k (map timer_key ss) ≡ is_among name_cmp k (map timer_key ts)) → ss ≡ ts
same_sets ss ts s t same = same_keys ss ts (same_members names_order (map timer_key ss) (map timer_key ts) s.rises t.rises same)
