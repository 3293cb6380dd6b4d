-- Timers in the order in which they stand in a row, and in that in which they fire.
use Rattle.std.proofs.Common.{◌≡◌, true, false, not, IsTrue, List, ◌∷◌, length, sym, ◌∙◌, ap, subst}
use Rattle.std.specs.Prelude.{filter}
use Rattle.std.specs.List.Sorted.{IsPermutation}
use Rattle.lg_rules.proofs.RowsFound.{filter-none}
use Rattle.lg_timers.specs.declared.timer.Timer.{Timer}
use Rattle.lg_timers.specs.declared.timer.TimerId.{TimerId}
use Rattle.lg_timers.specs.Meaning.Timers.{has_id, is_set, have_distinct_ids, without_timer, in_turn}
use Rattle.lg_timers.specs.Support.InTurn.{IsTimerSet, AreTimersApart}
use Rattle.lg_timers.proofs.KeyLaws.{has_id-is}
use Rattle.lg_timers.proofs.Pending.{without-in_turn}
use Rattle.lg_timers.proofs.RowOrder.{in_turn-permutation, distinct-permutation}
use Rattle.lg_timers.proofs.TurnLaws.{any-in_turn, length-in_turn, rises-in_turn, distinct-in_turn, apart_first}

-- they are a set
pub row_set : (timers : List Timer) → AreTimersApart timers → IsTimerSet (in_turn timers)
row_set timers apart = record { rises = rises-in_turn timers; distinct = distinct-in_turn timers apart.distinct }

pub length-row : (timers : List Timer) → AreTimersApart timers → length (in_turn timers) ≡ length timers
length-row timers apart = length-in_turn timers apart.distinct

pub set-row : (id : TimerId) (timers : List Timer) → AreTimersApart timers → is_set id (in_turn timers) ≡ is_set id timers
set-row id timers apart = any-in_turn (has_id id) timers apart.distinct

-- the timer of an id stands before some others, in another order of the row
pub record IsBefore (id : TimerId) (t : Timer) (others timers : List Timer) : Type 0 where
  pub moved : IsPermutation timers (t ∷ others)
  pub named : has_id id t ≡ true

first_gone : (id : TimerId) (t : Timer) (others : List Timer) → has_id id t ≡ true → without_timer id (t ∷ others) ≡ filter (λ u. not (has_id id u)) others
first_gone id t others e = rw e

module _ (id : TimerId) (t : Timer) (others timers : List Timer) where
  front_distinct : AreTimersApart timers → IsBefore id t others timers → IsTrue (have_distinct_ids (t ∷ others))
  front_distinct apart b = distinct-permutation timers (t ∷ others) b.moved apart.distinct

  -- none of the others has the id
  pub others-lack : AreTimersApart timers → IsBefore id t others timers → is_set id others ≡ false
  others-lack apart b =
      subst (λ (i : TimerId). is_set i others ≡ false) (has_id-is id t b.named) (apart_first t others (front_distinct apart b))

  -- the others are those that are left without it
  pub others_left : AreTimersApart timers → IsBefore id t others timers → in_turn others ≡ without_timer id (in_turn timers)
  others_left apart b =
      sym (ap (without_timer id) (in_turn-permutation timers (t ∷ others) b.moved) ∙ without-in_turn id (t ∷ others) ∙ ap in_turn (first_gone id t others b.named ∙ filter-none (has_id id) others (others-lack apart b)))
