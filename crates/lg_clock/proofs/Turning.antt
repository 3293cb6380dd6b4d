-- What a turn changes of the last turns, by the list of all readings.
use Rattle.std.proofs.Common.{◌≡◌, ℕ, List, [], ◌∷◌, Option, Some, None, if◌then◌else◌, refl}
use Rattle.lg_clock.specs.declared.clock.Loop.{Loop}
use Rattle.lg_clock.specs.declared.clock.Loop.TheVariants.{Receiving, Ticking}
use Rattle.lg_clock.specs.Meaning.Steady.{Handed, Reading, pause_end, turn_at, is_turn_of, latest_turn, first_of, first_turn, last_turns_by, last_turns_of, readings, steady_after, moment_given}
use Rattle.lg_clock.specs.Support.Steady.{turns_with, turned_at}

-- if neither loop has begun a turn, this one hasn't
none_turned : (loop : Loop) (past : List Reading) → first_turn past ≡ None → latest_turn loop past ≡ None
none_turned loop [] e = refl
none_turned loop (r ∷ past) e = by_cases r.handed.turned (first_turn past) e (none_turned loop past)
  where
    by_cases : (turned : Option Loop) (first : Option ℕ) → first_of first turned (turn_at r) ≡ None → (first ≡ None → latest_turn loop past ≡ None) → (if is_turn_of turned loop then Some (turn_at r) else latest_turn loop past) ≡ None
    by_cases None None e rest = rest refl
    by_cases (Some of) None e rest = absurd cc
    by_cases None (Some first) e rest = absurd cc
    by_cases (Some of) (Some first) e rest = absurd cc

-- a turn is the last one of its loop, and the first turn is taken as one of both
pub turn_is_last : (machine pause moment : ℕ) (loop : Loop) (past : List Reading) → last_turns_of (record { handed = record { machine = machine; turned = Some loop; pause = pause }; moment = moment } ∷ past) ≡ Some (turns_with (pause_end moment pause) loop (last_turns_of past))
turn_is_last machine pause moment loop past = by_cases loop (first_turn past) refl
  where
    last : ℕ
    last = pause_end moment pause

    by_cases : (loop : Loop) (first : Option ℕ) → first_turn past ≡ first → last_turns_by (if is_turn_of (Some loop) Receiving then Some last else latest_turn Receiving past) (if is_turn_of (Some loop) Ticking then Some last else latest_turn Ticking past) (first_of first (Some loop) last) ≡ Some (turns_with last loop (last_turns_by (latest_turn Receiving past) (latest_turn Ticking past) first))
    by_cases Receiving None e = rw (none_turned Ticking past e) refl
    by_cases Ticking None e = rw (none_turned Receiving past e) refl
    by_cases Receiving (Some first) e = refl
    by_cases Ticking (Some first) e = refl

-- a reading without a turn leaves the last turns
pub no_turn_is_last : (machine pause moment : ℕ) (past : List Reading) → last_turns_of (record { handed = record { machine = machine; turned = None; pause = pause }; moment = moment } ∷ past) ≡ last_turns_of past
no_turn_is_last machine pause moment past = by_cases (first_turn past)
  where
    last : ℕ
    last = pause_end moment pause

    by_cases : (first : Option ℕ) → last_turns_by (latest_turn Receiving past) (latest_turn Ticking past) (first_of first None last) ≡ last_turns_by (latest_turn Receiving past) (latest_turn Ticking past) first
    by_cases None = refl
    by_cases (Some first) = refl

-- a clock in which a loop begins a turn or a pause is after that, too
pub turned_is : (machine pause : ℕ) (loop : Loop) (stall : ℕ) (past : List Handed) → turned_at machine loop pause (steady_after stall past) ≡ steady_after stall (record { machine = machine; turned = Some loop; pause = pause } ∷ past)
turned_is machine pause loop stall past = rw (turn_is_last machine pause (moment_given stall (readings stall past) machine) loop (readings stall past)) refl
