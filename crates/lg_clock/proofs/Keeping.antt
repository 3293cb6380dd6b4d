-- Each reading of a steady clock is steady.
use Rattle.std.proofs.Common.{◌≤◌, ◌<◌, ◌+◌, ◌-◌, ℕ, zero, suc, max, List, [], ◌∷◌, Option, Some, None, refl, arith}
use Rattle.lg_clock.proofs.Turning.{no_turn_is_last, turn_is_last}
use Rattle.lg_clock.specs.declared.clock.Loop.{Loop}
use Rattle.lg_clock.specs.declared.clock.Loop.TheVariants.{Receiving, Ticking}
use Rattle.lg_clock.specs.declared.last_turns.LastTurns.{LastTurns}
use Rattle.lg_clock.specs.Meaning.Keeping.{IsWithinStall, IsAtStall, IsSteady, AreSteady}
use Rattle.lg_clock.specs.Meaning.Steady.{Handed, Reading, SteadyValue, machine_at, moment_at, last_turns_of, held_back, moment_given, pause_end, readings, steady_of}
use Rattle.lg_clock.specs.Support.Steady.{turns_with}

-- a clock, by its parts
abbrev by_parts : ℕ → ℕ → ℕ → Option LastTurns → SteadyValue
by_parts stall machine moment turns = record { stall = stall; machine = machine; moment = moment; turns = turns }

-- the next moment of a clock, if the machine's clock shows a moment
record IsNext (stall machine moment : ℕ) (turns : Option LastTurns) (shown next : ℕ) : Type 0 where
  back : moment ≤ next
  faster : next ≤ moment + (max machine shown - machine)
  slower : next < moment + (max machine shown - machine) → IsAtStall stall turns next
  within : IsWithinStall (by_parts stall (max machine shown) next turns)

is_next : (stall machine moment : ℕ) (turns : Option LastTurns) (shown : ℕ) → IsWithinStall (by_parts stall machine moment turns) → IsNext stall machine moment turns shown (held_back stall turns (moment + (shown - machine)))
is_next zero machine moment turns shown h = record {
  back = omega arith;
  faster = omega arith;
  slower = λ less. absurd (omega arith);
  within = omega arith;
}
is_next (suc k) machine moment None shown h = record {
  back = omega arith;
  faster = omega arith;
  slower = λ less. absurd (omega arith);
  within = omega arith;
}
is_next (suc k) machine moment (Some turns) shown h = record {
  back = omega arith;
  faster = omega arith;
  slower = λ less. omega arith;
  within = omega arith;
}

-- a turn or a pause leaves the clock within its stall, if its end isn't before the moment
turned_within : (stall machine moment last : ℕ) (loop : Loop) (turns : Option LastTurns) → moment ≤ last → IsWithinStall (by_parts stall machine moment turns) → IsWithinStall (by_parts stall machine moment (Some (turns_with last loop turns)))
turned_within zero machine moment last loop turns later h = h
turned_within (suc k) machine moment last Receiving None later h = omega arith
turned_within (suc k) machine moment last Ticking None later h = omega arith
turned_within (suc k) machine moment last Receiving (Some turns) later h = omega arith
turned_within (suc k) machine moment last Ticking (Some turns) later h = omega arith

-- a reading leaves the clock within its stall
reading_within : (stall : ℕ) (h : Handed) (moment : ℕ) (past : List Reading) → IsWithinStall (by_parts stall (max (machine_at past) h.machine) moment (last_turns_of past)) → IsWithinStall (steady_of stall (record { handed = h; moment = moment } ∷ past))
reading_within stall h moment past w = by_turn h.turned
  where
    by_turn : (turned : Option Loop) → IsWithinStall (steady_of stall (record { handed = record { machine = h.machine; turned = turned; pause = h.pause }; moment = moment } ∷ past))
    by_turn None = rw (no_turn_is_last h.machine h.pause moment past) w
    by_turn (Some loop) = rw (turn_is_last h.machine h.pause moment loop past) (turned_within stall (max (machine_at past) h.machine) moment (pause_end moment h.pause) loop (last_turns_of past) (omega arith) w)

-- a clock that gave steady readings is within its stall
within_all : (stall : ℕ) (past : List Reading) → AreSteady stall past → IsWithinStall (steady_of stall past)
within_all zero [] steady = refl
within_all (suc k) [] steady = refl
within_all stall (r ∷ past) steady = steady.0.within_stall

-- the next reading of a clock is steady, if it is within its stall
next_steady : (stall : ℕ) (h : Handed) (past : List Reading) → IsWithinStall (steady_of stall past) → IsSteady stall (record { handed = h; moment = moment_given stall past h.machine }) past
next_steady stall h past w =
    let next = is_next stall (machine_at past) (moment_at past) (last_turns_of past) h.machine w in
    record {
      never_back = next.back;
      never_faster = next.faster;
      slower_at_stall = next.slower;
      within_stall = reading_within stall h (moment_given stall past h.machine) past next.within;
    }

-- all readings are steady
pub all_steady : (stall : ℕ) (handed : List Handed) → AreSteady stall (readings stall handed)
all_steady stall [] = tt
all_steady stall (h ∷ past) =
    let rest = all_steady stall past in
    (next_steady stall h (readings stall past) (within_all stall (readings stall past) rest), rest)
