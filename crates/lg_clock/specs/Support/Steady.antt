-- A steady clock by its value: what it is handed changes it so.
use Rattle.std.specs.Prelude.{ℕ, ◌≤◌, ◌+◌, ◌-◌, max, Option, Some, None}
use Rattle.lg_timing.specs.declared.moment.TheConstants.{MAX_MOMENT}
use Rattle.lg_clock.specs.declared.clock.Loop.{Loop}
use Rattle.lg_clock.specs.declared.clock.Loop.TheVariants.{Receiving, Ticking}
use Rattle.lg_clock.specs.declared.last_turns.LastTurns.{LastTurns}
use Rattle.lg_clock.specs.Meaning.Keeping.{IsWithinStall}
use Rattle.lg_clock.specs.Meaning.Steady.{SteadyValue, held_back, pause_end}

-- the last turns once this is the last turn of a loop. The first one of either loop is taken as that of both.
abbrev pub turns_with : ℕ → Loop → Option LastTurns → LastTurns
turns_with moment loop None = record { receiving = moment; ticking = moment }
turns_with moment Receiving (Some turns) = record { receiving = moment; ticking = turns.ticking }
turns_with moment Ticking (Some turns) = record { receiving = turns.receiving; ticking = moment }

-- the clock after it was read at a moment of the machine
abbrev pub read_at : ℕ → SteadyValue → SteadyValue
read_at machine v = record {
  stall = v.stall;
  machine = max v.machine machine;
  moment = held_back v.stall v.turns (v.moment + (machine - v.machine));
  turns = v.turns;
}

-- the clock after a loop has begun a pause of so many milliseconds, or a turn, which counts as a pause of none
abbrev pub turned_at : ℕ → Loop → ℕ → SteadyValue → SteadyValue
turned_at machine loop pause v =
    let now = read_at machine v in
    record {
      stall = now.stall;
      machine = now.machine;
      moment = now.moment;
      turns = Some (turns_with (pause_end now.moment pause) loop now.turns);
    }

-- what holds of every clock
pub record IsInOrder (v : SteadyValue) : Type 0 where
  pub behind : v.moment ≤ v.machine
  pub within : v.machine ≤ MAX_MOMENT
  pub held : IsWithinStall v
