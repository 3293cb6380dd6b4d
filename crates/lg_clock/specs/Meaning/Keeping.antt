-- How a steady clock keeps time: what holds of each of its readings.
use Rattle.std.specs.Prelude.{ℕ, zero, suc, ◌≡◌, ◌≤◌, ◌<◌, ◌+◌, ◌-◌, List, [], ◌∷◌, Option, Some, None}
use Rattle.lg_clock.specs.declared.last_turns.LastTurns.{LastTurns}
use Rattle.lg_clock.specs.Meaning.Steady.{Reading, SteadyValue, machine_at, moment_at}
use Rattle.lg_clock.specs.Meaning.Steady.{last_turns_of, older_turn, steady_of}

-- the moment is at most a stall after the older of the last turns. It is that of the machine's clock if the stall is 0,
-- and before the first turn.
abbrev pub IsWithinStall : SteadyValue → Type 0
IsWithinStall v = within v.stall v.turns
  where
    within : ℕ → Option LastTurns → Type 0
    within zero turns = v.moment ≡ v.machine
    within (suc k) None = v.moment ≡ v.machine
    within (suc k) (Some turns) = v.moment ≤ older_turn turns + suc k

-- a moment is just a stall after the older of the last turns
abbrev pub IsAtStall : ℕ → Option LastTurns → ℕ → Type 0
IsAtStall stall None moment = ⊥
IsAtStall stall (Some turns) moment = moment ≡ older_turn turns + stall

-- what holds of a reading after some others. The clock doesn't go back. It goes on by at most as much as the machine's
-- clock did, and by less only if it is then just a stall after the older of the last turns that there were. And it is
-- within its stall.
pub record IsSteady (stall : ℕ) (r : Reading) (past : List Reading) : Type 0 where
  pub never_back : moment_at past ≤ r.moment
  pub never_faster : r.moment ≤ moment_at past + (machine_at (r ∷ past) - machine_at past)
  pub slower_at_stall : r.moment < moment_at past + (machine_at (r ∷ past) - machine_at past)
      → IsAtStall stall (last_turns_of past) r.moment
  pub within_stall : IsWithinStall (steady_of stall (r ∷ past))

-- this holds of each of some readings
abbrev pub AreSteady : ℕ → List Reading → Type 0
AreSteady stall [] = Unit {0}
AreSteady stall (r ∷ past) = IsSteady stall r past × AreSteady stall past
