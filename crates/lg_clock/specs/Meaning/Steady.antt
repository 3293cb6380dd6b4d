-- The steady clock: the machine's clock, which leaves out the time in which one of a node's two loops began no turn
-- (this project's choice). Its stall, in milliseconds, is the most by which it passes the last turn of a loop. A loop
-- that pauses says for how long, and its last turn is then the end of the pause.
use Rattle.std.specs.Prelude.{ℕ, zero, suc, ◌+◌, ◌-◌, max, min, Bool, true, false, if◌then◌else◌}
use Rattle.std.specs.Prelude.{List, [], ◌∷◌, Option, Some, None}
use Rattle.std.specs.Option.{unwrap_or}
use Rattle.lg_clock.specs.declared.clock.Loop.{Loop}
use Rattle.lg_clock.specs.declared.clock.Loop.TheVariants.{Receiving, Ticking}
use Rattle.lg_clock.specs.declared.last_turns.LastTurns.{LastTurns}
use Rattle.lg_clock.specs.declared.last_turns.TheConstants.{LONGEST_PAUSE_MS}

-- What the clock is handed: a moment of the machine's clock, and the loop that began a turn or a pause then, if one
-- did. A pause lasts so many milliseconds. A turn counts as a pause of none.
pub record Handed : Type 0 where
  pub machine : ℕ
  pub turned : Option Loop
  pub pause : ℕ

-- a reading of the clock: what it was handed, and the moment that it gave
pub record Reading : Type 0 where
  pub handed : Handed
  pub moment : ℕ

-- Some readings stand in a list, the newest first.

-- how far the machine's clock has come: its latest moment, 0 before the first
abbrev pub machine_at : List Reading → ℕ
machine_at [] = 0
machine_at (r ∷ past) = max (machine_at past) r.handed.machine

-- the clock's moment: that of the newest reading, 0 before the first
abbrev pub moment_at : List Reading → ℕ
moment_at [] = 0
moment_at (r ∷ past) = r.moment

-- when a pause ends that begins at a moment and lasts so many milliseconds; one of more than an hour counts as an hour
abbrev pub pause_end : ℕ → ℕ → ℕ
pause_end moment pause = moment + min pause LONGEST_PAUSE_MS

-- the last turn of the loop that began a turn or a pause at a reading: the moment of the reading, or that at which the
-- pause ends
abbrev pub turn_at : Reading → ℕ
turn_at r = pause_end r.moment r.handed.pause

-- whether it is this loop that began a turn or a pause
abbrev pub is_turn_of : Option Loop → Loop → Bool
is_turn_of None loop = false
is_turn_of (Some Receiving) Receiving = true
is_turn_of (Some Receiving) Ticking = false
is_turn_of (Some Ticking) Receiving = false
is_turn_of (Some Ticking) Ticking = true

-- the last turn of a loop, if it has begun any
abbrev pub latest_turn : Loop → List Reading → Option ℕ
latest_turn loop [] = None
latest_turn loop (r ∷ past) = if is_turn_of r.handed.turned loop then Some (turn_at r) else latest_turn loop past

-- the first turn, from that of the turns before a reading, if there were any, and from the one that began at the
-- reading
abbrev pub first_of : Option ℕ → Option Loop → ℕ → Option ℕ
first_of (Some first) turned moment = Some first
first_of None (Some loop) moment = Some moment
first_of None None moment = None

-- the first turn of a loop, of whichever of the two
abbrev pub first_turn : List Reading → Option ℕ
first_turn [] = None
first_turn (r ∷ past) = first_of (first_turn past) r.handed.turned (turn_at r)

-- the last turns of both loops, from the latest turn of each and the first turn of either
abbrev pub last_turns_by : Option ℕ → Option ℕ → Option ℕ → Option LastTurns
last_turns_by receiving ticking None = None
last_turns_by receiving ticking (Some first) =
    Some (record { receiving = unwrap_or receiving first; ticking = unwrap_or ticking first })

-- the last turns of both loops after some readings. There are none before the first turn. From then on the last turn
-- of a loop is the moment at which it last began one, or the end of the pause that it has begun since. If it hasn't
-- begun any, it is that first turn.
abbrev pub last_turns_of : List Reading → Option LastTurns
last_turns_of past = last_turns_by (latest_turn Receiving past) (latest_turn Ticking past) (first_turn past)

-- the older of the two last turns
abbrev pub older_turn : LastTurns → ℕ
older_turn turns = min turns.receiving turns.ticking

-- a moment, or a stall after the older of the last turns if that is earlier. A stall of 0 holds nothing back. Nor does
-- any stall before the first turn.
abbrev pub held_back : ℕ → Option LastTurns → ℕ → ℕ
held_back zero turns moment = moment
held_back (suc k) None moment = moment
held_back (suc k) (Some turns) moment = min moment (older_turn turns + suc k)

-- the moment that the clock gives after some readings, if the machine's clock shows this moment. It goes on by as much
-- as the machine's clock did, unless that would pass the older of the last turns by more than a stall. Then it is a
-- stall after that one. If the machine's clock goes back, no time has passed.
abbrev pub moment_given : ℕ → List Reading → ℕ → ℕ
moment_given stall past machine =
    held_back stall (last_turns_of past) (moment_at past + (machine - machine_at past))

-- some readings, and the one that the clock of this stall gives next for what it is handed
abbrev pub with_reading : ℕ → Handed → List Reading → List Reading
with_reading stall h past = record { handed = h; moment = moment_given stall past h.machine } ∷ past

-- all readings that a clock of this stall gives for what it is handed
abbrev pub readings : ℕ → List Handed → List Reading
readings stall [] = []
readings stall (h ∷ past) = with_reading stall h (readings stall past)

-- what a contract sees of a steady clock: its stall, how far the machine's clock has come, its moment and the last
-- turns of both loops
pub record SteadyValue : Type 0 where
  pub stall : ℕ
  pub machine : ℕ
  pub moment : ℕ
  pub turns : Option LastTurns

-- a clock of this stall that gave some readings
abbrev pub steady_of : ℕ → List Reading → SteadyValue
steady_of stall past =
    record { stall = stall; machine = machine_at past; moment = moment_at past; turns = last_turns_of past }

-- a clock of this stall that was handed this
abbrev pub steady_after : ℕ → List Handed → SteadyValue
steady_after stall handed = steady_of stall (readings stall handed)
