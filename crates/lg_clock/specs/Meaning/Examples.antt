-- Worked rows: what the definitions give for some turns and readings. Each list has the latest first.
use Rattle.std.specs.Prelude.{◌≡◌, ℕ, zero, suc, ◌+◌, ◌*◌, List, [], ◌∷◌, ◌++◌, map, Some, None, refl}
use Rattle.lg_clock.specs.declared.clock.Loop.{Loop}
use Rattle.lg_clock.specs.declared.clock.Loop.TheVariants.{Receiving, Ticking}
use Rattle.lg_clock.specs.Meaning.Steady.{Handed, machine_at, moment_at, readings}

-- the clock is read
abbrev read : ℕ → Handed
read machine = record { machine = machine; turned = None; pause = 0 }

-- a loop begins a turn
abbrev turn : Loop → ℕ → Handed
turn loop machine = record { machine = machine; turned = Some loop; pause = 0 }

-- a loop begins a pause
abbrev pause : Loop → ℕ → ℕ → Handed
pause loop ms machine = record { machine = machine; turned = Some loop; pause = ms }

-- both loops begin this many turns, one each 20 ms
abbrev both_turning : ℕ → List Handed
both_turning zero = []
both_turning (suc n) = turn Receiving (20 * suc n) ∷ turn Ticking (20 * suc n) ∷ both_turning n

-- the receiving loop alone begins this many turns, one each 20 ms from 40 ms on
abbrev receiving_turns : ℕ → List Handed
receiving_turns zero = []
receiving_turns (suc n) = turn Receiving (20 + 20 * suc n) ∷ receiving_turns n

-- the moments that a clock of this stall gives
abbrev moments : ℕ → List Handed → List ℕ
moments stall handed = map (λ r. r.moment) (readings stall handed)

-- both loops turn for a second: the clock is the machine's
for_a_second : moment_at (readings 100 (both_turning 50)) ≡ 1000
for_a_second = refl

for_a_second_of_the_machine : machine_at (readings 100 (both_turning 50)) ≡ 1000
for_a_second_of_the_machine = refl

-- the process stops for 4,000 ms after the turns at 20 ms. Both loops turn again, and once more 20 ms later.
abbrev stopped : List Handed
stopped = turn Receiving 4040 ∷ turn Ticking 4040 ∷ turn Receiving 4020 ∷ turn Ticking 4020 ∷ both_turning 1

-- the clock goes on by 100 ms, and leaves out the other 3,900 ms
stopped_moments : moments 100 stopped ≡ 140 ∷ 140 ∷ 120 ∷ 120 ∷ 20 ∷ 20 ∷ []
stopped_moments = refl

stopped_machine : machine_at (readings 100 stopped) ≡ 4040
stopped_machine = refl

-- with a stall of 0 it leaves out nothing
stopped_without_stall : moments 0 stopped ≡ 4040 ∷ 4040 ∷ 4020 ∷ 4020 ∷ 20 ∷ 20 ∷ []
stopped_without_stall = refl

-- the ticking loop is blocked for 2,000 ms after its turn at 20 ms, while the receiving loop turns each 20 ms
abbrev blocked : List Handed
blocked = turn Receiving 2040 ∷ turn Ticking 2020 ∷ receiving_turns 100 ++ both_turning 1

-- at its fifth turn the receiving loop is 100 ms after the turn of the ticking loop, and at its seventh still
at_the_fifth_turn : moment_at (readings 100 (receiving_turns 5 ++ both_turning 1)) ≡ 120
at_the_fifth_turn = refl

at_the_seventh_turn : moment_at (readings 100 (receiving_turns 7 ++ both_turning 1)) ≡ 120
at_the_seventh_turn = refl

-- 1,900 ms are left out when the ticking loop turns again, and no more after that
blocked_moment : moment_at (readings 100 blocked) ≡ 140
blocked_moment = refl

blocked_machine : machine_at (readings 100 blocked) ≡ 2040
blocked_machine = refl

-- the ticking loop pauses for 500 ms from 20 ms on, while the receiving loop turns each 20 ms: nothing is left out
abbrev paused : List Handed
paused = receiving_turns 24 ++ pause Ticking 500 20 ∷ both_turning 1

paused_moment : moment_at (readings 100 (turn Ticking 521 ∷ paused)) ≡ 521
paused_moment = refl

-- it doesn't come back at the end of its pause, at 520 ms, so the clock stands still 100 ms behind that
late_moment : moment_at (readings 100 (receiving_turns 40 ++ pause Ticking 500 20 ∷ both_turning 1)) ≡ 620
late_moment = refl

-- it is woken before, and is then blocked: the clock stands still 100 ms behind the turn that it began
woken_moment : moment_at (readings 100 (turn Receiving 700 ∷ turn Receiving 360 ∷ turn Ticking 300 ∷ receiving_turns 13
    ++ pause Ticking 500 20 ∷ both_turning 1)) ≡ 400
woken_moment = refl

-- the process stops for 4,000 ms during the pause: the receiving loop begins no turn, and the clock stands still
stopped_in_pause : moments 100 (turn Receiving 4060 ∷ turn Ticking 4040 ∷ turn Receiving 4040 ∷ turn Receiving 40
    ∷ pause Ticking 500 20 ∷ turn Ticking 20 ∷ turn Receiving 20 ∷ []) ≡ 160 ∷ 140 ∷ 140 ∷ 40 ∷ 20 ∷ 20 ∷ 20 ∷ []
stopped_in_pause = refl

-- nothing is left out before the first turn. The first turn of either loop is taken as one of both.
before_the_first_turn :
    moments 100 (read 3700 ∷ turn Ticking 3600 ∷ read 3500 ∷ turn Receiving 3000 ∷ read 3000 ∷ read 900 ∷ [])
    ≡ 3100 ∷ 3100 ∷ 3100 ∷ 3000 ∷ 3000 ∷ 900 ∷ []
before_the_first_turn = refl

-- if the machine's clock goes back, no time passes until it has come as far again
going_back : moments 100 (read 65 ∷ read 40 ∷ read 30 ∷ turn Ticking 50 ∷ []) ≡ 65 ∷ 50 ∷ 50 ∷ 50 ∷ []
going_back = refl
