-- Worked pauses of b, which has two seeds and an interval of 100 ms, asks in turn every 300 ms, begins at 0 and ends at
-- 10,000. A turn pauses 50 ms at most, or 1,000.
use Rattle.std.specs.Prelude.{◌≡◌, [], ◌∷◌, refl}
use Rattle.lg_turns.specs.Meaning.Turns.Turn.{Paused, Unfound}
use Rattle.lg_turns.specs.Meaning.Pausing.{longest_pause}
use Rattle.lg_turns.specs.Meaning.PullingExamples.{plan}

-- It pauses no longer than a turn may, than until the next deadline, and than until it asks in turn for the first time.
as_long_as_it_may : longest_pause 50 700 plan 0 [] 20 ≡ 50
as_long_as_it_may = refl

until_the_deadline : longest_pause 50 29 plan 0 [] 20 ≡ 9
until_the_deadline = refl

until_it_asks : longest_pause 50 700 plan 0 (Paused 20 ∷ []) 70 ≡ 30
until_it_asks = refl

until_it_asks_and_no_longer : longest_pause 1000 700 plan 0 (Paused 20 ∷ []) 40 ≡ 60
until_it_asks_and_no_longer = refl

-- It pauses no longer than until its end.
until_its_end : longest_pause 1000 90000 (record plan { until = 140; pull_ms = 0 }) 0 [] 110 ≡ 30
until_its_end = refl

-- Before it asks for the fourth time it looks, a second after it began.
until_it_looks : longest_pause 50 2000 plan 0 (Unfound 100 ∷ Unfound 300 ∷ Unfound 950 ∷ []) 960 ≡ 40
until_it_looks = refl

-- With no seeds there is no look, and with a `pull_ms` of 0 none is asked in turn.
not_until_it_looks :
    longest_pause 5000 9000 (record plan { seeds = record { items = [] }; pull_ms = 0 }) 0 [] 960 ≡ 5000
not_until_it_looks = refl

-- What has come is not waited for.
it_is_time : longest_pause 50 700 plan 0 [] 100 ≡ 0
it_is_time = refl
