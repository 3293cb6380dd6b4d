-- How long a turn of the ticking loop pauses that finds nothing to do (this project's choice).
use Rattle.std.specs.Prelude.{ℕ, ◌-◌, min, nat_lt, fold, List, [], ◌∷◌, ◌++◌, length, if◌then◌else◌}
use Rattle.lg_turns.specs.declared.plan.Plan.{Plan}
use Rattle.lg_turns.specs.Meaning.Pulling.{askings_after, next_asking, next_look}
use Rattle.lg_turns.specs.Meaning.Turns.{Turn}

-- how long it is from now until a moment, and 0 if it has come
abbrev pub time_until : ℕ → ℕ → ℕ
time_until moment now = moment - now

-- how long it is until the next look, which comes at a moment; no time if there are no seeds, and so never a look
abbrev pub look_left : Plan → ℕ → ℕ → List ℕ
look_left plan look now = if nat_lt 0 (length plan.seeds.items) then time_until look now ∷ [] else []

-- how long it is until a table is asked for in turn, which comes at a moment; no time if none is asked for so
abbrev pub asking_left : Plan → ℕ → ℕ → List ℕ
asking_left plan asking now = if nat_lt 0 plan.pull_ms then time_until asking now ∷ [] else []

-- the least of a time and of others
abbrev pub least_time : ℕ → List ℕ → ℕ
least_time time others = fold min time others

-- How long a turn pauses at most that finds nothing to do after the turns before it: until the first of the next
-- deadline (`due`), the end of the loop, the next look and the next asking in turn comes, and at most `most`.
abbrev pub longest_pause : ℕ → ℕ → Plan → ℕ → List Turn → ℕ → ℕ
longest_pause most due plan since before now =
    let look = look_left plan (next_look since before) now in
    let asking = asking_left plan (next_asking plan (askings_after since before)) now in
    least_time (min (min most (time_until due now)) (time_until plan.until now)) (look ++ asking)
