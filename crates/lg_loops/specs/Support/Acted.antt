-- What a turn of the ticking loop does, as the code reports it.
use Rattle.std.specs.Prelude.{◌≡◌, ◌⊎◌, ◌+◌, ◌-◌, ◌*◌, ◌%◌, ◌^◌, ◌<◌, ◌≤◌, ℕ, min, not, if◌then◌else◌}
use Rattle.std.specs.Prelude.{Bool, true, false, List, [], ◌∷◌, ◌++◌, length, drop}
use Rattle.lg_rules.specs.declared.addr.Addr.{Addr}
use Rattle.lg_agent.specs.Meaning.Values.{PassValue}
use Rattle.lg_loops.specs.declared.agenda.Agenda.{Agenda}
use Rattle.lg_loops.specs.declared.agenda.Duty.{Duty}
use Rattle.lg_loops.specs.declared.agenda.Duty.TheVariants.{Seed, Look, SeedInTurn, Member, Rest}
use Rattle.lg_turns.specs.declared.plan.Plan.{Plan}
use Rattle.lg_loops.specs.declared.turned.Turned.{Turned}
use Rattle.lg_turns.specs.Meaning.Turns.{Turn, LinkValue, is_of_ticking}
use Rattle.lg_turns.specs.Meaning.Leaving.{next_plan}
use Rattle.lg_turns.specs.Meaning.Pulling.{look_ms, next_look, waiting_after, IsTimely}
use Rattle.lg_turns.specs.Meaning.Pulling.{askings_after, asking_distance, is_seeds_turn, seed_turns}
use Rattle.lg_turns.specs.Meaning.Pausing.{look_left, asking_left, least_time}
use Rattle.lg_loops.specs.Support.Took.{Took}

-- the seeds that wait by an agenda
abbrev pub waiting_by : Plan → Agenda → List Addr
waiting_by plan a = drop a.asked plan.seeds.items

-- what an agenda notes of the moments of asking in turn, the latest first
pub record IsAsking (plan : Plan) (moments : List ℕ) (a : Agenda) : Type 0 where
  pub earlier : List ℕ
  pub are : moments ≡ a.latest ∷ earlier
  pub distance : a.distance ≡ asking_distance plan.interval_ms plan.pull_ms earlier
  pub turn : a.is_seeds_turn ≡ is_seeds_turn earlier
  pub next : 0 < length plan.seeds.items → a.next_seed ≡ seed_turns earlier % length plan.seeds.items

-- an agenda is that of a loop that began at a moment and has made these turns
pub record IsAgenda (plan : Plan) (since : ℕ) (turns : List Turn) (a : Agenda) : Type 0 where
  pub look : a.next_look ≡ next_look since turns
  pub asking : IsAsking plan (askings_after since turns) a
  pub waits : waiting_by plan a ≡ waiting_after plan turns

-- an agenda that counts everything from a moment, of which so many seeds don't wait
abbrev pub agenda_at : Plan → ℕ → ℕ → Agenda
agenda_at plan now asked = record {
  next_look = now + look_ms;
  latest = now;
  distance = min plan.pull_ms plan.interval_ms;
  is_seeds_turn = true;
  next_seed = 0;
  asked = asked;
  left = false;
}

-- the agenda after a table was asked for in turn at a moment, or was to be
pub record IsNextAgenda (plan : Plan) (now : ℕ) (a a' : Agenda) : Type 0 where
  pub look : a'.next_look ≡ a.next_look
  pub asked : a'.asked ≡ a.asked
  pub latest : a'.latest ≡ now
  pub distance : a'.distance ≡ min plan.pull_ms (2 * a.distance)
  pub turn : a'.is_seeds_turn ≡ not a.is_seeds_turn
  pub next : 0 < length plan.seeds.items
      → a'.next_seed ≡ (if a.is_seeds_turn then (a.next_seed + 1) % length plan.seeds.items else a.next_seed)

-- it is too early for a look, and to ask in turn
abbrev pub IsNoLook : Plan → Agenda → ℕ → Type 0
IsNoLook plan a now = (length plan.seeds.items ≡ 0) ⊎ (now < a.next_look)

abbrev pub IsNoAsking : Plan → Agenda → ℕ → Type 0
IsNoAsking plan a now = (plan.pull_ms ≡ 0) ⊎ (now < a.latest + a.distance)

-- it is time to ask in turn
pub record IsAskingDue (plan : Plan) (a : Agenda) (now : ℕ) : Type 0 where
  pub none_waits : waiting_by plan a ≡ []
  pub no_look : IsNoLook plan a now
  pub some : 0 < plan.pull_ms
  pub come : a.latest + a.distance ≤ now

-- it is the turn of the seed at this address, by an agenda; or that of a member
pub record IsSeedNext (plan : Plan) (a : Agenda) (peer : Addr) : Type 0 where
  pub turn : a.is_seeds_turn ≡ true
  pub some : 0 < length plan.seeds.items
  pub rest : List Addr
  pub is : drop (a.next_seed % length plan.seeds.items) plan.seeds.items ≡ peer ∷ rest

abbrev pub IsMemberNext : Plan → Agenda → Type 0
IsMemberNext plan a = (length plan.seeds.items ≡ 0) ⊎ (a.is_seeds_turn ≡ false)

-- the longest time that a number can say
abbrev pub longest_time : ℕ
longest_time = 2 ^ 64 - 1

-- How long there is nothing to do by an agenda: until the next look, or until a table is asked for in turn.
abbrev pub rest_by : Plan → Agenda → ℕ → ℕ
rest_by plan a now =
    least_time longest_time (look_left plan a.next_look now ++ asking_left plan (a.latest + a.distance) now)

-- what is to be done by an agenda
abbrev pub IsDuty : Plan → Agenda → ℕ → Duty → Type 0
IsDuty plan a now (Seed peer) =
    (a.asked < 80) × (waiting_by plan a ≡ peer ∷ waiting_by plan (record a { asked = a.asked + 1 }))
IsDuty plan a now Look =
    (waiting_by plan a ≡ []) × (0 < length plan.seeds.items) × (a.next_look ≤ now)
IsDuty plan a now (SeedInTurn peer) = IsAskingDue plan a now × IsSeedNext plan a peer
IsDuty plan a now Member = IsAskingDue plan a now × IsMemberNext plan a
IsDuty plan a now (Rest limit) =
    (waiting_by plan a ≡ []) × IsNoLook plan a now × IsNoAsking plan a now × (limit ≡ rest_by plan a now)

-- There is a turn of the ticking loop, timely by the plan and the agenda. The new plan and the new agenda are those
-- after one more turn.
pub record Acted
    (plan plan' : Plan) (tells : Bool) (k k' : LinkValue) (p q : PassValue) (a a' : Agenda) (told_of : Turned)
    : Type 0 where
  pub took : Took is_of_ticking tells k k' p q told_of
  pub plans : next_plan plan took.turn ≡ plan'
  pub timely : (since : ℕ) → (before : List Turn) → IsAgenda plan since before a → IsTimely plan since before took.turn
  pub noted : (since : ℕ) → (before : List Turn) → IsAgenda plan since before a
      → IsAgenda plan' since (before ++ took.turn ∷ []) a'
