-- When the ticking loop asks for tables, whom it asks, and how it runs (this project's choice).
use Rattle.std.specs.Prelude.{◌≡◌, ◌⊎◌, ℕ, ◌+◌, ◌*◌, ◌%◌, ◌<◌, ◌≤◌, min, not, Bool, true, false, if◌then◌else◌}
use Rattle.std.specs.Prelude.{List, [], ◌∷◌, ◌++◌, length, drop, slice_index}
use Rattle.std.specs.List.{flat_map, list_all}
use Rattle.lg_rules.specs.declared.addr.Addr.{Addr}
use Rattle.lg_rules.specs.declared.claim.Claim.{Claim}
use Rattle.lg_rules.specs.Meaning.Claim.{is_gone, name_of}
use Rattle.lg_rules.specs.Meaning.Rows.{name_cmp, without_row}
use Rattle.lg_rules.specs.declared.version.Version.{Version}
use Rattle.lg_rules.specs.declared.version.Version.TheVariants.{One, Two, Three}
use Rattle.lg_timing.specs.declared.config.Config.{Config}
use Rattle.lg_timing.specs.Meaning.Config.{version_of}
use Rattle.lg_detector.specs.Meaning.Step.{view_after}
use Rattle.lg_agent.specs.Meaning.Values.{PassValue}
use Rattle.lg_turns.specs.declared.ending.LoopEnd.{LoopEnd}
use Rattle.lg_turns.specs.declared.plan.Plan.{Plan}
use Rattle.lg_turns.specs.Meaning.Leaving.{HasLeftIf, leaves_at, plan_after}
use Rattle.lg_turns.specs.Meaning.Turns.{Turn, LinkValue, Lasted, Threw, is_of_ticking, words_in}
use Rattle.lg_turns.specs.Meaning.Turns.Turn.{
  Paused,
  Ticked,
  Unticked,
  AskedSeed,
  UnaskedSeed,
  AskedInTurn,
  UnaskedInTurn,
  Looked,
  Unlooked,
  AskedMember,
  UnaskedMember,
  FoundNobody,
  Unfound,
  Learned,
  Departed,
  Undeparted,
}

-- how long it is from one look whether the seeds are to be asked to the next, in milliseconds
abbrev pub look_ms : ℕ
look_ms = 1000

-- Whether a member leaves at its end that writes its packets in this version. Only version 3 can tell that it left.
abbrev pub leaves_in : Version → Bool
leaves_in One = false
leaves_in Two = false
leaves_in Three = true

-- What the ticking loop of a node does besides its ticks, whose seeds have these addresses. It learns others if hosts
-- are among the seeds too.
abbrev pub plan_of : Config → List Addr → Bool → ℕ → ℕ → Plan
plan_of config seeds learns pull_ms until =
    record {
      name = config.name;
      own = config.addr;
      fixed = record { items = seeds };
      seeds = record { items = seeds };
      learns = learns;
      interval_ms = config.interval_ms;
      pull_ms = pull_ms;
      until = until;
      leaves = leaves_in (version_of config);
    }

-- the records of the others, those of members that are gone too
abbrev pub others_of : List ℕ → List Claim → List Claim
others_of own records = without_row name_cmp name_of own records

-- whether each of them is gone
abbrev pub has_gone : Claim → Bool
has_gone claim = is_gone claim.status

abbrev pub is_alone : List ℕ → List Claim → Bool
is_alone own records = list_all has_gone (others_of own records)

-- From when on there is a look whether the seeds are to be asked, by a turn: a while after the look before, and at once
-- when other addresses of the seeds were learned.
abbrev pub looks_from : Turn → List ℕ
looks_from (Looked now seen asks) = (now + look_ms) ∷ []
looks_from (Unlooked now) = (now + look_ms) ∷ []
looks_from (Learned now found) = now ∷ []
looks_from _ = []

-- the last of some moments, or this one if there are none
abbrev pub last_moment : ℕ → List ℕ → ℕ
last_moment since [] = since
last_moment since (now ∷ moments) = last_moment now moments

-- from when on there is a look again, after some turns of a loop that began at a moment
abbrev pub next_look : ℕ → List Turn → ℕ
next_look since turns = last_moment (since + look_ms) (flat_map looks_from turns)

-- The moments since which tables are asked for in turn, the latest first. The first of them is that at which a look
-- said that the seeds are to be asked, or other addresses of theirs were learned, the last time, or else that of the
-- loop's beginning. At each of the others a table was asked for in turn, or was to be.
abbrev pub askings : List ℕ → Turn → List ℕ
askings before (Looked now seen asks) = if asks then now ∷ [] else before
askings before (Learned now found) = now ∷ []
askings before (AskedInTurn now peer r sent) = now ∷ before
askings before (UnaskedInTurn now peer e) = now ∷ before
askings before (AskedMember now words seen peer r sent) = now ∷ before
askings before (UnaskedMember now words seen peer e) = now ∷ before
askings before (FoundNobody now seen) = now ∷ before
askings before (Unfound now) = now ∷ before
askings before _ = before

abbrev pub askings_from : List ℕ → List Turn → List ℕ
askings_from before [] = before
askings_from before (t ∷ turns) = askings_from (askings before t) turns

abbrev pub askings_after : ℕ → List Turn → List ℕ
askings_after since turns = askings_from (since ∷ []) turns

-- How long it is from one of them to the next, by those before it: one interval at first, and then each time twice as
-- long as before, until it is `pull_ms`.
abbrev pub asking_distance : ℕ → ℕ → List ℕ → ℕ
asking_distance interval pull_ms [] = min pull_ms interval
asking_distance interval pull_ms (m ∷ before) = min pull_ms (2 * asking_distance interval pull_ms before)

-- from when on a table is asked for again
abbrev pub next_asking : Plan → List ℕ → ℕ
next_asking plan [] = 0
next_asking plan (now ∷ before) = now + asking_distance plan.interval_ms plan.pull_ms before

-- Whose turn it is, by the moments before the latest: each second time a seed is asked, from the first on. And how many
-- times that was.
abbrev pub is_seeds_turn : List ℕ → Bool
is_seeds_turn [] = true
is_seeds_turn (m ∷ before) = not (is_seeds_turn before)

abbrev pub seed_turns : List ℕ → ℕ
seed_turns [] = 0
seed_turns (m ∷ before) = if is_seeds_turn before then seed_turns before + 1 else seed_turns before

-- The seeds that wait to be asked after a turn, by those that waited before it. A look decides whether all of them
-- wait. One that was asked waits no longer, and none does when other addresses of theirs were learned.
abbrev pub waiting : List Addr → List Addr → Turn → List Addr
waiting seeds before (Looked now seen asks) = if asks then seeds else []
waiting seeds before (Learned now found) = []
waiting seeds before (AskedSeed now peer r sent) = drop 1 before
waiting seeds before (UnaskedSeed now peer e) = drop 1 before
waiting seeds before _ = before

abbrev pub waiting_from : List Addr → List Addr → List Turn → List Addr
waiting_from seeds before [] = before
waiting_from seeds before (t ∷ turns) = waiting_from seeds (waiting seeds before t) turns

-- after some turns of a loop, at whose beginning none waits
abbrev pub waiting_after : Plan → List Turn → List Addr
waiting_after plan turns = waiting_from plan.seeds.items [] turns

-- It is too early for a look, or there are no seeds and so never one; and too early to ask in turn, or none is asked
-- so.
abbrev pub IsNoLookTime : Plan → ℕ → List Turn → ℕ → Type 0
IsNoLookTime plan since before now = (length plan.seeds.items ≡ 0) ⊎ (now < next_look since before)

abbrev pub IsNoAskingTime : Plan → ℕ → List Turn → ℕ → Type 0
IsNoAskingTime plan since before now = (plan.pull_ms ≡ 0) ⊎ (now < next_asking plan (askings_after since before))

-- After the turns before (`before`) a moment is one for a look: no seed waits, and the next look has come.
pub record IsLookTime (plan : Plan) (since : ℕ) (before : List Turn) (now : ℕ) : Type 0 where
  pub none_waits : waiting_after plan before ≡ []
  pub some : 0 < length plan.seeds.items
  pub come : next_look since before ≤ now

-- It is one for asking in turn: no seed waits, it is too early for a look, and the time to ask in turn has come.
pub record IsAskingTime (plan : Plan) (since : ℕ) (before : List Turn) (now : ℕ) : Type 0 where
  pub none_waits : waiting_after plan before ≡ []
  pub no_look : IsNoLookTime plan since before now
  pub some : 0 < plan.pull_ms
  pub come : next_asking plan (askings_after since before) ≤ now

-- After some moments of asking, the latest first, it is the turn of the seed at this address: one seed after another is
-- asked, in the order of the file, and behind the last comes the first again.
pub record IsSeedInTurn (plan : Plan) (moments : List ℕ) (peer : Addr) : Type 0 where
  pub is_seeds : is_seeds_turn (drop 1 moments) ≡ true
  pub rest : List Addr
  pub is : drop (seed_turns (drop 1 moments) % length plan.seeds.items) plan.seeds.items ≡ peer ∷ rest

-- or it is the turn of a member
abbrev pub IsMembersTurn : Plan → List ℕ → Type 0
IsMembersTurn plan moments = (length plan.seeds.items ≡ 0) ⊎ (is_seeds_turn (drop 1 moments) ≡ false)

-- There is nothing to do: no seed waits, and it is too early for both.
pub record IsIdleTime (plan : Plan) (since : ℕ) (before : List Turn) (now : ℕ) : Type 0 where
  pub none_waits : waiting_after plan before ≡ []
  pub no_look : IsNoLookTime plan since before now
  pub no_asking : IsNoAskingTime plan since before now

-- the first of the seeds that wait
abbrev pub IsFirstWaiting : Plan → List Turn → Addr → Type 0
IsFirstWaiting plan before peer = (rest : List Addr) × (waiting_after plan before ≡ peer ∷ rest)

-- The address of the record that random words choose. The records are counted from 0, and the number of the chosen one
-- is what is left if the first word is divided by how many they are.
pub record IsChosen (words : List ℕ) (records : List Claim) (peer : Addr) : Type 0 where
  pub chosen : Claim
  pub rest : List Claim
  pub is : drop (slice_index words 0 % length records) records ≡ chosen ∷ rest
  pub there : peer ≡ chosen.addr

-- It is the turn of a member, at a moment for asking in turn, before the loop's end time.
pub record MayAskMember (plan : Plan) (since : ℕ) (before : List Turn) (now : ℕ) : Type 0 where
  pub early : now < plan.until
  pub time : IsAskingTime plan since before now
  pub members : IsMembersTurn plan (askings_after since before)

-- It is the turn of a seed at this address, at such a moment.
pub record MayAskInTurn (plan : Plan) (since : ℕ) (before : List Turn) (now : ℕ) (peer : Addr) : Type 0 where
  pub early : now < plan.until
  pub time : IsAskingTime plan since before now
  pub seed : IsSeedInTurn plan (askings_after since before) peer

-- Whether a turn is one that the turns before it leave to be done by a plan, at its moment, before the plan's end time,
-- and for whom it asks. If all others that a look shows are gone, the seeds are to be asked. (Else they are if no
-- Page has been heard, which contracts don't see.) The loop learns addresses, and this member leaves, only if its plan
-- says so.
abbrev pub IsTimely : Plan → ℕ → List Turn → Turn → Type 0
IsTimely plan since before (Paused now) = (now < plan.until) × IsIdleTime plan since before now
IsTimely plan since before (Ticked now words r sent) = now < plan.until
IsTimely plan since before (Unticked now words e) = now < plan.until
IsTimely plan since before (AskedSeed now peer r sent) = (now < plan.until) × IsFirstWaiting plan before peer
IsTimely plan since before (UnaskedSeed now peer e) = (now < plan.until) × IsFirstWaiting plan before peer
IsTimely plan since before (AskedInTurn now peer r sent) = MayAskInTurn plan since before now peer
IsTimely plan since before (UnaskedInTurn now peer e) = MayAskInTurn plan since before now peer
IsTimely plan since before (Looked now seen asks) =
    (now < plan.until) × IsLookTime plan since before now
    × (is_alone plan.name (view_after seen) ≡ true → asks ≡ true)
IsTimely plan since before (Unlooked now) = (now < plan.until) × IsLookTime plan since before now
IsTimely plan since before (AskedMember now words seen peer r sent) =
    MayAskMember plan since before now × IsChosen words (others_of plan.name (view_after seen)) peer
IsTimely plan since before (UnaskedMember now words seen peer e) =
    MayAskMember plan since before now × IsChosen words (others_of plan.name (view_after seen)) peer
IsTimely plan since before (FoundNobody now seen) =
    MayAskMember plan since before now × (others_of plan.name (view_after seen) ≡ [])
IsTimely plan since before (Unfound now) = MayAskMember plan since before now
IsTimely plan since before (Learned now found) = (now < plan.until) × (plan.learns ≡ true)
IsTimely plan since before (Departed now words r sent) = plan.leaves ≡ true
IsTimely plan since before (Undeparted now words e) = plan.leaves ≡ true
IsTimely plan since before _ = Unit {0}

-- each of some turns, given the turns before it, by the plan after these
abbrev pub AreTimely : Plan → ℕ → List Turn → List Turn → Type 0
AreTimely plan since before [] = Unit {0}
AreTimely plan since before (t ∷ turns) =
    IsTimely (plan_after plan before) since before t × AreTimely plan since (before ++ t ∷ []) turns

-- A run of a ticking loop that began at some moment. Its dice gave the words of its turns, and each turn was timely. If
-- it was stopped, this member has left its group, if its plan says so.
pub record Ticking
    {D : Type 0} (throws : D → List ℕ → D → Type 0) (dice : D) (plan : Plan) (tells : Bool) (bound : ℕ)
    (endless : Bool) (k k' : LinkValue) (p q : PassValue) (end : LoopEnd)
    : Type 0 where
  pub lasted : Lasted is_of_ticking tells bound endless k k' p q end
  pub since : ℕ
  pub timely : AreTimely plan since [] lasted.turns
  pub rest : D
  pub threw : Threw throws dice (flat_map words_in lasted.turns) rest
  pub left : HasLeftIf (leaves_at plan end.why) lasted.turns
