-- The rounds of probing: who is chosen, the probe that runs, who helps, and what came of it (SWIM, sections 3.1 and
-- 4.3; Lifeguard, local health aware probe).
use Rattle.std.specs.Prelude.{ℕ, ◌+◌, ◌==◌, Bool, true, false, not, ◌&&◌, List}
use Rattle.std.specs.Prelude.{[], ◌∷◌, Option, Some, None, option_map}
use Rattle.std.specs.Prelude.{is_some, slice_index, if◌then◌else◌}
use Rattle.lg_rules.specs.declared.claim.Claim.{Claim}
use Rattle.lg_rules.specs.declared.version.Version.{Version}
use Rattle.lg_rules.specs.Meaning.Claim.{name_of}
use Rattle.lg_rules.specs.Meaning.Rows.{name_cmp, row_at}
use Rattle.lg_rules.specs.Meaning.Version.{tells}
use Rattle.lg_timing.specs.declared.config.Config.{Config}
use Rattle.lg_timers.specs.declared.timer.TimerId.{TimerId}
use Rattle.lg_timers.specs.declared.timer.TimerId.TheVariants.{RoundEnd, Direct, RoundStart}
use Rattle.lg_probe.specs.Meaning.Helpers.{picked}
use Rattle.lg_probe.specs.Meaning.Order as order
use Rattle.lg_probe.specs.Meaning.Order.{candidate, next_cycle, without}
use Rattle.lg_probe.specs.Meaning.Round.{RoundFact, RoundValue, Asked, Acked, Nacked, round_of}
use Rattle.lg_membership.specs.Meaning.Gossip.{version_sent}
use Rattle.lg_membership.specs.Meaning.Log as group
use Rattle.lg_membership.specs.Meaning.Log.{group_view}
use Rattle.lg_detector.specs.Meaning.Log.{Log, Fired, AckHeard, NackHeard, Relayed, OfGroup, group_log}

abbrev pub is_round_start : TimerId → Bool
is_round_start RoundStart = true
is_round_start _ = false

-- the members that may be probed or asked to help: the others that aren't gone, in the order of names
abbrev pub others : Log → List (List ℕ)
others log = group.live_others (group_log log)

-- whether this member left its group
abbrev pub has_left : Log → Bool
has_left log = (group.own (group_log log)).left

-- A start of a round chooses, unless this member left: from then on it probes nobody (this project's choice).
abbrev pub chooses : TimerId → Log → Bool
chooses id log = is_round_start id && not (has_left log)

-- The names chosen in the current cycle, the latest first. These are the choice of the last start of a round that
-- found no candidate, and all choices since. A name that is forgotten counts as chosen no longer.
abbrev pub first_word : List ℕ → ℕ
first_word words = slice_index words 0

abbrev pub cycle_names : Log → List (List ℕ)
cycle_names [] = []
cycle_names (OfGroup (group.Opened opening) ∷ log) = []
cycle_names (Fired timer words ∷ log) =
    if chooses timer.id log
    then next_cycle (others log) (cycle_names log) (first_word words)
    else cycle_names log
cycle_names (OfGroup (group.Forgot m) ∷ log) = without m (cycle_names log)
cycle_names (_ ∷ log) = cycle_names log

-- The candidates of the next start of a round: the others that aren't among these names, or all of the others if each
-- is.
abbrev pub cycle_candidates : Log → List (List ℕ)
cycle_candidates log = order.candidates (others log) (order.current_cycle (others log) (cycle_names log))

-- whom a start of a round with these words chooses: the candidate at the index that is the first word modulo their
-- number, or nobody if this member left
abbrev pub chosen : List ℕ → Log → Option (List ℕ)
chosen words log = if has_left log then None else candidate (first_word words) (cycle_candidates log)

-- Whether a start of a round with these words starts a probe.
abbrev pub starts : TimerId → List ℕ → Log → Bool
starts id words log = is_round_start id && is_some (chosen words log)

-- The sequence numbers of probes and relays are 1 to 4,294,967,295. Behind the greatest comes 1 again (this project's
-- choice).
abbrev pub lowest_number : ℕ
lowest_number = 1

abbrev pub highest_number : ℕ
highest_number = 4294967295

abbrev pub next_number : ℕ → ℕ
next_number k = if k == highest_number then lowest_number else k + 1

-- The sequence number that comes next. The configuration says the first one, and each probe and each relay that was
-- started since the opening took one.
abbrev pub number : Log → ℕ
number [] = lowest_number
number (OfGroup (group.Opened opening) ∷ log) = opening.first
number (Fired timer words ∷ log) = if starts timer.id words log then next_number (number log) else number log
number (Relayed target asker ∷ log) = next_number (number log)
number (_ ∷ log) = number log

-- The probe that runs: that of the last start of a round that chose a target, unless a round has ended since, or this
-- member has left, which accuses nobody.
pub record Probe : Type 0 where
  pub number : ℕ
  pub target : List ℕ

abbrev pub new_probe : ℕ → Option (List ℕ) → Option Probe
new_probe k target = option_map (λ m. record { number = k; target = m }) target

abbrev pub probe_by : TimerId → List ℕ → Log → Option Probe → Option Probe
probe_by RoundStart words log before = new_probe (number log) (chosen words log)
probe_by RoundEnd words log before = None
probe_by _ words log before = before

abbrev pub probe : Log → Option Probe
probe [] = None
probe (OfGroup (group.Opened opening) ∷ log) = None
probe (OfGroup group.Departed ∷ log) = None
probe (Fired timer words ∷ log) = probe_by timer.id words log (probe log)
probe (_ ∷ log) = probe log

-- The helpers that these words pick if a probe runs. They are others than its target, as many as the configuration
-- says, in the order in which they are picked.
abbrev pub indirect_in : Option Config → ℕ
indirect_in None = 0
indirect_in (Some opening) = opening.indirect

-- to how many members a gossip goes
abbrev pub gossip_to_in : Option Config → ℕ
gossip_to_in None = 0
gossip_to_in (Some opening) = opening.gossip_to

abbrev pub helpers_of : ℕ → List ℕ → List (List ℕ) → Option (List ℕ) → List (List ℕ)
helpers_of k words names None = []
helpers_of k words names (Some target) = picked k words (without target names)

abbrev pub target : Log → Option (List ℕ)
target log = option_map (λ p. p.target) (probe log)

-- Nobody is asked about a target that has no record, or whose address the version that is sent can't tell.
abbrev pub if_told : Version → Option Claim → List ℕ → Option (List ℕ)
if_told v None m = None
if_told v (Some r) m = if tells v r.addr then Some m else None

abbrev pub asked_about : Version → List Claim → Option (List ℕ) → Option (List ℕ)
asked_about v rows None = None
asked_about v rows (Some m) = if_told v (row_at name_cmp name_of m rows) m

abbrev pub target_told : Log → Option (List ℕ)
target_told log =
    let g = group_log log in
    asked_about (version_sent (group.config g)) (group_view g) (target log)

abbrev pub helpers : List ℕ → Log → List (List ℕ)
helpers words log = helpers_of (indirect_in (group.config (group_log log))) words (others log) (target_told log)

-- what has happened since a round started, the latest first: helpers were asked, Acks and Nacks came
abbrev pub asked_by : TimerId → List ℕ → Log → List RoundFact → List RoundFact
asked_by RoundStart words log past = []
asked_by Direct words log past = Asked (helpers words log) ∷ past
asked_by _ words log past = past

abbrev pub since_start : Log → List RoundFact
since_start [] = []
since_start (OfGroup (group.Opened opening) ∷ log) = []
since_start (Fired timer words ∷ log) = asked_by timer.id words log (since_start log)
since_start (AckHeard k sender ∷ log) = Acked k sender ∷ since_start log
since_start (NackHeard k sender ∷ log) = Nacked k sender ∷ since_start log
since_start (_ ∷ log) = since_start log

-- the round of the probe that runs: who was asked, which of these sent no Nack, and whether an Ack counted
abbrev pub round_at : List RoundFact → Option Probe → Option RoundValue
round_at past p = option_map (λ p. round_of p.number p.target past) p

abbrev pub round : Log → Option RoundValue
round log = round_at (since_start log) (probe log)

-- Whom a gossip goes to, by these words: as many of the others as the configuration says, picked as helpers are.
abbrev pub told_by : List ℕ → Log → List (List ℕ)
told_by words log = picked (gossip_to_in (group.config (group_log log))) words (others log)
