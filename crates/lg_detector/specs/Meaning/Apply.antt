-- What is added to a log: an event came, claims were applied, a timer fired, a name was forgotten.
use Rattle.std.specs.Prelude.{ℕ, Bool, true, false, not, ◌&&◌, ◌||◌, List, [], ◌∷◌, Option, Some, None}
use Rattle.std.specs.Prelude.{if◌then◌else◌}
use Rattle.lg_rules.specs.declared.claim.Claim.{Claim}
use Rattle.lg_rules.specs.declared.claim.Status.{Status}
use Rattle.lg_rules.specs.declared.claim.Status.TheVariants.{Alive, Suspect, Failed, Left}
use Rattle.lg_rules.specs.Meaning.Claim.{is_gone, name_of}
use Rattle.lg_rules.specs.Meaning.Rows.{name_cmp, is_same, row_at}
use Rattle.lg_timers.specs.declared.timer.Timer.{Timer}
use Rattle.lg_timers.specs.declared.timer.TimerId.{TimerId}
use Rattle.lg_timers.specs.declared.timer.TimerId.TheVariants.{Forget}
use Rattle.lg_timers.specs.Meaning.Timers.{first_forget}
use Rattle.lg_membership.specs.declared.origin.Origin.{Origin}
use Rattle.lg_membership.specs.declared.origin.Origin.TheVariants.{Group}
use Rattle.lg_membership.specs.Meaning.Log as group
use Rattle.lg_membership.specs.Meaning.Log.{group_view, needs_room}
use Rattle.lg_detector.specs.Meaning.Log.{Log, Came, Fired, OfGroup, moment, group_log}
use Rattle.lg_detector.specs.Meaning.Timing.{pending}

-- an event comes
abbrev pub come : ℕ → Log → Log
come now log = Came now ∷ log

-- a claim is applied, at the moment of the log
abbrev pub apply : Origin → Claim → Log → Log
apply origin c log = OfGroup (group.Said (moment log) origin c) ∷ log

abbrev pub apply_all : Origin → List Claim → Log → Log
apply_all origin [] log = log
apply_all origin (c ∷ cs) log = apply_all origin cs (apply origin c log)

-- a name is forgotten
abbrev pub forget : List ℕ → Log → Log
forget m log = OfGroup (group.Forgot m) ∷ log

-- A timer fires, at a tick with these random words. One that forgets a member does so.
abbrev pub forget_by : TimerId → Log → Log
forget_by (Forget m) log = forget m log
forget_by _ log = log

abbrev pub fire : Timer → List ℕ → Log → Log
fire timer words log = forget_by timer.id (Fired timer words ∷ log)

-- Room for the member of a claim: if there is none until one is forgotten, the member whose timer is the first of those
-- that forget one is forgotten. That is the one with the earliest deadline, and of equal ones the one with the least
-- name. If no member is gone, nothing is done.
abbrev pub forget_first : Option Timer → Log → Log
forget_first None log = log
forget_first (Some timer) log = forget_by timer.id log

abbrev pub make_room : Claim → Log → Log
make_room c log = if needs_room (group_log log) c then forget_first (first_forget (pending log)) log else log

-- Tables are merged gently (this project's choice). Suppose that a table says of a member that it failed. If that one
-- isn't gone by the records here, and is neither this member nor the one who tells the table, the claim only accuses
-- it. For the one who tells the table may be the one that was cut off.
abbrev pub is_failure : Status → Bool
is_failure Alive = false
is_failure (Suspect accuser) = false
is_failure Failed = true
is_failure Left = false

abbrev pub is_live_record : Option Claim → Bool
is_live_record None = false
is_live_record (Some r) = not (is_gone r.status)

abbrev pub only_accuses : List ℕ → List Claim → List ℕ → Claim → Bool
only_accuses me rows teller c =
    is_failure c.status && (not (is_same name_cmp c.name me || is_same name_cmp c.name teller)
    && is_live_record (row_at name_cmp name_of c.name rows))

-- A claim as it is applied, if `teller` tells it in a table. If it only accuses, it is applied as the claim that its
-- member is suspected by `teller`, at the same incarnation and address. Any other claim is applied as it is.
abbrev pub merged : List ℕ → List Claim → Option (List ℕ) → Claim → Claim
merged me rows None c = c
merged me rows (Some teller) c =
    if only_accuses me rows teller c then record c { status = Suspect teller } else c

abbrev pub as_merged : Option (List ℕ) → Claim → Log → Claim
as_merged teller c log = merged (group.me (group_log log)) (group_view (group_log log)) teller c

-- The claims of a packet are applied one after another, each once there is room for its member. Whether a claim of a
-- table only accuses is judged when it is applied, behind the claims before it.
abbrev pub hear_one : Option (List ℕ) → Claim → Log → Log
hear_one teller c log =
    let roomy = make_room c log in
    apply Group (as_merged teller c roomy) roomy

abbrev pub hear_each : Option (List ℕ) → List Claim → Log → Log
hear_each teller [] log = log
hear_each teller (c ∷ cs) log = hear_each teller cs (hear_one teller c log)
