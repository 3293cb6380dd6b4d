-- What an entry tells of what others said of the member, of its record, and of the suspicion of it.
use Rattle.std.specs.Prelude.{ℕ, ◌==◌, Bool, true, false, not, ◌&&◌, ◌||◌, min, List, [], ◌∷◌, count_by}
use Rattle.std.specs.Prelude.{Option, Some, None, is_some, if◌then◌else◌}
use Rattle.std.specs.List.{flat_map}
use Rattle.lg_rules.specs.declared.claim.Claim.{Claim}
use Rattle.lg_rules.specs.Meaning.Claim.{is_gone}
use Rattle.lg_timing.specs.Meaning.TimeoutValue.{TimeoutValue}
use Rattle.lg_timing.specs.Meaning.Timeouts.{timeout_of}
use Rattle.lg_detector.specs.declared.event.Event.{Event}
use Rattle.lg_detector.specs.declared.event.Event.TheVariants.{Heard}
use Rattle.lg_detector.specs.declared.reply.Reply.{Reply}
use Rattle.lg_accounts.specs.declared.step.NoteStep.{NoteStep}
use Rattle.lg_accounts.specs.declared.step.NoteStep.TheVariants.{Told, TimeOver, Changed, Suspected}
use Rattle.lg_suspicion.specs.declared.standing.SuspicionStanding.{SuspicionStanding}
use Rattle.lg_notes.specs.declared.subject.NoteSubject.{NoteSubject}
use Rattle.lg_notes.specs.Meaning.About.{is_about, is_heard, record_changed}
use Rattle.lg_notes.specs.Meaning.Insights.{InsightsValue}
use Rattle.lg_notes.specs.Meaning.Timers.{has_fired, is_suspicion_of}

-- whether two suspicions are the same: raised at the same moment, with the same timeouts, and as often confirmed
abbrev pub is_same_timeout : TimeoutValue → TimeoutValue → Bool
is_same_timeout s t = s.min == t.min && s.max == t.max && s.confirmations == t.confirmations

abbrev pub is_same_standing : SuspicionStanding → SuspicionStanding → Bool
is_same_standing s t =
    s.raised == t.raised && is_same_timeout s.timeout t.timeout && s.confirmations == t.confirmations

-- the same, or whether there is neither
abbrev pub is_same_suspicion : Option SuspicionStanding → Option SuspicionStanding → Bool
is_same_suspicion None None = true
is_same_suspicion (Some s) (Some t) = is_same_standing s t
is_same_suspicion _ _ = false

-- whether it is known that the suspicion after an event is another than the one before, or that only one of the two is
-- there
abbrev pub suspicion_moved : Option InsightsValue → Bool
suspicion_moved None = false
suspicion_moved (Some known) = not (is_same_suspicion known.0.suspicion known.1.suspicion)

-- whether an entry changed the member's record, or the suspicion of it
abbrev pub moves_member : List ℕ → Reply → Option InsightsValue → Bool
moves_member name r known = is_some (record_changed name r) || suspicion_moved known

-- that a claim was told, if it is about the member
abbrev pub told_claim : List ℕ → Claim → List NoteStep
told_claim name c = if is_about name c then Told c ∷ [] else []

unfoldable pub told_claims : List ℕ → List Claim → List NoteStep
told_claims name claims = flat_map (told_claim name) claims

-- What was told of the member: each claim about it of a packet that was heard, in order, if the entry changed its
-- record, or the suspicion of it.
unfoldable pub told_steps : NoteSubject → Event → Reply → Option InsightsValue → List NoteStep
told_steps subject (Heard now source packet) r known =
    if is_heard subject packet && moves_member subject.name r known
    then told_claims subject.name packet.claims.items
    else []
told_steps subject _ r known = []

-- that the time of its suspicion was over: the timer of that fired
unfoldable pub time_over_steps : List ℕ → Reply → List NoteStep
time_over_steps name r = if has_fired (is_suspicion_of name) r.fired then TimeOver ∷ [] else []

-- that its record changed
abbrev pub change_told : Option Claim → List NoteStep
change_told None = []
change_told (Some r) = Changed r ∷ []

unfoldable pub changed_steps : List ℕ → Reply → List NoteStep
changed_steps name r = change_told (record_changed name r)

-- how many members of a table are neither failed nor left
abbrev pub live_records : List Claim → ℕ
live_records table = count_by (λ r. not (is_gone r.status)) table

-- the timeout of a suspicion after the confirmations that came, of which no more count than may
abbrev pub timeout_so_far : SuspicionStanding → ℕ
timeout_so_far s = timeout_of s.timeout (min s.confirmations s.timeout.confirmations)

-- how the suspicion of the member stands, if it is another than the one before
abbrev pub standing_told : Option SuspicionStanding → Option SuspicionStanding → List Claim → List NoteStep
standing_told before None table = []
standing_told before (Some s) table =
    if is_same_suspicion before (Some s) then []
    else Suspected (live_records table) s.confirmations s.timeout.confirmations (timeout_so_far s) ∷ []

unfoldable pub suspected_steps : Option InsightsValue → List NoteStep
suspected_steps None = []
suspected_steps (Some known) = standing_told known.0.suspicion known.1.suspicion known.2
