-- What an entry tells of a probe of the member, and of the health score, which probes change.
use Rattle.std.specs.Prelude.{ℕ, ◌-◌, ◌==◌, Bool, true, false, not, ◌&&◌, ◌||◌, nat_lt, List, [], ◌∷◌}
use Rattle.std.specs.Prelude.{Option, Some, None, find, is_some, option_map, if◌then◌else◌}
use Rattle.std.specs.List.{flat_map}
use Rattle.lg_rules.specs.declared.addr.Addr.{Addr}
use Rattle.lg_rules.specs.declared.claim.Claim.{Claim}
use Rattle.lg_rules.specs.Meaning.Claim.{name_of}
use Rattle.lg_rules.specs.Meaning.View.{is_same_addr}
use Rattle.lg_packet.specs.declared.packet.Body.{Body}
use Rattle.lg_packet.specs.declared.packet.Body.TheVariants.{PingReq, Ack, Nack}
use Rattle.lg_timers.specs.declared.timer.Timer.{Timer}
use Rattle.lg_detector.specs.declared.event.Event.{Event}
use Rattle.lg_detector.specs.declared.event.Event.TheVariants.{Heard}
use Rattle.lg_detector.specs.declared.reply.Outgoing.{Outgoing}
use Rattle.lg_detector.specs.declared.reply.Reply.{Reply}
use Rattle.lg_accounts.specs.declared.step.Helper.{Helper}
use Rattle.lg_accounts.specs.declared.step.NoteStep.{NoteStep}
use Rattle.lg_accounts.specs.declared.step.NoteStep.TheVariants.{Pinged, Unanswered, Nacked, Acked}
use Rattle.lg_accounts.specs.declared.step.NoteStep.TheVariants.{RoundEnded, Scored, Minute}
use Rattle.lg_notes.specs.declared.insights.MinuteBefore.{MinuteBefore}
use Rattle.lg_notes.specs.declared.subject.NoteSubject.{NoteSubject}
use Rattle.lg_notes.specs.declared.watch.FirstPing.{FirstPing}
use Rattle.lg_notes.specs.declared.watch.RunningProbe.{RunningProbe}
use Rattle.lg_notes.specs.Meaning.About.{is_heard, is_same_name, suspects_member}
use Rattle.lg_notes.specs.Meaning.Insights.{InsightsValue}
use Rattle.lg_notes.specs.Meaning.Timers.{ends_round, asks_helpers}
use Rattle.lg_notes.specs.Meaning.Watching.{ping_of_start}

-- that a probe of the member began
abbrev pub ping_told : Option FirstPing → List NoteStep
ping_told None = []
ping_told (Some ping) = Pinged ping.number ping.addr ∷ []

unfoldable pub pinged_steps : List ℕ → Reply → List NoteStep
pinged_steps name r = ping_told (ping_of_start name r)

-- the name of the first member of a table whose record has an address, if there is one
abbrev pub helper_name : Addr → List Claim → Option (List ℕ)
helper_name addr table = option_map name_of (find (λ r. is_same_addr r.addr addr) table)

-- whom a packet asks for an indirect probe, if it is a PingReq: by the address that it goes to
abbrev pub helper_in : List Claim → Addr → Body → List Helper
helper_in table to (PingReq number target addr) = record { addr = to; name = helper_name to table } ∷ []
helper_in table to _ = []

abbrev pub helper_of : List Claim → Outgoing → List Helper
helper_of table sent = helper_in table sent.to sent.packet.body

-- those who were asked with an entry, in order
unfoldable pub helpers_asked : List Claim → List Outgoing → List Helper
helpers_asked table sends = flat_map (helper_of table) sends

-- That no Ack came in time, while a probe of the member runs. The time is the deadline of the timer that fired less the
-- moment at which the probe began.
abbrev pub unanswered_told : Option RunningProbe → Option Timer → List Helper → List NoteStep
unanswered_told (Some probe) (Some timer) helpers =
    if asks_helpers timer.id then Unanswered (timer.deadline - probe.since) (record { items = helpers }) ∷ [] else []
unanswered_told _ _ helpers = []

unfoldable pub unanswered_steps : Option RunningProbe → Reply → List Claim → List NoteStep
unanswered_steps probe r table = unanswered_told probe r.fired (helpers_asked table r.sends.items)

-- whether an Ack or a Nack is one to the node, as far as it tells: versions 1 and 2 don't
abbrev pub is_to : List ℕ → Option (List ℕ) → Bool
is_to me None = true
is_to me (Some receiver) = is_same_name me receiver

-- whether a body is a Nack to the node's probe of this number, and whether it is an Ack to it
abbrev pub nacks_probe : List ℕ → ℕ → Body → Bool
nacks_probe me probe (Nack number receiver) = number == probe && is_to me receiver
nacks_probe me probe _ = false

abbrev pub acks_probe : List ℕ → ℕ → Body → Bool
acks_probe me probe (Ack number receiver) = number == probe && is_to me receiver
acks_probe me probe _ = false

-- of whom a packet was heard whose body passes a test, which is given the number of the probe that runs
abbrev pub answerer_of : (ℕ → Body → Bool) → NoteSubject → Option RunningProbe → Event → Option (List ℕ)
answerer_of test subject (Some probe) (Heard now source packet) =
    if is_heard subject packet && test probe.number packet.body then Some packet.sender else None
answerer_of test subject _ _ = None

-- of whom a Nack to the probe of the member that runs was heard, and of whom an Ack
unfoldable pub nacker_of : NoteSubject → Option RunningProbe → Event → Option (List ℕ)
nacker_of subject probe e = answerer_of (nacks_probe subject.me) subject probe e

unfoldable pub acker_of : NoteSubject → Option RunningProbe → Event → Option (List ℕ)
acker_of subject probe e = answerer_of (acks_probe subject.me) subject probe e

-- that a Nack came
abbrev pub nack_told : Option (List ℕ) → List NoteStep
nack_told None = []
nack_told (Some sender) = Nacked sender ∷ []

unfoldable pub nacked_steps : NoteSubject → Option RunningProbe → Event → List NoteStep
nacked_steps subject probe e = nack_told (nacker_of subject probe e)

-- that an Ack came
abbrev pub ack_told : Option (List ℕ) → List NoteStep
ack_told None = []
ack_told (Some sender) = Acked sender ∷ []

unfoldable pub acked_steps : NoteSubject → Option RunningProbe → Event → List NoteStep
acked_steps subject probe e = ack_told (acker_of subject probe e)

-- whether the round of a probe of the member ended with an entry
abbrev pub ends_probe : Option RunningProbe → Reply → Bool
ends_probe probe r = is_some probe && ends_round r

-- whether the score after an event is known to be greater than the one before
abbrev pub score_rose : Option InsightsValue → Bool
score_rose None = false
score_rose (Some known) = nat_lt known.0.score known.1.score

-- That the round of a probe of the member ended. It is known to have ended without an Ack if the member's record became
-- suspect by it, or the score rose.
unfoldable pub ended_steps : List ℕ → Option RunningProbe → Reply → Option InsightsValue → List NoteStep
ended_steps name probe r known =
    if ends_probe probe r then RoundEnded (suspects_member name r || score_rose known) ∷ [] else []

-- that the score changed, if its change is told
abbrev pub score_told : Bool → Option InsightsValue → List NoteStep
score_told told None = []
score_told told (Some known) =
    if told && not (known.0.score == known.1.score) then Scored known.0.score known.1.score ∷ [] else []

-- That the health score changed. It is told of an entry with an Ack to the probe of the member that runs, or with which
-- its round ended.
unfoldable pub scored_steps : NoteSubject → Option RunningProbe → Event → Reply → Option InsightsValue → List NoteStep
scored_steps subject probe e r known = score_told (is_some (acker_of subject probe e) || ends_probe probe r) known

-- How the rounds of the minute before ended, and for how long the clock stood still in it, if the round of a probe of
-- the member ended and its record became suspect by that.
unfoldable pub minute_steps : List ℕ → Option RunningProbe → Reply → MinuteBefore → List NoteStep
minute_steps name probe r minute =
    if ends_probe probe r && suspects_member name r
    then Minute minute.ended minute.suspected minute.stood_still_ms ∷ [] else []
