-- The metrics that have one value each: their names, helps, types and values (this project's choice, by the conventions
-- of Prometheus).
use Rattle.std.specs.Prelude.{ℕ, Bool, List, [], ◌∷◌, codes, if◌then◌else◌}
use Rattle.lg_answers.specs.declared.metric.Amount.{Amount}
use Rattle.lg_answers.specs.declared.metric.Amount.TheVariants.{Number, Milliseconds}
use Rattle.lg_answers.specs.declared.metric.Metric.{Metric}
use Rattle.lg_answers.specs.declared.metric.Metric.TheVariants.{HealthScore, Incarnation, Ousted, Events, LastEvent}
use Rattle.lg_answers.specs.declared.metric.Metric.TheVariants.{Uptime, StoodStill, Received, Sent, Unsent, ProbesBegun}
use Rattle.lg_answers.specs.declared.metric.Metric.TheVariants.{ProbesFailed, ProbesHelped, SuspicionsRaised}
use Rattle.lg_answers.specs.declared.metric.Metric.TheVariants.{SuspicionsRefuted, HistoryEntries, HistoryRotations}
use Rattle.lg_answers.specs.declared.metric.Metric.TheVariants.{CallsRefused, MembersForgotten}
use Rattle.lg_answers.specs.declared.metric.Metric.TheVariants.{RecordedEntries, RecordedBytes, RecordingLost}
use Rattle.lg_answers.specs.declared.metric.Metric.TheVariants.{RecordingFailures}
use Rattle.lg_answers.specs.declared.snapshot.Snapshot.{Snapshot}

-- the metrics in the order in which they are shown
abbrev pub metrics : List Metric
metrics =
    HealthScore ∷ Incarnation ∷ Ousted ∷ Events ∷ LastEvent ∷ Uptime ∷ StoodStill ∷ Received ∷ Sent ∷ Unsent
    ∷ ProbesBegun ∷ ProbesFailed ∷ ProbesHelped ∷ SuspicionsRaised ∷ SuspicionsRefuted
    ∷ MembersForgotten ∷ HistoryEntries ∷ HistoryRotations ∷ CallsRefused
    ∷ RecordedEntries ∷ RecordedBytes ∷ RecordingLost ∷ RecordingFailures ∷ []

abbrev pub metric_name : Metric → List ℕ
metric_name HealthScore = codes "lg_health_score"
metric_name Incarnation = codes "lg_incarnation"
metric_name Ousted = codes "lg_ousted"
metric_name Events = codes "lg_events_total"
metric_name LastEvent = codes "lg_last_event_seconds"
metric_name Uptime = codes "lg_uptime_seconds"
metric_name StoodStill = codes "lg_stood_still_seconds_total"
metric_name Received = codes "lg_datagrams_received_total"
metric_name Sent = codes "lg_datagrams_sent_total"
metric_name Unsent = codes "lg_datagrams_unsent_total"
metric_name ProbesBegun = codes "lg_probes_begun_total"
metric_name ProbesFailed = codes "lg_probes_failed_total"
metric_name ProbesHelped = codes "lg_probes_helped_total"
metric_name SuspicionsRaised = codes "lg_suspicions_raised_total"
metric_name SuspicionsRefuted = codes "lg_suspicions_refuted_total"
metric_name MembersForgotten = codes "lg_members_forgotten_total"
metric_name HistoryEntries = codes "lg_history_entries_total"
metric_name HistoryRotations = codes "lg_history_rotations_total"
metric_name CallsRefused = codes "lg_calls_refused_total"
metric_name RecordedEntries = codes "lg_recorded_entries_total"
metric_name RecordedBytes = codes "lg_recorded_bytes_total"
metric_name RecordingLost = codes "lg_recording_lost_entries_total"
metric_name RecordingFailures = codes "lg_recording_failures_total"

abbrev pub metric_help : Metric → List ℕ
metric_help HealthScore = codes "Health score of this member, 0 at best."
metric_help Incarnation = codes "Incarnation of this member."
metric_help Ousted = codes "Whether this member is ousted: 1 if it is."
metric_help Events = codes "Events that the members are after."
metric_help LastEvent = codes "Moment of the last event, by the clock of the node."
metric_help Uptime = codes "Time since the start of the node."
metric_help StoodStill = codes "Time in which the node stood still."
metric_help Received = codes "Datagrams received, those with a fault too."
metric_help Sent = codes "Datagrams sent."
metric_help Unsent = codes "Datagrams that could not be sent."
metric_help ProbesBegun = codes "Probes begun, one a round."
metric_help ProbesFailed = codes "Probes that no Ack ended in time."
metric_help ProbesHelped = codes "Probes made for other members."
metric_help SuspicionsRaised = codes "Suspicions raised, of any member."
metric_help SuspicionsRefuted = codes "Suspicions of this member that it refuted."
metric_help MembersForgotten = codes "Members forgotten, those that became known again too."
metric_help HistoryEntries = codes "Entries that the history took."
metric_help HistoryRotations = codes "Rotations of the history."
metric_help CallsRefused = codes "Calls that were refused."
metric_help RecordedEntries = codes "Entries recorded."
metric_help RecordedBytes = codes "Bytes recorded."
metric_help RecordingLost = codes "Entries that were to be recorded and were not."
metric_help RecordingFailures = codes "Batches of entries that were not recorded whole."

-- a counter only grows from the start of the node on
abbrev pub metric_type : Metric → List ℕ
metric_type HealthScore = codes "gauge"
metric_type Incarnation = codes "gauge"
metric_type Ousted = codes "gauge"
metric_type LastEvent = codes "gauge"
metric_type Uptime = codes "gauge"
metric_type metric = codes "counter"

abbrev pub bit_of : Bool → ℕ
bit_of truth = if truth then 1 else 0

-- the value in a look
abbrev pub metric_amount : Metric → Snapshot → Amount
metric_amount HealthScore s = Number s.score
metric_amount Incarnation s = Number s.incarnation
metric_amount Ousted s = Number (bit_of s.ousted)
metric_amount Events s = Number s.version
metric_amount LastEvent s = Milliseconds s.last_event_ms
metric_amount Uptime s = Milliseconds s.uptime_ms
metric_amount StoodStill s = Milliseconds s.stood_still_ms
metric_amount Received s = Number s.counts.received
metric_amount Sent s = Number s.counts.sent
metric_amount Unsent s = Number s.counts.unsent
metric_amount ProbesBegun s = Number s.counts.probes_begun
metric_amount ProbesFailed s = Number s.counts.probes_failed
metric_amount ProbesHelped s = Number s.counts.probes_helped
metric_amount SuspicionsRaised s = Number s.counts.suspicions_raised
metric_amount SuspicionsRefuted s = Number s.counts.suspicions_refuted
metric_amount MembersForgotten s = Number s.counts.members_forgotten
metric_amount HistoryEntries s = Number s.counts.history_entries
metric_amount HistoryRotations s = Number s.counts.history_rotations
metric_amount CallsRefused s = Number s.counts.calls_refused
metric_amount RecordedEntries s = Number s.counts.recorded.entries
metric_amount RecordedBytes s = Number s.counts.recorded.bytes
metric_amount RecordingLost s = Number s.counts.recorded.lost
metric_amount RecordingFailures s = Number s.counts.recorded.failures
