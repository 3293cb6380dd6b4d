-- What is known of the member behind some entries, by the entries alone: whether it is suspected, and which probe of it
-- runs.
use Rattle.std.specs.Prelude.{ℕ, Bool, not, ◌&&◌, List, [], ◌∷◌, Option, Some, None}
use Rattle.std.specs.Prelude.{is_none, if◌then◌else◌}
use Rattle.std.specs.List.{list_any}
use Rattle.lg_rules.specs.declared.addr.Addr.{Addr}
use Rattle.lg_rules.specs.declared.claim.Claim.{Claim}
use Rattle.lg_packet.specs.declared.packet.Body.{Body}
use Rattle.lg_packet.specs.declared.packet.Body.TheVariants.{Ping}
use Rattle.lg_detector.specs.declared.event.Event.{Event}
use Rattle.lg_detector.specs.declared.event.Event.TheVariants.{Open, Leave}
use Rattle.lg_detector.specs.declared.reply.Outgoing.{Outgoing}
use Rattle.lg_detector.specs.declared.reply.Reply.{Reply}
use Rattle.lg_notes.specs.declared.subject.NoteSubject.{NoteSubject}
use Rattle.lg_notes.specs.declared.watch.FirstPing.{FirstPing}
use Rattle.lg_notes.specs.declared.watch.RunningProbe.{RunningProbe}
use Rattle.lg_notes.specs.declared.watch.Watch.{Watch}
use Rattle.lg_notes.specs.Meaning.About.{is_same_name, is_suspect_record, record_changed}
use Rattle.lg_notes.specs.Meaning.Timers.{ends_round, starts_round}

-- the number of a packet's Ping and where it goes, if it is a Ping of the member
abbrev pub ping_in : List ℕ → Addr → Body → Option FirstPing
ping_in name to (Ping number target) =
    if is_same_name name target then Some (record { number = number; addr = to }) else None
ping_in name to _ = None

-- the same of the first packet that is sent
abbrev pub first_ping : List ℕ → List Outgoing → Option FirstPing
first_ping name [] = None
first_ping name (sent ∷ rest) = ping_in name sent.to sent.packet.body

-- The Ping with which an entry began a probe of the member: a start of a round fired, and the first packet that was
-- sent is a Ping of it.
unfoldable pub ping_of_start : List ℕ → Reply → Option FirstPing
ping_of_start name r = if starts_round r then first_ping name r.sends.items else None

-- the probe that begins with this Ping at this moment
abbrev pub probe_since : ℕ → Option FirstPing → Option RunningProbe
probe_since greatest None = None
probe_since greatest (Some ping) = Some (record { number = ping.number; since = greatest })

-- an opening ends the probe that ran, and so does a Leave
abbrev pub probe_past : Event → Option RunningProbe → Option RunningProbe
probe_past (Open now config) probe = None
probe_past (Leave now words) probe = None
probe_past _ probe = probe

-- The probe of the member that runs behind one more entry. It is that which the last start of a round began, if it
-- began one of it, and if no round ended since, and neither an opening nor a Leave came. It began at the greatest
-- moment that was handed in so far, with the start's own.
unfoldable pub probe_behind : List ℕ → ℕ → Option RunningProbe → Event → Reply → Option RunningProbe
probe_behind name greatest probe e r =
    if starts_round r then probe_since greatest (ping_of_start name r)
    else if ends_round r then None
    else probe_past e probe

-- whether the member is suspected: by its record, if that changed, and else as before, unless its name was forgotten
abbrev pub suspected_by_record : Option Claim → Bool → Bool → Bool
suspected_by_record (Some r) forgotten before = is_suspect_record r
suspected_by_record None forgotten before = not forgotten && before

unfoldable pub suspected_behind : List ℕ → Bool → Reply → Bool
suspected_behind name before r =
    suspected_by_record (record_changed name r) (list_any (is_same_name name) r.forgotten.items) before

-- What is known of the member behind one more entry. The greatest moment so far is that with this entry's.
unfoldable pub watch_behind : NoteSubject → ℕ → Watch → Event → Reply → Watch
watch_behind subject greatest watch e r = record {
  is_suspected = suspected_behind subject.name watch.is_suspected r;
  probe = probe_behind subject.name greatest watch.probe e r;
}

-- the member is calm if it is neither suspected nor probed
abbrev pub is_calm : Watch → Bool
is_calm watch = not watch.is_suspected && is_none watch.probe
