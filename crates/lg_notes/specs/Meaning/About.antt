-- What an entry has about a member: who told it, and how its record changed.
use Rattle.std.specs.Prelude.{ℕ, Bool, false, ◌||◌, nat_eq, List, Option, Some, None}
use Rattle.std.specs.Prelude.{find, is_some, if◌then◌else◌}
use Rattle.std.specs.List.{list_any}
use Rattle.std.specs.Cmp.Lexicographic.{pointwise}
use Rattle.lg_rules.specs.declared.claim.Claim.{Claim}
use Rattle.lg_rules.specs.Meaning.Claim.{accuser_of, is_gone}
use Rattle.lg_packet.specs.declared.packet.Packet.{Packet}
use Rattle.lg_detector.specs.declared.event.Event.{Event}
use Rattle.lg_detector.specs.declared.event.Event.TheVariants.{Open, Tick, Heard, Ask, Health, Pull, Leave}
use Rattle.lg_detector.specs.declared.reply.Reply.{Reply}
use Rattle.lg_detector.specs.Meaning.Groups.{is_of_group}
use Rattle.lg_notes.specs.declared.subject.NoteSubject.{NoteSubject}

-- whether two names are the same
abbrev pub is_same_name : List ℕ → List ℕ → Bool
is_same_name name other = pointwise nat_eq name other

-- whether a record or a claim is about the member of a name
abbrev pub is_about : List ℕ → Claim → Bool
is_about name c = is_same_name name c.name

-- A packet is heard if it is of the node's group. One of another group tells nothing.
abbrev pub is_heard : NoteSubject → Packet → Bool
is_heard subject packet = is_of_group subject.group packet

-- the sender of the packet that was heard, if an entry has one
abbrev pub teller_of : NoteSubject → Event → Option (List ℕ)
teller_of subject (Open now config) = None
teller_of subject (Tick now words) = None
teller_of subject (Heard now source packet) = if is_heard subject packet then Some packet.sender else None
teller_of subject (Ask now name) = None
teller_of subject (Health now) = None
teller_of subject (Pull now peer) = None
teller_of subject (Leave now words) = None

-- whether a record says that its member is suspected, and whether it says that it is suspected, failed or left
abbrev pub is_suspect_record : Claim → Bool
is_suspect_record r = is_some (accuser_of r.status)

abbrev pub is_verdict : Claim → Bool
is_verdict r = is_suspect_record r || is_gone r.status

-- the member's record after an entry, if it is among those that the entry changed
unfoldable pub record_changed : List ℕ → Reply → Option Claim
record_changed name r = find (is_about name) r.changed.items

-- whether there is a record that passes a test
abbrev pub is_record : (Claim → Bool) → Option Claim → Bool
is_record test None = false
is_record test (Some r) = test r

-- whether an entry changed the member's record to suspect; and whether to suspect, failed or left: such a change is a
-- verdict on it
abbrev pub suspects_member : List ℕ → Reply → Bool
suspects_member name r = is_record is_suspect_record (record_changed name r)

abbrev pub changes_verdict : List ℕ → Reply → Bool
changes_verdict name r = is_record is_verdict (record_changed name r)

-- whether an entry changed the record of some member to suspect
abbrev pub suspects_some : Reply → Bool
suspects_some r = list_any is_suspect_record r.changed.items
