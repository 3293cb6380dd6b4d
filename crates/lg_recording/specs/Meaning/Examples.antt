-- Worked rows: entries with their bytes, and bytes that end too early.
use Rattle.std.specs.Prelude.{◌≡◌, ℕ, List, [], ◌∷◌, ◌++◌, take, Some, None, Ok, Err, false, refl}
use Rattle.lg_rules.specs.declared.addr.Addr.{Addr}
use Rattle.lg_rules.specs.declared.addr.Ip.TheVariants.{V4}
use Rattle.lg_rules.specs.declared.version.Version.TheVariants as versions
use Rattle.lg_timers.specs.declared.timer.TimerId.TheVariants.{RoundStart}
use Rattle.lg_packet.specs.declared.packet.Body.TheVariants as bodies
use Rattle.lg_packet.specs.declared.packet.Packet.{Packet}
use Rattle.lg_packet.specs.Meaning.Spelling.{spelling}
use Rattle.lg_packet.specs.Meaning.Reading.{packet_of, packet_at, head_at, name_at, some_name_at, name_or_none_at}
use Rattle.lg_packet.specs.Meaning.Reading.{addr_at, body_at, claims_at, claim_at, incarnation_at, status_at}
use Rattle.lg_detector.specs.declared.event.Event.TheVariants as events
use Rattle.lg_detector.specs.declared.reply.Answer.TheVariants as answers
use Rattle.lg_detector.specs.declared.reply.Reply.{Reply}
use Rattle.lg_history.specs.Meaning.History.{entry}
use Rattle.lg_fields.specs.declared.fault.FieldFault.TheVariants as faults
use Rattle.lg_fields.specs.Meaning.Spelled.{spelled_count, spelled_digits}
use Rattle.lg_fields.specs.Meaning.Scanned.{digits_scan, count_scan, bounded_scan, few_scan, text_scan, told_scan}
use Rattle.lg_fields.specs.Meaning.Scanned.{records_scan, chunk_scan}
use Rattle.lg_recording.specs.Meaning.Spelling.{spelled_event, spelled_fired, spelled_sends, spelled_names}
use Rattle.lg_recording.specs.Meaning.Spelling.{spelled_answer, spelled_reply, spelled_entry, spelled_recorded}
use Rattle.lg_recording.specs.Meaning.Scanning.{each_scan, tick_scan, heard_scan, health_scan, id_scan, timer_scan}
use Rattle.lg_recording.specs.Meaning.Scanning.{send_scan, sends_scan, names_scan, known_scan, standing_scan}
use Rattle.lg_recording.specs.Meaning.Scanning.{reply_scan, entry_scan, recorded_scan, recorded_of}
use Rattle.lg_recording.specs.Meaning.Listing.{entry_chunk_scan, listed_upto, listing, entries_scan}
use Rattle.lg_recording.specs.Meaning.Starts.{magic_scan, start_scan}
use Rattle.lg_recording.specs.Meaning.Values.{RecordedEntry, with_standstill}

unfoldable pub by_computing : Unit {0}
unfolding spelled_digits spelled_count digits_scan count_scan bounded_scan few_scan text_scan told_scan records_scan
    chunk_scan spelling packet_of packet_at head_at name_at some_name_at name_or_none_at addr_at body_at claims_at
    claim_at incarnation_at status_at spelled_event spelled_fired spelled_sends spelled_names spelled_answer
    spelled_reply spelled_entry spelled_recorded each_scan tick_scan heard_scan health_scan id_scan timer_scan
    send_scan sends_scan names_scan known_scan standing_scan reply_scan entry_scan recorded_scan recorded_of
    entry_chunk_scan listed_upto magic_scan start_scan
by_computing = tt

-- a reply that tells nothing but its next deadline
abbrev silent : ℕ → Reply
silent next =
    record {
      fired = None;
      sends = record { items = [] };
      changed = record { items = [] };
      forgotten = record { items = [] };
      answer = None;
      ousted = false;
      next = next;
    }

-- The first pass asks for the health at 20: the score 0, the incarnation 2 and three members. The next deadline is
-- 1000, which is 104 and 7 times 128. The clock didn't stand still.
abbrev health : RecordedEntry
health = with_standstill (entry 1 (events.Health 20) (record (silent 1000) { answer = Some (answers.Health 0 2 3) })) 0

abbrev health_bytes : List ℕ
health_bytes =
    1 ∷ 5 ∷ 20 ∷ 0 ∷ 0 ∷ 0 ∷ 0 ∷ 3 ∷ 0 ∷ 0 ∷ 0 ∷ 0 ∷ 2 ∷ 3 ∷ 0 ∷ 0xe8 ∷ 7 ∷ 0 ∷ []

health_is_spelled : spelled_recorded health ≡ health_bytes
unfolding by_computing
health_is_spelled = refl

health_is_read : recorded_of health_bytes ≡ Ok health
unfolding by_computing
health_is_read = refl

-- the address 127.0.0.1:7001, and its bytes
abbrev at_7001 : Addr
at_7001 = record { ip = V4 (127 ∷ 0 ∷ 0 ∷ 1 ∷ []); port = 7001 }

abbrev at_7001_bytes : List ℕ
at_7001_bytes = 4 ∷ 0x7f ∷ 0 ∷ 0 ∷ 1 ∷ 0x1b ∷ 0x59 ∷ []

-- A tick of the second pass at 1000 starts a round: a pings b with the number 7, in 14 bytes of version three. The next
-- deadline is 1500, which is 92 and 11 times 128.
abbrev ping : Packet
ping =
    record {
      version = versions.Three;
      group = None;
      sender = 97 ∷ [];
      body = bodies.Ping 7 (98 ∷ []);
      claims = record { items = [] };
    }

abbrev round : RecordedEntry
round =
    with_standstill (
    entry 2 (events.Tick 1000 (1 ∷ 2 ∷ 3 ∷ 4 ∷ 5 ∷ 6 ∷ 7 ∷ 8 ∷ []))
    (record (silent 1500) {
      fired = Some (record { deadline = 1000; id = RoundStart });
      sends = record { items = record { to = at_7001; packet = ping } ∷ [] };
    })
    ) 0

abbrev round_bytes : List ℕ
round_bytes =
    2 ∷ 2 ∷ 0xe8 ∷ 7 ∷ 0 ∷ 0 ∷ 0 ∷ 1 ∷ 0 ∷ 0 ∷ 0 ∷ 2 ∷ 0 ∷ 0 ∷ 0 ∷ 3 ∷ 0 ∷ 0 ∷ 0 ∷ 4
    ∷ 0 ∷ 0 ∷ 0 ∷ 5 ∷ 0 ∷ 0 ∷ 0 ∷ 6 ∷ 0 ∷ 0 ∷ 0 ∷ 7 ∷ 0 ∷ 0 ∷ 0 ∷ 8
    ∷ 6 ∷ 0xe8 ∷ 7 ∷ 1 ∷ (at_7001_bytes
    ++ 14 ∷ 0x53 ∷ 0x4c ∷ 3 ∷ 1 ∷ 0 ∷ 1 ∷ 97 ∷ 0 ∷ 0 ∷ 0 ∷ 7 ∷ 1 ∷ 98 ∷ 0
    ∷ 0 ∷ 0 ∷ 0 ∷ 0 ∷ 0xdc ∷ 11 ∷ 0 ∷ [])

round_is_spelled : spelled_recorded round ≡ round_bytes
unfolding by_computing
round_is_spelled = refl

round_is_read : recorded_of round_bytes ≡ Ok round
unfolding by_computing
round_is_read = refl

-- The first pass hears the Ack of b at 1010, which is 114 and 7 times 128, in 11 bytes of version one. The next
-- deadline is 2000, which is 80 and 15 times 128. The clock stood still for 1500 ms before, which is 92 and 11 times
-- 128.
abbrev ack : Packet
ack =
    record {
      version = versions.One;
      group = None;
      sender = 98 ∷ [];
      body = bodies.Ack 7 None;
      claims = record { items = [] };
    }

abbrev acked : RecordedEntry
acked = with_standstill (entry 1 (events.Heard 1010 at_7001 ack) (silent 2000)) 1500

abbrev acked_bytes : List ℕ
acked_bytes =
    1 ∷ 3 ∷ 0xf2 ∷ 7 ∷ (at_7001_bytes
    ++ 11 ∷ 0x53 ∷ 0x4c ∷ 1 ∷ 3 ∷ 1 ∷ 98 ∷ 0 ∷ 0 ∷ 0 ∷ 7 ∷ 0
    ∷ 0 ∷ 0 ∷ 0 ∷ 0 ∷ 0 ∷ 0 ∷ 0xd0 ∷ 15 ∷ 0xdc ∷ 11 ∷ [])

acked_is_spelled : spelled_recorded acked ≡ acked_bytes
unfolding by_computing
acked_is_spelled = refl

acked_is_read : recorded_of acked_bytes ≡ Ok acked
unfolding by_computing
acked_is_read = refl

-- a body that goes on behind its entry, a seat above 32, and a kind of event that there isn't
it_goes_on : recorded_of (health_bytes ++ 0 ∷ []) ≡ Err faults.Trailing
unfolding by_computing
it_goes_on = refl

no_seat : recorded_of (33 ∷ 5 ∷ []) ≡ Err faults.Number
unfolding by_computing
no_seat = refl

no_kind : recorded_of (1 ∷ 8 ∷ []) ≡ Err faults.Kind
unfolding by_computing
no_kind = refl

-- an entry that ends before it says how long the clock stood still
cut_clock : recorded_of (take 17 health_bytes) ≡ Err faults.Short
unfolding by_computing
cut_clock = refl

-- a chunk of 18 bytes whose file ends behind the fifth of them
torn : entries_scan (18 ∷ take 5 health_bytes) ≡ listing [] (Some faults.Short)
unfolding by_computing
torn = refl

nothing_left : entries_scan [] ≡ listing [] None
unfolding by_computing
nothing_left = refl

-- files that begin with other magic bytes, with another version of the format, or that end within the magic bytes
no_magic : start_scan (0x4d ∷ []) ≡ Err faults.Magic
unfolding by_computing
no_magic = refl

other_version : start_scan (0x4c ∷ 0x47 ∷ 0x52 ∷ 2 ∷ []) ≡ Err faults.Version
unfolding by_computing
other_version = refl

cut_mark : start_scan (0x4c ∷ 0x47 ∷ []) ≡ Err faults.Short
unfolding by_computing
cut_mark = refl
