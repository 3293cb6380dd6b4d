-- The lines of a recording that is told: its files, its events, and what can't be checked.
use Rattle.std.specs.Prelude.{ℕ, List, ◌++◌, codes, decimal}
use Rattle.std.specs.List.{flat_map}
use Rattle.lg_detector.specs.declared.event.Event.{Event}
use Rattle.lg_detector.specs.declared.event.Event.TheVariants.{Open, Tick, Heard, Ask, Health, Pull, Leave}
use Rattle.lg_fields.specs.declared.fault.FieldFault.{FieldFault}
use Rattle.lg_fields.specs.declared.fault.FieldFault.TheVariants.{Short, Magic, Version, Check, Number, Name, Family}
use Rattle.lg_fields.specs.declared.fault.FieldFault.TheVariants.{Kind, Count, Packet, Incarnation, Trailing}
use Rattle.lg_text.specs.Meaning.Addresses.{addr_text}
use Rattle.lg_text.specs.Meaning.Lines.{lines_of, newline}
use Rattle.lg_lines.specs.Meaning.Records.{blank}
use Rattle.lg_lines.specs.Meaning.Replies.{packet_text}

-- the moment of an event, as it was handed in
abbrev pub moment_of_event : Event → ℕ
moment_of_event (Open now config) = now
moment_of_event (Tick now words) = now
moment_of_event (Heard now source packet) = now
moment_of_event (Ask now name) = now
moment_of_event (Health now) = now
moment_of_event (Pull now peer) = now
moment_of_event (Leave now words) = now

-- An event by its word, and what it is about: who is opened and at which address, who sent which packet, whose record
-- is asked for, or who is asked for its table.
abbrev pub event_words : Event → List ℕ
event_words (Open now config) = codes "open " ++ config.name ++ blank ++ addr_text config.addr
event_words (Tick now words) = codes "tick"
event_words (Heard now source packet) = codes "heard " ++ addr_text source ++ blank ++ packet_text packet
event_words (Ask now name) = codes "ask " ++ name
event_words (Health now) = codes "health"
event_words (Pull now peer) = codes "pull " ++ addr_text peer
event_words (Leave now words) = codes "leave"

-- the line of an event
unfoldable pub event_line : Event → List ℕ
event_line e = codes "at " ++ decimal (moment_of_event e) ++ blank ++ event_words e ++ newline

-- the line that says from which entry on no reply can be checked
abbrev pub unchecked_line : ℕ → List ℕ
unchecked_line number = codes "unchecked from entry " ++ decimal number ++ newline

-- lines as those of what was recorded, where that differs from what is due
abbrev pub recorded_line : List ℕ → List ℕ
recorded_line line = codes "recorded " ++ line ++ newline

unfoldable pub recorded_text : List ℕ → List ℕ
recorded_text text = flat_map recorded_line (lines_of text)

-- the word for a fault
abbrev pub fault_word_of : FieldFault → List ℕ
fault_word_of Short = codes "short"
fault_word_of Magic = codes "magic"
fault_word_of Version = codes "version"
fault_word_of Check = codes "check"
fault_word_of Number = codes "number"
fault_word_of Name = codes "name"
fault_word_of Family = codes "family"
fault_word_of Kind = codes "kind"
fault_word_of Count = codes "count"
fault_word_of Packet = codes "packet"
fault_word_of Incarnation = codes "incarnation"
fault_word_of Trailing = codes "trailing"
