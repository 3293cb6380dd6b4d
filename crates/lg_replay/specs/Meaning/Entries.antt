-- What is told of the entries of a recording.
use Rattle.std.specs.Prelude.{ℕ, ◌+◌, if◌then◌else◌, List, [], ◌∷◌, ◌++◌, Option, Some, None, codes, decimal}
use Rattle.lg_detector.specs.Meaning.Step.{is_accepted}
use Rattle.lg_detector.specs.declared.event.Event.{Event}
use Rattle.lg_detector.specs.declared.reply.Reply.{Reply}
use Rattle.lg_history.specs.Meaning.History.{Entry}
use Rattle.lg_fields.specs.declared.fault.FieldFault.{FieldFault}
use Rattle.lg_text.specs.Meaning.Lines.{newline}
use Rattle.lg_lines.specs.Meaning.Replies.{reply_text}
use Rattle.lg_replay.specs.declared.verdict.Verdict.{Verdict}
use Rattle.lg_replay.specs.declared.verdict.Verdict.TheVariants.{Same, Differs, Unchecked}
use Rattle.lg_replay.specs.declared.window.Window.{Window}
use Rattle.lg_replay.specs.Meaning.Lives.{Life, life_with, told_of_entry}
use Rattle.lg_replay.specs.Meaning.Shown.{is_told}
use Rattle.lg_replay.specs.Meaning.Verdicts.{verdict_on}
use Rattle.lg_replay.specs.Meaning.Words.{event_line, fault_word_of, recorded_text, unchecked_line}

-- The line before an entry whose event isn't accepted behind what is known: from it on nothing can be checked. The
-- entry has this number.
unfoldable pub loss_text : ℕ → Option (List Event) → Event → List ℕ
loss_text number None e = []
loss_text number (Some f) e = if is_accepted (f ++ e ∷ []) then [] else unchecked_line number

-- the lines behind an entry that differs: those of the recorded reply, whose first packet has the number k
abbrev pub differing_text : ℕ → Event → Reply → Verdict → List ℕ
differing_text k e recorded Same = []
differing_text k e recorded Differs = codes "differs" ++ newline ++ recorded_text (reply_text e k recorded)
differing_text k e recorded Unchecked = []

-- the lines of an entry: its event, the reply that is told, and the recorded one if that differs
abbrev pub event_lines : ℕ → Event → Reply → Reply → Verdict → List ℕ
event_lines k e told recorded verdict = event_line e ++ reply_text e k told ++ differing_text k e recorded verdict

-- the same of an entry that is told; of any other there are none
unfoldable pub entry_lines : Window → ℕ → Event → Reply → Reply → Verdict → List ℕ
entry_lines window k e told recorded verdict =
    if is_told window e told recorded then event_lines k e told recorded verdict else []

-- What is told of an entry with this number. The packets of a life are numbered from 1 on.
unfoldable pub entry_text : Window → ℕ → Life → Entry → List ℕ
entry_text window number life x =
    loss_text number life.past x.event
    ++ entry_lines window (life.sent + 1) x.event (told_of_entry life.past x) x.reply (verdict_on life x)

-- the line of the fault at which the entries of a file end, if they do: in place of the entry of this number
abbrev pub fault_end_text : ℕ → Option FieldFault → List ℕ
fault_end_text number None = []
fault_end_text number (Some fault) =
    codes "fault " ++ fault_word_of fault ++ codes " at entry " ++ decimal number ++ newline

-- What is told of the entries of a file, of which the first has this number, and of the fault at which they end, if
-- they do.
abbrev pub entries_text : Window → ℕ → Life → List Entry → Option FieldFault → List ℕ
entries_text window number life [] fault = fault_end_text number fault
entries_text window number life (x ∷ xs) fault =
    entry_text window number life x ++ entries_text window (number + 1) (life_with life x) xs fault
