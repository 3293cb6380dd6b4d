-- Whether the replies of a recording are those of the definitions.
use Rattle.std.specs.Prelude.{ℕ, ◌-◌, filter, Bool, true, false, if◌then◌else◌}
use Rattle.std.specs.Prelude.{List, [], ◌∷◌, ◌++◌, length, Option, Some, None, bytes_eq, codes, decimal}
use Rattle.lg_detector.specs.declared.reply.Reply.{Reply}
use Rattle.lg_history.specs.Meaning.History.{Entry, entry}
use Rattle.lg_recording.specs.Meaning.Listing.{entry_chunk}
use Rattle.lg_recording.specs.Meaning.Values.{with_standstill}
use Rattle.lg_text.specs.Meaning.Lines.{newline}
use Rattle.lg_replay.specs.Meaning.Lives.{Life, due_reply, life_with}
use Rattle.lg_replay.specs.declared.counts.ReplayCounts.{ReplayCounts}
use Rattle.lg_replay.specs.declared.verdict.Verdict.{Verdict}
use Rattle.lg_replay.specs.declared.verdict.Verdict.TheVariants.{Same, Differs, Unchecked}

-- an entry alone, as it is recorded if the clock didn't stand still before it
abbrev pub chunk_alone : Entry → List ℕ
chunk_alone x = entry_chunk (with_standstill x 0)

-- The verdict on an entry, by the reply that is due: whether the same seat and event with that reply are recorded by
-- the same bytes, if the clock didn't stand still. Without a due reply the entry can't be checked.
unfoldable pub verdict_by : Option Reply → Entry → Verdict
verdict_by None x = Unchecked
verdict_by (Some due) x =
    if bytes_eq (chunk_alone x) (chunk_alone (entry x.seat x.event due)) then Same else Differs

abbrev pub verdict_on : Life → Entry → Verdict
verdict_on life x = verdict_by (due_reply life.past x.event) x

-- the verdicts on some entries, one after another
abbrev pub verdicts_on : Life → List Entry → List Verdict
verdicts_on life [] = []
verdicts_on life (x ∷ xs) = verdict_on life x ∷ verdicts_on (life_with life x) xs

abbrev pub is_differing : Verdict → Bool
is_differing Same = false
is_differing Differs = true
is_differing Unchecked = false

abbrev pub is_unchecked : Verdict → Bool
is_unchecked Same = false
is_unchecked Differs = false
is_unchecked Unchecked = true

-- how many entries there are, how many of them differ, and how many weren't checked
abbrev pub counts_of : List Verdict → ReplayCounts
counts_of verdicts = record {
  entries = length verdicts;
  differing = length (filter is_differing verdicts);
  unchecked = length (filter is_unchecked verdicts);
}

-- The last line: how many entries there are, how many of them were checked, how many of those differ, and how many
-- weren't checked.
abbrev pub counts_line : List Verdict → List ℕ
counts_line verdicts =
    let unchecked = length (filter is_unchecked verdicts) in
    codes "entries " ++ decimal (length verdicts)
    ++ codes " checked " ++ decimal (length verdicts - unchecked)
    ++ codes " differing " ++ decimal (length (filter is_differing verdicts))
    ++ codes " unchecked " ++ decimal unchecked ++ newline
