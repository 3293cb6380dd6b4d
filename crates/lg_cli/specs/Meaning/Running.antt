-- How a command line is run, and what becomes of one that isn't.
use Rattle.std.specs.Prelude.{◌≡◌, ◌≢◌, ◌⊎◌, Bool, IfOk, ℕ, true, false, List, [], Option, None, Some, Result, Ok, Err}
use Rattle.std.specs.Prelude.{if◌then◌else◌}
use Rattle.std.specs.Result.{is_err}
use Rattle.lg_rules.specs.Meaning.Name.{name_of_text}
use Rattle.lg_text.specs.Meaning.Reporting.{Reported}
use Rattle.lg_text.specs.Meaning.Running.{ReadsWhole}
use Rattle.lg_commands.specs.Meaning.Choosing.{order_text}
use Rattle.lg_commands.specs.Meaning.Running.{FailsBy, RunsAnswer, RunsInit, RunsOrder, RunsSim, RunsTimeouts}
use Rattle.lg_commands.specs.Meaning.Running.{RunsVersion}
use Rattle.lg_commands.specs.Meaning.Explaining.{explained_of}
use Rattle.lg_commands.specs.Meaning.Replaying.{part_of, TellsBadPart}
use Rattle.lg_commands.specs.declared.bad_part.BadPart.{BadPart}
use Rattle.lg_commands.specs.declared.explain.ExplainPart.{ExplainPart}
use Rattle.lg_commands.specs.declared.replay.RecordingPart.{RecordingPart}
use Rattle.lg_commands.specs.declared.timeouts.Numbers.{Numbers}
use Rattle.lg_config.specs.Meaning.Options.{SourceValue}
use Rattle.lg_explain.specs.declared.question.MemberQuestion.{MemberQuestion}
use Rattle.lg_explain_run.specs.declared.form.AccountForm.{AccountForm}
use Rattle.lg_explain_run.specs.declared.form.AccountForm.TheVariants.{Json, Lines, NumberedLines}
use Rattle.lg_explain_run.specs.Meaning.Paging.{ExplainsPage}
use Rattle.lg_explain_run.specs.Meaning.Running.{ExplainsFolder}
use Rattle.lg_replay.specs.declared.window.Window.{Window}
use Rattle.lg_replay_run.specs.Meaning.Running.{ReplaysFolder}
use Rattle.lg_run.specs.Meaning.Checking.{ChecksSource}
use Rattle.lg_run.specs.Meaning.Running.{RunsSource}
use Rattle.lg_client.specs.declared.resource.Resource.TheVariants.{Health, Members as KnownMembers}
use Rattle.lg_client.specs.Meaning.Leaving.{LeavesNode}
use Rattle.lg_client.specs.Meaning.Telling.{TellsAnswer}
use Rattle.lg_client.specs.Meaning.Watching.{WatchesChanges}
use Rattle.lg_command_line.specs.declared.asked.Question.{Question}
use Rattle.lg_command_line.specs.declared.asked.Question.TheVariants.{Members, Status, Watch}
use Rattle.lg_command_line.specs.Meaning.Commands.{Request, answer, ask, check, init, leave, node, order, sim}
use Rattle.lg_command_line.specs.Meaning.Commands.{explain, ExplainValue, replay, timeouts, version}
use Rattle.lg_command_line.specs.Meaning.Commands.{asked, line_faults}
use Rattle.lg_command_line.specs.Meaning.Leaving.{LacksMemory, LeavesLine}

-- A reader and the bytes that it has left, a writer and the bytes that it has taken, and what was reported. If a stream
-- doesn't tell its bytes, none are known.
pub record Streams (R W : Type 0) : Type 0 where
  pub reader : R
  pub left : Option (List ℕ)
  pub writer : W
  pub held : Option (List ℕ)
  pub reported : Reported

abbrev pub streams :
    {R W : Type 0} → R → Option (List ℕ) → W → Option (List ℕ) → Reported → Streams R W
streams reader left writer held reported =
    record { reader = reader; left = left; writer = writer; held = held; reported = reported }

-- `answer` is run for a text that should be a name. If it is no name, the status is 3, and nothing is read or
-- written. If the run fails, the whole input was read before anything was written.
pub record RunsNamed {R W : Type 0} (before after : Streams R W) (text : List ℕ) (status : ℕ) : Type 0 where
  pub answered : status ≢ 1 → IfOk (name_of_text text)
      (λ name. RunsAnswer before.left after.left before.held after.held before.reported after.reported name status)
  pub bad_name : is_err (name_of_text text) ≡ true → status ≡ 3
  pub unread : is_err (name_of_text text) ≡ true → after.reader ≡ before.reader
  pub unnamed : is_err (name_of_text text) ≡ true → after.writer ≡ before.writer
  pub failed : status ≡ 1 → FailsBy before.reported after.reported before.writer after.writer
  pub read : status ≡ 1 → (after.writer ≡ before.writer) ⊎ ReadsWhole before.left after.left
  pub run : status ≢ 2

-- `order` is run for two texts, its names and its words. Nothing is read. If a list is bad, nothing is written.
pub record RunsLists {R W : Type 0} (before after : Streams R W) (names words : List ℕ) (status : ℕ) : Type 0 where
  pub ordered : status ≢ 1
      → RunsOrder before.held after.held before.reported after.reported (order_text names words) status
  pub unlisted : is_err (order_text names words) ≡ true → after.writer ≡ before.writer
  pub unread : after.reader ≡ before.reader
  pub failed : status ≡ 1 → FailsBy before.reported after.reported before.writer after.writer
  pub run : status ≢ 2

-- `timeouts` is run for its numbers. Nothing is read.
pub record RunsNumbers {R W : Type 0} (before after : Streams R W) (numbers : Numbers) (status : ℕ) : Type 0 where
  pub timed : status ≢ 1
      → RunsTimeouts before.held after.held before.reported after.reported numbers status
  pub unread : after.reader ≡ before.reader
  pub failed : status ≡ 1 → FailsBy before.reported after.reported before.writer after.writer
  pub run : status ≢ 2

-- `sim` is run. If the run fails, the whole input was read before anything was written.
pub record RunsScript {R W : Type 0} (before after : Streams R W) (status : ℕ) : Type 0 where
  pub simulated : status ≢ 1
      → RunsSim before.left after.left before.held after.held before.reported after.reported status
  pub failed : status ≡ 1 → FailsBy before.reported after.reported before.writer after.writer
  pub read : status ≡ 1 → (after.writer ≡ before.writer) ⊎ ReadsWhole before.left after.left
  pub run : status ≢ 2

-- `node` is run from its file, if one is named, and options: for some milliseconds, if it was said for how many, and
-- following what changes, if that was said. Nothing is read from the reader. No contract sees the input whose end may
-- end the node.
pub record RunsNodeSource
    {R W : Type 0} (before after : Streams R W) (source : SourceValue) (for_ms : Option ℕ) (follow : Bool) (status : ℕ)
    : Type 0 where
  pub launched : RunsSource before.writer after.writer before.held after.held before.reported after.reported
      source for_ms follow status
  pub unread : after.reader ≡ before.reader

-- `check` is run for its file, if one is named, and options. Nothing is read from the reader.
pub record RunsCheck {R W : Type 0} (before after : Streams R W) (source : SourceValue) (status : ℕ) : Type 0 where
  pub checked :
      ChecksSource before.writer after.writer before.held after.held before.reported after.reported source status
  pub unread : after.reader ≡ before.reader

-- The node at an address is asked what a command asks for, and its answer is told, or each of its answers.
abbrev pub AsksNode :
    {W : Type 0} → Question → (at : List ℕ) (json : Bool) (before after : W)
    (held holds : Option (List ℕ)) (reported reports : Reported) (status : ℕ) → Type 0
AsksNode Members at json before after held holds reported reports status =
    TellsAnswer at KnownMembers json before after held holds reported reports status
AsksNode Status at json before after held holds reported reports status =
    TellsAnswer at Health json before after held holds reported reports status
AsksNode Watch at json before after held holds reported reports status =
    WatchesChanges at json before after held holds reported reports status

-- `members`, `status` or `watch` is run. Nothing is read from the reader.
pub record RunsAsking
    {R W : Type 0} (before after : Streams R W) (question : Question) (at : List ℕ) (json : Bool) (status : ℕ)
    : Type 0 where
  pub asked : AsksNode question at json before.writer after.writer before.held after.held
      before.reported after.reported status
  pub unread : after.reader ≡ before.reader

-- `init` is run. Nothing is read.
pub record RunsFirstFile {R W : Type 0} (before after : Streams R W) (status : ℕ) : Type 0 where
  pub begun : status ≢ 1 → RunsInit before.held after.held before.reported after.reported status
  pub unread : after.reader ≡ before.reader
  pub failed : status ≡ 1 → FailsBy before.reported after.reported before.writer after.writer
  pub run : status ≢ 2

-- `leave` is run: a node is asked to leave, and its end is waited for. Nothing is read from the reader, and nothing is
-- written.
pub record RunsLeaving {R W : Type 0} (before after : Streams R W) (at name : List ℕ) (status : ℕ) : Type 0 where
  pub left : LeavesNode at name before.reported after.reported status
  pub unread : after.reader ≡ before.reader
  pub unwritten : after.writer ≡ before.writer

-- which entries of a recording a part of it has
abbrev pub window_of : RecordingPart → Window
window_of part = record { from = part.from; to = part.to; only = part.only }

-- What `replay` does by the part of a recording that its texts mean: the recording in the folder is replayed. If a text
-- is bad, that is told, and nothing is written.
abbrev pub ReplaysPart :
    {W : Type 0} → (before after : W) (held holds : Option (List ℕ)) (reported reports : Reported)
    → Result RecordingPart BadPart → (status : ℕ) → Type 0
ReplaysPart before after held holds reported reports (Ok part) status =
    ReplaysFolder held holds reported reports part.folder (window_of part) status
ReplaysPart before after held holds reported reports (Err bad) status =
    (after ≡ before) × TellsBadPart {Part = RecordingPart} reported reports (Err bad) status

-- `replay` is run. Nothing is read from the reader.
pub record RunsReplay
    {R W : Type 0} (before after : Streams R W) (folder : List ℕ) (from to : ℕ) (only : Option (List ℕ)) (status : ℕ)
    : Type 0 where
  pub replayed : ReplaysPart before.writer after.writer before.held after.held before.reported after.reported
      (part_of folder from to only) status
  pub unread : after.reader ≡ before.reader

-- what is asked about a member, by what `explain` tells
abbrev pub question_of : ExplainPart → MemberQuestion
question_of part = record { name = part.name; at = part.at; all = part.all }

-- how the accounts are written as lines, by whether the numbers of the entries are told too, and whether they are JSON
abbrev pub form_of : (entries json : Bool) → AccountForm
form_of entries json = if json then Json else if entries then NumberedLines else Lines

-- What is told about the member from the recording in the folder: lines in a form on the writer, or a page in a file,
-- if one is named. Then nothing is written on the writer. No contract sees what a file of the machine has.
abbrev pub ExplainsMember :
    {W : Type 0} → (before after : W) (held holds : Option (List ℕ)) (reported reports : Reported)
    → ExplainPart → (page : Option (List ℕ)) → AccountForm → (status : ℕ) → Type 0
ExplainsMember before after held holds reported reports part None form status =
    ExplainsFolder held holds reported reports part.folder (question_of part) form status
ExplainsMember before after held holds reported reports part (Some path) form status =
    (after ≡ before) × ExplainsPage false [] [] reported reports part.folder (question_of part) path status

-- What `explain` does by what its texts mean: it tells about the member. If a text is bad, that is told, and nothing is
-- written.
abbrev pub ExplainsPart :
    {W : Type 0} → (before after : W) (held holds : Option (List ℕ)) (reported reports : Reported)
    → Result ExplainPart BadPart → (page : Option (List ℕ)) → AccountForm → (status : ℕ) → Type 0
ExplainsPart before after held holds reported reports (Ok part) page form status =
    ExplainsMember before after held holds reported reports part page form status
ExplainsPart before after held holds reported reports (Err bad) page form status =
    (after ≡ before) × TellsBadPart {Part = ExplainPart} reported reports (Err bad) status

-- `explain` is run. Nothing is read from the reader.
pub record RunsExplain {R W : Type 0} (before after : Streams R W) (value : ExplainValue) (status : ℕ) : Type 0 where
  pub explained : ExplainsPart before.writer after.writer before.held after.held before.reported after.reported
      (explained_of value.folder value.name value.at value.all) value.html (form_of value.entries value.json) status
  pub unread : after.reader ≡ before.reader

-- What `version` writes, by the end of the program's own file. What a file holds no contract can say.
pub record TellsVersion
    {W : Type 0} (before after : W) (held holds : Option (List ℕ)) (reported reports : Reported) (status : ℕ)
    : Type 0 where
  pub end : List ℕ
  pub written : status ≢ 1 → RunsVersion held holds reported reports end status
  pub failed : status ≡ 1 → FailsBy reported reports before after
  pub run : status ≢ 2

-- `version` is run. Nothing is read from the reader.
pub record RunsOwnVersion {R W : Type 0} (before after : Streams R W) (status : ℕ) : Type 0 where
  pub told :
      TellsVersion before.writer after.writer before.held after.held before.reported after.reported status
  pub unread : after.reader ≡ before.reader

-- The command line isn't run, and nothing is read.
abbrev pub LacksUnread : {R W : Type 0} → (before after : Streams R W) → ℕ → Type 0
LacksUnread before after status = (after.reader ≡ before.reader)
    × LacksMemory before.writer after.writer before.reported after.reported status

abbrev pub LeavesUnread : {R W : Type 0} → (before after : Streams R W) → List (List ℕ) → ℕ → Type 0
LeavesUnread before after line status = (after.reader ≡ before.reader)
    × LeavesLine before.writer after.writer before.reported after.reported (line_faults line) status

-- The command that is asked for is run.
abbrev pub RunsRequest : {R W : Type 0} → (before after : Streams R W) → Request → ℕ → Type 0
RunsRequest before after (answer text) status = RunsNamed before after text status
RunsRequest before after (order names words) status = RunsLists before after names words status
RunsRequest before after (timeouts numbers) status = RunsNumbers before after numbers status
RunsRequest before after sim status = RunsScript before after status
RunsRequest before after (node source for_ms follow until_input_ends) status =
    RunsNodeSource before after source for_ms follow status
RunsRequest before after (check source) status = RunsCheck before after source status
RunsRequest before after (ask question at json) status = RunsAsking before after question at json status
RunsRequest before after init status = RunsFirstFile before after status
RunsRequest before after (leave at name) status = RunsLeaving before after at name status
RunsRequest before after (replay folder from to only) status = RunsReplay before after folder from to only status
RunsRequest before after (explain value) status = RunsExplain before after value status
RunsRequest before after version status = RunsOwnVersion before after status

-- A command line that is taken runs its command, and any other is left; or memory was refused for reading it. Nothing
-- is read for a line that isn't run.
pub record RunsLine {R W : Type 0} (before after : Streams R W) (line : List (List ℕ)) (status : ℕ) : Type 0 where
  pub taken : line_faults line ≡ [] → RunsRequest before after (asked line) status ⊎ LacksUnread before after status
  pub left : line_faults line ≢ []
      → LeavesUnread before after line status ⊎ LacksUnread before after status
