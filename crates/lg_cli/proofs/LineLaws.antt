-- A command line that is taken, by what its command did.
use Rattle.std.proofs.Common.{◌≡◌, ℕ, List, [], Option, Some, None, inl, inr, ap, sym, ◌∙◌, subst}
use Rattle.lg_text.specs.Meaning.Reporting.{Reported}
use Rattle.lg_command_line.specs.declared.asked.Asked.{Asked}
use Rattle.lg_command_line.specs.Meaning.Commands.{asked, line_faults}
use Rattle.lg_command_line.specs.Meaning.Leaving.{IsLeft}
use Rattle.lg_command_line.specs.Support.Requests.{request_of}
use Rattle.lg_run.specs.declared.file.NoBytes.TheVariants as none
use Rattle.lg_run.specs.declared.told.Told.TheVariants.{Memory}
use Rattle.lg_run.specs.Meaning.Reporting.{LacksBytes, TellsLine}
use Rattle.lg_cli.specs.Meaning.Running.{streams, Streams, RunsLine, RunsRequest}

-- memory that is refused before there are bytes to read
pub memory_lacks : (file : Option (List ℕ)) (reported reports : Reported) (status : ℕ) → TellsLine reported reports Memory status → LacksBytes file reported reports status
memory_lacks None reported reports status told = told
memory_lacks (Some file) reported reports status told = (none.Memory, told)

-- what the streams are if the writer and the stream for faults are as before
pub same-streams : {R W F : Type 0} (contents : W → Option (List ℕ)) (reported : F → Reported) (reader : R) (left : Option (List ℕ)) {writer writer' : W} {faults faults' : F} → writer' ≡ writer → faults' ≡ faults
    → streams reader left writer' (contents writer') (reported faults') ≡ streams reader left writer (contents writer) (reported faults)
same-streams contents reported reader left {writer = writer} {faults' = faults'} unwritten unreported =
    ap (λ w. streams reader left w (contents w) (reported faults')) unwritten ∙ ap (λ f. streams reader left writer (contents writer) (reported f)) unreported

-- what was found is run, if the command that it is is run
pub found-runs : {R W : Type 0} (before after : Streams R W) {found command : Asked} (status : ℕ) → found ≡ command → RunsRequest before after (request_of command) status → RunsRequest before after (request_of found) status
found-runs before after status is run = subst (λ asked. RunsRequest before after (request_of asked) status) (sym is) run

-- The command that was found is run, by the streams that the line was taken with.
pub taken-runs : {R W : Type 0} (after : Streams R W) {before between : Streams R W} {line : List (List ℕ)} {found command : Asked} {status : ℕ} → line_faults line ≡ [] → request_of found ≡ asked line → between ≡ before → found ≡ command
    → RunsRequest between after (request_of command) status → RunsLine before after line status
taken-runs after {between = between} {line = line} {status = status} none asks same is run =
    let line_run = subst (λ request. RunsRequest between after request status) (sym (ap request_of is) ∙ asks) run in
    record { taken = λ _. inl (subst (λ before. RunsRequest before after (asked line) status) same line_run); left = λ some. absurd (some none) }

-- A command line that is left, for which nothing was read.
pub left-runs : {R W : Type 0} (before after : Streams R W) (line : List (List ℕ)) (status : ℕ) → after.reader ≡ before.reader
    → IsLeft before.writer after.writer before.reported after.reported line status → RunsLine before after line status
left-runs before after line status unread is = elim is [
  | inl leaves ↦ record { taken = λ none. absurd (leaves.0 none); left = λ _. inl (unread, leaves.1) }
  | inr lacks ↦ record { taken = λ _. inr (unread, lacks); left = λ _. inr (unread, lacks) }
]
