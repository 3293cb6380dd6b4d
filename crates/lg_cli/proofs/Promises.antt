-- What `RunsLine` says of each command by itself, at a command line that is taken.
use Rattle.std.proofs.Common.{◌≡◌, ◌≢◌, ℕ, Bool, ◌⊎◌, true, IfOk, List, [], ◌∷◌, Option, inl, inr, refl, subst}
use Rattle.std.specs.Result.{is_err}
use Rattle.lg_rules.specs.Meaning.Name.{name_of_text}
use Rattle.lg_text.specs.Meaning.Running.{ReadsWhole}
use Rattle.lg_text.specs.declared.fault.RunFault.TheVariants.{Memory, Write}
use Rattle.lg_config.specs.Meaning.Options.{SourceValue}
use Rattle.lg_run.specs.Meaning.Checking.{ChecksSource}
use Rattle.lg_run.specs.Meaning.Running.{RunsSource}
use Rattle.lg_commands.specs.Meaning.Choosing.{order_text}
use Rattle.lg_commands.specs.Meaning.Running.{FailsBy, RunsAnswer, RunsInit, RunsOrder, RunsSim, RunsTimeouts}
use Rattle.lg_commands.specs.Meaning.Running.{RunsVersion}
use Rattle.lg_commands.specs.Meaning.Explaining.{explained_of}
use Rattle.lg_commands.specs.Meaning.Replaying.{part_of}
use Rattle.lg_commands.specs.declared.timeouts.Numbers.{Numbers}
use Rattle.lg_client.specs.Meaning.Leaving.{LeavesNode}
use Rattle.lg_command_line.specs.declared.asked.Question.{Question}
use Rattle.lg_command_line.specs.Meaning.Commands.{Request, answer, ask, check, init, leave, node, order, sim, timeouts}
use Rattle.lg_command_line.specs.Meaning.Commands.{asked, explain, ExplainValue, line_faults, replay, version}
use Rattle.lg_command_line.specs.Meaning.Commands.{IfAnswer, IfAsk, IfCheck, IfInit, IfLeave, IfNode, IfOrder, IfSim, IfTimeouts}
use Rattle.lg_command_line.specs.Meaning.Commands.{IfExplain, IfReplay, IfVersion}
use Rattle.lg_command_line.specs.Meaning.Commands.{RefusesLine}
use Rattle.lg_cli.specs.Meaning.Running.{Streams, RunsNamed, RunsLists, RunsNumbers, RunsScript, RunsNodeSource, RunsCheck}
use Rattle.lg_cli.specs.Meaning.Running.{AsksNode, ExplainsPart, form_of, ReplaysPart, RunsAsking, RunsExplain, RunsFirstFile}
use Rattle.lg_cli.specs.Meaning.Running.{RunsLeaving, RunsOwnVersion, RunsReplay}
use Rattle.lg_cli.specs.Meaning.Running.{RunsRequest, LacksUnread, LeavesUnread, RunsLine}

abbrev IsCons : {X : Type 0} → List X → Type 0
IsCons [] = ⊥
IsCons (k ∷ ks) = Unit {0}

nil_or : {X : Type 0} (faults : List X) → (faults ≡ []) ⊎ (faults ≢ [])
nil_or [] = inl refl
nil_or (k ∷ ks) = inr (λ e. subst IsCons e tt)

-- the command that is asked for takes neither a file nor a socket
abbrev NeedsNoMachine : Request → Type 0
NeedsNoMachine (answer text) = Unit {0}
NeedsNoMachine (order names words) = Unit {0}
NeedsNoMachine (timeouts numbers) = Unit {0}
NeedsNoMachine sim = Unit {0}
NeedsNoMachine (node source for_ms follow until_input_ends) = ⊥
NeedsNoMachine (check source) = ⊥
NeedsNoMachine (ask question at json) = ⊥
NeedsNoMachine init = Unit {0}
NeedsNoMachine (leave at name) = ⊥
NeedsNoMachine (replay folder from to only) = ⊥
NeedsNoMachine (explain value) = ⊥
NeedsNoMachine version = ⊥

module _ (R W : Type 0) (before after : Streams R W) (status : ℕ) where
  of_answer : (P : List ℕ → Type 0) (r : Request) → RunsRequest before after r status
      → ((text : List ℕ) → RunsNamed before after text status → P text) → IfAnswer r P
  of_answer P (answer text) run give = give text run
  of_answer P (order names words) run give = tt
  of_answer P (timeouts numbers) run give = tt
  of_answer P sim run give = tt
  of_answer P (node source for_ms follow until_input_ends) run give = tt
  of_answer P (check source) run give = tt
  of_answer P (ask question at json) run give = tt
  of_answer P init run give = tt
  of_answer P (leave at name) run give = tt
  of_answer P (replay folder from to only) run give = tt
  of_answer P (explain value) run give = tt
  of_answer P version run give = tt

  of_order : (P : List ℕ → List ℕ → Type 0) (r : Request) → RunsRequest before after r status
      → ((names words : List ℕ) → RunsLists before after names words status → P names words) → IfOrder r P
  of_order P (answer text) run give = tt
  of_order P (order names words) run give = give names words run
  of_order P (timeouts numbers) run give = tt
  of_order P sim run give = tt
  of_order P (node source for_ms follow until_input_ends) run give = tt
  of_order P (check source) run give = tt
  of_order P (ask question at json) run give = tt
  of_order P init run give = tt
  of_order P (leave at name) run give = tt
  of_order P (replay folder from to only) run give = tt
  of_order P (explain value) run give = tt
  of_order P version run give = tt

  of_timeouts : (P : Numbers → Type 0) (r : Request) → RunsRequest before after r status
      → ((numbers : Numbers) → RunsNumbers before after numbers status → P numbers) → IfTimeouts r P
  of_timeouts P (answer text) run give = tt
  of_timeouts P (order names words) run give = tt
  of_timeouts P (timeouts numbers) run give = give numbers run
  of_timeouts P sim run give = tt
  of_timeouts P (node source for_ms follow until_input_ends) run give = tt
  of_timeouts P (check source) run give = tt
  of_timeouts P (ask question at json) run give = tt
  of_timeouts P init run give = tt
  of_timeouts P (leave at name) run give = tt
  of_timeouts P (replay folder from to only) run give = tt
  of_timeouts P (explain value) run give = tt
  of_timeouts P version run give = tt

  of_sim : (P : Type 0) (r : Request) → RunsRequest before after r status
      → (RunsScript before after status → P) → IfSim r P
  of_sim P (answer text) run give = tt
  of_sim P (order names words) run give = tt
  of_sim P (timeouts numbers) run give = tt
  of_sim P sim run give = give run
  of_sim P (node source for_ms follow until_input_ends) run give = tt
  of_sim P (check source) run give = tt
  of_sim P (ask question at json) run give = tt
  of_sim P init run give = tt
  of_sim P (leave at name) run give = tt
  of_sim P (replay folder from to only) run give = tt
  of_sim P (explain value) run give = tt
  of_sim P version run give = tt

  of_node : (P : SourceValue → Option ℕ → Bool → Type 0) (r : Request) → RunsRequest before after r status
      → ((source : SourceValue) (for_ms : Option ℕ) (follow : Bool) → RunsNodeSource before after source for_ms follow status → P source for_ms follow)
      → IfNode r (λ source for_ms follow until_input_ends. P source for_ms follow)
  of_node P (answer text) run give = tt
  of_node P (order names words) run give = tt
  of_node P (timeouts numbers) run give = tt
  of_node P sim run give = tt
  of_node P (node source for_ms follow until_input_ends) run give = give source for_ms follow run
  of_node P (check source) run give = tt
  of_node P (ask question at json) run give = tt
  of_node P init run give = tt
  of_node P (leave at name) run give = tt
  of_node P (replay folder from to only) run give = tt
  of_node P (explain value) run give = tt
  of_node P version run give = tt

  of_check : (P : SourceValue → Type 0) (r : Request) → RunsRequest before after r status
      → ((source : SourceValue) → RunsCheck before after source status → P source) → IfCheck r P
  of_check P (answer text) run give = tt
  of_check P (order names words) run give = tt
  of_check P (timeouts numbers) run give = tt
  of_check P sim run give = tt
  of_check P (node source for_ms follow until_input_ends) run give = tt
  of_check P (check source) run give = give source run
  of_check P (ask question at json) run give = tt
  of_check P init run give = tt
  of_check P (leave at name) run give = tt
  of_check P (replay folder from to only) run give = tt
  of_check P (explain value) run give = tt
  of_check P version run give = tt

  of_ask : (P : Question → List ℕ → Bool → Type 0) (r : Request) → RunsRequest before after r status
      → ((question : Question) (at : List ℕ) (json : Bool) → RunsAsking before after question at json status
      → P question at json)
      → IfAsk r P
  of_ask P (answer text) run give = tt
  of_ask P (order names words) run give = tt
  of_ask P (timeouts numbers) run give = tt
  of_ask P sim run give = tt
  of_ask P (node source for_ms follow until_input_ends) run give = tt
  of_ask P (check source) run give = tt
  of_ask P (ask question at json) run give = give question at json run
  of_ask P init run give = tt
  of_ask P (leave at name) run give = tt
  of_ask P (replay folder from to only) run give = tt
  of_ask P (explain value) run give = tt
  of_ask P version run give = tt

  of_init : (P : Type 0) (r : Request) → RunsRequest before after r status
      → (RunsFirstFile before after status → P) → IfInit r P
  of_init P (answer text) run give = tt
  of_init P (order names words) run give = tt
  of_init P (timeouts numbers) run give = tt
  of_init P sim run give = tt
  of_init P (node source for_ms follow until_input_ends) run give = tt
  of_init P (check source) run give = tt
  of_init P (ask question at json) run give = tt
  of_init P init run give = give run
  of_init P (leave at name) run give = tt
  of_init P (replay folder from to only) run give = tt
  of_init P (explain value) run give = tt
  of_init P version run give = tt

  of_leave : (P : List ℕ → List ℕ → Type 0) (r : Request) → RunsRequest before after r status
      → ((at name : List ℕ) → RunsLeaving before after at name status → P at name) → IfLeave r P
  of_leave P (answer text) run give = tt
  of_leave P (order names words) run give = tt
  of_leave P (timeouts numbers) run give = tt
  of_leave P sim run give = tt
  of_leave P (node source for_ms follow until_input_ends) run give = tt
  of_leave P (check source) run give = tt
  of_leave P (ask question at json) run give = tt
  of_leave P init run give = tt
  of_leave P (leave at name) run give = give at name run
  of_leave P (replay folder from to only) run give = tt
  of_leave P (explain value) run give = tt
  of_leave P version run give = tt

  of_replay : (P : List ℕ → ℕ → ℕ → Option (List ℕ) → Type 0) (r : Request) → RunsRequest before after r status
      → ((folder : List ℕ) (from to : ℕ) (only : Option (List ℕ)) → RunsReplay before after folder from to only status → P folder from to only) → IfReplay r P
  of_replay P (answer text) run give = tt
  of_replay P (order names words) run give = tt
  of_replay P (timeouts numbers) run give = tt
  of_replay P sim run give = tt
  of_replay P (node source for_ms follow until_input_ends) run give = tt
  of_replay P (check source) run give = tt
  of_replay P (ask question at json) run give = tt
  of_replay P init run give = tt
  of_replay P (leave at name) run give = tt
  of_replay P (replay folder from to only) run give = give folder from to only run
  of_replay P (explain value) run give = tt
  of_replay P version run give = tt

  of_explain : (P : ExplainValue → Type 0) (r : Request) → RunsRequest before after r status
      → ((value : ExplainValue) → RunsExplain before after value status → P value) → IfExplain r P
  of_explain P (answer text) run give = tt
  of_explain P (order names words) run give = tt
  of_explain P (timeouts numbers) run give = tt
  of_explain P sim run give = tt
  of_explain P (node source for_ms follow until_input_ends) run give = tt
  of_explain P (check source) run give = tt
  of_explain P (ask question at json) run give = tt
  of_explain P init run give = tt
  of_explain P (leave at name) run give = tt
  of_explain P (replay folder from to only) run give = tt
  of_explain P (explain value) run give = give value run
  of_explain P version run give = tt

  of_version : (P : Type 0) (r : Request) → RunsRequest before after r status
      → (RunsOwnVersion before after status → P) → IfVersion r P
  of_version P (answer text) run give = tt
  of_version P (order names words) run give = tt
  of_version P (timeouts numbers) run give = tt
  of_version P sim run give = tt
  of_version P (node source for_ms follow until_input_ends) run give = tt
  of_version P (check source) run give = tt
  of_version P (ask question at json) run give = tt
  of_version P init run give = tt
  of_version P (leave at name) run give = tt
  of_version P (replay folder from to only) run give = tt
  of_version P (explain value) run give = tt
  of_version P version run give = give run

  -- a run that failed, of a command that needs no machine
  run_fails : (r : Request) → NeedsNoMachine r → RunsRequest before after r status → status ≡ 1
      → FailsBy before.reported after.reported before.writer after.writer
  run_fails (answer text) other run one = run.failed one
  run_fails (order names words) other run one = run.failed one
  run_fails (timeouts numbers) other run one = run.failed one
  run_fails sim other run one = run.failed one
  run_fails (node source for_ms follow until_input_ends) other run one = absurd other
  run_fails (check source) other run one = absurd other
  run_fails (ask question at json) other run one = absurd other
  run_fails init other run one = run.failed one
  run_fails (leave at name) other run one = absurd other
  run_fails (replay folder from to only) other run one = absurd other
  run_fails (explain value) other run one = absurd other
  run_fails version other run one = absurd other

  -- such a run doesn't have the status of a refusal
  run_isnt_refused : (r : Request) → NeedsNoMachine r → RunsRequest before after r status → status ≢ 2
  run_isnt_refused (answer text) other run = run.run
  run_isnt_refused (order names words) other run = run.run
  run_isnt_refused (timeouts numbers) other run = run.run
  run_isnt_refused sim other run = run.run
  run_isnt_refused (node source for_ms follow until_input_ends) other run = absurd other
  run_isnt_refused (check source) other run = absurd other
  run_isnt_refused (ask question at json) other run = absurd other
  run_isnt_refused init other run = run.run
  run_isnt_refused (leave at name) other run = absurd other
  run_isnt_refused (replay folder from to only) other run = absurd other
  run_isnt_refused (explain value) other run = absurd other
  run_isnt_refused version other run = absurd other

  lacks_fails : LacksUnread before after status → FailsBy before.reported after.reported before.writer after.writer
  lacks_fails lacks = record { fault = Memory; line = lacks.1.told; unwritten = λ _. lacks.1.unwritten }

  leaves_fails : (line : List (List ℕ)) → LeavesUnread before after line status → status ≡ 1
      → FailsBy before.reported after.reported before.writer after.writer
  leaves_fails line leaves one = let told = leaves.1.told one in record {
    fault = Write (record { kind = told.kind });
    line = told.lines;
    unwritten = λ other. absurd (cc other);
  }

all_answer : (P : List ℕ → Type 0) (r : Request) → ((text : List ℕ) → P text) → IfAnswer r P
all_answer P (answer text) give = give text
all_answer P (order names words) give = tt
all_answer P (timeouts numbers) give = tt
all_answer P sim give = tt
all_answer P (node source for_ms follow until_input_ends) give = tt
all_answer P (check source) give = tt
all_answer P (ask question at json) give = tt
all_answer P init give = tt
all_answer P (leave at name) give = tt
all_answer P (replay folder from to only) give = tt
all_answer P (explain value) give = tt
all_answer P version give = tt

all_order : (P : List ℕ → List ℕ → Type 0) (r : Request) → ((names words : List ℕ) → P names words) → IfOrder r P
all_order P (answer text) give = tt
all_order P (order names words) give = give names words
all_order P (timeouts numbers) give = tt
all_order P sim give = tt
all_order P (node source for_ms follow until_input_ends) give = tt
all_order P (check source) give = tt
all_order P (ask question at json) give = tt
all_order P init give = tt
all_order P (leave at name) give = tt
all_order P (replay folder from to only) give = tt
all_order P (explain value) give = tt
all_order P version give = tt

all_timeouts : (P : Numbers → Type 0) (r : Request) → ((numbers : Numbers) → P numbers) → IfTimeouts r P
all_timeouts P (answer text) give = tt
all_timeouts P (order names words) give = tt
all_timeouts P (timeouts numbers) give = give numbers
all_timeouts P sim give = tt
all_timeouts P (node source for_ms follow until_input_ends) give = tt
all_timeouts P (check source) give = tt
all_timeouts P (ask question at json) give = tt
all_timeouts P init give = tt
all_timeouts P (leave at name) give = tt
all_timeouts P (replay folder from to only) give = tt
all_timeouts P (explain value) give = tt
all_timeouts P version give = tt

all_sim : (P : Type 0) (r : Request) → P → IfSim r P
all_sim P (answer text) give = tt
all_sim P (order names words) give = tt
all_sim P (timeouts numbers) give = tt
all_sim P sim give = give
all_sim P (node source for_ms follow until_input_ends) give = tt
all_sim P (check source) give = tt
all_sim P (ask question at json) give = tt
all_sim P init give = tt
all_sim P (leave at name) give = tt
all_sim P (replay folder from to only) give = tt
all_sim P (explain value) give = tt
all_sim P version give = tt

all_node : (P : SourceValue → Option ℕ → Bool → Type 0) (r : Request) → ((source : SourceValue) (for_ms : Option ℕ) (follow : Bool) → P source for_ms follow)
    → IfNode r (λ source for_ms follow until_input_ends. P source for_ms follow)
all_node P (answer text) give = tt
all_node P (order names words) give = tt
all_node P (timeouts numbers) give = tt
all_node P sim give = tt
all_node P (node source for_ms follow until_input_ends) give = give source for_ms follow
all_node P (check source) give = tt
all_node P (ask question at json) give = tt
all_node P init give = tt
all_node P (leave at name) give = tt
all_node P (replay folder from to only) give = tt
all_node P (explain value) give = tt
all_node P version give = tt

all_check : (P : SourceValue → Type 0) (r : Request) → ((source : SourceValue) → P source) → IfCheck r P
all_check P (answer text) give = tt
all_check P (order names words) give = tt
all_check P (timeouts numbers) give = tt
all_check P sim give = tt
all_check P (node source for_ms follow until_input_ends) give = tt
all_check P (check source) give = give source
all_check P (ask question at json) give = tt
all_check P init give = tt
all_check P (leave at name) give = tt
all_check P (replay folder from to only) give = tt
all_check P (explain value) give = tt
all_check P version give = tt

all_ask : (P : Question → List ℕ → Bool → Type 0) (r : Request)
    → ((question : Question) (at : List ℕ) (json : Bool) → P question at json) → IfAsk r P
all_ask P (answer text) give = tt
all_ask P (order names words) give = tt
all_ask P (timeouts numbers) give = tt
all_ask P sim give = tt
all_ask P (node source for_ms follow until_input_ends) give = tt
all_ask P (check source) give = tt
all_ask P (ask question at json) give = give question at json
all_ask P init give = tt
all_ask P (leave at name) give = tt
all_ask P (replay folder from to only) give = tt
all_ask P (explain value) give = tt
all_ask P version give = tt

all_init : (P : Type 0) (r : Request) → P → IfInit r P
all_init P (answer text) give = tt
all_init P (order names words) give = tt
all_init P (timeouts numbers) give = tt
all_init P sim give = tt
all_init P (node source for_ms follow until_input_ends) give = tt
all_init P (check source) give = tt
all_init P (ask question at json) give = tt
all_init P init give = give
all_init P (leave at name) give = tt
all_init P (replay folder from to only) give = tt
all_init P (explain value) give = tt
all_init P version give = tt

all_leave : (P : List ℕ → List ℕ → Type 0) (r : Request) → ((at name : List ℕ) → P at name) → IfLeave r P
all_leave P (answer text) give = tt
all_leave P (order names words) give = tt
all_leave P (timeouts numbers) give = tt
all_leave P sim give = tt
all_leave P (node source for_ms follow until_input_ends) give = tt
all_leave P (check source) give = tt
all_leave P (ask question at json) give = tt
all_leave P init give = tt
all_leave P (leave at name) give = give at name
all_leave P (replay folder from to only) give = tt
all_leave P (explain value) give = tt
all_leave P version give = tt

all_replay : (P : List ℕ → ℕ → ℕ → Option (List ℕ) → Type 0) (r : Request)
    → ((folder : List ℕ) (from to : ℕ) (only : Option (List ℕ)) → P folder from to only) → IfReplay r P
all_replay P (answer text) give = tt
all_replay P (order names words) give = tt
all_replay P (timeouts numbers) give = tt
all_replay P sim give = tt
all_replay P (node source for_ms follow until_input_ends) give = tt
all_replay P (check source) give = tt
all_replay P (ask question at json) give = tt
all_replay P init give = tt
all_replay P (leave at name) give = tt
all_replay P (replay folder from to only) give = give folder from to only
all_replay P (explain value) give = tt
all_replay P version give = tt

all_explain : (P : ExplainValue → Type 0) (r : Request) → ((value : ExplainValue) → P value) → IfExplain r P
all_explain P (answer text) give = tt
all_explain P (order names words) give = tt
all_explain P (timeouts numbers) give = tt
all_explain P sim give = tt
all_explain P (node source for_ms follow until_input_ends) give = tt
all_explain P (check source) give = tt
all_explain P (ask question at json) give = tt
all_explain P init give = tt
all_explain P (leave at name) give = tt
all_explain P (replay folder from to only) give = tt
all_explain P (explain value) give = give value
all_explain P version give = tt

module _ (R W : Type 0) (before after : Streams R W) (line : List (List ℕ)) (status : ℕ) (runs : RunsLine before after line status) where
  -- the command's run, where memory wasn't refused for reading the line
  run_of : line_faults line ≡ [] → status ≢ 1 → RunsRequest before after (asked line) status
  run_of none other = elim (runs.taken none) [
    | inl run ↦ run
    | inr lacks ↦ absurd (other lacks.1.is)
  ]

  pub answered : line_faults line ≡ [] → status ≢ 1 → IfAnswer (asked line) (λ text. IfOk (name_of_text text)
      (λ name. RunsAnswer before.left after.left before.held after.held before.reported after.reported name status))
  answered none other = of_answer R W before after status _ (asked line) (run_of none other) (λ text run. run.answered other)

  pub bad_name : line_faults line ≡ [] → status ≢ 1
      → IfAnswer (asked line) (λ text. is_err (name_of_text text) ≡ true → status ≡ 3)
  bad_name none other = of_answer R W before after status _ (asked line) (run_of none other) (λ text run. run.bad_name)

  pub unread : IfAnswer (asked line) (λ text. is_err (name_of_text text) ≡ true → after.reader ≡ before.reader)
  unread = elim (nil_or (line_faults line)) [
    | inl none ↦ elim (runs.taken none) [
      | inl run ↦ of_answer R W before after status (λ text. is_err (name_of_text text) ≡ true → after.reader ≡ before.reader) (asked line) run (λ text r. r.unread)
      | inr lacks ↦ all_answer (λ text. is_err (name_of_text text) ≡ true → after.reader ≡ before.reader) (asked line) (λ text bad. lacks.0)
    ]
    | inr some ↦ elim (runs.left some) [
      | inl leaves ↦ all_answer (λ text. is_err (name_of_text text) ≡ true → after.reader ≡ before.reader) (asked line) (λ text bad. leaves.0)
      | inr lacks ↦ all_answer (λ text. is_err (name_of_text text) ≡ true → after.reader ≡ before.reader) (asked line) (λ text bad. lacks.0)
    ]
  ]

  pub unnamed : line_faults line ≡ []
      → IfAnswer (asked line) (λ text. is_err (name_of_text text) ≡ true → after.writer ≡ before.writer)
  unnamed none = elim (runs.taken none) [
    | inl run ↦ of_answer R W before after status (λ text. is_err (name_of_text text) ≡ true → after.writer ≡ before.writer) (asked line) run (λ text r. r.unnamed)
    | inr lacks ↦ all_answer (λ text. is_err (name_of_text text) ≡ true → after.writer ≡ before.writer) (asked line) (λ text bad. lacks.1.unwritten)
  ]

  pub ordered : line_faults line ≡ [] → status ≢ 1 → IfOrder (asked line) (λ names listed. RunsOrder before.held after.held
      before.reported after.reported (order_text names listed) status)
  ordered none other = of_order R W before after status _ (asked line) (run_of none other) (λ names words run. run.ordered other)

  pub unlisted : line_faults line ≡ []
      → IfOrder (asked line) (λ names listed. is_err (order_text names listed) ≡ true → after.writer ≡ before.writer)
  unlisted none = elim (runs.taken none) [
    | inl run ↦ of_order R W before after status (λ names listed. is_err (order_text names listed) ≡ true → after.writer ≡ before.writer) (asked line) run (λ names words r. r.unlisted)
    | inr lacks ↦ all_order (λ names listed. is_err (order_text names listed) ≡ true → after.writer ≡ before.writer) (asked line) (λ names words bad. lacks.1.unwritten)
  ]

  pub ordered_unread : IfOrder (asked line) (λ names listed. after.reader ≡ before.reader)
  ordered_unread = elim (nil_or (line_faults line)) [
    | inl none ↦ elim (runs.taken none) [
      | inl run ↦ of_order R W before after status (λ names listed. after.reader ≡ before.reader) (asked line) run (λ names words r. r.unread)
      | inr lacks ↦ all_order (λ names listed. after.reader ≡ before.reader) (asked line) (λ names words. lacks.0)
    ]
    | inr some ↦ elim (runs.left some) [
      | inl leaves ↦ all_order (λ names listed. after.reader ≡ before.reader) (asked line) (λ names words. leaves.0)
      | inr lacks ↦ all_order (λ names listed. after.reader ≡ before.reader) (asked line) (λ names words. lacks.0)
    ]
  ]

  pub timed : line_faults line ≡ [] → status ≢ 1 → IfTimeouts (asked line)
      (λ numbers. RunsTimeouts before.held after.held before.reported after.reported numbers status)
  timed none other = of_timeouts R W before after status _ (asked line) (run_of none other) (λ numbers run. run.timed other)

  pub simulated : line_faults line ≡ [] → status ≢ 1 → IfSim (asked line) (RunsSim before.left after.left before.held after.held
      before.reported after.reported status)
  simulated none other = of_sim R W before after status _ (asked line) (run_of none other) (λ run. run.simulated other)

  pub timed_unread : IfTimeouts (asked line) (λ numbers. after.reader ≡ before.reader)
  timed_unread = elim (nil_or (line_faults line)) [
    | inl none ↦ elim (runs.taken none) [
      | inl run ↦ of_timeouts R W before after status (λ numbers. after.reader ≡ before.reader) (asked line) run (λ numbers r. r.unread)
      | inr lacks ↦ all_timeouts (λ numbers. after.reader ≡ before.reader) (asked line) (λ numbers. lacks.0)
    ]
    | inr some ↦ elim (runs.left some) [
      | inl leaves ↦ all_timeouts (λ numbers. after.reader ≡ before.reader) (asked line) (λ numbers. leaves.0)
      | inr lacks ↦ all_timeouts (λ numbers. after.reader ≡ before.reader) (asked line) (λ numbers. lacks.0)
    ]
  ]

  pub refused : line_faults line ≢ [] → status ≢ 1 → RefusesLine (line_faults line) status
  refused some other = elim (runs.left some) [
    | inl leaves ↦ leaves.1.refused other
    | inr lacks ↦ absurd (other lacks.1.is)
  ]

  pub unrun : line_faults line ≢ [] → after.reader ≡ before.reader
  unrun some = elim (runs.left some) [
    | inl leaves ↦ leaves.0
    | inr lacks ↦ lacks.0
  ]

  pub read : line_faults line ≡ [] → status ≡ 1
      → IfAnswer (asked line) (λ text. (after.writer ≡ before.writer) ⊎ ReadsWhole before.left after.left)
  read none one = elim (runs.taken none) [
    | inl run ↦ of_answer R W before after status (λ text. (after.writer ≡ before.writer) ⊎ ReadsWhole before.left after.left) (asked line) run (λ text r. r.read one)
    | inr lacks ↦ all_answer (λ text. (after.writer ≡ before.writer) ⊎ ReadsWhole before.left after.left) (asked line) (λ text. inl lacks.1.unwritten)
  ]

  pub read_script : line_faults line ≡ [] → status ≡ 1
      → IfSim (asked line) ((after.writer ≡ before.writer) ⊎ ReadsWhole before.left after.left)
  read_script none one = elim (runs.taken none) [
    | inl run ↦ of_sim R W before after status ((after.writer ≡ before.writer) ⊎ ReadsWhole before.left after.left) (asked line) run (λ r. r.read one)
    | inr lacks ↦ all_sim ((after.writer ≡ before.writer) ⊎ ReadsWhole before.left after.left) (asked line) (inl lacks.1.unwritten)
  ]

  -- `node` is run, unless memory was refused for reading the line
  pub launched : line_faults line ≡ [] → IfNode (asked line) (λ source for_ms follow until_input_ends.
      RunsSource before.writer after.writer before.held after.held before.reported after.reported source for_ms follow status
      ⊎ ((status ≡ 1) × FailsBy before.reported after.reported before.writer after.writer))
  launched none = elim (runs.taken none) [
    | inl run ↦ of_node R W before after status (λ source for_ms follow. RunsSource before.writer after.writer before.held after.held before.reported after.reported source for_ms follow status
        ⊎ ((status ≡ 1) × FailsBy before.reported after.reported before.writer after.writer)) (asked line) run (λ source for_ms follow r. inl r.launched)
    | inr lacks ↦ all_node (λ source for_ms follow. RunsSource before.writer after.writer before.held after.held before.reported after.reported source for_ms follow status
        ⊎ ((status ≡ 1) × FailsBy before.reported after.reported before.writer after.writer)) (asked line) (λ source for_ms follow. inr (lacks.1.is, lacks_fails R W before after status lacks))
  ]

  pub launched_unread : IfNode (asked line) (λ source for_ms follow until_input_ends. after.reader ≡ before.reader)
  launched_unread = elim (nil_or (line_faults line)) [
    | inl none ↦ elim (runs.taken none) [
      | inl run ↦ of_node R W before after status (λ source for_ms follow. after.reader ≡ before.reader) (asked line) run (λ source for_ms follow r. r.unread)
      | inr lacks ↦ all_node (λ source for_ms follow. after.reader ≡ before.reader) (asked line) (λ source for_ms follow. lacks.0)
    ]
    | inr some ↦ elim (runs.left some) [
      | inl leaves ↦ all_node (λ source for_ms follow. after.reader ≡ before.reader) (asked line) (λ source for_ms follow. leaves.0)
      | inr lacks ↦ all_node (λ source for_ms follow. after.reader ≡ before.reader) (asked line) (λ source for_ms follow. lacks.0)
    ]
  ]

  -- `check` is run, unless memory was refused for reading the line
  pub checked : line_faults line ≡ [] → IfCheck (asked line) (λ source.
      ChecksSource before.writer after.writer before.held after.held before.reported after.reported source status
      ⊎ ((status ≡ 1) × FailsBy before.reported after.reported before.writer after.writer))
  checked none = elim (runs.taken none) [
    | inl run ↦ of_check R W before after status (λ source. ChecksSource before.writer after.writer before.held after.held before.reported after.reported source status
        ⊎ ((status ≡ 1) × FailsBy before.reported after.reported before.writer after.writer)) (asked line) run (λ source r. inl r.checked)
    | inr lacks ↦ all_check (λ source. ChecksSource before.writer after.writer before.held after.held before.reported after.reported source status
        ⊎ ((status ≡ 1) × FailsBy before.reported after.reported before.writer after.writer)) (asked line) (λ source. inr (lacks.1.is, lacks_fails R W before after status lacks))
  ]

  pub checked_unread : IfCheck (asked line) (λ source. after.reader ≡ before.reader)
  checked_unread = elim (nil_or (line_faults line)) [
    | inl none ↦ elim (runs.taken none) [
      | inl run ↦ of_check R W before after status (λ source. after.reader ≡ before.reader) (asked line) run (λ source r. r.unread)
      | inr lacks ↦ all_check (λ source. after.reader ≡ before.reader) (asked line) (λ source. lacks.0)
    ]
    | inr some ↦ elim (runs.left some) [
      | inl leaves ↦ all_check (λ source. after.reader ≡ before.reader) (asked line) (λ source. leaves.0)
      | inr lacks ↦ all_check (λ source. after.reader ≡ before.reader) (asked line) (λ source. lacks.0)
    ]
  ]

  -- a node is asked, unless memory was refused for reading the line
  pub asks : line_faults line ≡ [] → IfAsk (asked line) (λ question at json.
      AsksNode question at json before.writer after.writer before.held after.held before.reported after.reported status
      ⊎ ((status ≡ 1) × FailsBy before.reported after.reported before.writer after.writer))
  asks none = elim (runs.taken none) [
    | inl run ↦ of_ask R W before after status (λ question at json.
        AsksNode question at json before.writer after.writer before.held after.held before.reported after.reported status
        ⊎ ((status ≡ 1) × FailsBy before.reported after.reported before.writer after.writer)) (asked line) run
        (λ question at json r. inl r.asked)
    | inr lacks ↦ all_ask (λ question at json.
        AsksNode question at json before.writer after.writer before.held after.held before.reported after.reported status
        ⊎ ((status ≡ 1) × FailsBy before.reported after.reported before.writer after.writer)) (asked line)
        (λ question at json. inr (lacks.1.is, lacks_fails R W before after status lacks))
  ]

  pub asks_unread : IfAsk (asked line) (λ question at json. after.reader ≡ before.reader)
  asks_unread = elim (nil_or (line_faults line)) [
    | inl none ↦ elim (runs.taken none) [
      | inl run ↦ of_ask R W before after status (λ question at json. after.reader ≡ before.reader) (asked line) run (λ question at json r. r.unread)
      | inr lacks ↦ all_ask (λ question at json. after.reader ≡ before.reader) (asked line) (λ question at json. lacks.0)
    ]
    | inr some ↦ elim (runs.left some) [
      | inl leaves ↦ all_ask (λ question at json. after.reader ≡ before.reader) (asked line) (λ question at json. leaves.0)
      | inr lacks ↦ all_ask (λ question at json. after.reader ≡ before.reader) (asked line) (λ question at json. lacks.0)
    ]
  ]

  -- `init` writes its text, unless the status says that something failed
  pub begun : line_faults line ≡ [] → status ≢ 1
      → IfInit (asked line) (RunsInit before.held after.held before.reported after.reported status)
  begun none other = of_init R W before after status _ (asked line) (run_of none other) (λ run. run.begun other)

  -- a node is asked to leave, unless memory was refused for reading the line; nothing is written
  pub left : line_faults line ≡ [] → IfLeave (asked line) (λ at name.
      LeavesNode at name before.reported after.reported status
      ⊎ ((status ≡ 1) × FailsBy before.reported after.reported before.writer after.writer))
  left none = elim (runs.taken none) [
    | inl run ↦ of_leave R W before after status (λ at name. LeavesNode at name before.reported after.reported status
        ⊎ ((status ≡ 1) × FailsBy before.reported after.reported before.writer after.writer)) (asked line) run (λ at name r. inl r.left)
    | inr lacks ↦ all_leave (λ at name. LeavesNode at name before.reported after.reported status
        ⊎ ((status ≡ 1) × FailsBy before.reported after.reported before.writer after.writer)) (asked line) (λ at name. inr (lacks.1.is, lacks_fails R W before after status lacks))
  ]

  pub left_unwritten : line_faults line ≡ [] → IfLeave (asked line) (λ at name. after.writer ≡ before.writer)
  left_unwritten none = elim (runs.taken none) [
    | inl run ↦ of_leave R W before after status (λ at name. after.writer ≡ before.writer) (asked line) run (λ at name r. r.unwritten)
    | inr lacks ↦ all_leave (λ at name. after.writer ≡ before.writer) (asked line) (λ at name. lacks.1.unwritten)
  ]

  -- a recording is replayed, unless memory was refused for reading the line
  pub replayed : line_faults line ≡ [] → IfReplay (asked line) (λ folder from to only.
      ReplaysPart before.writer after.writer before.held after.held before.reported after.reported (part_of folder from to only) status
      ⊎ ((status ≡ 1) × FailsBy before.reported after.reported before.writer after.writer))
  replayed none = elim (runs.taken none) [
    | inl run ↦ of_replay R W before after status (λ folder from to only.
        ReplaysPart before.writer after.writer before.held after.held before.reported after.reported (part_of folder from to only) status
        ⊎ ((status ≡ 1) × FailsBy before.reported after.reported before.writer after.writer)) (asked line) run
        (λ folder from to only r. inl r.replayed)
    | inr lacks ↦ all_replay (λ folder from to only.
        ReplaysPart before.writer after.writer before.held after.held before.reported after.reported (part_of folder from to only) status
        ⊎ ((status ≡ 1) × FailsBy before.reported after.reported before.writer after.writer)) (asked line)
        (λ folder from to only. inr (lacks.1.is, lacks_fails R W before after status lacks))
  ]

  pub replayed_unread : line_faults line ≡ [] → IfReplay (asked line) (λ folder from to only. after.reader ≡ before.reader)
  replayed_unread none = elim (runs.taken none) [
    | inl run ↦ of_replay R W before after status (λ folder from to only. after.reader ≡ before.reader) (asked line) run (λ folder from to only r. r.unread)
    | inr lacks ↦ all_replay (λ folder from to only. after.reader ≡ before.reader) (asked line) (λ folder from to only. lacks.0)
  ]

  -- a member is explained, unless memory was refused for reading the line
  pub explained : line_faults line ≡ [] → IfExplain (asked line) (λ value.
      ExplainsPart before.writer after.writer before.held after.held before.reported after.reported
      (explained_of value.folder value.name value.at value.all) value.html (form_of value.entries value.json) status
      ⊎ ((status ≡ 1) × FailsBy before.reported after.reported before.writer after.writer))
  explained none = elim (runs.taken none) [
    | inl run ↦ of_explain R W before after status (λ value.
        ExplainsPart before.writer after.writer before.held after.held before.reported after.reported
        (explained_of value.folder value.name value.at value.all) value.html (form_of value.entries value.json) status
        ⊎ ((status ≡ 1) × FailsBy before.reported after.reported before.writer after.writer)) (asked line) run
        (λ value r. inl r.explained)
    | inr lacks ↦ all_explain (λ value.
        ExplainsPart before.writer after.writer before.held after.held before.reported after.reported
        (explained_of value.folder value.name value.at value.all) value.html (form_of value.entries value.json) status
        ⊎ ((status ≡ 1) × FailsBy before.reported after.reported before.writer after.writer)) (asked line)
        (λ value. inr (lacks.1.is, lacks_fails R W before after status lacks))
  ]

  pub explained_unread : line_faults line ≡ [] → IfExplain (asked line) (λ value. after.reader ≡ before.reader)
  explained_unread none = elim (runs.taken none) [
    | inl run ↦ of_explain R W before after status (λ value. after.reader ≡ before.reader) (asked line) run (λ value r. r.unread)
    | inr lacks ↦ all_explain (λ value. after.reader ≡ before.reader) (asked line) (λ value. lacks.0)
  ]

  -- `version` writes its text by the end of some file, unless the status says that something failed
  pub told : line_faults line ≡ [] → status ≢ 1 → IfVersion (asked line)
      ((end : List ℕ) × RunsVersion before.held after.held before.reported after.reported end status)
  told none other = of_version R W before after status _ (asked line) (run_of none other) (λ run. (run.told.end, run.told.written other))

  -- unless `node`, `check`, `replay`, `explain` or `version` is run, or a node is asked, a refusal writes nothing
  pub unwritten : (line_faults line ≡ [] → NeedsNoMachine (asked line)) → status ≡ 2
      → after.writer ≡ before.writer
  unwritten other two = elim (nil_or (line_faults line)) [
    | inl none ↦ elim (runs.taken none) [
      | inl run ↦ absurd (run_isnt_refused R W before after status (asked line) (other none) run two)
      | inr lacks ↦ lacks.1.unwritten
    ]
    | inr some ↦ elim (runs.left some) [
      | inl leaves ↦ leaves.1.unwritten two
      | inr lacks ↦ lacks.1.unwritten
    ]
  ]

  -- and a run that fails reports why, and writes nothing unless it is the writing that fails
  pub failed : (line_faults line ≡ [] → NeedsNoMachine (asked line)) → status ≡ 1
      → FailsBy before.reported after.reported before.writer after.writer
  failed other one = elim (nil_or (line_faults line)) [
    | inl none ↦ elim (runs.taken none) [
      | inl run ↦ run_fails R W before after status (asked line) (other none) run one
      | inr lacks ↦ lacks_fails R W before after status lacks
    ]
    | inr some ↦ elim (runs.left some) [
      | inl leaves ↦ leaves_fails R W before after status line leaves one
      | inr lacks ↦ lacks_fails R W before after status lacks
    ]
  ]
