-- What a command line asks for, and why one is refused.
use Rattle.std.specs.Prelude.{◌≡◌, ℕ, Bool, true, false, nat_le, List, []}
use Rattle.std.specs.Prelude.{◌∷◌, Option, codes, if◌then◌else◌}
use Rattle.std.specs.Prelude.{unwrap_or}
use Rattle.std.specs.Option.{option_map, option_map_or}
use Rattle.std.specs.Str.{bytes_eq}
use Rattle.std.specs.Str.Parse.{digits_value, without_leading_plus}
use Rattle.clap.specs.Faults.{fault_of}
use Rattle.clap.specs.Kinds.{IsAmong, Kinds, or_else}
use Rattle.clap.specs.Simple.{subcommand_of}
use Rattle.clap.specs.ValueTests.{accepts}
use Rattle.clap.specs.Walk.{Row, Text, first_of, one_of}
use Rattle.clap.specs.declared.builder.value_parser.ValueParser.TheVariants.{Unsigned}
use Rattle.clap.specs.declared.error.kind.ErrorKind.{ErrorKind}
use Rattle.clap.specs.declared.error.kind.ErrorKind.TheVariants.{DisplayHelp, DisplayVersion, ValueValidation}
use Rattle.lg_timing.specs.Meaning.Keys.{is_within}
use Rattle.lg_timing.specs.declared.moment.TheConstants.{MAX_MOMENT}
use Rattle.lg_config.specs.Meaning.Options.{SourceValue}
use Rattle.lg_command_line.specs.Meaning.Apps.{lg_app}
use Rattle.lg_command_line.specs.Meaning.KeyOptions.{source_in}
use Rattle.lg_command_line.specs.Meaning.Ranges.{most_run_ms}
use Rattle.lg_command_line.specs.declared.asked.Question.{Question}
use Rattle.lg_command_line.specs.declared.asked.Question.TheVariants.{Members, Status, Watch}
use Rattle.lg_commands.specs.Meaning.Timeouts.{are_good}
use Rattle.lg_commands.specs.declared.timeouts.Numbers.{Numbers}

-- the text of an option, or an empty text if it has none
abbrev pub text_in : List Row → Text → Text
text_in rows id = unwrap_or (first_of id rows) []

-- the number that a text spells, or 0 if it spells no number of 64 bits
abbrev pub option_number : Text → ℕ
option_number text =
    if accepts false (Unsigned 0 18446744073709551615) text then digits_value 10 (without_leading_plus text) else 0

-- the number of an option, or 0 if it has none
abbrev pub number_in : List Row → Text → ℕ
number_in rows id = option_map_or option_number (one_of id rows) 0

-- the number of an option, if it was given
abbrev pub number_given : List Row → Text → Option ℕ
number_given rows id = option_map (λ _. number_in rows id) (first_of id rows)

-- the moment of an option, or this one if it has none; the parser takes no number above the greatest moment
abbrev pub moment_among : ℕ → ℕ → ℕ
moment_among usual number = if nat_le number MAX_MOMENT then number else usual

abbrev pub moment_in : List Row → Text → ℕ → ℕ
moment_in rows id usual = option_map_or (moment_among usual) (number_given rows id) usual

-- whether an option that takes no value was given: the parser gives it the text `true`, and else `false`
abbrev pub flag_in : List Row → Text → Bool
flag_in rows id = option_map_or (λ text. bytes_eq text (codes "true")) (one_of id rows) false

abbrev pub numbers_in : List Row → Numbers
numbers_in rows = record {
  members = number_in rows (codes "members");
  confirmations = number_in rows (codes "confirmations");
  alpha = number_in rows (codes "alpha");
  beta = number_in rows (codes "beta");
  interval_ms = number_in rows (codes "interval-ms");
}

-- The options of `explain`: the text of the member's name, that of the folder, the latest moment at which the first
-- verdict of an account may have come, whether each account is told, whether the numbers of the entries are told too,
-- whether the accounts are written as JSON, and into which file they are written as a page of HTML, if one was given.
pub record ExplainValue : Type 0 where
  pub name : Text
  pub folder : Text
  pub at : ℕ
  pub all : Bool
  pub entries : Bool
  pub json : Bool
  pub html : Option Text

-- What a command line asks for: a command with its options. For `node` these are where its configuration comes from,
-- for how many milliseconds it runs if it was said, whether it follows what changes, and whether it ends with its
-- input. For a question to a running node they are the text of its address, and whether the answers are written as they
-- come. For `leave` they are the text of the node's address, and that of its name, which is empty if none was given.
-- For `replay` they are the text of the folder, the first and the last moment of what is told, and the text of a
-- member's name, if one was given.
pub data Request : Type 0 where
  answer : Text → Request
  order : Text → Text → Request
  timeouts : Numbers → Request
  sim : Request
  node : SourceValue → Option ℕ → Bool → Bool → Request
  check : SourceValue → Request
  ask : Question → Text → Bool → Request
  init : Request
  leave : Text → Text → Request
  replay : Text → ℕ → ℕ → Option Text → Request
  explain : ExplainValue → Request
  version : Request

-- whether the command of this name was met
abbrev pub is_met : Text → Option (Text × List Row) → Bool
is_met name met = option_map_or (λ p. bytes_eq p.0 name) met false

-- the options of the command that was met
abbrev pub rows_met : Option (Text × List Row) → List Row
rows_met met = option_map_or (λ p. p.1) met []

-- `node` with its options
abbrev pub node_of_rows : List Row → Request
node_of_rows rows = node (source_in rows) (number_given rows (codes "for-ms"))
    (flag_in rows (codes "follow")) (flag_in rows (codes "until-input-ends"))

-- a question to a running node, with the options of its command
abbrev pub ask_of_rows : Question → List Row → Request
ask_of_rows question rows = ask question (text_in rows (codes "at")) (flag_in rows (codes "json"))

-- `replay` with its options
abbrev pub replay_of_rows : List Row → Request
replay_of_rows rows =
    replay (text_in rows (codes "folder")) (moment_in rows (codes "from") 0)
    (moment_in rows (codes "to") MAX_MOMENT) (first_of (codes "only") rows)

-- `explain` with its options
abbrev pub explain_of_rows : List Row → Request
explain_of_rows rows = explain record {
  name = text_in rows (codes "name");
  folder = text_in rows (codes "record");
  at = moment_in rows (codes "at") MAX_MOMENT;
  all = flag_in rows (codes "all");
  entries = flag_in rows (codes "entries");
  json = flag_in rows (codes "json");
  html = first_of (codes "html") rows;
}

-- the command that was met, with its options
abbrev pub request_of_rows : Option (Text × List Row) → Request
request_of_rows met =
    let rows = rows_met met in
    if is_met (codes "sim") met then sim
    else if is_met (codes "node") met then node_of_rows rows
    else if is_met (codes "check") met then check (source_in rows)
    else if is_met (codes "timeouts") met then timeouts (numbers_in rows)
    else if is_met (codes "order") met then order (text_in rows (codes "names")) (text_in rows (codes "words"))
    else if is_met (codes "members") met then ask_of_rows Members rows
    else if is_met (codes "status") met then ask_of_rows Status rows
    else if is_met (codes "watch") met then ask_of_rows Watch rows
    else if is_met (codes "init") met then init
    else if is_met (codes "leave") met then leave (text_in rows (codes "at")) (text_in rows (codes "name"))
    else if is_met (codes "replay") met then replay_of_rows rows
    else if is_met (codes "explain") met then explain_of_rows rows
    else if is_met (codes "version") met then version
    else answer (text_in rows (codes "name"))

-- what a command line asks for, if it is taken
unfoldable pub asked : List Text → Request
asked words = request_of_rows (subcommand_of lg_app words)

-- whether each number is in its range
abbrev pub has_good_numbers : Request → Bool
has_good_numbers (answer text) = true
has_good_numbers (order names words) = true
has_good_numbers (timeouts numbers) = are_good numbers
has_good_numbers sim = true
has_good_numbers (node source for_ms follow until_input_ends) = option_map_or (is_within 1 most_run_ms) for_ms true
has_good_numbers (check source) = true
has_good_numbers (ask question at json) = true
has_good_numbers init = true
has_good_numbers (leave at name) = true
has_good_numbers (replay folder from to only) = true
has_good_numbers (explain value) = true
has_good_numbers version = true

-- the fault of numbers that aren't good
abbrev pub request_faults : Request → Kinds
request_faults request = if has_good_numbers request then [] else ValueValidation ∷ []

-- Why a command line is refused, or that it asks for help or for the version. It is empty if the line is taken.
unfoldable pub line_faults : List Text → Kinds
line_faults words = or_else (fault_of lg_app words) (request_faults (asked words))

-- a fact about the text of `--name` of `answer`
abbrev pub IfAnswer : Request → (Text → Type 0) → Type 0
IfAnswer (answer text) P = P text
IfAnswer (order names words) P = Unit {0}
IfAnswer (timeouts numbers) P = Unit {0}
IfAnswer sim P = Unit {0}
IfAnswer (node source for_ms follow until_input_ends) P = Unit {0}
IfAnswer (check source) P = Unit {0}
IfAnswer (ask question at json) P = Unit {0}
IfAnswer init P = Unit {0}
IfAnswer (leave at name) P = Unit {0}
IfAnswer (replay folder from to only) P = Unit {0}
IfAnswer (explain value) P = Unit {0}
IfAnswer version P = Unit {0}

-- a fact about the two texts of `order`: its names and its words
abbrev pub IfOrder : Request → (Text → Text → Type 0) → Type 0
IfOrder (answer text) P = Unit {0}
IfOrder (order names words) P = P names words
IfOrder (timeouts numbers) P = Unit {0}
IfOrder sim P = Unit {0}
IfOrder (node source for_ms follow until_input_ends) P = Unit {0}
IfOrder (check source) P = Unit {0}
IfOrder (ask question at json) P = Unit {0}
IfOrder init P = Unit {0}
IfOrder (leave at name) P = Unit {0}
IfOrder (replay folder from to only) P = Unit {0}
IfOrder (explain value) P = Unit {0}
IfOrder version P = Unit {0}

-- a fact about the numbers of `timeouts`
abbrev pub IfTimeouts : Request → (Numbers → Type 0) → Type 0
IfTimeouts (answer text) P = Unit {0}
IfTimeouts (order names words) P = Unit {0}
IfTimeouts (timeouts numbers) P = P numbers
IfTimeouts sim P = Unit {0}
IfTimeouts (node source for_ms follow until_input_ends) P = Unit {0}
IfTimeouts (check source) P = Unit {0}
IfTimeouts (ask question at json) P = Unit {0}
IfTimeouts init P = Unit {0}
IfTimeouts (leave at name) P = Unit {0}
IfTimeouts (replay folder from to only) P = Unit {0}
IfTimeouts (explain value) P = Unit {0}
IfTimeouts version P = Unit {0}

-- a fact that holds if `sim` is asked for
abbrev pub IfSim : Request → Type 0 → Type 0
IfSim (answer text) P = Unit {0}
IfSim (order names words) P = Unit {0}
IfSim (timeouts numbers) P = Unit {0}
IfSim sim P = P
IfSim (node source for_ms follow until_input_ends) P = Unit {0}
IfSim (check source) P = Unit {0}
IfSim (ask question at json) P = Unit {0}
IfSim init P = Unit {0}
IfSim (leave at name) P = Unit {0}
IfSim (replay folder from to only) P = Unit {0}
IfSim (explain value) P = Unit {0}
IfSim version P = Unit {0}

-- a fact about the options of `node`: where its configuration comes from, its time, whether it follows, and whether it
-- ends with its input
abbrev pub IfNode : Request → (SourceValue → Option ℕ → Bool → Bool → Type 0) → Type 0
IfNode (answer text) P = Unit {0}
IfNode (order names words) P = Unit {0}
IfNode (timeouts numbers) P = Unit {0}
IfNode sim P = Unit {0}
IfNode (node source for_ms follow until_input_ends) P = P source for_ms follow until_input_ends
IfNode (check source) P = Unit {0}
IfNode (ask question at json) P = Unit {0}
IfNode init P = Unit {0}
IfNode (leave at name) P = Unit {0}
IfNode (replay folder from to only) P = Unit {0}
IfNode (explain value) P = Unit {0}
IfNode version P = Unit {0}

-- a fact about where the configuration of `check` comes from
abbrev pub IfCheck : Request → (SourceValue → Type 0) → Type 0
IfCheck (answer text) P = Unit {0}
IfCheck (order names words) P = Unit {0}
IfCheck (timeouts numbers) P = Unit {0}
IfCheck sim P = Unit {0}
IfCheck (node source for_ms follow until_input_ends) P = Unit {0}
IfCheck (check source) P = P source
IfCheck (ask question at json) P = Unit {0}
IfCheck init P = Unit {0}
IfCheck (leave at name) P = Unit {0}
IfCheck (replay folder from to only) P = Unit {0}
IfCheck (explain value) P = Unit {0}
IfCheck version P = Unit {0}

-- a fact about a question to a running node, the text of its address, and whether the answers are written as they come
abbrev pub IfAsk : Request → (Question → Text → Bool → Type 0) → Type 0
IfAsk (answer text) P = Unit {0}
IfAsk (order names words) P = Unit {0}
IfAsk (timeouts numbers) P = Unit {0}
IfAsk sim P = Unit {0}
IfAsk (node source for_ms follow until_input_ends) P = Unit {0}
IfAsk (check source) P = Unit {0}
IfAsk (ask question at json) P = P question at json
IfAsk init P = Unit {0}
IfAsk (leave at name) P = Unit {0}
IfAsk (replay folder from to only) P = Unit {0}
IfAsk (explain value) P = Unit {0}
IfAsk version P = Unit {0}

-- a fact that holds if `init` is asked for
abbrev pub IfInit : Request → Type 0 → Type 0
IfInit (answer text) P = Unit {0}
IfInit (order names words) P = Unit {0}
IfInit (timeouts numbers) P = Unit {0}
IfInit sim P = Unit {0}
IfInit (node source for_ms follow until_input_ends) P = Unit {0}
IfInit (check source) P = Unit {0}
IfInit (ask question at json) P = Unit {0}
IfInit init P = P
IfInit (leave at name) P = Unit {0}
IfInit (replay folder from to only) P = Unit {0}
IfInit (explain value) P = Unit {0}
IfInit version P = Unit {0}

-- a fact about the two texts of `leave`: the node's address and its name
abbrev pub IfLeave : Request → (Text → Text → Type 0) → Type 0
IfLeave (answer text) P = Unit {0}
IfLeave (order names words) P = Unit {0}
IfLeave (timeouts numbers) P = Unit {0}
IfLeave sim P = Unit {0}
IfLeave (node source for_ms follow until_input_ends) P = Unit {0}
IfLeave (check source) P = Unit {0}
IfLeave (ask question at json) P = Unit {0}
IfLeave init P = Unit {0}
IfLeave (leave at name) P = P at name
IfLeave (replay folder from to only) P = Unit {0}
IfLeave (explain value) P = Unit {0}
IfLeave version P = Unit {0}

-- a fact about the options of `replay`: the text of the folder, two moments, and the text of a member's name
abbrev pub IfReplay : Request → (Text → ℕ → ℕ → Option Text → Type 0) → Type 0
IfReplay (answer text) P = Unit {0}
IfReplay (order names words) P = Unit {0}
IfReplay (timeouts numbers) P = Unit {0}
IfReplay sim P = Unit {0}
IfReplay (node source for_ms follow until_input_ends) P = Unit {0}
IfReplay (check source) P = Unit {0}
IfReplay (ask question at json) P = Unit {0}
IfReplay init P = Unit {0}
IfReplay (leave at name) P = Unit {0}
IfReplay (replay folder from to only) P = P folder from to only
IfReplay (explain value) P = Unit {0}
IfReplay version P = Unit {0}

-- a fact about the options of `explain`
abbrev pub IfExplain : Request → (ExplainValue → Type 0) → Type 0
IfExplain (answer text) P = Unit {0}
IfExplain (order names words) P = Unit {0}
IfExplain (timeouts numbers) P = Unit {0}
IfExplain sim P = Unit {0}
IfExplain (node source for_ms follow until_input_ends) P = Unit {0}
IfExplain (check source) P = Unit {0}
IfExplain (ask question at json) P = Unit {0}
IfExplain init P = Unit {0}
IfExplain (leave at name) P = Unit {0}
IfExplain (replay folder from to only) P = Unit {0}
IfExplain (explain value) P = P value
IfExplain version P = Unit {0}

-- a fact that holds if `version` is asked for
abbrev pub IfVersion : Request → Type 0 → Type 0
IfVersion (answer text) P = Unit {0}
IfVersion (order names words) P = Unit {0}
IfVersion (timeouts numbers) P = Unit {0}
IfVersion sim P = Unit {0}
IfVersion (node source for_ms follow until_input_ends) P = Unit {0}
IfVersion (check source) P = Unit {0}
IfVersion (ask question at json) P = Unit {0}
IfVersion init P = Unit {0}
IfVersion (leave at name) P = Unit {0}
IfVersion (replay folder from to only) P = Unit {0}
IfVersion (explain value) P = Unit {0}
IfVersion version P = P

-- the status of a command line that isn't run: 0 if it asks for help or for the version
abbrev pub status_of_kind : ErrorKind → ℕ
status_of_kind DisplayHelp = 0
status_of_kind DisplayVersion = 0
status_of_kind _ = 2

-- a status that comes from one of the faults of a command line
pub record RefusesLine (faults : Kinds) (status : ℕ) : Type 0 where
  pub kind : ErrorKind
  pub among : IsAmong kind faults
  pub is : status ≡ status_of_kind kind
