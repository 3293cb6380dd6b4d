-- The commands of the program with their options, as the parser has them.
use Rattle.std.specs.Prelude.{ℕ, true, [], ◌∷◌, Some, codes, decimal}
use Rattle.clap.specs.Simple.{App, new_app, new_rule, with_rule, with_subcommand, on_top}
use Rattle.clap.specs.Walk.{Rule, Text}
use Rattle.clap.specs.declared.builder.action.ArgAction.TheVariants.{Set, SetTrue}
use Rattle.clap.specs.declared.builder.value_parser.ValueParser.TheVariants.{Unsigned}
use Rattle.lg_rules.specs.Meaning.Bounds.{most_members}
use Rattle.lg_timing.specs.Meaning.Keys.{row_of}
use Rattle.lg_timing.specs.declared.keys.Key.{Key}
use Rattle.lg_timing.specs.declared.keys.Key.TheVariants.{Alpha, Beta, Confirmations, IntervalMs}
use Rattle.lg_timing.specs.declared.moment.TheConstants.{MAX_MOMENT}
use Rattle.lg_command_line.specs.Meaning.KeyOptions.{with_key_options}
use Rattle.lg_command_line.specs.Meaning.Ranges.{default_at, most_run_ms}

-- an option `--ID TEXT`, which is required
abbrev pub text_rule : Text → Rule
text_rule id =
    let named = record (new_rule id) { long = Some id; value_names = 1 } in
    record named { required = true; action = Some Set }

abbrev pub answer_app : App
answer_app = with_rule (new_app (codes "answer")) (text_rule (codes "name"))

abbrev pub order_app : App
order_app = with_rule (with_rule (new_app (codes "order")) (text_rule (codes "names"))) (text_rule (codes "words"))

-- a word without a name before it, which is required
abbrev pub word_rule : Text → Rule
word_rule id = record (new_rule id) { value_names = 1; required = true; action = Some Set }

-- an option `--ID N`, a number that is at least `least` and at most `most`
abbrev pub number_rule : Text → ℕ → ℕ → Rule
number_rule id least most =
    record (new_rule id) { long = Some id; value_names = 1; parser = Some (Unsigned least most); action = Some Set }

-- an option `--ID` that takes no value
abbrev pub flag_rule : Text → Rule
flag_rule id = record (new_rule id) { long = Some id; action = Some SetTrue }

abbrev pub required_rule : Rule → Rule
required_rule rule = record rule { required = true }

abbrev pub default_rule : Rule → Text → Rule
default_rule rule value = record rule { defaults = value ∷ [] }

abbrev pub members_rule : Rule
members_rule = required_rule (number_rule (codes "members") 1 most_members)

-- an option `--ID N` of a number of the configuration, which has the range and the default of its key; a 0 below the
-- range is refused, so no option is of a key whose 0 turns something off
abbrev pub key_rule : Text → Key → Rule
key_rule id key =
    let row = row_of key in
    default_rule (number_rule id row.least row.most) (decimal row.default)

abbrev pub confirmations_rule : Rule
confirmations_rule = key_rule (codes "confirmations") Confirmations

abbrev pub alpha_rule : Rule
alpha_rule = key_rule (codes "alpha") Alpha

abbrev pub beta_rule : Rule
beta_rule = key_rule (codes "beta") Beta

abbrev pub interval_rule : Rule
interval_rule = key_rule (codes "interval-ms") IntervalMs

abbrev pub timeouts_app : App
timeouts_app =
    let numbers = with_rule (with_rule (new_app (codes "timeouts")) members_rule) confirmations_rule in
    with_rule (with_rule (with_rule numbers alpha_rule) beta_rule) interval_rule

abbrev pub sim_app : App
sim_app = new_app (codes "sim")

abbrev pub for_ms_rule : Rule
for_ms_rule = number_rule (codes "for-ms") 1 most_run_ms

-- an option `--ID TEXT`, which needn't be given
abbrev pub optional_text_rule : Text → Rule
optional_text_rule id = record (new_rule id) { long = Some id; value_names = 1; action = Some Set }

-- the file of a configuration
abbrev pub config_rule : Rule
config_rule = optional_text_rule (codes "config")

-- no option has to be given
abbrev pub node_app : App
node_app =
    let numbered = with_rule (with_rule (new_app (codes "node")) config_rule) for_ms_rule in
    let followed = with_rule numbered (flag_rule (codes "follow")) in
    with_key_options (with_rule followed (flag_rule (codes "until-input-ends")))

abbrev pub check_app : App
check_app = with_key_options (with_rule (new_app (codes "check")) config_rule)

-- this command has no options
abbrev pub init_app : App
init_app = new_app (codes "init")

-- an option `--ID TEXT` that has a default
abbrev pub default_text_rule : Text → Text → Rule
default_text_rule id value = default_rule (optional_text_rule id) value

-- where the status server of a running node listens
abbrev pub at_rule : Rule
at_rule = default_text_rule (codes "at") default_at

-- a command of this name that asks a running node, whose options needn't be given
abbrev pub ask_app : Text → App
ask_app name = with_rule (with_rule (new_app name) at_rule) (flag_rule (codes "json"))

-- a program with the commands that ask a running node, behind those that it has
abbrev pub with_questions : App → App
with_questions lg =
    let members = with_subcommand lg (ask_app (codes "members")).top in
    with_subcommand (with_subcommand members (ask_app (codes "status")).top) (ask_app (codes "watch")).top

-- the command that tells a running node to leave its group, whose options needn't be given
abbrev pub leave_app : App
leave_app = with_rule (with_rule (new_app (codes "leave")) at_rule) (optional_text_rule (codes "name"))

-- this command has no options
abbrev pub version_app : App
version_app = new_app (codes "version")

-- the command that replays a recording: its folder has to be named, and no option has to be given
abbrev pub replay_app : App
replay_app =
    let folder = with_rule (new_app (codes "replay")) (word_rule (codes "folder")) in
    let from = with_rule folder (number_rule (codes "from") 0 MAX_MOMENT) in
    with_rule (with_rule from (number_rule (codes "to") 0 MAX_MOMENT)) (optional_text_rule (codes "only"))

-- the command that tells from a recording about a member: the member and the folder have to be named, and no other
-- option has to be given
abbrev pub explain_app : App
explain_app =
    let name = with_rule (new_app (codes "explain")) (word_rule (codes "name")) in
    let folder = with_rule name (text_rule (codes "record")) in
    let at = with_rule folder (number_rule (codes "at") 0 MAX_MOMENT) in
    let parts = with_rule (with_rule at (flag_rule (codes "all"))) (flag_rule (codes "entries")) in
    with_rule (with_rule parts (flag_rule (codes "json"))) (optional_text_rule (codes "html"))

-- The program has the commands `answer`, `order`, `timeouts`, `sim`, `node`, `check` and `init`, and `members`,
-- `status`, `watch` and `leave`, which ask a running node, and `replay`, `explain` and `version`. One of them has to be
-- named. It has a version, which `--version` and `-V` ask for.
abbrev pub lg_app : App
lg_app =
    let lg = on_top (λ s. record s { has_version = true; subcommand_required = true }) (new_app (codes "lg")) in
    let first = with_subcommand (with_subcommand (with_subcommand lg answer_app.top) order_app.top) timeouts_app.top in
    let others = with_subcommand (with_subcommand (with_subcommand first sim_app.top) node_app.top) check_app.top in
    let asking = with_subcommand (with_questions (with_subcommand others init_app.top)) leave_app.top in
    with_subcommand (with_subcommand (with_subcommand asking replay_app.top) explain_app.top) version_app.top
