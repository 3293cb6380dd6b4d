-- The options and the commands, as the tables of the code have them.
use Rattle.std.specs.Prelude.{List, Some, codes, true}
use Rattle.std.specs.List.{fold}
use Rattle.clap.specs.Simple.{App, new_app, new_rule, on_top, with_rule, with_subcommand}
use Rattle.clap.specs.Walk.{Rule, Text}
use Rattle.clap.specs.declared.builder.action.ArgAction.TheVariants.{Set}
use Rattle.lg_timing.specs.Meaning.Keys.{row_of}
use Rattle.lg_command_line.specs.Meaning.Apps.{default_rule, default_text_rule, flag_rule, number_rule}
use Rattle.lg_command_line.specs.Meaning.Apps.{optional_text_rule, required_rule, text_rule, word_rule}
use Rattle.lg_command_line.specs.Meaning.KeyOptions.{key_action}
use Rattle.lg_command_line.specs.declared.command.CommandRow.{CommandRow}
use Rattle.lg_command_line.specs.declared.key_options.KeyRow.{KeyRow}
use Rattle.lg_command_line.specs.declared.options.OptionRow.{OptionRow}
use Rattle.lg_command_line.specs.declared.options.Takes.{Takes}
use Rattle.lg_command_line.specs.declared.options.Takes.TheVariants.{DefaultText, Nothing, Number, OfKey}
use Rattle.lg_command_line.specs.declared.options.Takes.TheVariants.{OptionalText, RequiredNumber, RequiredText, Word}

-- an option `--ID`
abbrev pub named_rule : Text → Rule
named_rule id = record (new_rule id) { long = Some id }

-- an option `--ID TEXT`
abbrev pub valued_rule : Text → Rule
valued_rule id = record (named_rule id) { value_names = 1; action = Some Set }

-- an option of this name, which takes this
abbrev pub rule_taking : Text → Takes → Rule
rule_taking id (RequiredText name) = text_rule id
rule_taking id (Word name) = word_rule id
rule_taking id (OptionalText name) = optional_text_rule id
rule_taking id (DefaultText name default) = default_text_rule id default.now
rule_taking id (RequiredNumber least most) = required_rule (number_rule id least most)
rule_taking id (Number least most) = number_rule id least most
rule_taking id (OfKey key default) = default_rule (number_rule id (row_of key).least (row_of key).most) default.now
rule_taking id Nothing = flag_rule id

-- the option of a row
abbrev pub rule_of_row : OptionRow → Rule
rule_of_row row = rule_taking row.id.now row.takes

-- a command with the option of one row more
abbrev pub with_option : App → OptionRow → App
with_option app row = with_rule app (rule_of_row row)

-- the option `--NAME` of a key
abbrev pub named_key_rule : KeyRow → Rule
named_key_rule row = record (new_rule row.key.now) { long = Some row.name.now }

-- the option of a key's row
abbrev pub rule_of_key : KeyRow → Rule
rule_of_key row = record (named_key_rule row) { value_names = 1; action = Some (key_action row.key.now) }

-- a command with the option of one key more
abbrev pub with_key_rule : App → KeyRow → App
with_key_rule app row = with_rule app (rule_of_key row)

-- the command of a row
abbrev pub app_of_row : CommandRow → App
app_of_row row = fold with_key_rule (fold with_option (new_app row.name.now) row.options.now) row.keys.now

-- a program with the command of one row more
abbrev pub with_row : App → CommandRow → App
with_row lg row = with_subcommand lg (app_of_row row).top

-- a program with the commands of these rows behind those that it has
unfoldable pub with_rows : App → List CommandRow → App
with_rows lg rows = fold with_row lg rows

-- the program before it has commands
abbrev pub bare_lg : App
bare_lg = on_top (λ s. record s { has_version = true; subcommand_required = true }) (new_app (codes "lg"))
