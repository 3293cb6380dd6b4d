-- The options of the keys of a configuration, which `node` and `check` have (this project's choice). None has to be
-- given. An option counts in place of what the file says of its key.
use Rattle.std.specs.Prelude.{ℕ, ◌==◌, List, [], map, codes, if◌then◌else◌, unwrap_or, Some}
use Rattle.std.specs.List.{flat_map, fold}
use Rattle.std.specs.Str.{bytes_eq}
use Rattle.clap.specs.Simple.{App, new_rule, with_rule}
use Rattle.clap.specs.Walk.{Row, Rule, Text, all_of, first_of}
use Rattle.clap.specs.declared.builder.action.ArgAction.{ArgAction}
use Rattle.clap.specs.declared.builder.action.ArgAction.TheVariants.{Append, Set}
use Rattle.lg_config.specs.Meaning.Keys.{texts_key}
use Rattle.lg_config.specs.Meaning.NearestKeys.{known_keys}
use Rattle.lg_config.specs.Meaning.Options.{Options, SourceValue}

-- a sign of an option's name, by that of its key: `-` for `_`
abbrev pub dashed : ℕ → ℕ
dashed sign = if sign == 95 then 45 else sign

-- the name of a key's option: the key's, but each seed has an option of its own
abbrev pub option_name : Text → Text
option_name key = if bytes_eq key texts_key then codes "seed" else map dashed key

-- only the option of a seed may be given several times
abbrev pub key_action : Text → ArgAction
key_action key = if bytes_eq key texts_key then Append else Set

-- the option `--NAME TEXT` of a key
abbrev pub option_rule : Text → Rule
option_rule key =
    record (new_rule key) { long = Some (option_name key); value_names = 1; action = Some (key_action key) }

-- a command with an option for each key that a file may have, behind those that it has
abbrev pub with_key_options : App → App
with_key_options app = fold (λ some key. with_rule some (option_rule key)) app known_keys

-- the texts that are given for a key
abbrev pub given_for : List Row → Text → Options
given_for rows key = map (λ text. (key, text)) (unwrap_or (all_of key rows) [])

-- the same for all keys, in the order of their table
abbrev pub given_in : List Row → Options
given_in rows = flat_map (given_for rows) known_keys

-- where a configuration comes from: the file of `--config`, if that is given, and these options
abbrev pub source_in : List Row → SourceValue
source_in rows = record { file = first_of (codes "config") rows; options = given_in rows }
