-- What options of a command line give for the keys of a configuration (this project's choice). An option's text is what
-- stands behind `=` in a file, but a text has no quotes. It counts in place of what the file says of its key.
use Rattle.std.specs.Prelude.{ℕ, Bool, true, false, ◌||◌, List, [], ◌∷◌, map, Option, Some, unwrap_or}
use Rattle.std.specs.Prelude.{if◌then◌else◌}
use Rattle.std.specs.Cmp.Lexicographic.{slice_cmp}
use Rattle.std.specs.List.{flat_map}
use Rattle.std.specs.Option.{option_map}
use Rattle.std.specs.Ordering.{match_ordering, nat_cmp}
use Rattle.std.specs.Str.{bytes_eq}
use Rattle.toml.specs.Data.{Data, array, string, Members, no_members, member}
use Rattle.toml.specs.Parse.{parse_value}
use Rattle.toml.specs.View.{items_of}
use Rattle.lg_config.specs.declared.given.Given.{Given}
use Rattle.lg_config.specs.declared.given.Source.{Source}
use Rattle.lg_config.specs.declared.keys.Kind.{Kind}
use Rattle.lg_config.specs.declared.keys.Kind.TheVariants.{Number}
use Rattle.lg_config.specs.Meaning.Keys.{kind_of_key, open_key, texts_key}

-- keys, each with the text that is given for it; the key of the seeds may be there several times, once for each seed
abbrev pub Options : Type 0
Options = List (List ℕ × List ℕ)

-- the same as the program holds them
abbrev pub option_of : Given → List ℕ × List ℕ
option_of given = (given.key.now, given.text.now)

abbrev pub options_of : List Given → Options
options_of given = map option_of given

-- what a configuration is read from: the path of a file, if one is named, and options
pub record SourceValue : Type 0 where
  pub file : Option (List ℕ)
  pub options : Options

abbrev pub source_of : Source → SourceValue
source_of source =
    record { file = option_map (λ path. path.now) source.file; options = options_of source.given.now }

-- whether a key of this kind has a number
abbrev pub is_number_kind : Option Kind → Bool
is_number_kind (Some Number) = true
is_number_kind _ = false

-- Whether the text for a key is spelled as in a file: if the key's value is a number, or says whether something is
-- true. Each other text stands for itself.
abbrev pub is_spelled : List ℕ → Bool
is_spelled key = bytes_eq key open_key || is_number_kind (kind_of_key key)

-- The value that a text spells in a file. One that spells none stands for itself, so it is of another type than such a
-- key wants.
abbrev pub spelled_value : List ℕ → Data
spelled_value text = unwrap_or (parse_value text) (string text)

-- the value that a text for a key gives
abbrev pub given_value : List ℕ → List ℕ → Data
given_value key text = if is_spelled key then spelled_value text else string text

-- members with this value at a key, in place of the one that is there; keys ascend
abbrev pub put_member : List ℕ → Data → Members → Members
put_member key value no_members = member key value no_members
put_member key value (member other held others) =
    match_ordering (slice_cmp nat_cmp key other) (member key value (member other held others))
    (member other value others) (member other held (put_member key value others))

-- what an option makes of members, if it is of no seed
abbrev pub put_option : List ℕ × List ℕ → Members → Members
put_option option members =
    if bytes_eq option.0 texts_key then members else put_member option.0 (given_value option.0 option.1) members

-- the same of each of some options, in their order
abbrev pub put_options : Options → Members → Members
put_options [] members = members
put_options (option ∷ others) members = put_options others (put_option option members)

-- the seed that an option gives, if it is of one
abbrev pub seed_given : List ℕ × List ℕ → List Data
seed_given option = if bytes_eq option.0 texts_key then string option.1 ∷ [] else []

abbrev pub seeds_given : Options → List Data
seeds_given options = flat_map seed_given options

-- members with these seeds in place of theirs, if there are any
abbrev pub put_seeds : List Data → Members → Members
put_seeds [] members = members
put_seeds (seed ∷ seeds) members = put_member texts_key (array (items_of (seed ∷ seeds))) members

-- what a document and options say together
abbrev pub with_options : Options → Members → Members
with_options options members = put_seeds (seeds_given options) (put_options options members)
