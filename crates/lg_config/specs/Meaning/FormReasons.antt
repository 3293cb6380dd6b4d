-- The reasons of values that are out of their form, and of seeds that don't go together, in words.
use Rattle.std.specs.Prelude.{ℕ, List, [], ◌++◌, codes, decimal, nat_lt, if◌then◌else◌}
use Rattle.std.specs.Prelude.{Option, Some, None, is_none, is_some, unwrap_or}
use Rattle.toml.specs.Data.{Items, no_items, item, Members, as_str}
use Rattle.lg_text.specs.Meaning.Lines.{newline}
use Rattle.lg_timing.specs.Meaning.Bounds.{most_seeds}
use Rattle.lg_config.specs.Meaning.Quoting.{quoted}
use Rattle.lg_config.specs.Meaning.Ranges.{dice_reason, port_reason}
use Rattle.lg_config.specs.Meaning.Seeds.{seed_names, shared_name}
use Rattle.lg_config.specs.Meaning.Settings.{address_text, dice_in, folder_in, ip_of_member, name_in, name_text}
use Rattle.lg_config.specs.Meaning.Settings.{first_seeds, item_count, port_of_member, seed_of_value, seeds_at, text_at}

-- the first text of an array that is no seed; it is empty if each is one
abbrev pub bad_seed : Items → List ℕ
bad_seed no_items = []
bad_seed (item value others) =
    if is_some (seed_of_value value) then bad_seed others else unwrap_or (as_str value) []

-- the reasons of a name, an address and a seed that are none
abbrev pub name_reason : Members → List ℕ
name_reason members =
    codes "name is " ++ (quoted (name_text members)
    ++ codes ", and has to be 1 to 32 of A-Z a-z 0-9 . _ -\n")

abbrev pub address_reason : Members → List ℕ
address_reason members =
    codes "address is " ++ (quoted (address_text members)
    ++ codes ", and has to be A.B.C.D, each from 0 to 255 without leading zeros, or IPv6, or auto\n")

abbrev pub seed_reason : Members → List ℕ
seed_reason members =
    codes "the seed " ++ (quoted (bad_seed (seeds_at members))
    ++ codes " has to be NAME@A.B.C.D:PORT, A.B.C.D:PORT or A.B.C.D, no leading zeros, IPv6 or a host\n")

-- the text at a key, and the reason of one that is no path
abbrev pub path_text : List ℕ → Members → List ℕ
path_text key members = unwrap_or (text_at key members) []

abbrev pub path_reason : List ℕ → Members → List ℕ
path_reason key members =
    key ++ (codes " is " ++ (quoted (path_text key members)
    ++ codes ", and has to have 1 to 255 bytes of printable ASCII\n"))

-- the reason of a value that is out of its form: the first of the name, the address, the port, the dice, the folder of
-- the recording and the seeds
unfoldable pub value_reason : Members → List ℕ
value_reason members =
    if is_none (name_in members) then name_reason members
    else if is_none (ip_of_member members) then address_reason members
    else if is_none (port_of_member members) then port_reason members
    else if is_none (dice_in members) then dice_reason members
    else if is_none (folder_in members) then path_reason (codes "record") members
    else seed_reason members

-- the reason of a few seeds that don't go together, by a name that two of them have
abbrev pub few_seeds_reason : Option (List ℕ) → List ℕ
few_seeds_reason (Some name) = codes "two seeds have the name " ++ (quoted name ++ newline)
few_seeds_reason None = codes "a seed has the member's own name\n"

-- the reason of too many seeds
abbrev pub many_seeds_reason : ℕ → List ℕ
many_seeds_reason count = codes "there are " ++ (decimal count ++ codes " seeds, and at most 16 are allowed\n")

-- the names of the first 16 seeds
abbrev pub few_names : Items → List (List ℕ)
few_names values = seed_names (unwrap_or (first_seeds values) [])

-- the reason of seeds that don't go together: they are too many, two of them have a name, or one has the member's
unfoldable pub seeds_reason : Items → List ℕ
seeds_reason values =
    if nat_lt most_seeds (item_count values) then many_seeds_reason (item_count values)
    else few_seeds_reason (shared_name (few_names values))
