-- The configuration that the members of a document mean. None if a value is out of its form. The keys are right.
use Rattle.std.specs.Prelude.{ℕ, suc, take, ℤ, pos, negsuc, Bool, true, false, List, [], ◌∷◌, codes, Option, Some}
use Rattle.std.specs.Prelude.{None, option_and_then, unwrap_or, if◌then◌else◌}
use Rattle.std.specs.Option.{option_map}
use Rattle.std.specs.Str.{bytes_eq}
use Rattle.toml.specs.Data.{Data, Items, no_items, item, Members, get_member, as_str, as_integer, as_array}
use Rattle.lg_rules.specs.declared.addr.Addr.{Addr}
use Rattle.lg_rules.specs.declared.addr.Ip.{Ip}
use Rattle.lg_rules.specs.declared.addr.Ip.TheVariants.{V4}
use Rattle.lg_text.specs.Meaning.IpReading.{ip_of}
use Rattle.lg_timing.specs.Meaning.Bounds.{most_seeds}
use Rattle.lg_timing.specs.Meaning.Config.{defaults}
use Rattle.lg_timing.specs.Meaning.Keys.{key_name, number_of_key, with_number}
use Rattle.lg_timing.specs.declared.config.Config.{Config}
use Rattle.lg_timing.specs.declared.config.Seed.{Seed}
use Rattle.lg_timing.specs.declared.keys.Key.{Key}
use Rattle.lg_config.specs.declared.node.NodeConfig.{NodeConfig}
use Rattle.lg_config.specs.declared.node_keys.NodeKey.{NodeKey}
use Rattle.lg_config.specs.declared.node_keys.NodeKey.TheVariants.{PullMs, RecordMb, ResolveMs, StallMs}
use Rattle.lg_config.specs.declared.seeds.SeedPlace.{SeedPlace}
use Rattle.lg_config.specs.Meaning.Bounds.{out_of_range, default_address, default_port}
use Rattle.lg_config.specs.Meaning.Dice.{own_dice}
use Rattle.lg_config.specs.Meaning.Keys.{file_keys, texts_key}
use Rattle.lg_config.specs.Meaning.NodeKeys.{node_key_name, node_row_of}
use Rattle.lg_config.specs.Meaning.Paths.{path_of}
use Rattle.lg_config.specs.Meaning.Seeds.{known_seeds}
use Rattle.lg_config.specs.Meaning.Texts.{◌>>=◌, port_among, member_name_of, seed_of_text}

-- the text at a key, and the whole number at a key, if there is one
abbrev pub text_at : List ℕ → Members → Option (List ℕ)
text_at key members = option_and_then as_str (get_member key members)

abbrev pub integer_at : List ℕ → Members → Option ℤ
integer_at key members = option_and_then as_integer (get_member key members)

-- a whole number as one that isn't negative; a negative number becomes one that no key accepts
abbrev pub natural : ℤ → ℕ
natural (pos n) = n
natural (negsuc n) = out_of_range

-- the number at a key, or its default
abbrev pub number_at_key : List ℕ → ℕ → Members → ℕ
number_at_key key default members = unwrap_or (option_map natural (integer_at key members)) default

-- the seed that an element of an array spells, if it is a text
abbrev pub seed_of_value : Data → Option SeedPlace
seed_of_value value = option_and_then seed_of_text (as_str value)

-- the seeds that the elements of an array spell, in their order; None if one of them is no seed
abbrev pub seeds_of_items : Items → Option (List SeedPlace)
seeds_of_items no_items = Some []
seeds_of_items (item value others) = do
  seed ← seed_of_value value
  seeds ← seeds_of_items others
  Some (seed ∷ seeds)

-- the first of them, as many as a member may know from the start
abbrev pub first_seeds : Items → Option (List SeedPlace)
first_seeds items = option_map (λ seeds. take most_seeds seeds) (seeds_of_items items)

-- how many elements an array has
abbrev pub item_count : Items → ℕ
item_count no_items = 0
item_count (item value others) = suc (item_count others)

-- the elements of the array at the key of the seeds, if there are any
abbrev pub seeds_at : Members → Items
seeds_at members = unwrap_or (option_and_then as_array (get_member texts_key members)) no_items

-- the texts of this member's name and of its address
abbrev pub name_text : Members → List ℕ
name_text members = unwrap_or (text_at (codes "name") members) []

abbrev pub address_text : Members → List ℕ
address_text members = unwrap_or (text_at (codes "address") members) default_address

-- this member's name
unfoldable pub name_in : Members → Option (List ℕ)
name_in members = member_name_of (name_text members)

-- whether this member's address is to be found when its node starts: a word stands in its place
abbrev pub is_auto : Members → Bool
is_auto members = bytes_eq (address_text members) (codes "auto")

-- what stands for an IP address that is to be found: 0.0.0.0
abbrev pub unfound_ip : Ip
unfound_ip = V4 (0 ∷ 0 ∷ 0 ∷ 0 ∷ [])

-- this member's IP address, and its port
abbrev pub ip_of_member : Members → Option Ip
ip_of_member members = if is_auto members then Some unfound_ip else ip_of (address_text members)

abbrev pub port_of_member : Members → Option ℕ
port_of_member members = port_among (number_at_key (codes "port") default_port members)

-- this member's address
unfoldable pub addr_in : Members → Option Addr
addr_in members = do
  ip ← ip_of_member members
  port ← port_of_member members
  Some record { ip = ip; port = port }

-- a whole number, if it isn't negative
abbrev pub unless_negative : ℤ → Option ℕ
unless_negative (pos n) = Some n
unless_negative (negsuc n) = None

-- the number that the dice start from, if a document says it; it has to be one that isn't negative
abbrev pub dice_of : Option ℤ → Option (Option ℕ)
dice_of None = Some None
dice_of (Some given) = option_map (λ number. Some number) (unless_negative given)

unfoldable pub dice_in : Members → Option (Option ℕ)
dice_in members = dice_of (integer_at (codes "dice") members)

-- the folder of the recording, if a document names one; its text has to be a path
abbrev pub folder_of : Option (List ℕ) → Option (Option (List ℕ))
folder_of None = Some None
folder_of (Some text) = option_map (λ path. Some path) (path_of text)

unfoldable pub folder_in : Members → Option (Option (List ℕ))
folder_in members = folder_of (text_at (codes "record") members)

-- a configuration with the number that a document gives for a key, and with its own number if the key is missing
abbrev pub with_key : Key → Members → Config → Config
with_key key members usual = with_number key (number_at_key (key_name key) (number_of_key key usual) members) usual

-- the same for each of some keys
abbrev pub with_keys : List Key → Members → Config → Config
with_keys [] _ usual = usual
with_keys (key ∷ others) members usual = with_keys others members (with_key key members usual)

-- the same for all keys that a file may give
unfoldable pub with_numbers : Members → Config → Config
with_numbers members usual = with_keys file_keys members usual

-- a number of the node's own, or its default
abbrev pub own_number_in : NodeKey → Members → ℕ
own_number_in key members = number_at_key (node_key_name key) (node_row_of key).default members

-- a configuration with these seeds
abbrev pub with_seeds : List Seed → Config → Config
with_seeds seeds config = record config { seeds = record { items = seeds } }

-- All that a document says but of the status server, of the key file, of the group, of leaving and of where the socket
-- is bound, which are read later. It may have too many seeds, of which the first are kept, or numbers out of their
-- ranges; that is judged later.
unfoldable pub settings_of : Members → Option NodeConfig
settings_of members = do
  name ← name_in members
  addr ← addr_in members
  dice ← dice_in members
  folder ← folder_in members
  seeds ← first_seeds (seeds_at members)
  Some record {
    config = with_seeds (known_seeds seeds) (with_numbers members (defaults name addr));
    dice = unwrap_or dice (own_dice name addr);
    pull_ms = own_number_in PullMs members;
    stall_ms = own_number_in StallMs members;
    resolve_ms = own_number_in ResolveMs members;
    record_mb = own_number_in RecordMb members;
    record_folder = folder;
    auto = is_auto members;
    status = None;
    status_open = false;
    key_file = None;
    leave = true;
    bind = None;
    seeds = record { items = seeds };
  }
