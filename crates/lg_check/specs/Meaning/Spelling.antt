-- The values of a configuration as a check spells them (this project's choice).
use Rattle.std.specs.Prelude.{ℕ, Bool, true, false, List, [], ◌∷◌, ◌++◌, Option, None, Some, codes, decimal}
use Rattle.std.specs.List.{flat_map}
use Rattle.lg_rules.specs.declared.addr.Addr.{Addr}
use Rattle.lg_config.specs.declared.host.Host.{Host}
use Rattle.lg_config.specs.declared.host.Place.{Place}
use Rattle.lg_config.specs.declared.host.Place.TheVariants as place
use Rattle.lg_config.specs.declared.seeds.SeedPlace.{SeedPlace}
use Rattle.lg_text.specs.Meaning.Addresses.{addr_text}

-- HOST:PORT
abbrev pub host_text : Host → List ℕ
host_text host = host.name ++ (codes ":" ++ decimal host.port)

-- a place as it is written, with its port: ADDRESS:PORT or HOST:PORT
abbrev pub place_text : Place → List ℕ
place_text (place.Addr addr) = addr_text addr
place_text (place.Host host) = host_text host

-- NAME@PLACE
abbrev pub named_spelled : List ℕ → Place → List ℕ
named_spelled name found = name ++ (codes "@" ++ place_text found)

-- the same of a seed, or PLACE if it has no name
abbrev pub seed_spelled_by : Option (List ℕ) → Place → List ℕ
seed_spelled_by None found = place_text found
seed_spelled_by (Some name) found = named_spelled name found

abbrev pub seed_spelled : SeedPlace → List ℕ
seed_spelled seed = seed_spelled_by seed.name seed.place

abbrev pub next_seed : SeedPlace → List ℕ
next_seed seed = codes ", " ++ seed_spelled seed

-- seeds with commas between them, or the word for no seeds
abbrev pub seeds_spelled : List SeedPlace → List ℕ
seeds_spelled [] = codes "none"
seeds_spelled (seed ∷ seeds) = seed_spelled seed ++ flat_map next_seed seeds

-- where a status server listens, as ADDRESS:PORT, or the word for no server
abbrev pub status_spelled : Option Addr → List ℕ
status_spelled None = codes "none"
status_spelled (Some addr) = addr_text addr

-- the path of a file or a folder, or the word for none
abbrev pub path_spelled : Option (List ℕ) → List ℕ
path_spelled None = codes "none"
path_spelled (Some path) = path

-- the name of a group, or the word for no group
abbrev pub group_spelled : Option (List ℕ) → List ℕ
group_spelled None = codes "none"
group_spelled (Some name) = name

-- the word for something that is on, or off
abbrev pub switch_spelled : Bool → List ℕ
switch_spelled true = codes "on"
switch_spelled false = codes "off"

-- a truth value, as TOML spells it
abbrev pub truth_spelled : Bool → List ℕ
truth_spelled true = codes "true"
truth_spelled false = codes "false"
