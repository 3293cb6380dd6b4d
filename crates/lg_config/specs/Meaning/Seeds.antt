-- The seeds of a node's file: which members are known from the start by them, what they are called, and which addresses
-- and hosts the node asks for a table (this project's choice).
use Rattle.std.specs.Prelude.{ℕ, Bool, ◌&&◌, not, is_none, nat_eq, List, [], ◌∷◌, Option, Some, None, if◌then◌else◌}
use Rattle.std.specs.Cmp.Lexicographic.{pointwise}
use Rattle.std.specs.List.{flat_map, list_any}
use Rattle.lg_rules.specs.declared.addr.Addr.{Addr}
use Rattle.lg_rules.specs.Meaning.View.{is_same_addr}
use Rattle.lg_timing.specs.declared.config.Seed.{Seed}
use Rattle.lg_config.specs.declared.host.Host.{Host}
use Rattle.lg_config.specs.declared.host.Place.{Place}
use Rattle.lg_config.specs.declared.host.Place.TheVariants as place
use Rattle.lg_config.specs.declared.seeds.SeedPlace.{SeedPlace}

-- A seed as the member knows it, by its name, if it has one. A seed at a host isn't known before it is heard, since its
-- address isn't known.
abbrev pub known_by : Option (List ℕ) → Place → List Seed
known_by None _ = []
known_by (Some name) (place.Addr addr) = record { name = name; addr = addr } ∷ []
known_by (Some name) (place.Host host) = []

abbrev pub known_seed : SeedPlace → List Seed
known_seed seed = known_by seed.name seed.place

-- the seeds that have names and addresses, as the member knows them, in their order
abbrev pub known_seeds : List SeedPlace → List Seed
known_seeds seeds = flat_map known_seed seeds

-- ---- what they are called

-- the names of some seeds, in their order, at addresses and at hosts
abbrev pub name_listed : Option (List ℕ) → List (List ℕ)
name_listed None = []
name_listed (Some name) = name ∷ []

abbrev pub seed_name : SeedPlace → List (List ℕ)
seed_name seed = name_listed seed.name

abbrev pub seed_names : List SeedPlace → List (List ℕ)
seed_names seeds = flat_map seed_name seeds

-- whether a name is one of these
abbrev pub is_name_among : List ℕ → List (List ℕ) → Bool
is_name_among name names = list_any (λ other. pointwise nat_eq other name) names

-- the first of some names that a later one is too
abbrev pub shared_name : List (List ℕ) → Option (List ℕ)
shared_name [] = None
shared_name (name ∷ names) = if is_name_among name names then Some name else shared_name names

-- whether all names of some seeds differ, and none is the member's own
abbrev pub have_good_names : List ℕ → List SeedPlace → Bool
have_good_names own seeds =
    is_none (shared_name (seed_names seeds)) && not (is_name_among own (seed_names seeds))

-- ---- where they are

-- the address of a seed, if it is at one, unless that is the member's own, so that all members of a group can have the
-- same seeds
abbrev pub asked_at : Addr → Place → List Addr
asked_at own (place.Addr addr) = if is_same_addr addr own then [] else addr ∷ []
asked_at own (place.Host host) = []

abbrev pub asked_addr : Addr → SeedPlace → List Addr
asked_addr own seed = asked_at own seed.place

-- those of some seeds, in their order
abbrev pub asked_addrs : Addr → List SeedPlace → List Addr
asked_addrs own seeds = flat_map (asked_addr own) seeds

-- the host of a seed, if it is at one
abbrev pub host_listed : Place → List Host
host_listed (place.Addr addr) = []
host_listed (place.Host host) = host ∷ []

abbrev pub seed_host : SeedPlace → List Host
seed_host seed = host_listed seed.place

-- those of some seeds, in their order
abbrev pub seed_hosts : List SeedPlace → List Host
seed_hosts seeds = flat_map seed_host seeds
