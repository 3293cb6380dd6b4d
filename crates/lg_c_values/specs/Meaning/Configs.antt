-- A configuration as C has it. It tells one if its name and its address tell something, its group tells a group or that
-- there is none, and each of its seeds tells something.
use Rattle.std.specs.Prelude.{
  ℕ,
  Bool,
  List,
  [],
  ◌∷◌,
  map,
  take,
  nat_lt,
  ◌==◌,
  Option,
  Some,
  None,
  is_some,
  option_map,
  unwrap_or,
  if◌then◌else◌,
}
use Rattle.std.specs.List.{list_all}
use Rattle.lg_rules.specs.declared.addr.Addr.{Addr}
use Rattle.lg_rules.specs.declared.addr.Ip.TheVariants.{V4}
use Rattle.lg_timing.specs.declared.config.Config.{Config}
use Rattle.lg_timing.specs.declared.config.Seed.{Seed}
use Rattle.lg_timing.specs.Meaning.Bounds.{most_seeds}
use Rattle.lg_timing.specs.Meaning.Keys.{defaults}
use Rattle.lg_c_values.specs.declared.address.LgAddress.{LgAddress}
use Rattle.lg_c_values.specs.declared.config.LgConfig.{LgConfig}
use Rattle.lg_c_values.specs.declared.config.LgSeed.{LgSeed}
use Rattle.lg_c_values.specs.declared.name.LgName.{LgName}
use Rattle.lg_c_values.specs.Meaning.Addresses.{addr_from_c}
use Rattle.lg_c_values.specs.Meaning.Names.{name_from_c}

abbrev pub seed_joined : Option (List ℕ) → Option Addr → Option Seed
seed_joined (Some name) (Some addr) = Some (record { name = name; addr = addr })
seed_joined (Some name) None = None
seed_joined None addr = None

-- the seed that C tells
abbrev pub seed_from_c : LgSeed → Option Seed
seed_from_c c = seed_joined (name_from_c c.name) (addr_from_c c.address)

-- whether C tells a seed
abbrev pub tells_seed : LgSeed → Bool
tells_seed c = is_some (seed_from_c c)

-- the seed that C tells; the default one, which is the member `a` at 0.0.0.0:0, if it tells none
abbrev pub seed_or_default : LgSeed → Seed
seed_or_default c =
    unwrap_or
    (seed_from_c c)
    (record { name = 97 ∷ []; addr = record { ip = V4 (0 ∷ 0 ∷ 0 ∷ 0 ∷ []); port = 0 } })

-- the seeds that some of C tell, if each of them tells one
abbrev pub each_seed_from_c : List LgSeed → Option (List Seed)
each_seed_from_c cs = if list_all tells_seed cs then Some (map seed_or_default cs) else None

-- the seeds that a configuration of C tells: at most sixteen
abbrev pub seeds_from_c : LgConfig → Option (List Seed)
seeds_from_c c = if nat_lt most_seeds c.seeds_count then None else each_seed_from_c (take c.seeds_count c.seeds)

-- the group that C tells, or that there is none
abbrev pub group_from_c : LgName → Option (Option (List ℕ))
group_from_c c = if c.length == 0 then Some None else option_map Some (name_from_c c)

abbrev pub config_joined :
    LgConfig → Option (List ℕ) → Option Addr → Option (Option (List ℕ)) → Option (List Seed) → Option Config
config_joined c (Some name) (Some addr) (Some group) (Some seeds) =
    Some
    record {
      interval_ms = c.interval_ms;
      timeout_ms = c.timeout_ms;
      indirect = c.indirect;
      max_score = c.max_score;
      alpha = c.alpha;
      beta = c.beta;
      confirmations = c.confirmations;
      lambda = c.lambda;
      nack_thousandths = c.nack_thousandths;
      history_limit = c.history_limit;
      wire = c.wire;
      forget_ms = c.forget_ms;
      gossip_ms = c.gossip_ms;
      gossip_to = c.gossip_to;
      first = c.first;
      group = group;
      seeds = record { items = seeds };
      name = name;
      addr = addr;
    }
config_joined c (Some name) (Some addr) (Some group) None = None
config_joined c (Some name) (Some addr) None seeds = None
config_joined c (Some name) None group seeds = None
config_joined c None addr group seeds = None

-- the configuration that C tells
abbrev pub config_from_c : LgConfig → Option Config
config_from_c c = config_joined c (name_from_c c.name) (addr_from_c c.address) (group_from_c c.group) (seeds_from_c c)

abbrev pub defaults_joined : Option (List ℕ) → Option Addr → Option Config
defaults_joined (Some name) (Some addr) = Some (defaults name addr)
defaults_joined (Some name) None = None
defaults_joined None addr = None

-- the default configuration of a member with the name and the address that C tells
abbrev pub defaults_from_c : LgName → LgAddress → Option Config
defaults_from_c name address = defaults_joined (name_from_c name) (addr_from_c address)
