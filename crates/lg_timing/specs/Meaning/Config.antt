-- Which configurations are good, and what is wrong with the others (this project's choice). If there are several
-- faults, the first of these counts: of the numbers from `interval_ms` to `history_limit`, of the seeds, of the numbers
-- from `wire` to `first`, and of the group.
use Rattle.std.specs.Prelude.{
  ◌≡◌,
  ℕ,
  Bool,
  true,
  false,
  ◌&&◌,
  not,
  nat_le,
  nat_lt,
  nat_eq,
  ◌==◌,
  List,
  [],
  ◌∷◌,
  length,
  Option,
  Some,
  None,
  Result,
  Ok,
  Err,
  find,
  if◌then◌else◌,
}
use Rattle.std.specs.List.{list_any}
use Rattle.std.specs.Cmp.Lexicographic.{pointwise}
use Rattle.lg_rules.specs.declared.version.Version.{Version}
use Rattle.lg_rules.specs.declared.version.Version.TheVariants.{One, Two, Three}
use Rattle.lg_timing.specs.declared.config.Seed.{Seed}
use Rattle.lg_timing.specs.declared.config.Config.{Config}
use Rattle.lg_timing.specs.declared.config.ConfigFault.{ConfigFault}
use Rattle.lg_timing.specs.declared.config.ConfigFault.TheVariants.{Group, Seeds}
use Rattle.lg_timing.specs.declared.keys.Key.{Key}
use Rattle.lg_timing.specs.Meaning.Bounds.{most_seeds}
use Rattle.lg_timing.specs.Meaning.Keys.{is_before_seeds, is_in_range, keys, row_of}
pub use Rattle.lg_timing.specs.Meaning.Keys.{defaults, is_within}

-- whether a seed has this name
abbrev pub has_name : List ℕ → Seed → Bool
has_name name seed = pointwise nat_eq seed.name name

-- whether some seed has this name
abbrev pub is_seed : List ℕ → List Seed → Bool
is_seed name seeds = list_any (has_name name) seeds

-- whether no two seeds have the same name
abbrev pub have_distinct_names : List Seed → Bool
have_distinct_names [] = true
have_distinct_names (seed ∷ seeds) = not (is_seed seed.name seeds) && have_distinct_names seeds

-- whether there are at most 16 seeds, with different names, none of them the member's own
abbrev pub are_good_seeds : List ℕ → List Seed → Bool
are_good_seeds own seeds = nat_le (length seeds) most_seeds && (have_distinct_names seeds && not (is_seed own seeds))

-- the first key whose number is out of its range, if there is one
abbrev pub first_broken : Config → Option Key
first_broken c = find (λ key. not (is_in_range c key)) keys

-- whether a member that sends packets of this version may belong to this group, if it has one: only packets of version
-- 3 name a group, and its own group would drop the others
abbrev pub can_name_group : Option (List ℕ) → ℕ → Bool
can_name_group None wire = true
can_name_group (Some group) wire = wire == 3

-- What a check returns for that key, for whether the seeds are good, and for whether the group is: the fault of the key
-- if the seeds are good or judged behind it, as they are behind all keys before `wire`; or else the fault of the seeds,
-- if they aren't good; or else that of the group.
abbrev pub fault_checked : Option Key → Bool → Bool → Result (Unit {0}) ConfigFault
fault_checked None true named = if named then Ok tt else Err Group
fault_checked None false named = Err Seeds
fault_checked (Some key) true named = Err (row_of key).fault
fault_checked (Some key) false named = if is_before_seeds key then Err (row_of key).fault else Err Seeds

-- what checking a configuration returns
unfoldable pub check_of : Config → Result (Unit {0}) ConfigFault
check_of c = fault_checked (first_broken c) (are_good_seeds c.name c.seeds.items) (can_name_group c.group c.wire)

-- the version of the format in which a member with this configuration writes its packets
abbrev pub version_of : Config → Version
version_of c = if c.wire == 2 then Two else if c.wire == 3 then Three else One

-- whether a member with this configuration forgets members that failed or left
abbrev pub does_forget : Config → Bool
does_forget c = nat_lt 0 c.forget_ms

-- a configuration that passes its check
abbrev pub IsChecked : Config → Type 0
IsChecked c = check_of c ≡ Ok tt
