-- A state that some log has, and how its suspicions are kept. If the member was opened, its configuration passed its
-- check.
use Rattle.std.specs.Prelude.{◌≡◌, List, Option, Some, None}
use Rattle.lg_timing.specs.declared.config.Config.{Config}
use Rattle.lg_timing.specs.Meaning.Config.{IsChecked}
use Rattle.lg_membership.specs.Meaning.Log.{GroupLog}
use Rattle.lg_membership.specs.declared.suspected.Suspected.{Suspected}
use Rattle.lg_membership.specs.Support.Rows.{AreKnownTo}
use Rattle.lg_membership.specs.Support.State.{GroupState, group_state_of}

abbrev pub IsGood : Option Config → Type 0
IsGood None = Unit {0}
IsGood (Some opening) = IsChecked opening

pub record IsGroupReached (s : GroupState) : Type 0 where
  pub log : GroupLog
  pub is : s ≡ group_state_of log
  pub good : IsGood s.config

-- The names that are known have the slots of the accusers.
pub record IsGroupKept (s : GroupState) (rows : List Suspected) : Type 0 where
  pub reached : IsGroupReached s
  pub known : AreKnownTo s.members.names rows
