-- What a table of members holds: its rows are in the order of names, those that aren't gone are counted, and the
-- names have their slots.
use Rattle.std.specs.Prelude.{ℕ, ◌≡◌, map, List}
use Rattle.lg_rules.specs.declared.claim.Claim.{Claim}
use Rattle.lg_rules.specs.declared.claim.Status.{Status}
use Rattle.lg_rules.specs.declared.claim.Status.TheVariants.{Alive, Suspect, Failed, Left}
use Rattle.lg_rules.specs.Meaning.Claim.{name_of}
use Rattle.lg_rules.specs.Meaning.Rows.{name_cmp, Rises}
use Rattle.lg_rules.specs.Meaning.Table.{live_in}
use Rattle.lg_rules.specs.Support.Slots.{AreNumbered}

pub record AreCounted (records : List Claim) (live : ℕ) : Type 0 where
  pub rises : Rises name_cmp (map name_of records)
  pub counted : live ≡ live_in records

pub record AreKept (own : List ℕ) (records : List Claim) (live : ℕ) (slots indexes : List ℕ) : Type 0 where
  pub rows : AreCounted records live
  pub names : AreNumbered own (map name_of records) slots indexes

-- what a record adds to the number of members that aren't gone
abbrev pub live_weight : Status → ℕ
live_weight Alive = 1
live_weight (Suspect accuser) = 1
live_weight Failed = 0
live_weight Left = 0
