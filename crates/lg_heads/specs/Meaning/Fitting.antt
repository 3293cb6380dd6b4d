-- Which heads have a spelling: those of the ranges that the program's types hold, whose table has 1 to 256 records, and
-- that say what was known before exactly if entries were made before.
use Rattle.std.specs.Prelude.{◌≡◌, ℕ, ◌<◌, ◌≤◌, IsTrue, List, length, Option, Some, None}
use Rattle.std.specs.List.{AllByRecursion}
use Rattle.lg_rules.specs.Meaning.Bounds.{greatest_incarnation}
use Rattle.lg_rules.specs.Meaning.Name.{is_name}
use Rattle.lg_rules.specs.declared.claim.Claim.{Claim}
use Rattle.lg_rules.specs.declared.version.Version.TheVariants.{Three}
use Rattle.lg_packet.specs.Meaning.Spelling.{IsClaim}
use Rattle.lg_fields.specs.Meaning.Spelled.{IsCount, IsCountedText, IsConfigSpelled}
use Rattle.lg_detector.specs.declared.standing.Standing.{Standing}
use Rattle.lg_recording.specs.Meaning.Fitting.{IsMoment}
use Rattle.lg_heads.specs.Meaning.Heads.{BeforeValue, HeadValue}

-- the most records of a table: as many as the members that can be known
abbrev pub most_rows : ℕ
most_rows = 256

-- 1 to 256 records
abbrev pub IsRow : Claim → Type 0
IsRow row = IsClaim Three row

pub record AreRowsSpelled (rows : List Claim) : Type 0 where
  pub some : 0 < length rows
  pub few : length rows ≤ most_rows
  pub each : AllByRecursion IsRow rows

-- what a member knows of itself
pub record IsStandingSpelled (s : Standing) : Type 0 where
  pub score : IsCount s.score
  pub number : s.number ≤ greatest_incarnation

-- what was known before, behind so many entries
pub record IsKnownSpelled (b : BeforeValue) : Type 0 where
  pub standing : IsStandingSpelled b.standing
  pub table : AreRowsSpelled b.table

abbrev pub IsBeforeSpelled : ℕ → Option BeforeValue → Type 0
IsBeforeSpelled first None = first ≡ 0
IsBeforeSpelled first (Some b) = (0 < first) × IsKnownSpelled b

pub record IsHeadSpelled (h : HeadValue) : Type 0 where
  pub name : IsTrue (is_name h.name)
  pub config : IsConfigSpelled h.config
  pub text : IsCountedText h.text
  pub program : IsCountedText h.program
  pub wall_ms : IsCount h.wall_ms
  pub now : IsMoment h.now
  pub first : IsCount h.first
  pub before : IsBeforeSpelled h.first h.before
