-- What a file of a recording says of its node, and the one spelling of that as the body of the file's head (the format
-- is this project's choice).
use Rattle.std.specs.Prelude.{ℕ, List, [], ◌∷◌, ◌++◌, length, Option, Some, None}
use Rattle.std.specs.List.{flat_map}
use Rattle.lg_rules.specs.declared.claim.Claim.{Claim}
use Rattle.lg_timing.specs.declared.config.Config.{Config}
use Rattle.lg_packet.specs.Meaning.Spelling.{spelled_name, spelled_number}
use Rattle.lg_fields.specs.Meaning.Spelled.{spelled_count, spelled_flag, spelled_text, spelled_records, spelled_config}
use Rattle.lg_detector.specs.declared.standing.Standing.{Standing}
use Rattle.lg_heads.specs.declared.head.Before.{Before}
use Rattle.lg_heads.specs.declared.head.Head.{Head}

-- what was known before a file's first entry: what the member knew of itself, and its table
pub record BeforeValue : Type 0 where
  pub standing : Standing
  pub table : List Claim

-- the node's name, its configuration, the bytes of its configuration file, its program's version, the wall time, its
-- clock, how many entries it had made before, and what was known then
pub record HeadValue : Type 0 where
  pub name : List ℕ
  pub config : Config
  pub text : List ℕ
  pub program : List ℕ
  pub wall_ms : ℕ
  pub now : ℕ
  pub first : ℕ
  pub before : Option BeforeValue

-- what the program's types hold
abbrev pub before_value : Before → BeforeValue
before_value b = record { standing = b.standing; table = b.table.items }

abbrev pub maybe_before : Option Before → Option BeforeValue
maybe_before None = None
maybe_before (Some b) = Some (before_value b)

abbrev pub head_value : Head → HeadValue
head_value h =
    record {
      name = h.name;
      config = h.config;
      text = h.text.now;
      program = h.program.now;
      wall_ms = h.wall_ms;
      now = h.now;
      first = h.first;
      before = maybe_before h.before;
    }

-- what a member knows of itself: its health score, its incarnation and the flag `ousted`
unfoldable pub spelled_standing : Standing → List ℕ
spelled_standing s = spelled_count s.score ++ (spelled_number s.number ++ spelled_flag s.ousted)

-- a table: how many records, and then each as records with one record
abbrev pub spelled_row : Claim → List ℕ
spelled_row row = spelled_records (row ∷ [])

unfoldable pub spelled_table : List Claim → List ℕ
spelled_table rows = spelled_count (length rows) ++ flat_map spelled_row rows

-- what was known before: a flag, and what was known if there was something
abbrev pub spelled_known : BeforeValue → List ℕ
spelled_known b = spelled_standing b.standing ++ spelled_table b.table

unfoldable pub spelled_before : Option BeforeValue → List ℕ
spelled_before None = 0 ∷ []
spelled_before (Some b) = 1 ∷ spelled_known b

-- the body of a head
unfoldable pub spelled_head_body : HeadValue → List ℕ
spelled_head_body h =
    spelled_name h.name
    ++ (spelled_config h.config
    ++ (spelled_text h.text
    ++ (spelled_text h.program
    ++ (spelled_count h.wall_ms ++ (spelled_count h.now ++ (spelled_count h.first ++ spelled_before h.before))))))
