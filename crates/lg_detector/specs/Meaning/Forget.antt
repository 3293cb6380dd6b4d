-- Forgetting (this project's choice): a member that is gone is forgotten, `forget_ms` after its record became what it
-- is. From then on its name is unknown, and what was said of it before counts for nothing. A member whose `forget_ms`
-- is 0 forgets nobody. Who is forgotten to make room for another member is in Apply.antt.
use Rattle.std.specs.Prelude.{ℕ, ◌+◌, Bool, ◌&&◌, List, [], ◌∷◌, ◌++◌, map, filter, Option, Some, None, if◌then◌else◌}
use Rattle.lg_rules.specs.declared.claim.Claim.{Claim}
use Rattle.lg_rules.specs.Meaning.Claim.{is_gone}
use Rattle.lg_rules.specs.Meaning.Rows.{name_cmp, is_same}
use Rattle.lg_rules.specs.Meaning.Table.{takes}
use Rattle.lg_timing.specs.declared.config.Config.{Config}
use Rattle.lg_membership.specs.Meaning.Log as group
use Rattle.lg_membership.specs.Meaning.Log.{GroupLog}
use Rattle.lg_detector.specs.Meaning.Log.{Log, Came, OfGroup}

-- The moment at which the record of another member became what it is: that of the last claim that made or replaced it.
abbrev pub is_taken : Claim → GroupLog → Bool
is_taken c log = takes (group.forgets log) (group.table log) c

abbrev pub taken_at : GroupLog → List ℕ → ℕ
taken_at [] m = 0
taken_at (group.Said now origin c ∷ log) m =
    if is_same name_cmp c.name m && is_taken c log then now else taken_at log m
taken_at (_ ∷ log) m = taken_at log m

-- how long after that a member that is gone is forgotten, which the score doesn't scale
abbrev pub forget_time : Option Config → ℕ
forget_time None = 0
forget_time (Some opening) = opening.forget_ms

-- another member that is gone, and when it is to be forgotten
pub record Gone : Type 0 where
  pub name : List ℕ
  pub deadline : ℕ

abbrev pub gone_by : GroupLog → Claim → Gone
gone_by log r = record { name = r.name; deadline = taken_at log r.name + forget_time (group.config log) }

-- all of them, in the order of names
abbrev pub gone_records : List Claim → List Claim
gone_records rows = filter (λ r. is_gone r.status) rows

abbrev pub gone : GroupLog → List Gone
gone log = if group.forgets log then map (gone_by log) (gone_records (group.table log)) else []

-- the names that were forgotten since the last event came, in the order in which they were
abbrev pub forgotten : Log → List (List ℕ)
forgotten [] = []
forgotten (Came now ∷ log) = []
forgotten (OfGroup (group.Forgot m) ∷ log) = forgotten log ++ m ∷ []
forgotten (_ ∷ log) = forgotten log
