-- All changes of what is known of the members, the oldest first, and those behind a version (this project's choice).
use Rattle.std.specs.Prelude.{ℕ, ◌-◌, Bool, nat_lt, List, length, filter, take, option_map, unwrap_or}
use Rattle.std.specs.Prelude.{Option, Some, None, if◌then◌else◌}
use Rattle.std.specs.List.{last_or, list_any}
use Rattle.lg_rules.specs.declared.claim.Claim.{Claim}
use Rattle.lg_changes.specs.declared.change.Altered.TheVariants.{Recorded, Forgotten}
use Rattle.lg_changes.specs.declared.change.Change.{Change}

-- how many changes are kept
abbrev pub most_changes : ℕ
most_changes = 1024

-- a change: a record that an event made or replaced, how many events there were then, and the moment; or a member of
-- this name was forgotten
abbrev pub recorded_at : ℕ → ℕ → Claim → Change
recorded_at version moment c = record { version = version; moment = moment; altered = Recorded c }

abbrev pub forgotten_at : ℕ → ℕ → List ℕ → Change
forgotten_at version moment name = record { version = version; moment = moment; altered = Forgotten name }

-- the version of the newest change, or 0 if there is none
abbrev pub last_version : List Change → ℕ
last_version all = unwrap_or (option_map (λ change. change.version) (last_or None all)) 0

-- whether a change is behind a version
abbrev pub is_after : ℕ → Change → Bool
is_after version change = nat_lt version change.version

-- all changes but the newest 1,024, which are no longer kept
abbrev pub dropped : List Change → List Change
dropped all = take (length all - most_changes) all

-- the changes behind a version, the oldest first; none if one of them is no longer kept
unfoldable pub changes_after : ℕ → List Change → Option (List Change)
changes_after version all =
    if list_any (is_after version) (dropped all) then None else Some (filter (is_after version) all)
