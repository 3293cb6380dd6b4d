-- Changes as JSON (this project's choice).
use Rattle.std.specs.Prelude.{ℕ, Bool, true, false, List, ◌++◌, codes, decimal, map, Option, Some, None}
use Rattle.lg_rules.specs.declared.claim.Claim.{Claim}
use Rattle.lg_changes.specs.declared.change.Altered.{Altered}
use Rattle.lg_changes.specs.declared.change.Altered.TheVariants.{Recorded, Forgotten}
use Rattle.lg_changes.specs.declared.change.Change.{Change}
use Rattle.lg_changes.specs.Meaning.Changes.{recorded_at, changes_after}
use Rattle.lg_answers.specs.declared.snapshot.Snapshot.{Snapshot}
use Rattle.lg_answers.specs.Meaning.Bodies.{truth_text}
use Rattle.lg_answers.specs.Meaning.Members.{comma_separated, member_fields, moment_front}

-- The fields of a member that was forgotten. They are those of a member, and only its name and the status have a value.
unfoldable pub forgotten_fields : List ℕ → List ℕ
forgotten_fields name =
    codes "\"name\":\"" ++ (name ++ (codes "\",\"status\":\"forgotten\",\"incarnation\":null,"
    ++ codes "\"address\":null,\"port\":null,\"accuser\":null"))

abbrev pub altered_fields : Altered → List ℕ
altered_fields (Recorded c) = member_fields c
altered_fields (Forgotten name) = forgotten_fields name

-- {"version":V,"moment_ms":M, and the fields of the member}
unfoldable pub change_json : Change → List ℕ
change_json change = moment_front change.version change.moment ++ altered_fields change.altered ++ codes "}"

-- the records of a look, each as a change at the version and the moment of the look
abbrev pub as_changes : ℕ → ℕ → List Claim → List Change
as_changes version moment records = map (recorded_at version moment) records

-- {"version":V,"missed":B,"changes":[..]}
unfoldable pub changes_json : ℕ → Bool → List Change → List ℕ
changes_json version missed changes =
    codes "{\"version\":" ++ (decimal version
    ++ (codes ",\"missed\":" ++ (truth_text missed ++ codes ",\"changes\":[")))
    ++ comma_separated change_json changes ++ codes "]}"

-- The body of the changes behind a version. If some are no longer kept, it has the whole table in their place.
abbrev pub changes_or_table : Snapshot → Option (List Change) → List ℕ
changes_or_table s (Some changes) = changes_json s.version false changes
changes_or_table s None = changes_json s.version true (as_changes s.version s.moment s.records.items)

unfoldable pub changes_body : Snapshot → ℕ → List Change → List ℕ
changes_body s version all = changes_or_table s (changes_after version all)
