-- What a claim about another member changes of the suspicions and of those that aren't gone, by the values before
-- it.
use Rattle.std.specs.Ordering.{nat_cmp}
use Rattle.std.specs.Prelude.{◌≡◌, ℕ, Bool, true, false, List, []}
use Rattle.std.specs.Prelude.{◌∷◌, Option, Some, None, if◌then◌else◌}
use Rattle.lg_rules.specs.declared.claim.Claim.{Claim}
use Rattle.lg_rules.specs.declared.claim.Status.{Status}
use Rattle.lg_rules.specs.declared.claim.Status.TheVariants.{Alive, Suspect, Failed, Left}
use Rattle.lg_rules.specs.declared.members.Heard.{Heard}
use Rattle.lg_rules.specs.declared.members.Heard.TheVariants.{Overrode, Accused}
use Rattle.lg_rules.specs.Meaning.Claim.{accuser_of}
use Rattle.lg_rules.specs.Meaning.Rows.{name_cmp, by_order, is_among, put_key, put_row, row_at, without_row}
use Rattle.lg_rules.specs.Meaning.Table.{hearing_of, heard, live_in}
use Rattle.lg_timing.specs.declared.config.Config.{Config}
use Rattle.lg_timing.specs.Meaning.Timeouts.{range_of}
use Rattle.lg_suspicion.specs.Meaning.Accusers.{SuspicionValue, accuser_counts, accused, deadline_of}
use Rattle.lg_membership.specs.declared.applied.Deadline.{Deadline}
use Rattle.lg_membership.specs.declared.applied.Deadline.TheVariants.{Stays, Ends, Stands}
use Rattle.lg_membership.specs.declared.applied.Presence.{Presence}
use Rattle.lg_membership.specs.declared.applied.Presence.TheVariants.{Stays as Remains, Joins, Leaves}
use Rattle.lg_membership.specs.Meaning.Applied.{presence_of}
use Rattle.lg_membership.specs.Meaning.Log.{live_names}
use Rattle.lg_membership.specs.Meaning.Suspicions.{SuspectedValue, suspected_name}

-- nothing changes; or the suspicion of a member ends; or one is put, raised anew or with one more accuser
pub data Change : Type 0 where
  Nothing : Change
  Ending : List ℕ → Change
  Putting : SuspectedValue → Change

-- a claim that overrides the record raises a suspicion, or ends the one that there is
abbrev pub raised : Option Config → ℕ → ℕ → List ℕ → List ℕ → Change
raised None now n m accuser = Nothing
raised (Some opening) now n m accuser =
    let suspicion : SuspicionValue = record { raised = now; timeout = range_of n opening; accusers = accuser ∷ [] } in
    Putting record { name = m; suspicion = suspicion }

abbrev pub ended : List ℕ → Option SuspectedValue → Change
ended m None = Nothing
ended m (Some row) = Ending m

abbrev pub overriding : Option Config → ℕ → ℕ → List ℕ → Option SuspectedValue → Status → Change
overriding opened now n m row Alive = ended m row
overriding opened now n m row (Suspect accuser) = raised opened now n m accuser
overriding opened now n m row Failed = ended m row
overriding opened now n m row Left = ended m row

-- a suspicion with one more accuser, if that one counts
abbrev pub joined : List ℕ → SuspectedValue → SuspectedValue
joined accuser row = record { name = row.name; suspicion = accused row.suspicion accuser }

-- what one more accusation changes, and what any claim changes by what hearing it did
abbrev pub accusing : Option (List ℕ) → Option SuspectedValue → Change
accusing None row = Nothing
accusing (Some accuser) None = Nothing
accusing (Some accuser) (Some row) =
    if accuser_counts row.suspicion accuser
    then Putting (joined accuser row)
    else Nothing

abbrev pub change_by : Heard → Option Config → ℕ → ℕ → Option SuspectedValue → Claim → Change
change_by Overrode opened now n row c = overriding opened now n c.name row c.status
change_by Accused opened now n row c = accusing (accuser_of c.status) row
change_by _ opened now n row c = Nothing

-- the suspicion of the claim's member
abbrev pub row_about : Claim → List SuspectedValue → Option SuspectedValue
row_about c rows = row_at name_cmp suspected_name c.name rows

abbrev pub change_of : Bool → Option Config → ℕ → List Claim → List SuspectedValue → Claim → Change
change_of forgets opened now table rows c =
    change_by (hearing_of forgets table c) opened now (live_in (heard forgets table c)) (row_about c rows) c

-- such a change is about one member alone
abbrev pub IsAbout : List ℕ → Change → Type 0
IsAbout m Nothing = Unit {0}
IsAbout m (Ending k) = k ≡ m
IsAbout m (Putting r) = r.name ≡ m

-- the suspicions after such a change, and what becomes of the deadline of the claim's member
abbrev pub suspicions_after : Change → List SuspectedValue → List SuspectedValue
suspicions_after Nothing rows = rows
suspicions_after (Ending m) rows = without_row name_cmp suspected_name m rows
suspicions_after (Putting r) rows = put_row name_cmp suspected_name r rows

abbrev pub deadline_of_change : Change → Deadline
deadline_of_change Nothing = Stays
deadline_of_change (Ending m) = Ends
deadline_of_change (Putting r) = Stands (deadline_of r.suspicion)

-- whether a suspicion was raised or has one more accuser
abbrev pub stands : Deadline → Bool
stands Stays = false
stands Ends = false
stands (Stands deadline) = true

-- whether a claim made or replaced a record
abbrev pub is_override : Heard → Bool
is_override Overrode = true
is_override _ = false

-- whether the claim's member joins those that aren't gone, or leaves them; and the same by how many aren't gone
-- before the claim and after it
abbrev pub presence_heard : Bool → List Claim → Claim → Presence
presence_heard forgets table c =
    presence_of (is_among name_cmp c.name (live_names table))
    (is_among name_cmp c.name (live_names (heard forgets table c)))

abbrev pub presence_by : ℕ → ℕ → Presence
presence_by before after = by_order (nat_cmp after before) Leaves Remains Joins

-- the members that aren't gone once that happened
abbrev pub live_after : Presence → List ℕ → List (List ℕ) → List (List ℕ)
live_after Remains m names = names
live_after Joins m names = put_key name_cmp m names
live_after Leaves m names = without_row name_cmp (λ n. n) m names
