-- Worked changes: b finds c, and then that a is suspected by c and that c has failed.
use Rattle.std.specs.Prelude.{⊤, ◌≡◌, ℕ, List, [], ◌∷◌, ◌++◌, Some, codes, refl}
use Rattle.lg_rules.specs.declared.addr.Addr.{Addr}
use Rattle.lg_rules.specs.declared.addr.Ip.TheVariants.{V4}
use Rattle.lg_rules.specs.declared.claim.Claim.{Claim}
use Rattle.lg_rules.specs.declared.claim.Status.{Status}
use Rattle.lg_rules.specs.declared.claim.Status.TheVariants as status
use Rattle.lg_changes.specs.declared.change.Change.{Change}
use Rattle.lg_changes.specs.Meaning.Changes.{recorded_at, forgotten_at, changes_after, last_version}

-- what the rows have to unfold
unfoldable by_changing : ⊤
unfolding changes_after
by_changing = tt

abbrev at : ℕ → Addr
at port = record { ip = V4 (127 ∷ 0 ∷ 0 ∷ 1 ∷ []); port = port }

abbrev claimed : List ℕ → ℕ → Status → ℕ → Claim
claimed name port status i = record { name = name; addr = at port; status = status; incarnation = i }

abbrev suspected : Claim
suspected = claimed (codes "a") 7101 (status.Suspect (codes "c")) 0

abbrev c : Status → Claim
c status = claimed (codes "c") 7103 status 2

abbrev all_three : List Change
all_three =
    recorded_at 30 4000 (c status.Alive) ∷ recorded_at 41 5120 suspected ∷ recorded_at 41 5120 (c status.Failed) ∷ []

two_behind_30 : changes_after 30 all_three
    ≡ Some (recorded_at 41 5120 suspected ∷ recorded_at 41 5120 (c status.Failed) ∷ [])
unfolding by_changing
two_behind_30 = refl

-- a long time later c is forgotten
later : changes_after 41 (all_three ++ forgotten_at 90 90000000 (codes "c") ∷ [])
    ≡ Some (forgotten_at 90 90000000 (codes "c") ∷ [])
unfolding by_changing
later = refl

none_behind_41 : changes_after 41 all_three ≡ Some []
unfolding by_changing
none_behind_41 = refl

the_newest : last_version all_three ≡ 41
the_newest = refl

no_newest : last_version [] ≡ 0
no_newest = refl
