use Rattle.std.proofs.Common.{Option, ◌≡◌, ℕ, List, [], ◌∷◌, sym, subst, ◌∙◌, ap}
use Rattle.lg_rules.specs.Meaning.Rows.{name_cmp, put_row}
use Rattle.lg_rules.specs.Meaning.Table.{live_in}
use Rattle.lg_timing.specs.Meaning.Timeouts.{range_of}
use Rattle.lg_suspicion.specs.Meaning.Accusers.{SuspicionValue, deadline_of}
use Rattle.lg_suspicion.specs.Meaning.Parts.{suspicion_by}
use Rattle.lg_membership.specs.declared.applied.Deadline.TheVariants.{Stands}
use Rattle.lg_membership.specs.declared.suspected.Suspected.{Suspected}
use Rattle.lg_membership.specs.Meaning.Suspicions.{SuspectedValue, suspected_name}
use Rattle.lg_membership.specs.Support.Rows.{rows_by, AreKnownTo, AreAccusersIn}
use Rattle.lg_membership.proofs.RowsByNames.{put-by, known-put}
use Rattle.lg_membership.proofs.Within.{within-none, within-put}
use Rattle.lg_membership.proofs.suspicions.Suspicions.raise.Goals as goal
use Rattle.lg_membership.proofs.suspicions.Suspicions.raise.Goals.{After-put_row}

-- the suspicion that is kept
is_raised : (c : After-put_row) (names : List (Option (List ℕ)))
    → suspicion_by names c.raise-suspicion.result
    ≡ record {
      raised = c.args.now;
      timeout = range_of (live_in c.args.members.now.table) c.in-Some.config;
      accusers = c.args.accuser.now ∷ [];
    }
is_raised c names =
    let by : ℕ → SuspicionValue =
    λ live.
    record { raised = c.args.now; timeout = range_of live c.in-Some.config; accusers = c.args.accuser.now ∷ [] } in
    c.raise-suspicion.ensures.raised names ∙ ap by c.live-live.ensures.count

-- it keeps no slot
pub invariant_of-self : goal.invariant_of-self
invariant_of-self c =
    let accusers = c.self.inside.accusers in
    let kept : Suspected = record { name = c.args.name.now; suspicion = c.raise-suspicion.result } in
    subst (AreAccusersIn accusers) (sym c.put_row.ensures)
    (within-put accusers kept c.self.inside.rows.items
    (within-none accusers c.raise-suspicion.result (c.raise-suspicion.ensures.known [])) c.self.invariant)

pub returns-clause-rows : goal.returns-clause-rows
returns-clause-rows c =
    let names = c.args.members.now.names in
    let rows = c.self.inside.rows.items in
    let m = c.args.name.now in
    let kept : Suspected = record { name = m; suspicion = c.raise-suspicion.result } in
    let put : SuspicionValue → List SuspectedValue =
    λ s. put_row name_cmp suspected_name record { name = m; suspicion = s } (rows_by names rows) in
    rw (c.in-Some.is, ← c.self.view_is)
    (ap (rows_by names) c.put_row.ensures ∙ put-by names kept rows ∙ ap put (is_raised c names))

pub returns-clause-known : goal.returns-clause-known
returns-clause-known c =
    let names = c.args.members.now.names in
    let rows = c.self.inside.rows.items in
    let kept : Suspected = record { name = c.args.name.now; suspicion = c.raise-suspicion.result } in
    subst (AreKnownTo names) (sym c.put_row.ensures)
    (known-put names kept rows (c.raise-suspicion.ensures.known names)
    (subst (AreKnownTo names) (sym c.self.view_is) c.requires.known))

pub returns-clause-deadline : goal.returns-clause-deadline
returns-clause-deadline c =
    let names = c.args.members.now.names in
    let deadline =
    c.deadline-deadline.ensures.deadline names (c.raise-suspicion.ensures.known names)
    ∙ ap deadline_of (is_raised c names) in
    rw c.in-Some.is (ap Stands deadline)
