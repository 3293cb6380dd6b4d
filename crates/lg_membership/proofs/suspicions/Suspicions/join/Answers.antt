use Rattle.std.proofs.Common.{◌≡◌, List, Some, None, ap, subst, sym, ◌∙◌}
use Rattle.std.specs.Prelude.{option_map}
use Rattle.lg_rules.specs.Meaning.Rows.{name_cmp, row_at}
use Rattle.lg_rules.specs.Support.Places.{LacksRow}
use Rattle.lg_membership.specs.declared.suspected.Suspected.{Suspected}
use Rattle.lg_membership.specs.Meaning.Suspicions.{suspected_name}
use Rattle.lg_membership.specs.Support.Changes.{accusing, suspicions_after, deadline_of_change}
use Rattle.lg_membership.specs.Support.Rows.{kept_name, row_by, rows_by, AreKnownTo}
use Rattle.lg_membership.proofs.Joining.{IsLent, known-lent, rows-joined, known-joined, within-lent, within-joined}
use Rattle.lg_membership.proofs.Joining.{deadline-joined}
use Rattle.lg_membership.proofs.RowsByNames.{row_at-by}
use Rattle.lg_membership.proofs.suspicions.Suspicions.join.Goals as goal
use Rattle.lg_membership.proofs.suspicions.Suspicions.join.Goals.{In_default}

gap : (c : In_default)
    → row_at name_cmp suspected_name c.args.name.now (rows_by c.args.members.now.names c.self.inside.rows.items)
    ≡ None
gap c =
    let names = c.args.members.now.names in
    let m = c.args.name.now in
    let rows = c.self.inside.rows.items in
    let lacks = subst (λ (xs : List Suspected). LacksRow name_cmp kept_name m xs c.in_default.field-0)
    c.as_slice.ensures.value c.in_default.ensures in
    row_at-by names m rows ∙ ap (option_map (row_by names)) lacks.missing

pub returns-in_default-clause-rows : goal.returns-in_default-clause-rows
returns-in_default-clause-rows c =
    let rows = rows_by c.args.members.now.names c.self.inside.rows.items in
    rw (← c.self.view_is) (sym (ap (λ o. suspicions_after (accusing (Some c.args.accuser.now) o) rows) (gap c)))

pub returns-in_default-clause-deadline : goal.returns-in_default-clause-deadline
returns-in_default-clause-deadline c =
    rw (← c.self.view_is) (sym (ap (λ o. deadline_of_change (accusing (Some c.args.accuser.now) o)) (gap c)))

pub confirm-requires-clause-known : goal.confirm-requires-clause-known
confirm-requires-clause-known c =
    let names = c.args.members.now.names in
    let rows = c.self.inside.rows.items in
    let lent : IsLent c.args.name.now rows c.as_slice.result.now c.deref_mut.result.now c.in-Ok.at =
    record { same_read = c.as_slice.ensures.value; same_lent = c.deref_mut.ensures.value; has = c.in-Ok.ensures } in
    known-lent names c.args.name.now c.args.accuser.now rows c.as_slice.result.now c.deref_mut.result.now c.in-Ok.at
    c.index-deref_mut-at.result lent (subst (AreKnownTo names) (sym c.self.view_is) c.requires.known)

pub confirm-requires-clause-within : goal.confirm-requires-clause-within
confirm-requires-clause-within c =
    let names = c.args.members.now.names in
    let rows = c.self.inside.rows.items in
    let lent : IsLent c.args.name.now rows c.as_slice.result.now c.deref_mut.result.now c.in-Ok.at =
    record { same_read = c.as_slice.ensures.value; same_lent = c.deref_mut.ensures.value; has = c.in-Ok.ensures } in
    within-lent names c.args.name.now c.args.accuser.now rows c.as_slice.result.now c.deref_mut.result.now c.in-Ok.at
    c.index-deref_mut-at.result lent c.self.inside.accusers c.self.invariant

pub invariant_of-self : goal.invariant_of-self
invariant_of-self c =
    let names = c.args.members.now.names in
    let rows = c.self.inside.rows.items in
    let lent : IsLent c.args.name.now rows c.as_slice.result.now c.deref_mut.result.now c.in-Ok.at =
    record { same_read = c.as_slice.ensures.value; same_lent = c.deref_mut.ensures.value; has = c.in-Ok.ensures } in
    within-joined names c.args.name.now c.args.accuser.now rows c.as_slice.result.now c.deref_mut.result.now c.in-Ok.at
    c.index-deref_mut-at.result lent c.self.inside.accusers c.confirm.new.accusers c.confirm.ensures.more
    c.confirm.new.suspected c.confirm.ensures.name c.confirm.ensures.within c.self.invariant

pub returns-clause-rows : goal.returns-clause-rows
returns-clause-rows c =
    let names = c.args.members.now.names in
    let rows = c.self.inside.rows.items in
    let lent : IsLent c.args.name.now rows c.as_slice.result.now c.deref_mut.result.now c.in-Ok.at =
    record { same_read = c.as_slice.ensures.value; same_lent = c.deref_mut.ensures.value; has = c.in-Ok.ensures } in
    rw (← c.self.view_is)
    (rows-joined names c.args.name.now c.args.accuser.now rows c.as_slice.result.now c.deref_mut.result.now c.in-Ok.at
    c.index-deref_mut-at.result lent c.confirm.new.suspected c.confirm.ensures.name c.confirm.ensures.row)

pub returns-clause-known : goal.returns-clause-known
returns-clause-known c =
    let names = c.args.members.now.names in
    let rows = c.self.inside.rows.items in
    let lent : IsLent c.args.name.now rows c.as_slice.result.now c.deref_mut.result.now c.in-Ok.at =
    record { same_read = c.as_slice.ensures.value; same_lent = c.deref_mut.ensures.value; has = c.in-Ok.ensures } in
    known-joined names c.args.name.now c.args.accuser.now rows c.as_slice.result.now c.deref_mut.result.now c.in-Ok.at
    c.index-deref_mut-at.result lent c.confirm.new.suspected c.confirm.ensures.name c.confirm.ensures.known
    (subst (AreKnownTo names) (sym c.self.view_is) c.requires.known)

pub returns-clause-deadline : goal.returns-clause-deadline
returns-clause-deadline c =
    let names = c.args.members.now.names in
    let rows = c.self.inside.rows.items in
    let lent : IsLent c.args.name.now rows c.as_slice.result.now c.deref_mut.result.now c.in-Ok.at =
    record { same_read = c.as_slice.ensures.value; same_lent = c.deref_mut.ensures.value; has = c.in-Ok.ensures } in
    rw (← c.self.view_is)
    (deadline-joined names c.args.name.now c.args.accuser.now rows c.as_slice.result.now c.deref_mut.result.now
    c.in-Ok.at c.index-deref_mut-at.result lent c.confirm.ensures.deadline)
