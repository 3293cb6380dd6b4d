use Rattle.std.proofs.Common.{◌≡◌, ℕ, List, map, Option, None, ap, subst, sym, ◌∙◌}
use Rattle.std.specs.Prelude.{option_map}
use Rattle.lg_rules.specs.Meaning.Rows.{name_cmp, row_at, without_row, Rises}
use Rattle.lg_rules.specs.Support.Places.{HasRow, LacksRow}
use Rattle.lg_rules.proofs.KeyOrder.{names_order}
use Rattle.lg_membership.specs.declared.suspected.Suspected.{Suspected}
use Rattle.lg_membership.specs.Meaning.Suspicions.{SuspectedValue, suspected_name}
use Rattle.lg_membership.specs.Support.Changes.{ended, suspicions_after, deadline_of_change}
use Rattle.lg_membership.specs.Support.Rows.{kept_name, row_by, rows_by, AreKnownTo, AreAccusersIn}
use Rattle.lg_rules.proofs.Removing.{remove-without}
use Rattle.lg_membership.proofs.Joining.{found-by}
use Rattle.lg_membership.proofs.RowsByNames.{row_at-by, without-by, known-without}
use Rattle.lg_membership.proofs.Within.{within-without}
use Rattle.lg_membership.proofs.suspicions.Suspicions.end.Goals as goal
use Rattle.lg_membership.proofs.suspicions.Suspicions.end.Goals.{In-Err, After-remove}

has : (c : After-remove) → HasRow name_cmp kept_name c.args.name.now c.self.inside.rows.items c.in-Ok.at
has c =
    subst (λ (xs : List Suspected). HasRow name_cmp kept_name c.args.name.now xs c.in-Ok.at) c.as_slice.ensures.value
    c.in-Ok.ensures

rises : (c : After-remove) → Rises name_cmp (map kept_name c.self.inside.rows.items)
rises c = subst (λ (xs : List Suspected). Rises name_cmp (map kept_name xs)) (sym c.self.view_is) c.requires

rest : (c : After-remove)
    → c.remove.new.self.items ≡ without_row name_cmp kept_name c.args.name.now c.self.inside.rows.items
rest c =
    let row = c.remove.result in
    c.remove.ensures.items
    ∙ remove-without names_order kept_name c.args.name.now c.self.inside.rows.items c.in-Ok.at row (rises c)
    (has c).within ((has c).named row)

pub invariant_of-self : goal.invariant_of-self
invariant_of-self c =
    let accusers = c.self.inside.accusers in
    subst (AreAccusersIn accusers) (sym (rest c))
    (within-without accusers c.args.name.now c.self.inside.rows.items c.self.invariant)

pub returns-in-Ok-clause-rows : goal.returns-in-Ok-clause-rows
returns-in-Ok-clause-rows c = λ names.
    let rows = c.self.inside.rows.items in
    let m = c.args.name.now in
    rw (← c.self.view_is)
    (ap (rows_by names) (rest c)
    ∙ without-by names m rows
    ∙ sym (ap (λ (o : Option SuspectedValue). suspicions_after (ended m o) (rows_by names rows))
    (found-by names m m rows c.in-Ok.at c.remove.result (has c))))

pub returns-in-Ok-clause-known : goal.returns-in-Ok-clause-known
returns-in-Ok-clause-known c = λ names known.
    subst (AreKnownTo names) (sym (rest c))
    (known-without names c.args.name.now c.self.inside.rows.items
    (subst (AreKnownTo names) (sym c.self.view_is) known))

pub returns-in-Ok-clause-deadline : goal.returns-in-Ok-clause-deadline
returns-in-Ok-clause-deadline c = λ names.
    let m = c.args.name.now in
    rw (← c.self.view_is)
    (sym (ap (λ (o : Option SuspectedValue). deadline_of_change (ended m o))
    (found-by names m m c.self.inside.rows.items c.in-Ok.at c.remove.result (has c))))

gap : (c : In-Err) (names : List (Option (List ℕ)))
    → row_at name_cmp suspected_name c.args.name.now (rows_by names c.self.inside.rows.items) ≡ None
gap c names =
    let m = c.args.name.now in
    let rows = c.self.inside.rows.items in
    let lacks =
    subst (λ (xs : List Suspected). LacksRow name_cmp kept_name m xs c.in-Err.field-0) c.as_slice.ensures.value
    c.in-Err.ensures in
    row_at-by names m rows ∙ ap (option_map (row_by names)) lacks.missing

pub returns-in-Err-clause-rows : goal.returns-in-Err-clause-rows
returns-in-Err-clause-rows c = λ names.
    let m = c.args.name.now in
    rw (← c.self.view_is)
    (sym (ap (λ (o : Option SuspectedValue). suspicions_after (ended m o) (rows_by names c.self.inside.rows.items))
    (gap c names)))

pub returns-in-Err-clause-deadline : goal.returns-in-Err-clause-deadline
returns-in-Err-clause-deadline c = λ names.
    rw (← c.self.view_is)
    (sym (ap (λ (o : Option SuspectedValue). deadline_of_change (ended c.args.name.now o)) (gap c names)))
