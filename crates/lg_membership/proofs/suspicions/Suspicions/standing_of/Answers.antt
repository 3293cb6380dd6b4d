use Rattle.std.proofs.Common.{◌≡◌, List, get_or, ap, subst, sym, ◌∙◌}
use Rattle.std.specs.Prelude.{Some, option_map}
use Rattle.lg_rules.specs.Meaning.Rows.{name_cmp}
use Rattle.lg_rules.specs.Support.Places.{HasRow, LacksRow}
use Rattle.lg_suspicion.specs.Meaning.Parts.{IsKnownTo}
use Rattle.lg_membership.specs.declared.suspected.Suspected.{Suspected}
use Rattle.lg_membership.specs.Meaning.Suspicions.{standing_of_row}
use Rattle.lg_membership.specs.Support.Rows.{kept_name, row_by, AreKnownTo}
use Rattle.lg_membership.proofs.Joining.{found-by}
use Rattle.lg_membership.proofs.RowsByNames.{row_at-by, known-at}
use Rattle.lg_membership.proofs.suspicions.Suspicions.standing_of.Goals as goal

pub returns-in-Ok-clause-standing : goal.returns-in-Ok-clause-standing
returns-in-Ok-clause-standing c = λ names known.
    let m = c.args.name.now in
    let rows = c.self.inside.rows.items in
    let at = c.in-Ok.at in
    let row = c.index-deref-at.result in
    let has : HasRow name_cmp kept_name m rows at =
    subst (λ (xs : List Suspected). HasRow name_cmp kept_name m xs at) c.as_slice.ensures.value c.in-Ok.ensures in
    let read = c.deref.result.now in
    let is : get_or read at row ≡ get_or rows at row =
    ap (λ (xs : List Suspected). get_or xs at row) c.deref.ensures.0 in
    let known_row : IsKnownTo names (get_or read at row).suspicion =
    subst (λ (r : Suspected). IsKnownTo names r.suspicion) (sym is)
    (known-at names rows at row (subst (AreKnownTo names) (sym c.self.view_is) known) has.within) in
    rw (← c.self.view_is)
    (ap Some (c.standing.ensures.standing names known_row)
    ∙ ap (λ (r : Suspected). Some (standing_of_row (row_by names r))) is
    ∙ sym (ap (option_map standing_of_row) (found-by names m m rows at row has)))

pub returns-in-Err-clause-standing : goal.returns-in-Err-clause-standing
returns-in-Err-clause-standing c = λ names known.
    let m = c.args.name.now in
    let rows = c.self.inside.rows.items in
    let lacks =
    subst (λ (xs : List Suspected). LacksRow name_cmp kept_name m xs c.in-Err.field-0) c.as_slice.ensures.value
    c.in-Err.ensures in
    rw (← c.self.view_is)
    (sym (ap (option_map standing_of_row) (row_at-by names m rows ∙ ap (option_map (row_by names)) lacks.missing)))
