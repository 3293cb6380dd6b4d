use Rattle.std.proofs.Common.{◌≡◌, false, length, map, ap, get_or, set, subst, sym, ◌∙◌}
use Rattle.std.proofs.lemmas.List.{length-map}
use Rattle.std.specs.List.{refill}
use Rattle.lg_membership.specs.Support.Rows.{row_without, AreAccusersIn}
use Rattle.lg_membership.proofs.Joining.{refill_same}
use Rattle.lg_membership.proofs.Within.{rows-out, within-forgotten}
use Rattle.lg_membership.proofs.suspicions.Suspicions.forget_slot.Goals as goal
use Rattle.lg_membership.proofs.suspicions.Suspicions.forget_slot.Goals.{After-remove}

-- nobody is accused by the slot
pub returns-then-not-contains : goal.returns-then-not-contains
returns-then-not-contains c =
    let accusers = c.self.inside.accusers in
    let out : get_or accusers c.args.slot false ≡ false =
    ap (λ i. get_or accusers i false) (sym c.number.ensures) ∙ sym c.contains.ensures.flag ∙ c.if-not-contains.true in
    rw (← c.self.view_is)
    (rows-out accusers c.args.slot c.args.name.now c.self.inside.rows.items c.self.invariant out)

-- the rows are written over
written : (c : After-remove)
    → refill (length c.self.inside.rows.items) c.self.inside.rows.items c.forget_slots.new.suspicions
    ≡ map (row_without c.args.slot c.args.name.now) c.self.inside.rows.items
written c =
    let rows = c.self.inside.rows.items in
    let without = row_without c.args.slot c.args.name.now in
    let all = c.forget_slots.ensures ∙ ap (map without) c.as_mut_slice.ensures.value in
    refill_same rows c.forget_slots.new.suspicions (ap length all ∙ length-map rows without) ∙ all

pub invariant_of-self : goal.invariant_of-self
invariant_of-self c =
    let accusers = c.self.inside.accusers in
    let slot = c.args.slot in
    let left = c.remove.ensures.flags ∙ ap (λ i. set accusers i false) c.number-2.ensures in
    subst (λ xs. AreAccusersIn c.remove.new.self xs) (sym (written c))
    (subst (λ all. AreAccusersIn all (map (row_without slot c.args.name.now) c.self.inside.rows.items)) (sym left)
    (within-forgotten accusers slot c.args.name.now c.self.inside.rows.items c.self.invariant))
