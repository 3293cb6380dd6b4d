use Rattle.std.proofs.Common.{sym, ◌∙◌, ap, subst, List, Bool}
use Rattle.lg_bit_set.specs.Meaning.Flags.{entries_in}
use Rattle.lg_probe.specs.Support.Helpers.{AreOfRow}
use Rattle.lg_probe.proofs.Picking.{
  nothing_left,
  candidate_none,
  left_none,
  picked_within,
  picked_is,
  picked_left,
  picked_of,
}
use Rattle.lg_probe.proofs.picks.pick_one.Goals as goal

pub returns-in_err-number-clause-picked : goal.returns-in_err-number-clause-picked
returns-in_err-number-clause-picked c =
    let flags = c.args.left.now in
    let row = c.args.row.now in
    c.from_residual.ensures
    ∙ candidate_none (entries_in flags row) c.args.word
    (nothing_left flags row c.requires c.args.word (sym c.number_by.ensures ∙ c.in_err-number.was))

pub returns-in_err-number-clause-left : goal.returns-in_err-number-clause-left
returns-in_err-number-clause-left c =
    let flags = c.args.left.now in
    let row = c.args.row.now in
    left_none (entries_in flags row) c.args.word
    (nothing_left flags row c.requires c.args.word (sym c.number_by.ensures ∙ c.in_err-number.was))

pub bounds-row-from : goal.bounds-row-from
bounds-row-from c =
    rw c.from.ensures
    (picked_within c.args.left.now c.args.row.now c.requires c.args.word c.in_ok-number.number
    (sym c.number_by.ensures ∙ c.in_ok-number.was))

pub returns-clause-picked : goal.returns-clause-picked
returns-clause-picked c =
    picked_is c.args.left.now c.args.row.now c.requires c.args.word c.in_ok-number.number
    (sym c.number_by.ensures ∙ c.in_ok-number.was) c.index-row-from.result
    (rw c.from.ensures at c.index-row-from.is)

pub returns-clause-left : goal.returns-clause-left
returns-clause-left c =
    ap (λ f. entries_in f c.args.row.now) c.remove.ensures.flags
    ∙ picked_left c.args.left.now c.args.row.now c.requires c.args.word c.in_ok-number.number
    (sym c.number_by.ensures ∙ c.in_ok-number.was)

pub returns-clause-numbers : goal.returns-clause-numbers
returns-clause-numbers c =
    subst (λ (f : List Bool). AreOfRow f c.args.row.now) (sym c.remove.ensures.flags)
    (picked_of c.args.left.now c.args.row.now c.requires c.args.word c.in_ok-number.number
    (sym c.number_by.ensures ∙ c.in_ok-number.was))
