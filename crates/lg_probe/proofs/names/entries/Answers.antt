use Rattle.std.proofs.Common.{◌∷◌, [], ◌++◌, take, cond, get_or, lit<, sym, ◌∙◌, ap, length, arith, append-nil}
use Rattle.lg_bit_set.specs.Meaning.Flags.{entries_in}
use Rattle.lg_bit_set.proofs.EntryLaws.{entries_in-nil}
use Rattle.lg_probe.proofs.Entries.{entries_next, entries_few}
use Rattle.lg_probe.proofs.names.entries.Goals as goal
use Rattle.lg_probe.proofs.names.entries.Goals.{then-contains, else-contains}

pub loop-number-init : goal.loop-number-init
loop-number-init c = c.new-names.ensures ∙ sym (entries_in-nil c.args.numbers.now)

pub push-requires : goal.push-requires
push-requires c = (
  lit< tt,
  omega (
    arith,
    ap length c.loop-number.invariant,
    entries_few c.args.numbers.now c.args.row.now c.loop-number.number,
    c.loop-number-test.true,
    c.requires,
  ),
)

pub loop-number-preserved : goal.loop-number-preserved
loop-number-preserved c =
    let flags = c.args.numbers.now in
    let row = c.args.row.now in
    let number = c.loop-number.number in
    let name = c.index-row-number.result in
    let before = entries_in flags (take number row) in
    let next = entries_next flags row number name c.loop-number-test.true in
    elim c.if-contains.branch [
      | then-contains w ↦ (
          let there = sym c.contains.ensures.flag ∙ w.if-contains.true in
          ap (λ v. v.items) w.names-is ∙ w.push.ensures.items ∙ ap (λ l. l ++ name ∷ []) c.loop-number.invariant
          ∙ (λ i. before ++ cond (sym there i) (c.index-row-number.is i ∷ []) []) ∙ sym next)
      | else-contains w ↦ (
          let absent = sym c.contains.ensures.flag ∙ w.if-contains.false in
          ap (λ v. v.items) w.names-is ∙ c.loop-number.invariant ∙ sym (append-nil before)
          ∙ ap (λ b. before ++ cond b (get_or row number name ∷ []) []) (sym absent) ∙ sym next)
    ]
