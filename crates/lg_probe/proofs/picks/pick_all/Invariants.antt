use Rattle.lg_bit_set.specs.Meaning.Flags.{entries_in}
use Rattle.lg_probe.specs.Support.Helpers.{AreOfRow}
use Rattle.lg_probe.proofs.Picking.{HavePicked}
use Rattle.lg_probe.proofs.picks.pick_all.Given as goal

abbrev pub invariant-loop-word : goal.invariant-loop-word
invariant-loop-word l = record {
  picked : HavePicked l.words (entries_in l.fn.left l.row) l.picked.items (entries_in l.left l.row) l.word-index;
  of : AreOfRow l.left l.row;
}
