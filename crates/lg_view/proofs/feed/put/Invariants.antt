use Rattle.std.proofs.Common.{◌≡◌, drop, Some}
use Rattle.lg_view.proofs.feed.put.Given as goal

abbrev pub invariant-loop : goal.invariant-loop
invariant-loop g l = record {
  update : l.update ≡ Some l.fn.added;
  desk : l.writer.desk ≡ l.fn.writer.desk;
  pending : drop l.writer.behind l.writer.log.items ≡ drop l.fn.writer.behind l.fn.writer.log.items;
}
