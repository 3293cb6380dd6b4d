use Rattle.std.proofs.Common.{◌≡◌, ◌≤◌, length, take}
use Rattle.std.specs.Prelude.{filter, option_copied}
use Rattle.lg_membership.specs.Meaning.Pages.{is_in_page}
use Rattle.lg_membership.proofs.membership.pages.put_others.Given as goal

abbrev pub invariant-loop-index : goal.invariant-loop-index
invariant-loop-index l = record {
  few : length l.row.items ≤ l.most;
  are : l.row.items ≡ filter (is_in_page l.version (option_copied l.after)) (take l.index l.members.table);
}
