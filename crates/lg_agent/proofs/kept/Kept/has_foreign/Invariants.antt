use Rattle.std.proofs.Common.{◌≡◌, false, take}
use Rattle.std.specs.List.{list_any}
use Rattle.lg_agent.specs.Meaning.Values.{own_name, all_events}
use Rattle.lg_agent.specs.Meaning.Closing.{is_foreign}
use Rattle.lg_agent.proofs.kept.Kept.has_foreign.Given as goal

abbrev pub invariant-loop-spent : goal.invariant-loop-spent
invariant-loop-spent g l = record {
  so_far : list_any (is_foreign (own_name (all_events l.self)) l.self.places l.spents) (take l.spent-index l.spents) ≡ false;
}
