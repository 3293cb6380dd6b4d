use Rattle.std.proofs.Common.{◌≡◌, ◌≤◌, length, take}
use Rattle.std.specs.List.{flat_map}
use Rattle.lg_notes.specs.Meaning.Probing.{helper_of}
use Rattle.lg_notes.proofs.probing.helpers_asked.Given as goal

-- those whom the packets so far ask
abbrev pub invariant-loop-sent : goal.invariant-loop-sent
invariant-loop-sent l =
    record {
      so_far : l.helpers.items ≡ flat_map (helper_of l.table) (take l.sent-index l.sends);
      few : length l.helpers.items ≤ l.sent-index;
    }
