use Rattle.std.proofs.Common.{◌≡◌, ◌≤◌, length, take, Some}
use Rattle.toml.specs.View.{items_view}
use Rattle.lg_timing.specs.Meaning.Bounds.{most_seeds}
use Rattle.lg_config.specs.Meaning.Settings.{first_seeds}
use Rattle.lg_config.proofs.seeds.first_seeds.Given as goal

-- the first seeds of the values so far
abbrev pub invariant-loop-value : goal.invariant-loop-value
invariant-loop-value l =
    record {
      so_far : first_seeds (items_view (take l.value-index l.values)) ≡ Some l.seeds.items;
      few : length l.seeds.items ≤ most_seeds;
    }
