use Rattle.std.proofs.Common.{◌≡◌, drop}
use Rattle.toml.specs.View.{items_view}
use Rattle.lg_config.specs.Meaning.FormReasons.{bad_seed}
use Rattle.lg_config.proofs.form_reasons.bad_seed.Given as goal

-- the values that are left have the bad seed of all
abbrev pub invariant-loop-value : goal.invariant-loop-value
invariant-loop-value l = bad_seed (items_view (drop l.value-index l.values)) ≡ bad_seed (items_view l.values)
