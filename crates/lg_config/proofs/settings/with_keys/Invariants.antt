use Rattle.std.proofs.Common.{◌≡◌, drop}
use Rattle.toml.specs.View.{table_view}
use Rattle.lg_config.specs.Meaning.Settings.{with_keys}
use Rattle.lg_config.proofs.settings.with_keys.Given as goal

-- the keys that are left make of the configuration what all make of the usual one
abbrev pub invariant-loop-key : goal.invariant-loop-key
invariant-loop-key l =
    with_keys (drop l.key-index l.keys) (table_view l.table) l.config ≡ with_keys l.keys (table_view l.table) l.fn.usual
