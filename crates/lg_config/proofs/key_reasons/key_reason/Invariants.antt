use Rattle.std.proofs.Common.{◌≡◌}
use Rattle.toml.specs.View.{members_view, table_view}
use Rattle.lg_config.specs.Meaning.KeyReasons.{key_reason}
use Rattle.lg_config.proofs.key_reasons.key_reason.Given as goal

-- the entries that are left have the reason of all
abbrev pub invariant-loop-key : goal.invariant-loop-key
invariant-loop-key l = key_reason (members_view l.key-iterator) ≡ key_reason (table_view l.table)
