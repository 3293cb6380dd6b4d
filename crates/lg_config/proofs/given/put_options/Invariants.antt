use Rattle.std.proofs.Common.{◌≡◌, drop}
use Rattle.toml.specs.View.{table_view}
use Rattle.lg_config.specs.Meaning.Options.{options_of, put_options}
use Rattle.lg_config.proofs.given.put_options.Given as goal

-- the options that are left make of the table what all make of the one at the start
abbrev pub invariant-loop-option : goal.invariant-loop-option
invariant-loop-option l =
    put_options (options_of (drop l.option-index l.given)) (table_view l.table) ≡ put_options (options_of l.given) (table_view l.initial.table)
