use Rattle.std.proofs.Common.{refl}
use Rattle.clap.specs.Simple.{app_of}
use Rattle.lg_command_line.proofs.CommandLaws.{adds_key, has_keys}
use Rattle.lg_command_line.proofs.command.with_keys.Goals as goal

pub loop-key-init : goal.loop-key-init
loop-key-init c = record { is = refl; local = c.requires }

pub loop-key-preserved : goal.loop-key-preserved
loop-key-preserved c =
    adds_key c.loop-key.with_some c.in_ok-with_some.with_some c.option_of_key.result (app_of c.args.command) c.args.keys.now
    c.loop-key.key-index _ c.loop-key-test.true c.in_ok-with_some.ensures c.option_of_key.ensures.local c.option_of_key.ensures.rule c.loop-key.invariant

pub returns-clause-app : goal.returns-clause-app
returns-clause-app c =
    (has_keys c.loop-key.with_some (app_of c.args.command) c.args.keys.now c.loop-key.key-index c.loop-key-test.false c.loop-key.invariant).is

pub returns-clause-local : goal.returns-clause-local
returns-clause-local c =
    (has_keys c.loop-key.with_some (app_of c.args.command) c.args.keys.now c.loop-key.key-index c.loop-key-test.false c.loop-key.invariant).local
