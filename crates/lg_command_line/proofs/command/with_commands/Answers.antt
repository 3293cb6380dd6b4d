use Rattle.std.proofs.Common.{refl}
use Rattle.clap.specs.Simple.{app_of}
use Rattle.lg_command_line.specs.Support.Options.{with_rows}
use Rattle.lg_command_line.proofs.CommandLaws.{all_rows, one_row_more}
use Rattle.lg_command_line.proofs.command.with_commands.Goals as goal

pub loop-row-init : goal.loop-row-init
unfolding with_rows
loop-row-init c = refl

pub loop-row-preserved : goal.loop-row-preserved
loop-row-preserved c =
    one_row_more c.loop-row.with_some c.in_ok-with_some.with_some (app_of c.args.lg) c.args.rows.now c.loop-row.row-index _ c.loop-row-test.true
    c.in_ok-with_some.ensures c.loop-row.invariant

pub returns : goal.returns
returns c = all_rows c.loop-row.with_some (app_of c.args.lg) c.args.rows.now c.loop-row.row-index c.loop-row-test.false c.loop-row.invariant
