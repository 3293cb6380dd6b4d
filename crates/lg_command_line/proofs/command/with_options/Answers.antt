use Rattle.std.proofs.Common.{ap, ◌∙◌}
use Rattle.clap.specs.Simple.{app_of_fields, new_app}
use Rattle.lg_command_line.proofs.CommandLaws.{adds_row, has_rows}
use Rattle.lg_command_line.proofs.command.with_options.Goals as goal

pub loop-option-init : goal.loop-option-init
loop-option-init c = record {
  is = ap app_of_fields c.about-command.ensures ∙ c.new.ensures.app;
  local = ap (λ f. f.has_globals) c.about-command.ensures ∙ c.new.ensures.local;
}

pub loop-option-preserved : goal.loop-option-preserved
loop-option-preserved c =
    adds_row c.loop-option.command c.in_ok-command.command c.option_of.result (new_app c.args.row.now.name.now) c.args.row.now.options.now
    c.loop-option.option-index _ c.loop-option-test.true c.in_ok-command.ensures c.option_of.ensures.local c.option_of.ensures.rule c.loop-option.invariant

pub returns-clause-app : goal.returns-clause-app
returns-clause-app c =
    (has_rows c.loop-option.command (new_app c.args.row.now.name.now) c.args.row.now.options.now c.loop-option.option-index c.loop-option-test.false c.loop-option.invariant).is

pub returns-clause-local : goal.returns-clause-local
returns-clause-local c =
    (has_rows c.loop-option.command (new_app c.args.row.now.name.now) c.args.row.now.options.now c.loop-option.option-index c.loop-option-test.false c.loop-option.invariant).local
