use Rattle.std.proofs.Common.{map, ap}
use Rattle.clap.specs.Values.{kind_of}
use Rattle.lg_command_line.proofs.LineLaws.{is_left}
use Rattle.lg_command_line.proofs.taking.take_words.Goals as goal

pub returns-in-Err-clause-left : goal.returns-in-Err-clause-left
returns-in-Err-clause-left g c =
    let told = c.report_refusal.ensures in
    is_left _ _ _ _ (kind_of c.in-Err.error) c.report_refusal.result
    (record {
      is = told.status;
      failed = told.failed;
      memory = λ kind. record { is = told.memory kind; told = told.memory_told kind; unwritten = told.unfit kind };
      write_told = told.write_told;
      unreported = λ zero. ap g.F.FaultStream.reported (told.unreported zero);
      unwritten = told.unwritten;
    }) (map g.S.AsStr.text c.args.words.now) c.in-Err.ensures.refused
