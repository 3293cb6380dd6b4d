use Rattle.std.proofs.Common.{List, subst, ℕ}
use Rattle.lg_text.specs.Meaning.Reporting.{Reports}
use Rattle.lg_text.specs.declared.fault.RunFault.TheVariants.{Write}
use Rattle.lg_command_line.proofs.taking.report_refusal.Goals as goal

-- what is reported of help that can't be written is a fault of writing
pub returns-in-Err-clause-fails : goal.returns-in-Err-clause-fails
returns-in-Err-clause-fails g c = λ _. record {
  fault = Write (record { kind = c.kind-in-Err.result });
  line = subst (λ (text : List ℕ). Reports (g.F.FaultStream.reported c.args.faults.now) (g.F.FaultStream.reported c.report-in-Err.new.faults) text) c.text-in-Err.ensures.says c.report-in-Err.ensures;
  unwritten = λ no. absurd (cc no);
}
