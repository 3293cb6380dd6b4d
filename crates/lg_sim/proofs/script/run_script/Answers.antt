use Rattle.std.proofs.Common.{◌≡◌, ◌≢◌, ◌++◌, ℕ, List, None, Some, Err, sym, ap, subst, ◌∙◌}
use Rattle.lg_script.specs.declared.fault.ScriptFault.{ScriptFault}
use Rattle.lg_sim.specs.Meaning.Text.{fault_line, line_fault}
use Rattle.lg_sim.specs.Support.After.{StopsAt}
use Rattle.lg_sim.specs.declared.cluster.Stop.{Stop}
use Rattle.lg_sim.specs.declared.cluster.Stop.TheVariants.{NoMemory, Faulty}
use Rattle.lg_sim.proofs.ScriptLaws.{run_more, run_none, stopped_text}
use Rattle.lg_sim.proofs.script.run_script.Goals as goal

pub lines-init : goal.lines-init
lines-init c = rw c.new-text.ensures.items (run_none c.new-cluster.result c.args.input.now c.new-cluster.ensures.settings c.new-cluster.ensures.hosts c.new-cluster.ensures.sent)

pub returns-in-Err-Faulty-clause-text : goal.returns-in-Err-Faulty-clause-text
returns-in-Err-Faulty-clause-text c =
    let has = c.lines.invariant in
    let line = c.cut_line.result.0.now in
    let fault = c.in-Err-Faulty.fault in
    let bad : line_fault line has.before ≡ Some fault =
    subst (λ (s : Stop). StopsAt (Err s) (line_fault line has.before)) c.in-Err-Faulty.field-0-is (c.in-Err-Faulty.ensures.stops has.before has.after) in
    let differs : c.in-Err-Faulty.field-0 ≢ NoMemory = λ e. let no : Faulty fault ≡ NoMemory = sym c.in-Err-Faulty.field-0-is ∙ e in absurd cc in
    let same : c.run_line.new.text.items ≡ c.lines.text.items = (c.in-Err-Faulty.ensures.unchanged differs).1 in
    let lines : c.put_fault.new.text.items ≡ c.run_line.new.text.items ++ fault_line c.lines.number fault =
    c.in_ok-put_fault-in-Err-Faulty.ensures ∙ ap (λ (f : ScriptFault). c.run_line.new.text.items ++ fault_line c.lines.number f) c.in-Err-Faulty.fault-is in
    stopped_text _ _ _ _ c.cut_line.result.1.now _ _ _ fault has c.cut_line.ensures.lines bad
    (lines ∙ ap (λ (t : List ℕ). t ++ fault_line c.lines.number fault) same)

pub lines-preserved : goal.lines-preserved
lines-preserved c =
    let has = c.lines.invariant in
    let line = c.cut_line.result.0.now in
    let good : line_fault line has.before ≡ None = c.in-Ok.ensures.stops has.before has.after in
    run_more _ _ _ _ _ _ _ _ _ has c.cut_line.ensures.lines c.cut_line.ensures.shorter good (c.in-Ok.ensures.runs has.before has.after)
