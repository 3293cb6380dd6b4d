use Rattle.std.proofs.Common.{◌≡◌, ◌∙◌, sym, ap, subst, map}
use Rattle.std.proofs.lemmas.Result.{IfOk-weaker}
use Rattle.clap.specs.Faults.{fault_of, is_simple_and_free}
use Rattle.clap.specs.Kinds.{FailsBy, HasKind, Kinds, or_else}
use Rattle.clap.specs.Simple.{App, is_simple, subcommand_of}
use Rattle.lg_command_line.specs.Meaning.Apps.{lg_app}
use Rattle.lg_command_line.specs.Meaning.Commands.{asked, line_faults, request_faults, request_of_rows}
use Rattle.lg_command_line.specs.Support.Requests.{request_of}
use Rattle.lg_command_line.proofs.CommandLaws.{kind_of_first}
use Rattle.lg_command_line.proofs.words.read_with.Goals as goal

pub returns-in-Ok-asked-clause-asked : goal.returns-in-Ok-asked-clause-asked
unfolding asked
returns-in-Ok-asked-clause-asked g c =
    let words = map g.S.AsStr.text c.args.words.now in
    let is_lg = c.requires in
    let asks : request_of c.in-Ok-asked.asked ≡ asked words =
    c.in-Ok-asked.ensures ∙ ap request_of_rows ((c.in-Ok.ensures.ok.2 (ap is_simple is_lg)).1 ∙ ap (λ (a : App). subcommand_of a words) is_lg) in
    IfOk-weaker c.checked.result _ _ (λ found same. same ∙ asks) c.checked.ensures.same

pub returns-in-Ok-asked-clause-refused : goal.returns-in-Ok-asked-clause-refused
unfolding line_faults asked
returns-in-Ok-asked-clause-refused g c =
    let words = map g.S.AsStr.text c.args.words.now in
    let is_lg = c.requires in
    let none = ap (λ (a : App). fault_of a words) (sym is_lg) ∙ c.in-Ok.ensures.kinds (ap is_simple_and_free is_lg) in
    let asks : request_of c.in-Ok-asked.asked ≡ asked words =
    c.in-Ok-asked.ensures ∙ ap request_of_rows ((c.in-Ok.ensures.ok.2 (ap is_simple is_lg)).1 ∙ ap (λ (a : App). subcommand_of a words) is_lg) in
    subst (λ (kinds : Kinds). FailsBy kinds c.checked.result)
    (ap request_faults asks ∙ sym (ap (λ (kinds : Kinds). or_else kinds (request_faults (asked words))) none)) c.checked.ensures.refused

pub returns-in-Err-clause-refused : goal.returns-in-Err-clause-refused
unfolding line_faults
returns-in-Err-clause-refused g c =
    let words = map g.S.AsStr.text c.args.words.now in
    let is_lg = c.requires in
    kind_of_first c.in-Err.error (fault_of lg_app words) (request_faults (asked words))
    (subst (λ (kinds : Kinds). HasKind kinds c.in-Err.error) (ap (λ (a : App). fault_of a words) is_lg) (c.in-Err.ensures.kinds (ap is_simple_and_free is_lg)))
