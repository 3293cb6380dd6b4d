use Rattle.std.proofs.lemmas.Result.{IfOk-weaker}
use Rattle.std.specs.Prelude.{map}
use Rattle.lg_accounts.specs.Meaning.Values.{account_value}
use Rattle.lg_explain.proofs.ExplainedLaws.{accounts_are}
use Rattle.lg_explain.proofs.explainer.Explainer.finish.Goals as goal

pub returns : goal.returns
returns c =
    IfOk-weaker c.finish.result _ _
    (λ accounts gives. accounts_are c.args.self (map account_value accounts.items) gives)
    c.finish.ensures
