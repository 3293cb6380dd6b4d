use Rattle.std.proofs.lemmas.Result.{on_ok_weaker}
use Rattle.lg_heads.specs.Meaning.Heads.{head_value}
use Rattle.lg_explain.specs.Meaning.Places.{head_read}
use Rattle.lg_explain.proofs.explainer.Explainer.take_read.Goals as goal

pub returns : goal.returns
returns c =
    on_ok_weaker c.take_entries.result
    (λ went. record {
      question = went.question;
      reached = λ r has.
          went.reached (head_read c.args.self.now.question.name (head_value c.args.head.now) r)
          (record { at = c.in_ok-enter.ensures r has.at; told = has.told });
    })
    c.take_entries.ensures
