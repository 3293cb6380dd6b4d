use Rattle.std.proofs.lemmas.Result.{on_ok_weaker}
use Rattle.lg_explain.specs.Support.Episodes.{told_value}
use Rattle.lg_explain.proofs.EpisodeLaws.{begins_run, goes_on_run}
use Rattle.lg_explain.proofs.gathered.Gathered.add.Goals as goal
use Rattle.lg_explain.proofs.gathered.Gathered.add.Goals.{then-told+in_ok-end_episode, else-told}

pub returns : goal.returns
returns c =
    on_ok_weaker c.go_on.result
    (λ went before has.
    elim c.if-told.branch [
      | then-told+in_ok-end_episode w ↦
          begins_run c.go_on.new.self c.args.question.now (told_value c.args.told) before w.if-told.true
          (went c.args.question.now _ _ (rw w.self-is (w.in_ok-end_episode.ensures _ _ has)))
      | else-told w ↦
          goes_on_run c.go_on.new.self c.args.question.now (told_value c.args.told) before w.if-told.false
          (went c.args.question.now _ _ (rw w.self-is has))
    ])
    c.go_on.ensures
