use Rattle.std.proofs.Common.{◌≡◌, true, false, arith}
use Rattle.std.specs.Prelude.{filter}
use Rattle.lg_explain.specs.Meaning.Rounds.{is_recent}
use Rattle.lg_explain.proofs.RoundLaws.{keeps_filtered, keeps_longer, keeps_one_more}
use Rattle.lg_explain.proofs.rounds.add_end.Goals as goal

pub returns-then-not-ends_round : goal.returns-then-not-ends_round
returns-then-not-ends_round c = λ before all le keeps.
    let none : c.ends_round.result ≡ false = grind arith in
    rw (← c.ends_round.ensures, none) (keeps_longer c.args.ends.now.items all before c.args.now le keeps)

pub returns : goal.returns
returns c = λ before all le keeps.
    let one : c.ends_round.result ≡ true = grind arith in
    rw (← c.ends_round.ensures, one, ← c.suspects_some.ensures, c.in_ok-push.ensures.items, c.drop_earlier.ensures)
    (keeps_one_more (filter (is_recent c.args.now) c.args.ends.now.items) all c.args.now _ (keeps_filtered c.args.ends.now.items all c.args.now (keeps_longer c.args.ends.now.items all before c.args.now le keeps)))
