use Rattle.std.proofs.Common.{refl, sym, subst}
use Rattle.lg_heads.specs.Meaning.Heads.{head_value}
use Rattle.lg_replay.specs.Support.Known.{HoldsPast}
use Rattle.lg_replay.specs.declared.known.Known.{Known}
use Rattle.lg_explain.proofs.PositionLaws.{entered, past_entered}
use Rattle.lg_explain.proofs.position.Position.enter.Goals as goal

pub returns : goal.returns
returns c = λ r at.
    entered c.turn.new.self c.enter.new.self c.args.head.now.first c.args.name.now (head_value c.args.head.now) r (c.turn.ensures.here r at)
    (past_entered c.turn.new.self.known c.enter.new.self c.args.head.now.first r.past c.in_ok-enter.ensures
    (subst (λ (k : Known). HoldsPast k r.past) (sym c.turn.ensures.known) at.past))
    refl
