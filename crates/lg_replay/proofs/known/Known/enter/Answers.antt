use Rattle.std.proofs.Common.{ℕ, sym, subst}
use Rattle.std.proofs.lemmas.Result.{on_ok_weaker}
use Rattle.lg_replay.specs.Meaning.Lives.{Life, life_from}
use Rattle.lg_replay.specs.Support.Known.{IsKnown}
use Rattle.lg_replay.proofs.known.Known.enter.Goals as goal

pub returns-then-first-eq0 : goal.returns-then-first-eq0
returns-then-first-eq0 c =
    on_ok_weaker c.begin.result
    (λ begun. λ (life : Life) (was : IsKnown c.args.self.now life).
    subst (λ (n : ℕ). IsKnown c.begin.new.self (life_from n life)) (sym c.if-first-eq0.true) (begun life))
    c.begin.ensures
