use Rattle.std.proofs.Common.{◌≡◌, true, false, arith, rules}
use Rattle.lg_client.proofs.LeaveLaws.{awaits_begin, awaits_ended, awaits_in_vain, awaits_more}
use Rattle.lg_client.proofs.leaving.await_end.Goals as goal

pub loop-turn-init : goal.loop-turn-init
loop-turn-init g c = λ tells. awaits_begin _

pub returns-then-not-connects : goal.returns-then-not-connects
returns-then-not-connects g c =
    let failed : c.connects.result ≡ false = search rules in
    λ tells. awaits_ended _ _ _ c.loop-turn.turn c.connects.result (c.loop-turn.invariant tells) (omega arith) (c.connects.ensures.told tells) failed

pub loop-turn-preserved : goal.loop-turn-preserved
loop-turn-preserved g c =
    let made : c.connects.result ≡ true = search rules in
    λ tells. awaits_more _ _ _ _ c.loop-turn.turn c.connects.result (c.loop-turn.invariant tells) (c.connects.ensures.told tells) made (c.pause.ensures.told tells)

pub returns : goal.returns
returns g c = λ tells. awaits_in_vain _ _ c.loop-turn.turn (c.loop-turn.invariant tells) (omega arith)
