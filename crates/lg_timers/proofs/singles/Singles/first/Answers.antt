use Rattle.std.proofs.Common.{◌∙◌, ap}
use Rattle.lg_timers.specs.declared.timer.TimerId.TheVariants.{RoundEnd, Direct, RoundStart}
use Rattle.lg_timers.specs.Support.Singles.{timer_of, first_of_both, first_single}
use Rattle.lg_timers.proofs.singles.Singles.first.Goals as goal

pub returns : goal.returns
unfolding first_single
returns c =
    let s = c.args.self.now in
    c.earlier.ensures.first
    ∙ ap (λ o. first_of_both o (timer_of RoundEnd s.round_end)) (c.earlier-direct.ensures.first
    ∙ ap (λ o. first_of_both o (timer_of Direct s.direct)) (c.earlier-round_start.ensures.first
    ∙ ap (λ o. first_of_both o (timer_of RoundStart s.round_start)) c.earlier-gossip.ensures.first))
