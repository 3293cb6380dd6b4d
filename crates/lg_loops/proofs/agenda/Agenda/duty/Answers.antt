use Rattle.std.proofs.Common.{◌≡◌, ◌<◌, length, arith}
use Rattle.lg_loops.proofs.PullingLaws.{first_waits}
use Rattle.lg_loops.proofs.agenda.Agenda.duty.Goals as goal

pub returns-then-self-len : goal.returns-then-self-len
returns-then-self-len c =
    let plan = c.args.plan.now in
    let a = c.args.self.now in
    let items : c.deref.result.now ≡ plan.seeds.items = cc in
    let in_range : a.asked < length plan.seeds.items = omega (arith, c.if-self-len.true, c.len.ensures.value) in (
      omega (arith, c.if-self-len.true, c.len.ensures.value, c.len.ensures.fits),
      rw items (first_waits plan.seeds.items a.asked _ in_range),
    )
