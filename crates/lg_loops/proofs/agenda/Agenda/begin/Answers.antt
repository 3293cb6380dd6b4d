use Rattle.std.proofs.Common.{refl, arith}
use Rattle.lg_loops.proofs.PullingLaws.{asking_from, none_waits}
use Rattle.lg_loops.proofs.agenda.Agenda.begin.Goals as goal

pub returns : goal.returns
returns c =
    let plan = c.args.plan.now in
    rw c.at.ensures (record {
      look = refl;
      asking = asking_from plan c.args.now c.len.result;
      waits = none_waits plan.seeds.items c.len.result (omega (arith, c.len.ensures.value));
    })
