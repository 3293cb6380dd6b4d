use Rattle.std.proofs.Common.{sym, refl, arith, append-nil}
use Rattle.lg_turns.specs.Meaning.Turns.{Turn}
use Rattle.lg_turns.specs.Meaning.Turns.Turn.{Learned}
use Rattle.lg_loops.proofs.PullingLaws.{learned_noted}
use Rattle.lg_loops.proofs.finding.learn.Goals as goal

pub returns-clause-acted : goal.returns-clause-acted
returns-clause-acted g c = λ p none_due low learns.
    let on = c.on.ensures in
    let t : Turn = Learned c.args.now c.args.found.now.items in (
      record {
        took = record {
          turn = t;
          kind_is = refl;
          is = none_due;
          told = λ yes. sym (append-nil (g.L.Link.log c.args.side.now.link));
          failed = omega arith;
          why = sym on.why;
          dropped = on.dropped;
          unsent = on.unsent;
          few_dropped = omega (arith, on.dropped);
          few_unsent = omega (arith, on.unsent);
        };
        plans = sym c.learn.ensures;
        timely = λ since before was. (low, learns);
        noted = λ since before was. rw (c.note_learned.ensures, c.learn.ensures) (learned_noted c.args.plan.now since before c.args.agenda.now c.args.now c.args.found.now.items was);
      },
      refl,
    )
