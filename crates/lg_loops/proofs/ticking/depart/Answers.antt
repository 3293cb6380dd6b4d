use Rattle.std.proofs.Common.{sym, refl, arith, append-nil}
use Rattle.lg_agent.specs.Meaning.Calls.{receipt_of}
use Rattle.lg_turns.specs.Meaning.Turns.{Turn}
use Rattle.lg_turns.specs.Meaning.Turns.Turn.{Departed, Undeparted}
use Rattle.lg_loops.proofs.PullingLaws.{agenda_same, leave_noted}
use Rattle.lg_loops.proofs.ticking.depart.Goals as goal

pub returns-in-Ok-clause-acted : goal.returns-in-Ok-clause-acted
returns-in-Ok-clause-acted g c = λ yes.
    let h = c.handed.ensures.handed in
    let t : Turn = Departed c.args.now c.words.result (receipt_of c.in-Ok.field-0 c.leave.new.reply) h.sent in (
      record {
        took = record {
          turn = t;
          kind_is = refl;
          is = (c.in-Ok.ensures.answered, h.each);
          told = h.told;
          failed = omega (arith, h.failed_is, h.unsent_is);
          why = sym c.handed.ensures.why;
          dropped = c.handed.ensures.dropped;
          unsent = h.unsent_is;
          few_dropped = omega (arith, c.handed.ensures.dropped);
          few_unsent = c.handed.ensures.few;
        };
        plans = sym c.linger.ensures;
        timely = λ since before was. yes;
        noted = λ since before was. rw (c.linger.ensures, c.note_leave.ensures) (leave_noted c.args.plan.now since before c.args.agenda.now c.args.now c.words.result (receipt_of c.in-Ok.field-0 c.leave.new.reply) h.sent was);
      },
      (c.words.new.self, c.words.ensures, refl),
    )

pub returns-in-Ok-clause-plan : goal.returns-in-Ok-clause-plan
returns-in-Ok-clause-plan g c = rw (c.handed.ensures.why, c.linger.ensures) refl

pub returns-in-Err-clause-acted : goal.returns-in-Err-clause-acted
returns-in-Err-clause-acted g c = λ yes.
    let e = c.in-Err.ensures in
    let end = c.refused.ensures in
    let t : Turn = Undeparted c.args.now c.words.result c.in-Err.refusal in (
      record {
        took = record {
          turn = t;
          kind_is = refl;
          is = (e.answered, e.refusal);
          told = λ yes. sym (append-nil (g.L.Link.log c.args.ticker.now.side.link));
          failed = omega arith;
          why = sym end.why;
          dropped = end.dropped;
          unsent = end.unsent;
          few_dropped = omega (arith, end.dropped);
          few_unsent = omega (arith, end.unsent);
        };
        plans = refl;
        timely = λ since before was. yes;
        noted = λ since before was. agenda_same c.args.plan.now since before t c.args.agenda.now was refl refl refl;
      },
      (c.words.new.self, c.words.ensures, refl),
    )

pub returns-in-Err-clause-plan : goal.returns-in-Err-clause-plan
returns-in-Err-clause-plan g c = rw c.refused.ensures.why refl
