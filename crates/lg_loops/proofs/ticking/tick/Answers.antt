use Rattle.std.proofs.Common.{sym, refl, arith, append-nil}
use Rattle.lg_agent.specs.Meaning.Calls.{receipt_of}
use Rattle.lg_turns.specs.Meaning.Turns.{Turn}
use Rattle.lg_turns.specs.Meaning.Turns.Turn.{Ticked, Unticked}
use Rattle.lg_loops.proofs.PullingLaws.{agenda_same}
use Rattle.lg_loops.proofs.ticking.tick.Goals as goal

pub returns-in-Ok : goal.returns-in-Ok
returns-in-Ok g c = λ plan agenda p due low.
    let h = c.of.ensures.handed in
    let t : Turn = Ticked c.args.now c.words.result (receipt_of c.in-Ok.field-0 c.tick.new.reply) h.sent in (
      record {
        took = record {
          turn = t;
          kind_is = refl;
          is = (c.args.ticker.now.side.pass, due, c.in-Ok.ensures.answered, h.each);
          told = h.told;
          failed = omega (arith, h.failed_is, h.unsent_is);
          why = sym c.of.ensures.why;
          dropped = c.of.ensures.dropped;
          unsent = h.unsent_is;
          few_dropped = omega (arith, c.of.ensures.dropped);
          few_unsent = c.of.ensures.few;
        };
        plans = refl;
        timely = λ since before was. low;
        noted = λ since before was. agenda_same plan since before t agenda was refl refl refl;
      },
      (c.words.new.self, c.words.ensures, refl),
    )

pub returns-in-Err : goal.returns-in-Err
returns-in-Err g c = λ plan agenda p due low.
    let e = c.in-Err.ensures in
    let end = c.refused.ensures in
    let t : Turn = Unticked c.args.now c.words.result c.in-Err.refusal in (
      record {
        took = record {
          turn = t;
          kind_is = refl;
          is = (c.args.ticker.now.side.pass, due, e.answered, e.refusal);
          told = λ yes. sym (append-nil (g.L.Link.log c.args.ticker.now.side.link));
          failed = omega arith;
          why = sym end.why;
          dropped = end.dropped;
          unsent = end.unsent;
          few_dropped = omega (arith, end.dropped);
          few_unsent = omega (arith, end.unsent);
        };
        plans = refl;
        timely = λ since before was. low;
        noted = λ since before was. agenda_same plan since before t agenda was refl refl refl;
      },
      (c.words.new.self, c.words.ensures, refl),
    )
