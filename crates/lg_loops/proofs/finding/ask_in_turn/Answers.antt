use Rattle.std.proofs.Common.{sym, refl, arith, append-nil}
use Rattle.lg_agent.specs.Meaning.Calls.{receipt_of}
use Rattle.lg_turns.specs.Meaning.Turns.{Turn}
use Rattle.lg_turns.specs.Meaning.Turns.Turn.{AskedInTurn, UnaskedInTurn}
use Rattle.lg_loops.proofs.PullingLaws.{agenda_next, seed_time}
use Rattle.lg_loops.proofs.finding.ask_in_turn.Goals as goal

pub returns-in-Ok : goal.returns-in-Ok
returns-in-Ok g c = λ plan agenda noted p look low duty next.
    let h = c.of.ensures.handed in
    let t : Turn = AskedInTurn c.args.now c.args.peer (receipt_of c.in-Ok.field-0 c.pull.new.reply) h.sent in (
      record {
        took = record {
          turn = t;
          kind_is = refl;
          is = (c.args.side.now.pass, look, c.in-Ok.ensures.answered, h.each);
          told = h.told;
          failed = omega (arith, h.failed_is, h.unsent_is);
          why = sym c.of.ensures.why;
          dropped = c.of.ensures.dropped;
          unsent = h.unsent_is;
          few_dropped = omega (arith, c.of.ensures.dropped);
          few_unsent = c.of.ensures.few;
        };
        plans = refl;
        timely = λ since before was. seed_time plan since before agenda c.args.now c.args.peer low was duty;
        noted = λ since before was. agenda_next plan since before t c.args.now agenda noted was next refl refl refl;
      },
      refl,
    )

pub returns-in-Err : goal.returns-in-Err
returns-in-Err g c = λ plan agenda noted p look low duty next.
    let e = c.in-Err.ensures in
    let end = c.refused.ensures in
    let t : Turn = UnaskedInTurn c.args.now c.args.peer c.in-Err.refusal in (
      record {
        took = record {
          turn = t;
          kind_is = refl;
          is = (c.args.side.now.pass, look, e.answered, e.refusal);
          told = λ yes. sym (append-nil (g.L.Link.log c.args.side.now.link));
          failed = omega arith;
          why = sym end.why;
          dropped = end.dropped;
          unsent = end.unsent;
          few_dropped = omega (arith, end.dropped);
          few_unsent = omega (arith, end.unsent);
        };
        plans = refl;
        timely = λ since before was. seed_time plan since before agenda c.args.now c.args.peer low was duty;
        noted = λ since before was. agenda_next plan since before t c.args.now agenda noted was next refl refl refl;
      },
      refl,
    )
