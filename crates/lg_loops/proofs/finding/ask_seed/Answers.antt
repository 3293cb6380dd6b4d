use Rattle.std.proofs.Common.{sym, refl, arith, append-nil}
use Rattle.lg_agent.specs.Meaning.Calls.{receipt_of}
use Rattle.lg_turns.specs.Meaning.Turns.{Turn}
use Rattle.lg_turns.specs.Meaning.Turns.Turn.{AskedSeed, UnaskedSeed}
use Rattle.lg_loops.proofs.PullingLaws.{seed_first, seed_noted}
use Rattle.lg_loops.proofs.finding.ask_seed.Goals as goal

pub returns-in-Ok : goal.returns-in-Ok
returns-in-Ok g c = λ plan p look low duty.
    let h = c.of.ensures.handed in
    let t : Turn = AskedSeed c.args.now c.args.peer (receipt_of c.in-Ok.field-0 c.pull.new.reply) h.sent in (
      record {
        took = record {
          turn = t;
          kind_is = refl;
          is = (c.args.side.now.pass, look, c.in-Ok.ensures.answered, h.each);
          told = h.told;
          failed = omega (arith, h.failed_is, h.unsent_is);
          why = sym c.of.ensures.why;
          dropped = c.of.ensures.dropped;
          unsent = h.unsent_is;
          few_dropped = omega (arith, c.of.ensures.dropped);
          few_unsent = c.of.ensures.few;
        };
        plans = refl;
        timely = λ since before was. (low, seed_first plan since before c.args.agenda.now c.args.peer was duty.1);
        noted = λ since before was. rw c.note_seed.ensures (seed_noted plan since before t c.args.agenda.now c.args.peer was refl refl refl duty.1);
      },
      refl,
    )

pub returns-in-Err : goal.returns-in-Err
returns-in-Err g c = λ plan p look low duty.
    let e = c.in-Err.ensures in
    let end = c.refused.ensures in
    let t : Turn = UnaskedSeed c.args.now c.args.peer c.in-Err.refusal in (
      record {
        took = record {
          turn = t;
          kind_is = refl;
          is = (c.args.side.now.pass, look, e.answered, e.refusal);
          told = λ yes. sym (append-nil (g.L.Link.log c.args.side.now.link));
          failed = omega arith;
          why = sym end.why;
          dropped = end.dropped;
          unsent = end.unsent;
          few_dropped = omega (arith, end.dropped);
          few_unsent = omega (arith, end.unsent);
        };
        plans = refl;
        timely = λ since before was. (low, seed_first plan since before c.args.agenda.now c.args.peer was duty.1);
        noted = λ since before was. rw c.note_seed.ensures (seed_noted plan since before t c.args.agenda.now c.args.peer was refl refl refl duty.1);
      },
      refl,
    )
