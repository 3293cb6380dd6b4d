use Rattle.std.proofs.Common.{◌∙◌, ap, sym, refl, arith, append-nil}
use Rattle.std.specs.List.{list_all}
use Rattle.lg_turns.specs.Meaning.Turns.{Turn}
use Rattle.lg_turns.specs.Meaning.Turns.Turn.{Looked, Unlooked}
use Rattle.lg_turns.specs.Meaning.Pulling.{has_gone}
use Rattle.lg_loops.proofs.PullingLaws.{look_time, look_noted, no_look_noted}
use Rattle.lg_loops.proofs.finding.look.Goals as goal

pub returns-in_default : goal.returns-in_default
returns-in_default g c = λ p look low duty.
    let on = c.on.ensures in
    let t : Turn = Unlooked c.args.now in (
      record {
        took = record {
          turn = t;
          kind_is = refl;
          is = rw c.in_default.ensures look;
          told = λ yes. sym (append-nil (g.L.Link.log c.args.side.now.link));
          failed = omega arith;
          why = sym on.why;
          dropped = on.dropped;
          unsent = on.unsent;
          few_dropped = omega (arith, on.dropped);
          few_unsent = omega (arith, on.unsent);
        };
        plans = refl;
        timely = λ since before was. (low, look_time c.args.plan.now since before c.args.agenda.now c.args.now was duty);
        noted = λ since before was. rw c.note_no_look.ensures (no_look_noted c.args.plan.now since before c.args.agenda.now c.args.now was);
      },
      refl,
    )

pub returns : goal.returns
returns g c = λ p look low duty.
    let on = c.on-2.ensures in
    let e = c.in-Some.ensures in
    let asks = c.wants_seeds-asks.result in
    let t : Turn = Looked c.args.now c.others.new.pass.seen asks in (
      record {
        took = record {
          turn = t;
          kind_is = refl;
          is = record { between = c.args.side.now.pass; none_due = look; look = e.1; saw = refl };
          told = λ yes. sym (append-nil (g.L.Link.log c.args.side.now.link));
          failed = omega arith;
          why = sym on.why;
          dropped = on.dropped;
          unsent = on.unsent;
          few_dropped = omega (arith, on.dropped);
          few_unsent = omega (arith, on.unsent);
        };
        plans = refl;
        timely = λ since before was. (
          low,
          look_time c.args.plan.now since before c.args.agenda.now c.args.now was duty,
          λ all. c.wants_seeds-asks.ensures.alone (ap (list_all has_gone) (c.as_slice.ensures.value ∙ e.0) ∙ all),
        );
        noted = λ since before was. rw c.note_look.ensures (look_noted c.args.plan.now since before c.args.agenda.now c.args.now c.others.new.pass.seen asks was);
      },
      refl,
    )
