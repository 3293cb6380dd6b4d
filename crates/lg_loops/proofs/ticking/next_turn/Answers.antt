use Rattle.std.proofs.Common.{sym, refl, arith, append-nil}
use Rattle.lg_turns.specs.Meaning.Turns.{Turn, SeesNoneDue}
use Rattle.lg_turns.specs.Meaning.Turns.Turn.{Paused, Unseen}
use Rattle.lg_loops.proofs.PullingLaws.{agenda_same, idle_time}
use Rattle.lg_loops.proofs.ticking.next_turn.Goals as goal

pub returns-in-Err : goal.returns-in-Err
returns-in-Err g c =
    let e = c.in-Err.ensures in
    let end = c.end.ensures in
    let t : Turn = Unseen c.in-Err.refusal in (
      record {
        took = record {
          turn = t;
          kind_is = refl;
          is = (e.1, e.0);
          told = λ yes. sym (append-nil (g.L.Link.log c.args.ticker.now.side.link));
          failed = omega arith;
          why = sym end.why;
          dropped = end.dropped;
          unsent = end.unsent;
          few_dropped = omega (arith, end.dropped);
          few_unsent = omega (arith, end.unsent);
        };
        plans = refl;
        timely = λ since before was. tt;
        noted = λ since before was. agenda_same c.args.plan.now since before t c.args.agenda.now was refl refl refl;
      },
      refl,
    )

pub returns-then-deadline-milliseconds : goal.returns-then-deadline-milliseconds
returns-then-deadline-milliseconds g c =
    let low = c.in-Some.ensures in
    let e = c.in-Ok.ensures in
    c.tick.ensures c.args.plan.now c.args.agenda.now c.args.ticker.now.side.pass
    (record { look = e.1; due = c.in-Ok.deadline; deadline = e.0; come = omega (arith, c.if-deadline-milliseconds.true, c.milliseconds.ensures.milliseconds) }) low

pub returns-in-Some-found_for : goal.returns-in-Some-found_for
returns-in-Some-found_for g c =
    let low = c.in-Some.ensures in
    let e = c.in-Ok.ensures in
    let sees : SeesNoneDue c.args.ticker.now.side.pass c.in-Some.now c.next_deadline.new.self = record { look = e.1; due = c.in-Ok.deadline; deadline = e.0; later = omega (arith, c.if-deadline-milliseconds.false, c.milliseconds.ensures.milliseconds) } in
    let acted = c.learn.ensures.acted c.args.ticker.now.side.pass sees low c.in-Some-found_for.ensures in
    (acted.0, rw acted.1 refl)

pub ask_seed-requires : goal.ask_seed-requires
ask_seed-requires g c = c.in-Seed.ensures.0

pub returns-in-Seed : goal.returns-in-Seed
returns-in-Seed g c =
    let low = c.in-Some.ensures in
    let e = c.in-Ok.ensures in
    let sees : SeesNoneDue c.args.ticker.now.side.pass c.in-Some.now c.next_deadline.new.self = record { look = e.1; due = c.in-Ok.deadline; deadline = e.0; later = omega (arith, c.if-deadline-milliseconds.false, c.milliseconds.ensures.milliseconds) } in
    let acted = c.ask_seed.ensures c.args.plan.now c.args.ticker.now.side.pass sees low c.in-Seed.ensures in
    (acted.0, rw acted.1 refl)

pub returns-in-SeedInTurn : goal.returns-in-SeedInTurn
returns-in-SeedInTurn g c =
    let low = c.in-Some.ensures in
    let e = c.in-Ok.ensures in
    let sees : SeesNoneDue c.args.ticker.now.side.pass c.in-Some.now c.next_deadline.new.self = record { look = e.1; due = c.in-Ok.deadline; deadline = e.0; later = omega (arith, c.if-deadline-milliseconds.false, c.milliseconds.ensures.milliseconds) } in
    let acted = c.ask_in_turn.ensures c.args.plan.now c.args.agenda.now c.note_asking.new.self c.args.ticker.now.side.pass sees low c.in-SeedInTurn.ensures c.note_asking.ensures in
    (acted.0, rw acted.1 refl)

pub returns-in-Look : goal.returns-in-Look
returns-in-Look g c =
    let low = c.in-Some.ensures in
    let e = c.in-Ok.ensures in
    let sees : SeesNoneDue c.args.ticker.now.side.pass c.in-Some.now c.next_deadline.new.self = record { look = e.1; due = c.in-Ok.deadline; deadline = e.0; later = omega (arith, c.if-deadline-milliseconds.false, c.milliseconds.ensures.milliseconds) } in
    let acted = c.look.ensures c.args.ticker.now.side.pass sees low c.in-Look.ensures in
    (acted.0, rw acted.1 refl)

pub returns-in-Member : goal.returns-in-Member
returns-in-Member g c =
    let low = c.in-Some.ensures in
    let e = c.in-Ok.ensures in
    let sees : SeesNoneDue c.args.ticker.now.side.pass c.in-Some.now c.next_deadline.new.self = record { look = e.1; due = c.in-Ok.deadline; deadline = e.0; later = omega (arith, c.if-deadline-milliseconds.false, c.milliseconds.ensures.milliseconds) } in
    c.ask_member.ensures c.args.ticker.now.side.pass sees low c.in-Member.ensures

pub returns-in-Rest : goal.returns-in-Rest
returns-in-Rest g c =
    let low = c.in-Some.ensures in
    let e = c.in-Ok.ensures in
    let sees : SeesNoneDue c.args.ticker.now.side.pass c.in-Some.now c.next_deadline.new.self = record { look = e.1; due = c.in-Ok.deadline; deadline = e.0; later = omega (arith, c.if-deadline-milliseconds.false, c.milliseconds.ensures.milliseconds) } in
    let on = c.on.ensures in
    let t : Turn = Paused c.in-Some.now in (
      record {
        took = record {
          turn = t;
          kind_is = refl;
          is = sees;
          told = λ yes. sym (append-nil (g.L.Link.log c.args.ticker.now.side.link));
          failed = omega arith;
          why = sym on.why;
          dropped = on.dropped;
          unsent = on.unsent;
          few_dropped = omega (arith, on.dropped);
          few_unsent = omega (arith, on.unsent);
        };
        plans = refl;
        timely = λ since before was. (low, idle_time c.args.plan.now since before c.args.agenda.now c.in-Some.now was (c.in-Rest.ensures.0, c.in-Rest.ensures.1, c.in-Rest.ensures.2));
        noted = λ since before was. agenda_same c.args.plan.now since before t c.args.agenda.now was refl refl refl;
      },
      refl,
    )

pub returns-in_default : goal.returns-in_default
returns-in_default g c = c.depart.ensures.acted c.if-not-plan.false
