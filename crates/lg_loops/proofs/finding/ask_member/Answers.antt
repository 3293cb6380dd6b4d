use Rattle.std.proofs.Common.{◌∙◌, sym, refl, arith, append-nil, subst, List, ◌≡◌, []}
use Rattle.std.proofs.lemmas.List.{nil_from_length}
use Rattle.lg_rules.specs.declared.claim.Claim.{Claim}
use Rattle.lg_agent.specs.Meaning.Calls.{receipt_of}
use Rattle.lg_detector.specs.Meaning.Step.{view_after}
use Rattle.lg_turns.specs.Meaning.Turns.{Turn}
use Rattle.lg_turns.specs.Meaning.Turns.Turn.{AskedMember, UnaskedMember, FoundNobody, Unfound}
use Rattle.lg_turns.specs.Meaning.Pulling.{others_of, IsChosen}
use Rattle.lg_loops.proofs.PullingLaws.{agenda_next, member_time}
use Rattle.lg_loops.proofs.finding.ask_member.Goals as goal

pub returns-in_default : goal.returns-in_default
returns-in_default g c = λ p look low duty.
    let on = c.on.ensures in
    let t : Turn = Unfound c.args.now in (
      record {
        took = record {
          turn = t;
          kind_is = refl;
          is = rw c.in_default.ensures look;
          told = λ yes. sym (append-nil (g.L.Link.log c.args.ticker.now.side.link));
          failed = omega arith;
          why = sym on.why;
          dropped = on.dropped;
          unsent = on.unsent;
          few_dropped = omega (arith, on.dropped);
          few_unsent = omega (arith, on.unsent);
        };
        plans = refl;
        timely = λ since before was. member_time c.args.plan.now since before c.args.agenda.now c.args.now low was duty;
        noted = λ since before was. agenda_next c.args.plan.now since before t c.args.now c.args.agenda.now c.note_asking.new.self was c.note_asking.ensures refl refl refl;
      },
      refl,
    )

pub returns-then-len-eq0 : goal.returns-then-len-eq0
returns-then-len-eq0 g c = λ p look low duty.
    let on = c.on-then-len-eq0.ensures in
    let e = c.in-Some.ensures in
    let t : Turn = FoundNobody c.args.now c.others.new.pass.seen in
    let none : c.in-Some.records.items ≡ [] = nil_from_length c.in-Some.records.items (omega (arith, c.if-len-eq0.true, c.len.ensures, c.in-Some.records.ok)) in (
      record {
        took = record {
          turn = t;
          kind_is = refl;
          is = record { between = c.args.ticker.now.side.pass; none_due = look; look = e.1; saw = refl };
          told = λ yes. sym (append-nil (g.L.Link.log c.args.ticker.now.side.link));
          failed = omega arith;
          why = sym on.why;
          dropped = on.dropped;
          unsent = on.unsent;
          few_dropped = omega (arith, on.dropped);
          few_unsent = omega (arith, on.unsent);
        };
        plans = refl;
        timely = λ since before was. (member_time c.args.plan.now since before c.args.agenda.now c.args.now low was duty, sym e.0 ∙ none);
        noted = λ since before was. agenda_next c.args.plan.now since before t c.args.now c.args.agenda.now c.note_asking.new.self was c.note_asking.ensures refl refl refl;
      },
      refl,
    )

pub returns-in-Ok : goal.returns-in-Ok
returns-in-Ok g c = λ p look low duty.
    let e = c.in-Some.ensures in
    let h = c.of.ensures.handed in
    let t : Turn = AskedMember c.args.now c.words-words.result c.others.new.pass.seen c.chosen-peer.result (receipt_of c.in-Ok.field-0 c.pull.new.reply) h.sent in
    let one : IsChosen c.words-words.result (others_of c.args.plan.now.name (view_after c.others.new.pass.seen)) c.chosen-peer.result = subst (λ (l : List Claim). IsChosen c.words-words.result l c.chosen-peer.result) (c.as_slice.ensures.value ∙ e.0) c.chosen-peer.ensures in (
      record {
        took = record {
          turn = t;
          kind_is = refl;
          is = (c.others.new.pass, record { between = c.args.ticker.now.side.pass; none_due = look; look = e.1; saw = refl }, c.in-Ok.ensures.answered, h.each);
          told = h.told;
          failed = omega (arith, h.failed_is, h.unsent_is);
          why = sym c.of.ensures.why;
          dropped = c.of.ensures.dropped;
          unsent = h.unsent_is;
          few_dropped = omega (arith, c.of.ensures.dropped);
          few_unsent = c.of.ensures.few;
        };
        plans = refl;
        timely = λ since before was. (member_time c.args.plan.now since before c.args.agenda.now c.args.now low was duty, one);
        noted = λ since before was. agenda_next c.args.plan.now since before t c.args.now c.args.agenda.now c.note_asking.new.self was c.note_asking.ensures refl refl refl;
      },
      (c.words-words.new.self, c.words-words.ensures, refl),
    )

pub returns : goal.returns
returns g c = λ p look low duty.
    let e = c.in-Some.ensures in
    let f = c.in-Err.ensures in
    let end = c.refused.ensures in
    let t : Turn = UnaskedMember c.args.now c.words-words.result c.others.new.pass.seen c.chosen-peer.result c.in-Err.refusal in
    let one : IsChosen c.words-words.result (others_of c.args.plan.now.name (view_after c.others.new.pass.seen)) c.chosen-peer.result = subst (λ (l : List Claim). IsChosen c.words-words.result l c.chosen-peer.result) (c.as_slice.ensures.value ∙ e.0) c.chosen-peer.ensures in (
      record {
        took = record {
          turn = t;
          kind_is = refl;
          is = (c.others.new.pass, record { between = c.args.ticker.now.side.pass; none_due = look; look = e.1; saw = refl }, f.answered, f.refusal);
          told = λ yes. sym (append-nil (g.L.Link.log c.args.ticker.now.side.link));
          failed = omega arith;
          why = sym end.why;
          dropped = end.dropped;
          unsent = end.unsent;
          few_dropped = omega (arith, end.dropped);
          few_unsent = omega (arith, end.unsent);
        };
        plans = refl;
        timely = λ since before was. (member_time c.args.plan.now since before c.args.agenda.now c.args.now low was duty, one);
        noted = λ since before was. agenda_next c.args.plan.now since before t c.args.now c.args.agenda.now c.note_asking.new.self was c.note_asking.ensures refl refl refl;
      },
      (c.words-words.new.self, c.words-words.ensures, refl),
    )
