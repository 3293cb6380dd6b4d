use Rattle.std.proofs.Common.{◌∷◌, ◌++◌, [], ap, sym, ◌∙◌, refl, arith, append_assoc, List, inl, inr}
use Rattle.std.specs.Prelude.{Err}
use Rattle.lg_detector.specs.declared.reply.Reply.{Reply}
use Rattle.lg_agent.specs.Meaning.Calls.{receipt_of}
use Rattle.lg_turns.specs.Meaning.Links.{LinkEvent, handed}
use Rattle.lg_turns.specs.Meaning.Links.LinkEvent.{Received}
use Rattle.lg_turns.specs.Meaning.Turns.{receives}
use Rattle.lg_turns.specs.Meaning.Turns.Turn.{Heard, Dropped, Unheard}
use Rattle.lg_loops.proofs.receiving.hear.Goals as goal

pub returns-after-ne : goal.returns-after-ne
unfolding receives
returns-after-ne g c = λ log came.
    let a = c.in-Ok.ensures.answered in
    let h = c.of.ensures.handed in
    let reply : Reply = c.datagram.new.reply in
    let rest : List LinkEvent = handed reply.sends.items h.sent in
    record {
      turn = Heard c.args.now c.args.source c.args.bytes.now a.0 (receipt_of c.in-Ok.heard.place reply) h.sent;
      kind_is = refl;
      is = (a.1, a.2, h.each);
      told = λ yes. h.told yes ∙ (ap (λ (l : List LinkEvent). l ++ rest) (came yes) ∙ append_assoc log (Received c.args.source c.args.bytes.now ∷ []) rest);
      failed = omega (arith, h.failed_is, h.unsent_is);
      why = sym c.of.ensures.why;
      dropped = c.of.ensures.dropped;
      unsent = h.unsent_is;
      few_dropped = omega (arith, c.of.ensures.dropped);
      few_unsent = c.of.ensures.few;
    }

pub returns-in-BadPacket : goal.returns-in-BadPacket
unfolding receives
returns-in-BadPacket g c = λ log came. let e = c.in-Err in let b = c.in-BadPacket in let end = c.dropped.ensures in let bad = e.ensures.only b.fault (ap Err b.is) in record {
  turn = Dropped c.args.source c.args.bytes.now;
  kind_is = refl;
  is = ((e.ensures.bad b.fault bad).1, (b.fault, bad));
  told = came;
  failed = omega arith;
  why = sym end.why;
  dropped = end.dropped;
  unsent = end.unsent;
  few_dropped = omega (arith, end.dropped);
  few_unsent = omega (arith, end.unsent);
}

pub returns-in_default : goal.returns-in_default
unfolding receives
returns-in_default g c = λ log came. let e = c.in-Err in let end = c.refused.ensures in record {
  turn = Unheard c.args.now c.args.source c.args.bytes.now e.refusal;
  kind_is = refl;
  is = (e.ensures.refused, elim e.ensures.refusal [ inl bad ↦ absurd (c.in_default.not-BadPacket bad.0 bad.1) | inr other ↦ other ]);
  told = came;
  failed = omega arith;
  why = sym end.why;
  dropped = end.dropped;
  unsent = end.unsent;
  few_dropped = omega (arith, end.dropped);
  few_unsent = omega (arith, end.unsent);
}
