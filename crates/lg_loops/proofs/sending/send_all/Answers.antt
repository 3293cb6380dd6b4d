use Rattle.std.proofs.Common.{◌≡◌, ◌+◌, true, false, List, [], ◌∷◌, ◌++◌, take, ap, sym, ◌∙◌, arith}
use Rattle.std.specs.Prelude.{is_ok}
use Rattle.std.proofs.lemmas.List.{take_more}
use Rattle.lg_packet.specs.Meaning.Spelling.{spelling}
use Rattle.lg_detector.specs.declared.reply.Outgoing.{Outgoing}
use Rattle.lg_turns.specs.Meaning.Links.{LinkEvent, lost}
use Rattle.lg_turns.specs.Meaning.Links.LinkEvent.{Handed}
use Rattle.lg_loops.proofs.SendingLaws.{one_handed, lost_if, lost_one}
use Rattle.lg_loops.proofs.sending.send_all.Goals.{then-is_err, else-is_err}
use Rattle.lg_loops.proofs.sending.send_all.Goals as goal

pub loop-outgoing-preserved : goal.loop-outgoing-preserved
loop-outgoing-preserved g c =
    let i = c.loop-outgoing.outgoing-index in
    let o : Outgoing = c.outgoing-item.result in
    let l : LinkEvent → List LinkEvent = λ e. g.L.Link.log c.loop-outgoing.link ++ e ∷ [] in
    let taken : take (i + 1) c.args.sends.now ≡ take i c.args.sends.now ++ o ∷ [] = take_more c.args.sends.now i o (omega arith) ∙ ap (λ (x : Outgoing). take i c.args.sends.now ++ x ∷ []) (sym c.outgoing-item.is) in
    let bytes : c.deref.result.now ≡ spelling o.packet = cc in
    let counted : c.if-is_err.unsent ≡ c.loop-outgoing.unsent + lost (is_ok c.send.result ∷ []) = elim c.if-is_err.branch [
      | then-is_err w ↦ let e = lost_if c.send.result true (sym w.if-is_err.true ∙ c.is_err.ensures.value) in let u = w.unsent-is in omega (arith, e, u)
      | else-is_err w ↦ let e = lost_if c.send.result false (sym w.if-is_err.false ∙ c.is_err.ensures.value) in let u = w.unsent-is in omega (arith, e, u)
    ] in
    record {
      few = let few = c.loop-outgoing.invariant.few in omega (arith, counted, few, lost_one (is_ok c.send.result));
      handed = rw (taken, counted) (one_handed g.L.Link.tells _ _ _ _ _ _ (take i c.args.sends.now) o c.loop-outgoing.unsent c.send.result c.loop-outgoing.invariant.handed
          (λ yes. c.send.ensures.told yes ∙ ap (λ b. l (Handed o.to b (is_ok c.send.result))) bytes) c.send.ensures.sent c.send.ensures.failed);
    }
