use Rattle.std.proofs.Common.{◌∙◌, ap, refl, subst}
use Rattle.lg_node.proofs.beside.fn.tick_beside.scope.Goals.{then-had_thread, else-had_thread}
use Rattle.lg_node.proofs.beside.fn.tick_beside.scope.Goals as goal

pub returns : goal.returns
returns g c =
    let received = subst (λ w. g.Y.Work.gives w c.join_or_do-received.result) (ap (λ p. p.work.value) c.start_if-receiving.ensures.promised ∙ c.of-4.ensures) c.join_or_do-received.ensures in
    let watched = subst (λ w. g.V.Work.gives w c.join_or_do.result) (ap (λ p. p.work.value) c.start_if-watching.ensures.promised ∙ c.of.ensures) c.join_or_do.ensures in
    let recorded = subst (λ w. g.Z.Work.gives w c.join_or_do-3.result) (ap (λ p. p.work.value) c.start_if-recording.ensures.promised ∙ c.of-3.ensures) c.join_or_do-3.ensures in
    let served = subst (λ w. g.X.Work.gives w c.join_or_do-2.result) (ap (λ p. p.work.value) c.start_if-serving.ensures.promised ∙ c.of-2.ensures) c.join_or_do-2.ensures in
    elim c.if-had_thread.branch [
      | then-had_thread w ↦ record {
        received = received;
        heard = λ had. rw w.ticked-is w.tick_loop-ticked.ensures;
        unheard = λ lacked. let on = w.if-had_thread in cc;
        watched = watched;
        served = served;
        recorded = recorded;
      }
      | else-had_thread w ↦ record {
        received = received;
        heard = λ had. let off = w.if-had_thread in cc;
        unheard = λ lacked. record {
          same_link = rw (w.ticked-is, w.without_turn-ticked.ensures.link) refl;
          same_pass = rw w.ticked-is w.without_turn-ticked.ensures.spent;
          ended = rw w.ticked-is w.without_turn-ticked.ensures.end;
        };
        watched = watched;
        served = served;
        recorded = recorded;
      }
    ]
