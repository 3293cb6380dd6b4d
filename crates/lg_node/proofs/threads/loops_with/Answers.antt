use Rattle.std.proofs.Common.{inl, inr, refl}
use Rattle.std.proofs.lemmas.Bool.{cases_Bool}
use Rattle.lg_node.proofs.threads.loops_with.Goals as goal

pub returns-clause-ran : goal.returns-clause-ran
returns-clause-ran g c =
    let done = c.tick_beside-done in
    let left = c.end_of-received in
    elim (cases_Bool done.result.had_thread) [
      | inl had ↦ inl (rw (left.ensures.had had) done.ensures.received, done.ensures.heard had)
      | inr lacked ↦ inr (
        record {
          was = done.result.received.end.why;
          ran = rw (left.ensures.lacked lacked) done.ensures.received;
          why = rw (left.ensures.lacked lacked) refl;
        },
        done.ensures.unheard lacked,
      )
    ]
