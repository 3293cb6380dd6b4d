use Rattle.std.proofs.Common.{◌≡◌, ◌≤◌, ℕ, None, Some, arith, rules, subst}
use Rattle.lg_client.specs.Meaning.Waiting.{closed_with, delay_of, most_closed, most_put_off}
use Rattle.lg_client.proofs.AskLaws.{fetched_by}
use Rattle.lg_client.proofs.AskerLaws.{asks_at_last, asks_till_closed, asks_till_heard, patient_begins, patient_more}
use Rattle.lg_client.proofs.asker.ask_again.Goals as goal

pub loop-turn-init : goal.loop-turn-init
loop-turn-init g c = record { few = omega arith; patient = λ _. patient_begins _ }

pub returns-in_default : goal.returns-in_default
returns-in_default g c =
    let none : delay_of c.ask-outcome.result ≡ None = search rules in
    record {
      heard = fetched_by _ c.ask-outcome.result _ c.ask-outcome.ensures.heard c.told.ensures;
      asked = λ tells. asks_till_heard _ _ _ _ _ c.ask-outcome.result _ (c.loop-turn.invariant.patient tells) (c.ask-outcome.ensures.told tells) c.told.ensures none;
    }

pub returns-then-closed-ge-MOST_CLOSED : goal.returns-then-closed-ge-MOST_CLOSED
returns-then-closed-ge-MOST_CLOSED g c =
    let busy : delay_of c.ask-outcome.result ≡ Some c.in-Some.delay = search rules in
    let Many : ℕ → Type 0 = λ n. most_closed ≤ n in
    let reached : Many c.closed_with-closed.result = omega arith in
    let many : Many (closed_with c.loop-turn.closed c.in-Some.delay) = subst Many c.closed_with-closed.ensures reached in
    record {
      heard = fetched_by _ c.ask-outcome.result _ c.ask-outcome.ensures.heard c.told-then-closed-ge-MOST_CLOSED.ensures;
      asked = λ tells. asks_till_closed _ _ _ _ _ c.ask-outcome.result c.in-Some.delay _ (c.loop-turn.invariant.patient tells) (c.ask-outcome.ensures.told tells)
          c.told-then-closed-ge-MOST_CLOSED.ensures busy c.loop-turn.invariant.few many;
    }

pub loop-turn-preserved : goal.loop-turn-preserved
loop-turn-preserved g c =
    let busy : delay_of c.ask-outcome.result ≡ Some c.in-Some.delay = search rules in
    record {
      few = omega arith;
      patient = λ tells. let waited = rw c.seconds.ensures at (c.wait.ensures.told tells) in
          rw c.closed_with-closed.ensures (patient_more _ _ _ _ _ _ c.ask-outcome.result c.in-Some.delay (c.loop-turn.invariant.patient tells)
          (c.ask-outcome.ensures.told tells) busy waited);
    }

pub returns : goal.returns
returns g c =
    let many : most_put_off ≤ c.loop-turn.turn = omega arith in
    record {
      heard = c.ask_once.ensures.heard;
      asked = λ tells. asks_at_last _ _ _ _ _ _ (c.loop-turn.invariant.patient tells) many (c.ask_once.ensures.asked tells);
    }
