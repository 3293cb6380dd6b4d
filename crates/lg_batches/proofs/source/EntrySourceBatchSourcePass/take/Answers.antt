use Rattle.std.proofs.Common.{◌≡◌, ℕ, false, length, refl}
use Rattle.std.specs.Prelude.{Result, Ok, Err, IfOk, is_err}
use Rattle.lg_agent.specs.declared.refusal.Refusal.{Refusal}
use Rattle.lg_agent.specs.Meaning.Calls.{IsCutOff, IsRotatedPass}
use Rattle.lg_batches.proofs.source.EntrySourceBatchSourcePass.take.Goals as goal

-- what holds of an answer that is no error
answered : (P : ℕ → Type 0) (r : Result ℕ Refusal) → is_err r ≡ false → IfOk r P → (n : ℕ) × P n
answered P (Ok n) fine is = (n, is)
answered P (Err e) fine is = absurd cc

pub returns-clause-taking : goal.returns-clause-taking
returns-clause-taking g c =
    let fine : is_err c.rotate_into.result ≡ false = cc in
    let rotated = answered (λ n. IsRotatedPass c.args.pass.now c.rotate_into.new.self) c.rotate_into.result fine c.rotate_into.ensures.rotated in
    let handed = answered (λ n. (n ≡ length c.rotate_into.new.into.entries) × IsCutOff g.A.AgentName.places c.rotate_into.new.into) c.rotate_into.result fine c.rotate_into.ensures.handed in
    let subject = c.args.self.now.subject in (
      rotated.1,
      record {
        subject = record { config = subject.config.now; text = subject.text.now; program = subject.program.now };
        wall_ms = c.wall_time-self.result;
        moment = c.now-self.result;
        stood_still_ms = c.behind-self.result.since_ms;
        cut = c.rotate_into.new.into;
        is = refl;
        right = handed.1.1;
      },
    )
