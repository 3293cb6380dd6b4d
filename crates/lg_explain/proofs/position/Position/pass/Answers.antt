use Rattle.std.proofs.Common.{refl, ap, ◌∙◌, ℕ, max, ◌≤◌, arith}
use Rattle.lg_explain.proofs.position.Position.pass.Goals as goal

pub returns : goal.returns
returns c =
    let later : c.args.self.now.greatest ≤ c.later-self.result = omega (arith, c.later-self.ensures) in
    record {
      known = refl;
      number = c.in_ok-self.ensures;
      begins = refl;
      greatest = c.later-self.ensures ∙ ap (λ (n : ℕ). max c.args.self.now.greatest n) c.moment_of_event.ensures;
      watch = c.behind-self.ensures;
      ends = λ all keeps. c.in_ok-add_end.ensures c.args.self.now.greatest all later keeps;
      stood = λ all keeps. c.in_ok-add_stood.ensures c.args.self.now.greatest all later keeps;
    }
