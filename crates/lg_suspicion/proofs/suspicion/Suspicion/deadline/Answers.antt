use Rattle.std.proofs.Common.{◌≡◌, ◌+◌, ◌∙◌, ap, rules}
use Rattle.lg_suspicion.specs.Meaning.Accusers.{deadline_of}
use Rattle.lg_suspicion.specs.Meaning.Parts.{deadline_of_parts}
use Rattle.lg_suspicion.proofs.AccuserLaws.{deadline-after}
use Rattle.lg_suspicion.proofs.KnownAccusers.{deadline-by_parts}
use Rattle.lg_suspicion.proofs.suspicion.Suspicion.deadline.Goals as goal

pub returns-clause-deadline : goal.returns-clause-deadline
returns-clause-deadline c =
    let here : c.milliseconds.result + c.after.result ≡ deadline_of_parts c.args.self.now = search rules in
    λ names known. here ∙ deadline-by_parts names c.args.self.now known

pub returns-clause-by_set : goal.returns-clause-by_set
returns-clause-by_set c =
    let here : c.milliseconds.result + c.after.result ≡ deadline_of_parts c.args.self.now = search rules in
    λ names past known e.
    here ∙ deadline-by_parts names c.args.self.now known ∙ ap deadline_of e
    ∙ deadline-after c.args.self.now.raised c.args.self.now.timeout past
