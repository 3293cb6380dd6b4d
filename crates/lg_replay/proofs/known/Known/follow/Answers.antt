use Rattle.std.proofs.Common.{◌≡◌, List, true, false, sym, ◌∙◌, arith}
use Rattle.lg_detector.specs.Meaning.Step.{is_accepted}
use Rattle.lg_detector.specs.Support.Step.{state_after}
use Rattle.lg_detector.specs.declared.event.Event.{Event}
use Rattle.lg_replay.proofs.KnownLaws.{accepted_due, refused_due, unknown_due}
use Rattle.lg_replay.proofs.known.Known.follow.Goals as goal

pub returns-then-not-self-clause-due : goal.returns-then-not-self-clause-due
returns-then-not-self-clause-due c = λ past holds.
    let isnt : c.args.self.now.is_known ≡ false = grind arith in
    unknown_due c.args.self.now past c.args.event.now c.args.reply.now isnt holds

pub returns-then-not-accepts-clause-due : goal.returns-then-not-accepts-clause-due
returns-then-not-accepts-clause-due c = λ past holds.
    let isnt : c.accepts.result ≡ false = grind arith in
    refused_due c.args.self.now past c.args.event.now c.args.reply.now
    (λ (f : List Event) (good : is_accepted f ≡ true) (at : c.args.self.now.detector ≡ state_after f). sym isnt ∙ c.accepts.ensures.list f good at)
    holds

pub returns-clause-due : goal.returns-clause-due
returns-clause-due c = λ past holds.
    let was : c.args.self.now.is_known ≡ true = grind arith in
    let does : c.accepts.result ≡ true = grind arith in
    accepted_due c.args.self.now past c.args.event.now c.step.new.reply was
    (λ (f : List Event) (good : is_accepted f ≡ true) (at : c.args.self.now.detector ≡ state_after f). sym does ∙ c.accepts.ensures.list f good at)
    c.step.ensures.answer holds
