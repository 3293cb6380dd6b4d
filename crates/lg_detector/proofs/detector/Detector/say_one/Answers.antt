use Rattle.std.proofs.Common.{[], ◌∷◌, Option, ap, arith, refl, subst, sym, ◌∙◌}
use Rattle.std.specs.Option.{option_to_list}
use Rattle.lg_rules.specs.declared.claim.Claim.{Claim}
use Rattle.lg_rules.specs.Meaning.View.{changed}
use Rattle.lg_membership.specs.declared.origin.Origin.TheVariants.{Group}
use Rattle.lg_detector.specs.Support.Reached.{IsReached}
use Rattle.lg_detector.specs.Support.State.{apply_all_state}
use Rattle.lg_detector.specs.Support.Step.{view_state}
use Rattle.lg_detector.proofs.Applying.{begins, goes_on_by, all_differing}
use Rattle.lg_detector.proofs.detector.Detector.say_one.Goals as goal

pub returns-in-Some-clause-differing : goal.returns-in-Some-clause-differing
returns-in-Some-clause-differing c =
    let s = c.args.self.now in
    let claims = c.in-Some.claim ∷ [] in
    let reached : IsReached s = subst IsReached c.self.view_is c.self.invariant in
    let after : Option Claim → _ = λ (o : Option Claim). changed (view_state s) (view_state (apply_all_state Group (option_to_list o) s)) in
    all_differing s c.apply-changed.new.self claims 1 c.put_changed.new.differing.items reached
    (
    goes_on_by s s c.apply-changed.new.self claims 0 c.clear.new.self.items c.put_changed.new.differing.items c.in-Some.claim c.apply-changed.result
    (begins s claims c.clear.new.self.items reached c.clear.ensures) (omega arith) refl c.apply-changed.ensures.state c.apply-changed.ensures.changes c.put_changed.ensures
    )
    (omega arith)
    ∙ ap after (sym c.in-Some.is)

pub returns-in-None-clause-differing : goal.returns-in-None-clause-differing
returns-in-None-clause-differing c =
    let s = c.args.self.now in
    let reached : IsReached s = subst IsReached c.self.view_is c.self.invariant in
    let after : Option Claim → _ = λ (o : Option Claim). changed (view_state s) (view_state (apply_all_state Group (option_to_list o) s)) in
    all_differing s s [] 0 c.clear.new.self.items reached (begins s [] c.clear.new.self.items reached c.clear.ensures) (omega arith)
    ∙ ap after (sym c.in-None.is)
