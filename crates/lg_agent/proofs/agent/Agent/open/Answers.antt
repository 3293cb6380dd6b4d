use Rattle.std.proofs.Common.{◌≡◌, ◌≤◌, ◌∷◌, [], List, All, length, ap, refl, ◌∙◌, subst, arith}
use Rattle.std.proofs.lemmas.List.{take_at}
use Rattle.lg_detector.specs.declared.event.Event.{Event}
use Rattle.lg_detector.specs.declared.event.Event.TheVariants.{Open}
use Rattle.lg_agent.specs.Meaning.Values.{all_events}
use Rattle.lg_agent.proofs.PassLaws.{all_begin}
use Rattle.lg_agent.proofs.agent.Agent.open.Goals as goal

pub returns-clause-told : goal.returns-clause-told
returns-clause-told g c =
    let long = c.tell_all.ensures.count ∙ c.as_mut_slice.ensures.len in
    let e : Event = Open c.args.now c.args.config in
    let f : all_events c.in_ok-kept.kept ≡ e ∷ [] = ap all_events c.in_ok-kept.ensures.kept in
    let told : All (λ k. k ≡ e ∷ []) c.tell_all.new.looks = subst (λ (h : List Event). All (λ k. k ≡ h) c.tell_all.new.looks) f c.tell_all.ensures.told in
    rw (take_at c.tell_all.new.looks _ _ long) (long ∙ c.in_ok-kept.ensures.looks.0, told)

pub invariant_of-result : goal.invariant_of-result
invariant_of-result g c =
    let long = c.tell_all.ensures.count ∙ c.as_mut_slice.ensures.len in
    let e : Event = Open c.args.now c.args.config in
    let f : all_events c.in_ok-kept.kept ≡ e ∷ [] = ap all_events c.in_ok-kept.ensures.kept in
    let told : All (λ k. k ≡ e ∷ []) c.tell_all.new.looks = subst (λ (h : List Event). All (λ k. k ≡ h) c.tell_all.new.looks) f c.tell_all.ensures.told in
    let few : length c.tell_all.new.looks ≤ g.A.AgentName.places = omega (arith, long ∙ c.in_ok-kept.ensures.looks.0, c.requires.places.2) in
    rw (take_at c.tell_all.new.looks _ _ long) (all_begin (e ∷ []) c.tell_all.new.looks refl told, few)
