use Rattle.std.proofs.Common.{◌≡◌, ◌∷◌, [], List, All, length, subst, arith}
use Rattle.lg_detector.specs.declared.event.Event.TheVariants.{Open}
use Rattle.lg_agent.specs.Meaning.Values.{PassValue}
use Rattle.lg_agent.specs.Meaning.Calls.{AreFresh}
use Rattle.lg_node.proofs.PassesLaws.{five_are, five_fresh}
use Rattle.lg_node.proofs.beginning.passes_of.Goals as goal

pub returns-in-Some-Some-Some-Some-Some : goal.returns-in-Some-Some-Some-Some-Some
returns-in-Some-Some-Some-Some-Some g c = λ config start name all.
    let it = c.in-Some-Some-Some-Some-Some in
    let r : PassValue = it.receiver in
    let t : PassValue = it.ticker in
    let a : PassValue = it.asker in
    let s : PassValue = it.status in
    let d : PassValue = it.recorder in
    let five : List PassValue = r ∷ t ∷ a ∷ s ∷ d ∷ [] in
    let len : length c.in-Ok.passes.items ≡ 5 = omega (arith, c.in-Ok.ensures.count, c.in-Ok.passes.ok, c.requires) in
    let are : c.in-Ok.passes.items ≡ five = five_are c.in-Ok.passes.items c.pop-recorder.new.self.items c.pop-status.new.self.items c.pop-asker.new.self.items c.pop-ticker.new.self.items c.pop-receiver.new.self.items r t a s d len
    (rw it.is-4 at c.pop-recorder.ensures.items) (rw it.is-3 at c.pop-status.ensures.items) (rw it.is-2 at c.pop-asker.ensures.items) (rw it.is-1 at c.pop-ticker.ensures.items) (rw it.is-0 at c.pop-receiver.ensures.items) in
    five_fresh config start r t a s d
    (subst (λ (ps : List PassValue). AreFresh config.name 0 ps) are (subst (λ n. AreFresh n 0 c.in-Ok.passes.items) name c.in-Ok.ensures.fresh))
    (subst (λ (ps : List PassValue). All (λ (p : PassValue). p.seen ≡ Open start config ∷ []) ps) are (c.in-Ok.ensures.seen (Open start config ∷ []) all))
