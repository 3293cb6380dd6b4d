use Rattle.std.proofs.Common.{◌≡◌, ◌+◌, ◌∷◌, ◌++◌, List, [], length, rules, subst, sym, ap, ◌∙◌, true}
use Rattle.lg_changes.specs.declared.change.Change.{Change}
use Rattle.lg_changes.specs.Meaning.Kept.{KeepsNewest}
use Rattle.lg_detector.specs.declared.event.Event.{Event}
use Rattle.lg_detector.specs.Meaning.Step.{reply_after}
use Rattle.lg_detector.specs.Support.Step.{state_after, accepts_of}
use Rattle.lg_view.specs.Meaning.Changes.{changes_at, changes_of}
use Rattle.lg_view.proofs.AdvanceLaws.{lacks_one, accepts_next, after_next}
use Rattle.lg_view.proofs.ChangeLaws.{changes_next}
use Rattle.lg_view.proofs.published.Published.advance.Goals as goal

pub step-requires : goal.step-requires
step-requires g c =
    let f = c.self.inside.front in
    let all = c.added.inside.front in
    let e = c.added.inside.event.value in
    let long : length f + 1 ≡ length all = search rules in
    let ok : accepts_of (state_after f) e ≡ true = accepts_next f all c.added.invariant.0 e c.begins.ensures c.added.invariant.1 long c.len.ensures.accepted c.len-2.ensures.accepted in
    rw (c.deref.ensures, c.self.invariant.0) ok

pub invariant_of-self : goal.invariant_of-self
invariant_of-self g c =
    let f = c.self.inside.front in
    let all = c.added.inside.front in
    let e = c.added.inside.event.value in
    let long : length f + 1 ≡ length all = search rules in
    let are : all ≡ f ++ e ∷ [] = lacks_one f all c.added.invariant.0 e c.begins.ensures c.added.invariant.1 long in
    let then = c.step.ensures.after f c.self.invariant.0 in
    let after : c.step.new.self ≡ state_after all = after_next c.step.new.self f all e c.deref.result.now then c.deref.ensures are in
    let same : c.deref.result.now ≡ c.deref-then-len.result.now = c.deref.ensures ∙ sym c.deref-then-len.ensures in
    let to = c.deref-then-len.result.now in
    let stepped : c.step.new.self ≡ state_after (f ++ to ∷ []) = then ∙ ap (λ (x : Event). state_after (f ++ x ∷ [])) same in
    let replied : c.deref-then-len-2.result.now ≡ reply_after f to =
    c.deref-then-len-2.ensures ∙ c.step.ensures.answer f c.self.invariant.0
    ∙ ap (λ (x : Event). reply_after f x) same in
    let many : c.len-then-len.result ≡ length f + 1 = c.len-then-len.ensures.length ∙ ap length c.copy.ensures ∙ sym long in
    let kept : KeepsNewest c.keep_changes.new.changes (changes_of f ++ changes_at f to)
    = c.keep_changes.ensures f (changes_of f) stepped replied many c.self.invariant.1 in
    let whole : f ++ to ∷ [] ≡ c.copy.result = ap (λ (x : Event). f ++ x ∷ []) c.deref-then-len.ensures ∙ sym are ∙ sym c.copy.ensures in (
      after ∙ ap state_after (sym c.copy.ensures),
      subst (λ (l : List Change). KeepsNewest c.keep_changes.new.changes l) (sym (changes_next f to) ∙ ap changes_of whole) kept,
    )
