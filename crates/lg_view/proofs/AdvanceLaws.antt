-- A detector that is after a front, and the next event.
use Rattle.std.proofs.Common.{◌≡◌, ◌+◌, true, List, [], ◌∷◌, ◌++◌, length, ap, sym, ◌∙◌, arith, length-append}
use mathlib.Core.List.{IsPrefix}
use Rattle.lg_detector.specs.declared.event.Event.{Event}
use Rattle.lg_detector.specs.Meaning.Step.{is_accepted}
use Rattle.lg_detector.specs.Support.State.{State}
use Rattle.lg_detector.specs.Support.Step.{state_after, accepts_of}
use Rattle.lg_detector.proofs.Accepting.{accepts-after}
use Rattle.lg_view.proofs.Fronts.{prefix_shorter, prefix_whole}

-- a front that is one event shorter, and begins the list that ends with an event, lacks that event alone
pub lacks_one : (f all before : List Event) (e : Event) → IsPrefix f all → all ≡ before ++ e ∷ [] → length f + 1 ≡ length all → all ≡ f ++ e ∷ []
lacks_one f all before e begins ends long =
    let n : length all ≡ length before + 1 = ap length ends ∙ length-append before (e ∷ []) in
    let front : IsPrefix before all = (e ∷ [], sym ends) in
    let same : f ≡ before = prefix_whole f before (prefix_shorter f before all begins front (omega arith)) (omega arith) in
    ends ∙ ap (λ (l : List Event). l ++ e ∷ []) (sym same)

-- such an event is accepted
pub accepts_next : (f all before : List Event) (e : Event) → IsPrefix f all → all ≡ before ++ e ∷ [] → length f + 1 ≡ length all → is_accepted f ≡ true → is_accepted all ≡ true → accepts_of (state_after f) e ≡ true
accepts_next f all before e begins ends long was good = accepts-after f e was ∙ (ap is_accepted (sym (lacks_one f all before e begins ends long)) ∙ good)

-- and a state that it was led on by is that after the longer front
pub after_next : (s : State) (f all : List Event) (e same : Event) → s ≡ state_after (f ++ same ∷ []) → same ≡ e → all ≡ f ++ e ∷ [] → s ≡ state_after all
after_next s f all e same after is are = after ∙ (ap (λ (x : Event). state_after (f ++ x ∷ [])) is ∙ ap state_after (sym are))
