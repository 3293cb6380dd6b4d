-- A summary of a list of events leads on as the list does.
use Rattle.std.proofs.Common.{◌≡◌, ◌+◌, Bool, true, false, ◌&&◌, ◌||◌, not, List, [], ◌∷◌, ◌++◌, length, refl, ap, sym, ◌∙◌, arith, append_assoc, append-nil, length-append}
use Rattle.std.specs.Prelude.{nat_le}
use Rattle.std.specs.List.{list_any}
use Rattle.std.proofs.lemmas.Bool.Decides.{nat_tests}
use Rattle.std.proofs.lemmas.List.Folds.{list_any-append}
use Rattle.lg_detector.specs.declared.event.Event.{Event}
use Rattle.lg_detector.specs.Meaning.Step.{is_open_event, opens_well, is_accepted, most_events, reply_after}
use Rattle.lg_detector.specs.Support.State.{State}
use Rattle.lg_detector.specs.Support.Step.{state_after, accepts_of, reply_state}
use Rattle.lg_detector.specs.Support.Summary.{IsSummary, led_on, answer_from}
use Rattle.lg_detector.proofs.Accepting.{accepts-after}
use Rattle.lg_detector.proofs.StepLaws.{step-after, reply-of}

fewer : (well some more few all : Bool) → (well && (not (some || more) && all)) ≡ true → (all ≡ true → few ≡ true) → (well && (not some && few)) ≡ true
fewer true false false few true e le = le refl
fewer true false false few false e le = absurd cc
fewer true false true few all e le = absurd cc
fewer true true more few all e le = absurd cc
fewer false some more few all e le = absurd cc

-- a front of an accepted list is accepted
pub accepted_front : (f g : List Event) → is_accepted (f ++ g) ≡ true → is_accepted f ≡ true
accepted_front [] g accepted = refl
accepted_front (x ∷ f) g accepted =
    let shut = list_any-append is_open_event f g in
    let whole : (opens_well x && (not (list_any is_open_event f || list_any is_open_event g) && nat_le (length (f ++ g) + 1) most_events)) ≡ true =
    ap (λ (b : Bool). opens_well x && (not b && nat_le (length (f ++ g) + 1) most_events)) (sym shut) ∙ accepted in
    fewer (opens_well x) (list_any is_open_event f) (list_any is_open_event g) (nat_le (length f + 1) most_events) (nat_le (length (f ++ g) + 1) most_events) whole
    (λ is. let long = length-append f g in grind (arith, nat_tests, is, long))

pub led_on-after : (f g : List Event) → is_accepted (f ++ g) ≡ true → led_on (state_after f) g ≡ state_after (f ++ g)
led_on-after f [] accepted = ap state_after (sym (append-nil f))
led_on-after f (e ∷ g) accepted =
    let again : (f ++ e ∷ []) ++ g ≡ f ++ e ∷ g = append_assoc f (e ∷ []) g in
    let whole : is_accepted ((f ++ e ∷ []) ++ g) ≡ true = ap is_accepted again ∙ accepted in
    let one : is_accepted (f ++ e ∷ []) ≡ true = accepted_front (f ++ e ∷ []) g whole in
    let takes : accepts_of (state_after f) e ≡ true = accepts-after f e (accepted_front f (e ∷ []) one) ∙ one in
    ap (λ (s : State). led_on s g) (step-after f e takes) ∙ (led_on-after (f ++ e ∷ []) g whole ∙ ap state_after again)

pub answer_from-after : (s : State) (f g : List Event) (e : Event) → IsSummary s f → is_accepted (f ++ g) ≡ true → answer_from s g e ≡ reply_after (f ++ g) e
answer_from-after s f g e is accepted =
    ap (λ (t : State). reply_state (led_on t g) e) is
    ∙ (ap (λ (t : State). reply_state t e) (led_on-after f g accepted)
    ∙ reply-of (f ++ g) e)
