-- How legal histories begin and grow.
use Rattle.std.proofs.Common.{◌≡◌, ℕ, zero, suc, ◌+◌, ◌<◌, ◌≤◌, Bool, true, false, ◌&&◌, not, List, [], ◌∷◌, ◌++◌, length, All, refl, ap, sym, ◌∙◌, arith, append_assoc, append-nil, length-append, take, Some}
use Rattle.std.specs.List.{list_any, slice_get}
use Rattle.std.proofs.lemmas.List.Elements.{All-append, All-nil}
use Rattle.std.proofs.lemmas.List.Folds.{list_any-append}
use Rattle.lg_timing.specs.declared.config.Config.{Config}
use Rattle.lg_timing.specs.Meaning.Config.{IsChecked}
use Rattle.lg_detector.specs.declared.event.Event.{Event}
use Rattle.lg_detector.specs.declared.event.Event.TheVariants.{Open}
use Rattle.lg_detector.specs.declared.reply.Reply.{Reply}
use Rattle.lg_detector.specs.Meaning.Step.{is_accepted, is_open_event, opens_well, most_events, reply_after}
use Rattle.lg_history.specs.Meaning.History.{Entry, entry, events, Answered, IsSeat, Seated, IsLegal}

pub events-append : (h : List Entry) (x : Entry) → events (h ++ x ∷ []) ≡ events h ++ x.event ∷ []
events-append [] x = refl
events-append (y ∷ h) x = ap (λ (l : List Event). y.event ∷ l) (events-append h x)

pub length-events : (h : List Entry) → length (events h) ≡ length h
length-events [] = refl
length-events (y ∷ h) = ap suc (length-events h)

pub answered-append : (f : List Event) (h : List Entry) (x : Entry) → Answered f h → x.reply ≡ reply_after (f ++ events h) x.event → Answered f (h ++ x ∷ [])
answered-append f [] x answered is = (is ∙ ap (λ (l : List Event). reply_after l x.event) (append-nil f), tt)
answered-append f (y ∷ h) x answered is =
    let further : x.reply ≡ reply_after ((f ++ y.event ∷ []) ++ events h) x.event = is ∙ ap (λ (l : List Event). reply_after l x.event) (sym (append_assoc f (y.event ∷ []) (events h))) in
    (answered.0, answered-append (f ++ y.event ∷ []) h x answered.1 further)

-- the reply at each place, by the events before it
pub answered-at : (f : List Event) (h : List Entry) (n : ℕ) (x : Entry) → Answered f h → slice_get h n ≡ Some x → x.reply ≡ reply_after (f ++ take n (events h)) x.event
answered-at f [] n x answered is = absurd cc
answered-at f (y ∷ h) zero x answered is =
    let same : y ≡ x = cc is in
    rw (← same, append-nil f) answered.0
answered-at f (y ∷ h) (suc n) x answered is =
    answered-at (f ++ y.event ∷ []) h n x answered.1 is
    ∙ ap (λ (l : List Event). reply_after l x.event) (append_assoc f (y.event ∷ []) (take n (events h)))

pub all_one : {A : Type 0} (P : A → Type 0) (x : A) → P x → All P (x ∷ [])
all_one P x p zero d h = p
all_one P x p (suc k) d h = absurd (omega arith)

pub seated-append : (places : ℕ) (h : List Entry) (x : Entry) → Seated places h → IsSeat places x → Seated places (h ++ x ∷ [])
seated-append places [] x seated is = absurd seated
seated-append places (y ∷ h) x seated is = (seated.0, All-append (IsSeat places) h (x ∷ []) seated.1 (all_one (IsSeat places) x is))

-- An accepted list that isn't empty goes on by an event that opens nothing, where it isn't full.
all_three : (first rest few : Bool) → (first && (not rest && few)) ≡ true → (first ≡ true) × (rest ≡ false)
all_three true true few e = absurd cc
all_three true false few e = (refl, refl)
all_three false rest few e = absurd cc

three : (first rest few : Bool) → first ≡ true → rest ≡ false → few ≡ true → (first && (not rest && few)) ≡ true
three first rest few a b c = rw (a, b, c) refl

pub accepted-append : (x : Event) (f : List Event) (e : Event) → is_accepted (x ∷ f) ≡ true → is_open_event e ≡ false → length f + 1 < most_events → is_accepted (x ∷ (f ++ e ∷ [])) ≡ true
accepted-append x f e accepted shut few =
    let are = all_three (opens_well x) (list_any is_open_event f) _ accepted in
    let later : list_any is_open_event (f ++ e ∷ []) ≡ false = list_any-append is_open_event f (e ∷ []) ∙ rw (are.1, shut) refl in
    let longer : length (f ++ e ∷ []) + 1 ≤ most_events = omega (arith, length-append f (e ∷ [])) in
    three (opens_well x) (list_any is_open_event (f ++ e ∷ [])) _ are.0 later (grind arith)

-- the events of a legal history that isn't full are accepted with one more that opens nothing
pub may_follow : (places : ℕ) (h : List Entry) (e : Event) → IsLegal places h → is_open_event e ≡ false → length h < most_events → is_accepted (events h ++ e ∷ []) ≡ true
may_follow places [] e legal shut few = absurd legal.seated
may_follow places (y ∷ h) e legal shut few = accepted-append y.event (events h) e legal.accepted shut (omega (arith, length-events h))

pub grown : (places seat : ℕ) (h : List Entry) (e : Event) (r : Reply) → IsLegal places h → is_open_event e ≡ false → length h < most_events → 0 < seat → seat ≤ places → r ≡ reply_after (events h) e → IsLegal places (h ++ entry seat e r ∷ [])
grown places seat h e r legal shut few low high is = record {
  accepted = ap is_accepted (events-append h (entry seat e r)) ∙ may_follow places h e legal shut few;
  seated = seated-append places h (entry seat e r) legal.seated (low, high);
  answered = answered-append [] h (entry seat e r) legal.answered is;
}

pub opened : (places now : ℕ) (config : Config) (r : Reply) → IsChecked config → r ≡ reply_after [] (Open now config) → IsLegal places (entry 0 (Open now config) r ∷ [])
opened places now config r good is = record {
  accepted = rw (good) refl;
  seated = (refl, All-nil (IsSeat places));
  answered = (is, tt);
}
