-- What is published after the update with the event that waits.
use Rattle.std.proofs.Common.{◌≡◌, ◌+◌, List, [], ◌∷◌, ◌++◌, length, fold, Option, None, Some, MatchOption, refl, ap, sym, subst, ◌∙◌, arith, append-nil, length-append}
use Rattle.std.proofs.lemmas.Bool.Decides.{nat_tests}
use Rattle.lg_detector.specs.declared.event.Event.{Event}
use Rattle.lg_view.specs.Meaning.Views.{FeedValue}
use Rattle.lg_view.specs.Support.Updates.{AddedValue, taken_events, waiting_of}

taken-append_one : (f : List Event) (us : List (Option AddedValue)) (u : Option AddedValue) → fold taken_events f (us ++ u ∷ []) ≡ taken_events (fold taken_events f us) u
taken-append_one f [] u = refl
taken-append_one f (v ∷ us) u = taken-append_one (taken_events f v) us u

taken_next : (f : List Event) (a : AddedValue) → a.events ≡ f ++ a.event ∷ [] → taken_events f (Some a) ≡ a.events
taken_next f a ends =
    let long : length f + 1 ≡ length a.events = sym (ap length ends ∙ length-append f (a.event ∷ [])) in
    grind (arith, nat_tests)

-- the event that waits goes on from what is published
pub waiting_next : (o : Option AddedValue) (a : AddedValue) (front old : List Event) → o ≡ Some a → front ≡ old
    → MatchOption o (Unit {0}) (λ a. a.events ≡ front ++ a.event ∷ []) → a.events ≡ old ++ a.event ∷ []
waiting_next None a front old some same ends = absurd cc
waiting_next (Some b) a front old some same ends =
    let here : b ≡ a = cc in
    subst (λ (x : AddedValue). x.events ≡ old ++ x.event ∷ []) here (ends ∙ ap (λ (l : List Event). l ++ b.event ∷ []) same)

-- so its list is published next, where the updates before it left the list as it is
pub published_next : (a : AddedValue) (old before after : List Event) (us vs : List (Option AddedValue)) → a.events ≡ old ++ a.event ∷ []
    → before ≡ old → fold taken_events old us ≡ old → vs ≡ us ++ Some a ∷ [] → after ≡ fold taken_events before vs → after ≡ a.events
published_next a old before after us vs ends same kept more is =
    is ∙ ap (λ (l : List Event). fold taken_events l vs) same
    ∙ ap (fold taken_events old) more
    ∙ taken-append_one old us (Some a)
    ∙ ap (λ (l : List Event). taken_events l (Some a)) kept
    ∙ taken_next old a ends

-- what a contract sees of a feed
abbrev pub feed_value : List Event → List Event → FeedValue
feed_value events waiting = record { events = events; waiting = waiting }

-- a feed that had no event to publish
pub none_waited : (o n : Option AddedValue) (shown : List Event) (v : FeedValue) → feed_value shown (waiting_of o) ≡ v → o ≡ None → n ≡ None
    → feed_value shown (waiting_of n) ≡ feed_value (v.events ++ v.waiting) []
none_waited (Some a) n shown v view was is = absurd cc
none_waited None (Some a) shown v view was is = absurd cc
none_waited None None shown v view was is =
    subst (λ (w : FeedValue). feed_value shown [] ≡ feed_value (w.events ++ w.waiting) []) view (ap (λ (l : List Event). feed_value l []) (sym (append-nil shown)))

-- a feed after it published an event
pub one_waited : (o n : Option AddedValue) (a : AddedValue) (old shown : List Event) (v : FeedValue) → feed_value old (waiting_of o) ≡ v → o ≡ Some a → n ≡ None
    → a.events ≡ old ++ a.event ∷ [] → shown ≡ a.events → feed_value shown (waiting_of n) ≡ feed_value (v.events ++ v.waiting) []
one_waited None n a old shown v view was is ends next = absurd cc
one_waited (Some b) (Some d) a old shown v view was is ends next = absurd cc
one_waited (Some b) None a old shown v view was is ends next =
    let here : a ≡ b = cc in
    subst (λ (w : FeedValue). feed_value shown [] ≡ feed_value (w.events ++ w.waiting) []) view
    (ap (λ (l : List Event). feed_value l []) (next ∙ ends ∙ ap (λ (x : AddedValue). old ++ x.event ∷ []) here))
