-- An update that only makes room.
use Rattle.std.proofs.Common.{◌≡◌, List, [], ◌∷◌, ◌++◌, fold, Option, None, Result, Ok, Err, true, false, refl, ap, ◌∙◌}
use Rattle.std.specs.Prelude.{is_err, MatchResult}
use Rattle.lg_detector.specs.declared.event.Event.{Event}
use Rattle.lg_view.specs.Support.Updates.{AddedValue, taken_events}

taken-append_none : (f : List Event) (us : List (Option AddedValue)) → fold taken_events f (us ++ None ∷ []) ≡ fold taken_events f us
taken-append_none f [] = refl
taken-append_none f (u ∷ us) = taken-append_none (taken_events f u) us

-- where the updates before left the list as it is, those with one that only makes room do too
pub room_taken : (f : List Event) (us vs : List (Option AddedValue)) → vs ≡ us ++ None ∷ [] → fold taken_events f us ≡ f → fold taken_events f vs ≡ f
room_taken f us vs more same = ap (λ (l : List (Option AddedValue)). fold taken_events f l) more ∙ (taken-append_none f us ∙ same)

-- the same, where the list is named twice
pub room_kept : (f g : List Event) (us vs : List (Option AddedValue)) → g ≡ f → vs ≡ us ++ None ∷ [] → fold taken_events f us ≡ f → fold taken_events g vs ≡ g
room_kept f g us vs here more same = rw here (room_taken f us vs more same)

-- and where no update was put
pub none_kept : (f g : List Event) (us vs : List (Option AddedValue)) → g ≡ f → vs ≡ us → fold taken_events f us ≡ f → fold taken_events g vs ≡ g
none_kept f g us vs here more same = rw (here, more) same

-- what holds of a result that is no error, and of one that is
pub ok_arm : {A B : Type 0} (r : Result A B) (P : Type 0) (Q : B → Type 0) → is_err r ≡ false → MatchResult r (λ _. P) Q → P
ok_arm (Ok a) P Q is m = m
ok_arm (Err b) P Q is m = absurd cc

pub err_arm : {A B : Type 0} (r : Result A B) (P : Type 0) (R : B → Type 0) (Q : Type 0) → is_err r ≡ true → MatchResult r (λ _. P) (λ b. R b × Q) → Q
err_arm (Ok a) P R Q is m = absurd cc
err_arm (Err b) P R Q is m = m.1
