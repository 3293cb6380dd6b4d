-- What is known of a life behind an event, and at the beginning of a file.
use Rattle.std.proofs.Common.{◌≡◌, Bool, true, false, List, [], ◌∷◌, ◌++◌, Option, Some, None, refl, sym, ap, subst, ◌∙◌}
use Rattle.std.specs.Prelude.{if◌then◌else◌}
use Rattle.lg_detector.specs.Meaning.Step.{is_accepted, reply_after}
use Rattle.lg_detector.specs.Support.Step.{state_after}
use Rattle.lg_detector.specs.declared.event.Event.{Event}
use Rattle.lg_detector.specs.declared.reply.Reply.{Reply}
use Rattle.lg_replay.specs.Meaning.Lives.{due_reply, past_with}
use Rattle.lg_replay.specs.Support.Known.{HoldsPast, IsBehind, IsDue}
use Rattle.lg_replay.specs.declared.known.Known.{Known}

two : {A : Type 0} (b : Bool) → b ≡ true → b ≡ false → A
two b was isnt = let both : true ≡ false = sym was ∙ isnt in absurd cc

-- ---- an event

pub unknown_past : (k : Known) (past : Option (List Event)) (e : Event) → k.is_known ≡ false → HoldsPast k past → HoldsPast k (past_with past e)
unknown_past k None e isnt holds = isnt
unknown_past k (Some f) e isnt holds = two k.is_known holds.known isnt

pub unknown_due : (k : Known) (past : Option (List Event)) (e : Event) (r : Reply) → k.is_known ≡ false → HoldsPast k past → due_reply past e ≡ None
unfolding due_reply
unknown_due k None e r isnt holds = refl
unknown_due k (Some f) e r isnt holds = two k.is_known holds.known isnt

pub refused_past : (old new : Known) (past : Option (List Event)) (e : Event)
    → ((f : List Event) → is_accepted f ≡ true → old.detector ≡ state_after f → false ≡ is_accepted (f ++ e ∷ []))
    → new.is_known ≡ false → HoldsPast old past → HoldsPast new (past_with past e)
refused_past old new None e refused isnt holds = isnt
refused_past old new (Some f) e refused isnt holds =
    subst (λ (b : Bool). HoldsPast new (if b then Some (f ++ e ∷ []) else None)) (refused f holds.accepted holds.detector) isnt

pub refused_due : (old : Known) (past : Option (List Event)) (e : Event) (r : Reply)
    → ((f : List Event) → is_accepted f ≡ true → old.detector ≡ state_after f → false ≡ is_accepted (f ++ e ∷ []))
    → HoldsPast old past → IsDue false r (due_reply past e)
unfolding due_reply
refused_due old None e r refused holds = refl
refused_due old (Some f) e r refused holds =
    subst (λ (b : Bool). IsDue false r (if b then Some (reply_after f e) else None)) (refused f holds.accepted holds.detector) refl

pub accepted_past : (old new : Known) (past : Option (List Event)) (e : Event) → old.is_known ≡ true
    → ((f : List Event) → is_accepted f ≡ true → old.detector ≡ state_after f → true ≡ is_accepted (f ++ e ∷ []))
    → new.is_known ≡ true → ((f : List Event) → old.detector ≡ state_after f → new.detector ≡ state_after (f ++ e ∷ []))
    → HoldsPast old past → HoldsPast new (past_with past e)
accepted_past old new None e was accepted known leads holds = two old.is_known was holds
accepted_past old new (Some f) e was accepted known leads holds =
    let fits = accepted f holds.accepted holds.detector in
    let behind : IsBehind new (f ++ e ∷ []) = record { known = known; detector = leads f holds.detector; accepted = sym fits } in
    subst (λ (b : Bool). HoldsPast new (if b then Some (f ++ e ∷ []) else None)) fits behind

pub accepted_due : (old : Known) (past : Option (List Event)) (e : Event) (r : Reply) → old.is_known ≡ true
    → ((f : List Event) → is_accepted f ≡ true → old.detector ≡ state_after f → true ≡ is_accepted (f ++ e ∷ []))
    → ((f : List Event) → old.detector ≡ state_after f → r ≡ reply_after f e)
    → HoldsPast old past → IsDue true r (due_reply past e)
unfolding due_reply
accepted_due old None e r was accepted answers holds = two old.is_known was holds
accepted_due old (Some f) e r was accepted answers holds =
    subst (λ (b : Bool). IsDue true r (if b then Some (reply_after f e) else None)) (accepted f holds.accepted holds.detector)
    (ap (λ (x : Reply). Some x) (sym (answers f holds.detector)))
