-- The fault of the first bad place.
use Rattle.std.proofs.Common.{◌≡◌, ℕ, Bool, true, false, cond, List, [], ◌∷◌, ◌++◌, Some, None, refl, sym, ap, ◌∙◌, append_assoc}
use Rattle.std.specs.Prelude.{unwrap_or}
use Rattle.std.proofs.lemmas.List.{append-nil}
use Rattle.lg_packet.specs.declared.fault.Fault.{Fault}
use Rattle.lg_packet.specs.declared.fault.Fault.TheVariants as faults
use Rattle.lg_packet.specs.Meaning.Fault.{Part, is_allowed, fault_at, brought, packet_parts, due_behind, due_after, fault_of_byte, fault_behind, first_fault, fault_of, Stands}

-- the first fault of bytes where these parts are due
abbrev pub fault_from : List ℕ → List Part → Fault
fault_from [] parts = faults.Short
fault_from (b ∷ bytes) [] = faults.Trailing
fault_from (b ∷ bytes) (part ∷ parts) = cond (is_allowed part b) (fault_from bytes (brought part b ++ parts)) (fault_at part)

pub due_after-push : (front : List ℕ) (parts : List Part) (b : ℕ) → due_after parts (front ++ b ∷ []) ≡ due_behind (due_after parts front) b
due_after-push [] parts b = refl
due_after-push (a ∷ front) parts b = due_after-push front (due_behind parts a) b

one_place : (parts : List Part) (b : ℕ) (bytes : List ℕ) → unwrap_or (fault_of_byte parts b) (fault_from bytes (due_behind parts b)) ≡ fault_from (b ∷ bytes) parts
one_place [] b bytes = refl
one_place (part ∷ parts) b bytes = step (is_allowed part b)
  where
    step : (good : Bool) → unwrap_or (cond good None (Some (fault_at part))) (fault_from bytes (brought part b ++ parts)) ≡ cond good (fault_from bytes (brought part b ++ parts)) (fault_at part)
    step true = refl
    step false = refl

pub by_places : (front bytes : List ℕ) → first_fault front bytes ≡ fault_from bytes (due_after packet_parts front)
unfolding first_fault fault_behind
by_places front [] = refl
by_places front (b ∷ bytes) =
    ap (λ (f : Fault). unwrap_or (fault_of_byte (due_after packet_parts front) b) f) (by_places (front ++ b ∷ []) bytes ∙ ap (fault_from bytes) (due_after-push front packet_parts b))
    ∙ one_place (due_after packet_parts front) b bytes

-- ---- the first bad place

first_place : (past front rest : List ℕ) (b : ℕ) (f : Fault) → ((before after : List ℕ) (a : ℕ) → before ++ a ∷ after ≡ front → fault_behind (past ++ before) a ≡ None)
    → fault_behind (past ++ front) b ≡ Some f → first_fault past (front ++ b ∷ rest) ≡ f
unfolding first_fault
first_place past [] rest b f stands bad =
    let here : fault_behind past b ≡ Some f = ap (λ (p : List ℕ). fault_behind p b) (sym (append-nil past)) ∙ bad in
    rw here refl
first_place past (a ∷ front) rest b f stands bad =
    let here : fault_behind past a ≡ None = ap (λ (p : List ℕ). fault_behind p a) (sym (append-nil past)) ∙ stands [] front a refl in
    let later = first_place (past ++ a ∷ []) front rest b f
    (λ before after c e. ap (λ (p : List ℕ). fault_behind p c) (append_assoc past (a ∷ []) before) ∙ stands (a ∷ before) after c (ap (λ (l : List ℕ). a ∷ l) e))
    (ap (λ (p : List ℕ). fault_behind p b) (append_assoc past (a ∷ []) front) ∙ bad) in
    rw here later

pub first_bad : (front rest : List ℕ) (b : ℕ) (f : Fault) → Stands front → fault_behind front b ≡ Some f → fault_of (front ++ b ∷ rest) ≡ f
unfolding fault_of
first_bad front rest b f stands bad = first_place [] front rest b f stands bad

no_place : (past bytes : List ℕ) → ((before after : List ℕ) (a : ℕ) → before ++ a ∷ after ≡ bytes → fault_behind (past ++ before) a ≡ None) → first_fault past bytes ≡ faults.Short
unfolding first_fault
no_place past [] stands = refl
no_place past (a ∷ bytes) stands =
    let here : fault_behind past a ≡ None = ap (λ (p : List ℕ). fault_behind p a) (sym (append-nil past)) ∙ stands [] bytes a refl in
    let later = no_place (past ++ a ∷ []) bytes
    (λ before after c e. ap (λ (p : List ℕ). fault_behind p c) (append_assoc past (a ∷ []) before) ∙ stands (a ∷ before) after c (ap (λ (l : List ℕ). a ∷ l) e)) in
    rw here later

pub none_bad : (bytes : List ℕ) → Stands bytes → fault_of bytes ≡ faults.Short
unfolding fault_of
none_bad bytes stands = no_place [] bytes stands
