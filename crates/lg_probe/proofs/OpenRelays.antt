-- The relays that are open after one more fact.
use Rattle.std.proofs.Common.{◌≡◌, Bool, true, false, not, cond, ◌||◌, List, [], ◌∷◌, ◌++◌, refl, sym, ◌∙◌, ap}
use Rattle.std.specs.Prelude.{filter}
use Rattle.std.specs.List.{list_any}
use Rattle.std.proofs.lemmas.List.Elements.{filter-append}
use Rattle.std.proofs.lemmas.List.Folds.{list_any-append}
use Rattle.lg_probe.specs.declared.relays.Relay.{Relay}
use Rattle.lg_probe.specs.Meaning.Relays.{RelayFact, Opened, TargetAcked, Closed, ends, relays_since, relays_after}
use Rattle.lg_probe.specs.Support.Relays.{relays_with}

-- whether a fact leaves a relay open
abbrev is_left : RelayFact → Relay → Bool
is_left f r = not (ends r f)

-- a relay stays through some facts and one more where it stays through those, and that one leaves it open
stays-more : (f : RelayFact) (later : List RelayFact) (r : Relay) → cond (list_any (ends r) (later ++ f ∷ [])) [] (r ∷ []) ≡ filter (is_left f) (cond (list_any (ends r) later) [] (r ∷ []))
stays-more f later r = ap (λ b. cond b [] (r ∷ [])) (list_any-append (ends r) later (f ∷ [])) ∙ step (list_any (ends r) later) (ends r f) refl
  where
    step : (b e : Bool) → ends r f ≡ e → cond (b || (e || false)) [] (r ∷ []) ≡ filter (is_left f) (cond b [] (r ∷ []))
    step true e h = refl
    step false true h = rw h refl
    step false false h = rw h refl

-- one more later fact leaves those that it doesn't end
since-more : (f : RelayFact) (later past : List RelayFact) → relays_since (later ++ f ∷ []) past ≡ filter (is_left f) (relays_since later past)
since-more f later [] = refl
since-more f later (Opened r ∷ past) =
    ap (λ rs. rs ++ cond (list_any (ends r) (later ++ f ∷ [])) [] (r ∷ [])) (since-more f (Opened r ∷ later) past)
    ∙ ap (λ rs. filter (is_left f) (relays_since (Opened r ∷ later) past) ++ rs) (stays-more f later r)
    ∙ sym (filter-append (is_left f) (relays_since (Opened r ∷ later) past) (cond (list_any (ends r) later) [] (r ∷ [])))
since-more f later (TargetAcked number sender ∷ past) = since-more f (TargetAcked number sender ∷ later) past
since-more f later (Closed number ∷ past) = since-more f (Closed number ∷ later) past

filter-all : (rs : List Relay) → filter (λ r. true) rs ≡ rs
filter-all [] = refl
filter-all (r ∷ rs) = ap (λ ss. r ∷ ss) (filter-all rs)

-- the open relays after one more fact: what that fact does to those open before it
pub relays_after-push : (f : RelayFact) (past : List RelayFact) → relays_after (f ∷ past) ≡ relays_with (relays_after past) f
relays_after-push (Opened r) past = ap (λ rs. rs ++ r ∷ []) (since-more (Opened r) [] past ∙ filter-all (relays_since [] past))
relays_after-push (TargetAcked number sender) past = since-more (TargetAcked number sender) [] past
relays_after-push (Closed number) past = since-more (Closed number) [] past
