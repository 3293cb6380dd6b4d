-- How the history of a ledger begins, and how it grows.
use Rattle.std.proofs.Common.{◌≡◌, ℕ, ◌+◌, ◌<◌, ◌≤◌, Bool, true, false, ◌||◌, cond, leb, ltb, eqb, List, [], ◌∷◌, ◌++◌, length, Some, None, IsTrue, refl, ap, sym, ◌∙◌, subst, arith, inl, inr, ◌⊎◌, length-append, append_assoc, take}
use Rattle.std.proofs.lemmas.List.{take-append-le, take_all}
use Rattle.std.specs.Prelude.{is_ok, Result, Ok, Err, MatchResult, IfErr}
use mathlib.Core.List.{IsPrefix}
use Rattle.lg_timing.specs.declared.config.Config.{Config}
use Rattle.lg_timing.specs.Meaning.Config.{check_of, IsChecked}
use Rattle.lg_timing.proofs.ConfigLemmas.{ranges}
use Rattle.lg_detector.specs.declared.event.Event.{Event}
use Rattle.lg_detector.specs.declared.event.Event.TheVariants.{Open}
use Rattle.lg_detector.specs.Meaning.Step.{is_accepted, is_open_event, reply_after, most_events}
use Rattle.lg_detector.specs.Support.State.{State}
use Rattle.lg_detector.specs.Support.Step.{accepts_of, state_after}
use Rattle.lg_detector.proofs.Accepting.{accepts-after}
use Rattle.lg_history.specs.Meaning.History.{Entry, entry, events, Seated, IsLegal}
use Rattle.lg_history.specs.Meaning.Rest.{IsRest}
use Rattle.lg_history.proofs.Legal.{events-append, length-events, may_follow, opened}
use Rattle.lg_history.proofs.Rests.{whole_events, whole_length, rest_accepted, rest_grows}
use Rattle.lg_view.specs.Meaning.Views.{begins_open}
use Rattle.lg_agent.specs.declared.refusal.Refusal.{Refusal}
use Rattle.lg_agent.specs.declared.refusal.Refusal.TheVariants.{NoPlace, HistoryFull, NoMemory}
use Rattle.lg_agent.specs.Meaning.Values.{KeptValue, own_name, own_limit, count_of}
use Rattle.lg_agent.specs.Meaning.Calls.{refusal_of, IsRefusal}

-- the name stays where events follow
pub name-append : (f g : List Event) → 0 < length f → own_name (f ++ g) ≡ own_name f
name-append [] g some = absurd (omega (arith, some))
name-append (x ∷ f) g some = refl

pub limit-append : (f g : List Event) → 0 < length f → own_limit (f ++ g) ≡ own_limit f
limit-append [] g some = absurd (omega (arith, some))
limit-append (x ∷ f) g some = refl

seated_some : (places : ℕ) (h : List Entry) → Seated places h → 0 < length h
seated_some places [] seated = absurd seated
seated_some places (x ∷ h) seated = omega arith

-- A history that isn't full, of which the first entries may have been cut off, and the detector after its events, go on
-- by an event of a seat.
pub record GoesOn (places : ℕ) (past : List Event) (cut : List ℕ) (h : List Entry) (s : State) (seat : ℕ) (e : Event) (x : Entry) : Type 0 where
  pub accepts : IsTrue (accepts_of s e)
  pub accepted : is_accepted ((past ++ events h) ++ e ∷ []) ≡ true
  pub rest : IsRest places past cut (h ++ x ∷ [])
  pub events_are : past ++ events (h ++ x ∷ []) ≡ (past ++ events h) ++ e ∷ []
  pub counted : length (h ++ x ∷ []) ≡ length h + 1
  pub name : own_name (past ++ events (h ++ x ∷ [])) ≡ own_name (past ++ events h)
  pub limit : own_limit (past ++ events (h ++ x ∷ [])) ≡ own_limit (past ++ events h)

pub goes_on : (places : ℕ) (past : List Event) (cut : List ℕ) (h : List Entry) (s : State) (seat : ℕ) (e : Event) → IsRest places past cut h → s ≡ state_after (past ++ events h) → is_open_event e ≡ false → length h + length past < 4000000000 → 0 < seat → seat ≤ places
    → GoesOn places past cut h s seat e (entry seat e (reply_after (past ++ events h) e))
goes_on places past cut h s seat e rest after shut few low high =
    let x : Entry = entry seat e (reply_after (past ++ events h) e) in
    let w : List Entry = rest.gone ++ h in
    let whole : events w ≡ past ++ events h = whole_events places past cut h rest in
    let long : length w ≡ length h + length past = whole_length places past cut h rest in
    let some : 0 < length (past ++ events h) = let have = seated_some places w rest.legal.seated in let count = length-events w in let same : length (events w) ≡ length (past ++ events h) = ap length whole in omega (arith, have, count, same) in
    let accepted : is_accepted ((past ++ events h) ++ e ∷ []) ≡ true = sym (ap (λ (l : List Event). is_accepted (l ++ e ∷ [])) whole) ∙ may_follow places w e rest.legal shut (omega (arith, few, long)) in
    let are : past ++ events (h ++ x ∷ []) ≡ (past ++ events h) ++ e ∷ [] = ap (λ (l : List Event). past ++ l) (events-append h x) ∙ sym (append_assoc past (events h) (e ∷ [])) in
    record {
      accepts = ap (λ (t : State). accepts_of t e) after ∙ (accepts-after (past ++ events h) e (rest_accepted places past cut h rest) ∙ accepted);
      accepted = accepted;
      rest = rest_grows places seat past cut h e (reply_after (past ++ events h) e) rest shut few low high refl;
      events_are = are;
      counted = length-append h (x ∷ []);
      name = ap own_name are ∙ name-append (past ++ events h) (e ∷ []) some;
      limit = ap own_limit are ∙ limit-append (past ++ events h) (e ∷ []) some;
    }

-- what was cut off stays where an event is published
pub past_stays : (base : ℕ) (f g : List Event) (e : Event) → f ≡ take base f ++ g → base ≡ length (take base f) → take base (f ++ e ∷ []) ≡ take base f
past_stays base f g e split is =
    take-append-le base f (e ∷ []) (let both = length-append (take base f) g in let all = ap length split in omega (arith, both, all, is))

-- a whole list is what was cut off
pub past_whole : (n : ℕ) (f : List Event) → n ≡ length f → take n f ≡ f
past_whole n f is = take_all n f (omega (arith, is))

-- the history of an opening alone
pub record Begins (places now : ℕ) (config : Config) : Type 0 where
  pub accepts : IsTrue (accepts_of (state_after []) (Open now config))
  pub accepted : is_accepted (Open now config ∷ []) ≡ true
  pub legal : IsLegal places (entry 0 (Open now config) (reply_after [] (Open now config)) ∷ [])
  pub limit : config.history_limit ≤ 4000000000

pub begins : (places now : ℕ) (config : Config) → IsChecked config → Begins places now config
begins places now config good =
    let well : is_ok (check_of config) ≡ true = ap is_ok good in
    let most = (ranges config good).history_most in
    record {
      accepts = well;
      accepted = rw good refl;
      legal = opened places now config (reply_after [] (Open now config)) good refl;
      limit = omega (arith, most);
    }

-- what a ledger refuses a call for is a refusal of a call
refused_by : (lacks ended full : Bool) (limit : ℕ) (seen : List Event) (e : Refusal) → lacks ≡ false → limit ≡ own_limit seen → cond lacks (Some NoPlace) (cond ended (Some (HistoryFull most_events)) (cond full (Some (HistoryFull limit)) None)) ≡ Some e → IsRefusal seen e
refused_by true ended full limit seen e has own is = absurd cc
refused_by false true full limit seen e has own is = let same : HistoryFull most_events ≡ e = cc in subst (IsRefusal seen) same (inr refl)
refused_by false false true limit seen e has own is = let same : HistoryFull limit ≡ e = cc in subst (IsRefusal seen) same (inl own)
refused_by false false false limit seen e has own is = absurd cc

-- a place that there is isn't lacking
has_place : (places seat : ℕ) → 0 < seat → seat ≤ places → (eqb seat 0) || (ltb places seat) ≡ false
has_place places seat low high = grind arith

pub refused_so : (l : KeptValue) (seat : ℕ) (seen : List Event) (e : Refusal) → 0 < seat → seat ≤ l.places → l.limit ≡ own_limit seen → (refusal_of l seat ≡ Some e) ⊎ ((e ≡ NoMemory) × (refusal_of l seat ≡ None)) → IsRefusal seen e
refused_so l seat seen e low high own (inl is) = refused_by ((eqb seat 0) || (ltb l.places seat)) (leb most_events (count_of l)) (leb l.limit (length l.history)) l.limit seen e (has_place l.places seat low high) own is
refused_so l seat seen e low high own (inr is) = subst (IsRefusal seen) (sym is.0) tt

-- what begins with an opening gives the limit of all events that it begins
pub limit-front : (f g : List Event) → begins_open f ≡ true → IsPrefix f g → own_limit g ≡ own_limit f
limit-front [] g begun front = absurd cc
limit-front (x ∷ f) g begun (rest, is) = let whole : x ∷ f ++ rest ≡ g = is in ap own_limit (sym whole)

-- what a call of a place is refused for, by a ledger whose events begin with those that its caller has seen
pub refusal_if : (l : KeptValue) (seat : ℕ) (seen : List Event) (r : Result ℕ Refusal) → 0 < seat → seat ≤ l.places → l.limit ≡ own_limit seen → MatchResult r (λ _. refusal_of l seat ≡ None) (λ e. (refusal_of l seat ≡ Some e) ⊎ ((e ≡ NoMemory) × (refusal_of l seat ≡ None))) → IfErr r (IsRefusal seen)
refusal_if l seat seen (Ok r) low high own is = tt
refusal_if l seat seen (Err e) low high own is = refused_so l seat seen e low high own is
