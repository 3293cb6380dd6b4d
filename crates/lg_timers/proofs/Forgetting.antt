-- The first of the timers that forget a member, one timer after another.
use Rattle.std.proofs.Common.{◌≡◌, ℕ, ◌+◌, ◌<◌, ◌≤◌, Bool, true, false, cond, ◌==◌, ◌&&◌, List, [], ◌∷◌, ◌++◌, length, map, get_or, take, Option, Some, inl, inr, refl, sym, ◌∙◌, ap, append-nil}
use Rattle.std.specs.Prelude.{filter}
use Rattle.std.proofs.lemmas.Bool.{cases_Bool}
use Rattle.std.proofs.lemmas.List.{take_more, take_all}
use Rattle.std.proofs.lemmas.List.Elements.{filter-append}
use mathlib.Core.List.{map-append}
use Rattle.lg_rules.specs.Meaning.Rows.{name_cmp, is_among}
use Rattle.lg_rules.proofs.KeyOrder.{names_order}
use Rattle.lg_rules.proofs.Rises.{among-filter}
use Rattle.lg_timers.specs.declared.timer.Timer.{Timer}
use Rattle.lg_timers.specs.declared.timer.TimerId.{TimerId}
use Rattle.lg_timers.specs.declared.timer.TimerId.TheVariants.{RoundEnd, Suspicion, Direct, RelayNack, RelayEnd, RoundStart, Forget, Gossip}
use Rattle.lg_timers.specs.Meaning.Timers.{id_key, timer_key, in_turn, least_of, is_forget, first_forget}
use Rattle.lg_timers.specs.Support.InTurn.{earlier, earlier_forget}
use Rattle.lg_timers.specs.Support.Slots.{timer_in, timers_in}
use Rattle.lg_timers.proofs.Parts.{in_turn-middle}
use Rattle.lg_timers.proofs.Pending.{among-in_turn, rising_is}
use Rattle.lg_timers.proofs.TimerSets.{rises_filter}
use Rattle.lg_timers.proofs.TurnLaws.{rises-in_turn, least-with_timer}

abbrev pub forgets : Timer → Bool
forgets t = is_forget t.id

-- whether a list of numbers is that of such a timer
abbrev key_forgets : List ℕ → Bool
key_forgets [] = false
key_forgets (d ∷ []) = false
key_forgets (d ∷ kind ∷ subject) = kind == 7

forgets-key : (d : ℕ) (id : TimerId) → is_forget id ≡ key_forgets (d ∷ id_key id)
forgets-key d RoundEnd = refl
forgets-key d (Suspicion m) = refl
forgets-key d Direct = refl
forgets-key d (RelayNack k) = refl
forgets-key d (RelayEnd k) = refl
forgets-key d RoundStart = refl
forgets-key d (Forget m) = refl
forgets-key d Gossip = refl

keys-forgets : (timers : List Timer) → map timer_key (filter forgets timers) ≡ filter key_forgets (map timer_key timers)
keys-forgets [] = refl
keys-forgets (t ∷ timers) =
    let is = forgets-key t.deadline t.id in
    elim (cases_Bool (forgets t)) [
      | inl kept ↦ (
          let kept' : key_forgets (timer_key t) ≡ true = sym is ∙ kept in
          rw (kept, kept') (ap (λ ks. timer_key t ∷ ks) (keys-forgets timers)))
      | inr gone ↦ (
          let gone' : key_forgets (timer_key t) ≡ false = sym is ∙ gone in
          rw (gone, gone') (keys-forgets timers))
    ]

among-forgets : (k : List ℕ) (timers : List Timer) → is_among name_cmp k (map timer_key (filter forgets timers)) ≡ (key_forgets k && is_among name_cmp k (map timer_key timers))
among-forgets k timers = ap (is_among name_cmp k) (keys-forgets timers) ∙ among-filter names_order key_forgets k (map timer_key timers)

-- they are taken before or after timers are put in turn
pub forgets-in_turn : (timers : List Timer) → filter forgets (in_turn timers) ≡ in_turn (filter forgets timers)
forgets-in_turn timers =
    rising_is (filter forgets (in_turn timers)) (in_turn (filter forgets timers))
    (rises_filter forgets (in_turn timers) (rises-in_turn timers))
    (rises-in_turn (filter forgets timers))
    (λ k. among-forgets k (in_turn timers) ∙ ap (λ b. key_forgets k && b) (among-in_turn k timers) ∙ sym (among-forgets k timers) ∙ sym (among-in_turn k (filter forgets timers)))

-- the first, once there is one more timer
last_too : (t : Timer) (timers : List Timer) (b : Bool) → forgets t ≡ b
    → least_of (in_turn (filter forgets (timers ++ t ∷ []))) ≡ cond b (Some (earlier (least_of (in_turn (filter forgets timers))) t)) (least_of (in_turn (filter forgets timers)))
last_too t timers true is =
    ap (λ ts. least_of (in_turn ts)) (filter-append forgets timers (t ∷ []) ∙ ap (λ c. filter forgets timers ++ cond c (t ∷ []) []) is)
    ∙ ap least_of (in_turn-middle t (filter forgets timers) [])
    ∙ least-with_timer t (in_turn (filter forgets timers ++ []))
    ∙ ap (λ ts. Some (earlier (least_of (in_turn ts)) t)) (append-nil (filter forgets timers))
last_too t timers false is =
    ap (λ ts. least_of (in_turn ts)) (filter-append forgets timers (t ∷ []) ∙ ap (λ c. filter forgets timers ++ cond c (t ∷ []) []) is ∙ append-nil (filter forgets timers))

pub first-more : (t : Timer) (timers : List Timer) → first_forget (in_turn (timers ++ t ∷ [])) ≡ earlier_forget (first_forget (in_turn timers)) t
first-more t timers =
    ap least_of (forgets-in_turn (timers ++ t ∷ []))
    ∙ last_too t timers (forgets t) refl
    ∙ sym (ap (λ o. earlier_forget o t) (ap least_of (forgets-in_turn timers)))

-- the first of those in the first so many slots
pub first-next : (timers : List Timer) (slots : List ℕ) (i slot : ℕ) (t : Timer) (first : Option Timer) → i < length slots → slot ≡ get_or slots i 0 → timer_in timers slot ≡ t
    → first ≡ first_forget (in_turn (timers_in timers (take i slots))) → earlier_forget first t ≡ first_forget (in_turn (timers_in timers (take (i + 1) slots)))
first-next timers slots i slot t first within at is before =
    let one : timers_in timers (take (i + 1) slots) ≡ timers_in timers (take i slots) ++ t ∷ [] =
    ap (timers_in timers) (take_more slots i 0 within ∙ ap (λ s. take i slots ++ s ∷ []) (sym at))
    ∙ map-append (timer_in timers) (take i slots) (slot ∷ [])
    ∙ ap (λ u. timers_in timers (take i slots) ++ u ∷ []) is in
    ap (λ o. earlier_forget o t) before
    ∙ sym (first-more t (timers_in timers (take i slots)))
    ∙ ap (λ ts. first_forget (in_turn ts)) (sym one)

pub first-all : (timers : List Timer) (slots : List ℕ) (i : ℕ) (first : Option Timer) → length slots ≤ i → first ≡ first_forget (in_turn (timers_in timers (take i slots)))
    → first ≡ first_forget (in_turn (timers_in timers slots))
first-all timers slots i first past is = is ∙ ap (λ ss. first_forget (in_turn (timers_in timers ss))) (take_all i slots past)
