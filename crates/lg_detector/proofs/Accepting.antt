-- After an accepted list, the state accepts an event exactly where the list with it is accepted.
use Rattle.std.proofs.Common.{◌≡◌, ℕ, ◌+◌, suc, Bool, true, false, ◌&&◌, ◌||◌, not, cond, leb, ltb, eqb, List, [], ◌∷◌, ◌++◌, reverse, length, Option, Some, None, IsTrue, refl, ap, ◌∙◌, arith, length-append}
use Rattle.std.specs.List.{list_any}
use Rattle.std.specs.Prelude.{Result, Ok, Err, is_ok}
use Rattle.std.proofs.lemmas.List.{length-reverse}
use Rattle.std.proofs.lemmas.List.Folds.{list_any-append}
use Rattle.lg_timing.specs.declared.config.Config.{Config}
use Rattle.lg_timing.specs.declared.config.ConfigFault.{ConfigFault}
use Rattle.lg_timing.specs.Meaning.Config.{check_of, IsChecked}
use Rattle.lg_timers.specs.declared.timer.Timer.{Timer}
use Rattle.lg_detector.specs.declared.event.Event.{Event}
use Rattle.lg_detector.specs.declared.event.Event.TheVariants.{Open, Tick, Heard, Ask, Health, Pull as Pulls, Leave}
use Rattle.lg_detector.specs.Meaning.Log.{Log, Came, event_count}
use Rattle.lg_detector.specs.Meaning.Timing.{due}
use Rattle.lg_detector.specs.Meaning.Tick.{expire}
use Rattle.lg_detector.specs.Meaning.Step.{log_of, is_open_event, opens_well, is_accepted, most_events}
use Rattle.lg_detector.specs.Support.State.{State}
use Rattle.lg_detector.specs.Support.Step.{state_after, accepts_of}
use Rattle.lg_detector.proofs.Untouched.{IsUntouched, untouched-open, untouched-hear, untouched-fire}

events_untouched : IsUntouched event_count
events_untouched = record {
  said = λ now origin c log. refl;
  sent = λ taken log. refl;
  acked = λ k sender log. refl;
  nacked = λ k sender log. refl;
  relayed = λ target asker log. refl;
}

events-expire : (o : Option Timer) (words : List ℕ) (log : Log) → event_count (expire o words log) ≡ event_count log
events-expire None words log = refl
events-expire (Some timer) words log = untouched-fire event_count events_untouched (λ m log. refl) timer words log

one_more : (n m : ℕ) → n ≡ m → n + 1 ≡ suc m
one_more n m e = omega arith

events-log_of : (past : List Event) → event_count (log_of past) ≡ length past
events-log_of [] = refl
events-log_of (Open now opening ∷ past) = untouched-open event_count events_untouched now opening (log_of past) ∙ one_more _ _ (events-log_of past)
events-log_of (Heard now source packet ∷ past) = untouched-hear event_count events_untouched (λ m log. refl) now source packet (log_of past) ∙ one_more _ _ (events-log_of past)
events-log_of (Tick now words ∷ past) = events-expire (due (Came now ∷ log_of past)) words (Came now ∷ log_of past) ∙ one_more _ _ (events-log_of past)
events-log_of (Ask now name ∷ past) = one_more _ _ (events-log_of past)
events-log_of (Health now ∷ past) = one_more _ _ (events-log_of past)
events-log_of (Pulls now peer ∷ past) = one_more _ _ (events-log_of past)
events-log_of (Leave now words ∷ past) = one_more _ _ (events-log_of past)

pub events-after : (f : List Event) → (state_after f).events ≡ length f
events-after f = events-log_of (reverse f) ∙ length-reverse f

abbrev accepts_by : ℕ → Bool → Bool → Bool
accepts_by n well opens = cond (eqb n 0) well (not opens && ltb n most_events)

none_open : (first rest : Bool) (few : Bool) → (first && (not rest && few)) ≡ true → (first ≡ true) × (rest ≡ false)
none_open true true few e = absurd cc
none_open true false few e = (refl, refl)
none_open false rest few e = absurd cc

or_none : (opens : Bool) → (opens || false) ≡ opens
or_none true = refl
or_none false = refl

pub accepts-after : (f : List Event) (e : Event) → IsTrue (is_accepted f) → accepts_of (state_after f) e ≡ is_accepted (f ++ e ∷ [])
accepts-after [] e accepted = both (opens_well e)
  where
    both : (well : Bool) → well ≡ (well && true)
    both true = refl
    both false = refl
accepts-after (x ∷ xs) e accepted =
    let is = none_open (opens_well x) (list_any is_open_event xs) _ accepted in
    let left : accepts_of (state_after (x ∷ xs)) e ≡ accepts_by (length (x ∷ xs)) (opens_well e) (is_open_event e) = ap (λ (n : ℕ). accepts_by n (opens_well e) (is_open_event e)) (events-after (x ∷ xs)) in
    let opens : list_any is_open_event (xs ++ e ∷ []) ≡ is_open_event e = list_any-append is_open_event xs (e ∷ []) ∙ rw is.1 (or_none (is_open_event e)) in
    let len : length (xs ++ e ∷ []) + 1 ≡ suc (length xs) + 1 = omega (arith, length-append xs (e ∷ [])) in
    left ∙ rw (is.0, opens, len) (limit (opens_well e) (is_open_event e) (length xs))
  where
    limit : (well opens : Bool) (n : ℕ) → accepts_by (suc n) well opens ≡ (not opens && leb (suc n + 1) most_events)
    limit well opens n = grind arith

-- An opening that is accepted has a good configuration.
pub checked : (r : Result (Unit {0}) ConfigFault) → is_ok r ≡ true → r ≡ Ok tt
checked (Ok u) e = refl
checked (Err f) e = absurd cc

well : (first good : Bool) (few : Bool) → cond first good (false && few) ≡ true → good ≡ true
well true good few e = e
well false good few e = absurd cc

pub opened_checked : (s : State) (now : ℕ) (opening : Config) → IsTrue (accepts_of s (Open now opening)) → IsChecked opening
opened_checked s now opening accepted = checked (check_of opening) (well (eqb s.events 0) (is_ok (check_of opening)) (ltb s.events most_events) accepted)
