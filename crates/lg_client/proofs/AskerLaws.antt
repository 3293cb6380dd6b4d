-- A node that is asked again.
use Rattle.std.proofs.Common.{◌≡◌, ◌⊎◌, ℕ, ◌+◌, ◌<◌, ◌≤◌, List, [], ◌∷◌, ◌++◌, Some, None, Result, Ok, Err, inl, inr, refl, sym, ap, ◌∙◌, append_assoc, append-nil, arith}
use Rattle.std.proofs.lemmas.Option.{same_Some}
use Rattle.lg_client.specs.declared.fault.AskFault.{AskFault}
use Rattle.lg_client.specs.declared.receiving.Answer.{Answer}
use Rattle.lg_client.specs.declared.unheard.Delay.{Delay}
use Rattle.lg_client.specs.declared.unheard.Delay.TheVariants.{Closed, Told}
use Rattle.lg_client.specs.declared.unheard.Unheard.{Unheard}
use Rattle.lg_client.specs.declared.unheard.Unheard.TheVariants.{Lacking, Later, NoMemory, Wrong}
use Rattle.lg_client.specs.Meaning.Waiting.{AskEvent, AsksAgain, AsksOnce, AsksTwice, closed_with, delay_of, most_closed, most_put_off, put_off, seconds_of, told_of}
use Rattle.lg_client.specs.Meaning.Waiting.AskEvent.{Asked, Waited}
use Rattle.lg_client.specs.Support.Receiving.{IsPatient}

-- an outcome that says to ask later
pub later_only : (outcome : Result Answer Unheard) (delay : Delay) → delay_of outcome ≡ Some delay → outcome ≡ Err (Later delay)
later_only (Ok answer) delay is = absurd cc
later_only (Err (Later other)) delay is = ap (λ (d : Delay). Err (Later d)) (same_Some other delay is)
later_only (Err Lacking) delay is = absurd cc
later_only (Err Wrong) delay is = absurd cc
later_only (Err NoMemory) delay is = absurd cc

-- once
pub asks_once : (log log' : List AskEvent) (last : Result Answer Unheard) (result : Result Answer AskFault) → log' ≡ log ++ Asked last ∷ [] → result ≡ told_of last
    → AsksOnce log log' result
asks_once log log' last result is told = record { last = last; is = is; told = told }

-- once, and the node wasn't busy
pub asks_no_more : (log log' : List AskEvent) (last : Result Answer Unheard) (result : Result Answer AskFault) → log' ≡ log ++ Asked last ∷ [] → result ≡ told_of last
    → delay_of last ≡ None → AsksTwice log log' result
asks_no_more log log' last result is told now = inl (record { last = last; is = is; told = told }, now)

-- once more
pub asks_once_more : (log asked waited log' : List AskEvent) (first : Result Answer Unheard) (delay : Delay) (result : Result Answer AskFault)
    → asked ≡ log ++ Asked first ∷ [] → delay_of first ≡ Some delay → waited ≡ asked ++ Waited (seconds_of delay) ∷ [] → AsksOnce waited log' result
    → AsksTwice log log' result
asks_once_more log asked waited log' first delay result is busy then it = inr record {
  delay = delay;
  last = it.last;
  is = it.is
      ∙ ap (λ (l : List AskEvent). l ++ Asked it.last ∷ [])
      (then ∙ ap (λ (l : List AskEvent). l ++ Waited (seconds_of delay) ∷ []) (is ∙ ap (λ (o : Result Answer Unheard). log ++ Asked o ∷ []) (later_only first delay busy)))
      ∙ simp append_assoc;
  told = it.told;
}

-- no delay yet
pub patient_begins : (log : List AskEvent) → IsPatient log log 0 0
patient_begins log = record { delays = []; is = sym (append-nil log); count_is = refl; closed_is = refl }

-- one more
pub patient_more : (log before asked after : List AskEvent) (count closed : ℕ) (first : Result Answer Unheard) (delay : Delay) → IsPatient log before count closed
    → asked ≡ before ++ Asked first ∷ [] → delay_of first ≡ Some delay → after ≡ asked ++ Waited (seconds_of delay) ∷ []
    → IsPatient log after (count + 1) (closed_with closed delay)
patient_more log before asked after count closed first delay it is busy then = record {
  delays = delay ∷ it.delays;
  is = then ∙ ap (λ (l : List AskEvent). l ++ Waited (seconds_of delay) ∷ []) (is ∙ ap (λ (o : Result Answer Unheard). before ++ Asked o ∷ []) (later_only first delay busy) ∙ ap (λ (l : List AskEvent). l ++ Asked (Err (Later delay)) ∷ []) it.is)
      ∙ simp append_assoc;
  count_is = omega (arith, it.count_is);
  closed_is = ap (λ (n : ℕ). closed_with n delay) it.closed_is;
}

-- the end
pub asks_again : (log before after : List AskEvent) (count closed : ℕ) (last : Result Answer Unheard) (result : Result Answer AskFault) → (it : IsPatient log before count closed)
    → after ≡ before ++ Asked last ∷ [] → result ≡ told_of last
    → ((delay : Delay) → delay_of last ≡ Some delay → (closed_with closed delay ≡ most_closed) ⊎ (most_put_off ≤ count))
    → AsksAgain log after result
asks_again log before after count closed last result it is told patient = record {
  delays = it.delays;
  last = last;
  is = is ∙ ap (λ (l : List AskEvent). l ++ Asked last ∷ []) it.is ∙ append_assoc log (put_off it.delays) (Asked last ∷ []);
  told = told;
  patient = λ delay busy. rw (it.count_is, it.closed_is) (patient delay busy);
}

-- the node wasn't busy
pub asks_till_heard : (log before after : List AskEvent) (count closed : ℕ) (last : Result Answer Unheard) (result : Result Answer AskFault) → IsPatient log before count closed
    → after ≡ before ++ Asked last ∷ [] → result ≡ told_of last → delay_of last ≡ None → AsksAgain log after result
asks_till_heard log before after count closed last result it is told now =
    asks_again log before after count closed last result it is told (λ delay busy. absurd cc)

-- the connection was closed for the last time
pub closed_for_good : (closed : ℕ) (delay : Delay) → closed < most_closed → most_closed ≤ closed_with closed delay → closed_with closed delay ≡ most_closed
closed_for_good closed (Told said) few many = absurd (omega arith)
closed_for_good closed Closed few many = omega arith

pub asks_till_closed : (log before after : List AskEvent) (count closed : ℕ) (last : Result Answer Unheard) (delay : Delay) (result : Result Answer AskFault) → IsPatient log before count closed
    → after ≡ before ++ Asked last ∷ [] → result ≡ told_of last → delay_of last ≡ Some delay → closed < most_closed → most_closed ≤ closed_with closed delay
    → AsksAgain log after result
asks_till_closed log before after count closed last delay result it is told busy few many =
    asks_again log before after count closed last result it is told
    (λ other also. inl (ap (λ (d : Delay). closed_with closed d) (same_Some other delay (sym also ∙ busy)) ∙ closed_for_good closed delay few many))

-- the last time
pub asks_at_last : (log before after : List AskEvent) (count closed : ℕ) (result : Result Answer AskFault) → IsPatient log before count closed → most_put_off ≤ count
    → AsksOnce before after result → AsksAgain log after result
asks_at_last log before after count closed result it many once =
    asks_again log before after count closed once.last result it once.is once.told (λ delay busy. inr many)
