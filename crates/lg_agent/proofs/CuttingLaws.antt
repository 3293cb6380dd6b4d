-- What a rotation of a ledger hands out.
use Rattle.std.proofs.Common.{◌≡◌, ℕ, length, refl, ap, sym, ◌∙◌, subst}
use Rattle.std.specs.Prelude.{Option, true, ◌++◌}
use Rattle.lg_detector.specs.Meaning.Step.{is_accepted}
use Rattle.lg_detector.specs.Support.State.{State}
use Rattle.lg_history.specs.Meaning.History.{events, Answered}
use Rattle.lg_history.specs.Meaning.Rest.{IsRest, StandsFor}
use Rattle.lg_history.proofs.Rests.{rest_accepted, rest_answered, answered_from}
use Rattle.lg_agent.specs.Meaning.Values.{KeptValue, CutOffValue, handed_out}
use Rattle.lg_agent.specs.Meaning.Calls.{IsCutOff}

pub handed_right : (places : ℕ) (l : KeptValue) → IsRest places l.past l.cut l.history → StandsFor l.summary l.past → IsCutOff places (handed_out l)
handed_right places l rest stands =
    let accepted : is_accepted (l.past ++ events l.history) ≡ true = rest_accepted places l.past l.cut l.history rest in
    let answered : Answered l.past l.history = rest_answered places l.past l.cut l.history rest in
    record {
      past = l.past;
      cut = l.cut;
      rest = rest;
      before = stands;
      base = refl;
      accepted = accepted;
      answered = answered;
      from = λ s is. answered_from s l.past l.history ((subst (λ (o : Option State). StandsFor o l.past) is stands).0) accepted answered;
    }

-- the same, by the number that is kept beside the summary
abbrev pub cut_off_at : KeptValue → ℕ → CutOffValue
cut_off_at l base = record { entries = l.history; before = l.summary; base = base }

pub handed_at : (places : ℕ) (l : KeptValue) (c : CutOffValue) (base : ℕ) → IsRest places l.past l.cut l.history → StandsFor l.summary l.past → base ≡ length l.past → c ≡ cut_off_at l base → IsCutOff places c
handed_at places l c base rest stands is same = subst (IsCutOff places) (sym (same ∙ ap (cut_off_at l) is)) (handed_right places l rest stands)
