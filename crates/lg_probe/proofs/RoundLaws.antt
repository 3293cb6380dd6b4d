-- What a step does to a round, and the mark that it earns.
use Rattle.std.proofs.Common.{
  ◌≡◌,
  ◌<◌,
  length,
  arith,
  ℕ,
  Bool,
  true,
  false,
  cond,
  ◌&&◌,
  List,
  [],
  ◌∷◌,
  inl,
  inr,
  refl,
  sym,
  ◌∙◌,
  ap,
}
use Rattle.std.specs.Prelude.{filter, ◌==◌, pos}
use Rattle.std.proofs.lemmas.Bool.{cases_Bool, eq-eqb}
use Rattle.lg_rules.specs.Meaning.Rows.{name_cmp, is_same, is_among}
use Rattle.lg_rules.proofs.RowsFound.{filter-none}
use Rattle.lg_probe.proofs.NameRows.{neither}
use Rattle.lg_probe.specs.Meaning.Order.{without}
use Rattle.lg_probe.specs.Meaning.Round.{
  RoundFact,
  Asked,
  Nacked,
  asked_in,
  has_nacked,
  mark_of,
  silent_in,
  round_of,
  round_with,
  RoundValue,
}

-- a nack leaves the other silent helpers
silent-nacked : (number k : ℕ) (sender : List ℕ) (past : List RoundFact)
    → cond ((k == number) && is_among name_cmp sender (silent_in number past))
    (without sender (silent_in number past)) (silent_in number past) ≡ silent_in number (Nacked k sender ∷ past)
silent-nacked number k sender past = elim (cases_Bool (k == number)) [
  | inl same ↦ rw same
      (once (is_among name_cmp sender silent) refl
      ∙ sym (neither (λ h. is_same name_cmp h sender) (λ h. has_nacked number h past) (asked_in past)))
  | inr other ↦ rw other
]
  where
    silent : List (List ℕ)
    silent = silent_in number past

    once : (b : Bool) → is_among name_cmp sender (silent_in number past) ≡ b
        → cond b (without sender (silent_in number past)) (silent_in number past)
        ≡ without sender (silent_in number past)
    once true e = refl
    once false e = sym (filter-none (λ h. is_same name_cmp h sender) (silent_in number past) e)

pub nacked_after : (number : ℕ) (target : List ℕ) (past : List RoundFact) (k : ℕ) (sender : List ℕ)
    → round_with (round_of number target past) (Nacked k sender) ≡ round_of number target (Nacked k sender ∷ past)
nacked_after number target past k sender =
    λ i. record {
      number = number;
      target = target;
      asked = asked_in past;
      silent =
          silent-nacked number k sender past i;
      acked = (round_of number target past).acked;
    }

-- helpers that are asked sent no nack yet
silent-asked : (helpers : List (List ℕ)) → helpers ≡ filter (λ h. true) helpers
silent-asked [] = refl
silent-asked (h ∷ hs) = ap (λ ks. h ∷ ks) (silent-asked hs)

pub asked_after : (number : ℕ) (target : List ℕ) (past : List RoundFact) (helpers : List (List ℕ))
    → round_with (round_of number target past) (Asked helpers) ≡ round_of number target (Asked helpers ∷ past)
asked_after number target past helpers =
    λ i. record {
      number = number;
      target = target;
      asked = helpers;
      silent = silent-asked helpers i;
      acked =
          (round_of number target past).acked;
    }

-- the marks of a round in which no ack counted
pub one_earned : (acked : Bool) (silent : List (List ℕ)) → acked ≡ false → length silent ≡ 0
    → pos 1 ≡ mark_of acked silent
one_earned acked [] e none = ap (λ b. mark_of b []) (sym e)
one_earned acked (helper ∷ silent) e none = absurd (omega (arith, none))

pub two_earned : (acked : Bool) (silent : List (List ℕ)) → acked ≡ false → 0 < length silent
    → pos 2 ≡ mark_of acked silent
two_earned acked [] e some = absurd (omega (arith, some))
two_earned acked (helper ∷ silent) e some = ap (λ b. mark_of b (helper ∷ silent)) (sym e)

-- a nack with the number of the round leaves the silent helpers without its sender
pub nacked_with : (r : RoundValue) (k : ℕ) (sender : List ℕ) → k ≡ r.number
    → without sender r.silent ≡ (round_with r (Nacked k sender)).silent
nacked_with r k sender same = rw (eq-eqb k r.number same) (once (is_among name_cmp sender r.silent) refl)
  where
    once : (b : Bool) → is_among name_cmp sender r.silent ≡ b
        → without sender r.silent ≡ cond b (without sender r.silent) r.silent
    once true e = refl
    once false e = filter-none (λ h. is_same name_cmp h sender) r.silent e
