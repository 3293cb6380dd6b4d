-- A round of probing: which helpers were asked (ping-req), what came, and the mark that the round earns (SWIM,
-- section 3.1; Lifeguard, local health aware probe).
use Rattle.std.specs.Prelude.{ℕ, ℤ, pos, Bool, true, false, ◌&&◌}
use Rattle.std.specs.Prelude.{◌||◌, not, ◌==◌, List, [], ◌∷◌, filter}
use Rattle.std.specs.Prelude.{if◌then◌else◌}
use Rattle.lg_rules.specs.Meaning.Rows.{name_cmp, is_same, is_among}
use Rattle.lg_probe.specs.Meaning.Order.{without}

-- what happens in a round: helpers are asked, or an ack or a nack with a number comes from a sender
pub data RoundFact : Type 0 where
  Asked : List (List ℕ) → RoundFact
  Acked : ℕ → List ℕ → RoundFact
  Nacked : ℕ → List ℕ → RoundFact

-- A past has the latest fact first. These are the helpers that were asked the last time that any were.
abbrev pub asked_in : List RoundFact → List (List ℕ)
asked_in [] = []
asked_in (Asked helpers ∷ past) = helpers
asked_in (Acked k sender ∷ past) = asked_in past
asked_in (Nacked k sender ∷ past) = asked_in past

-- whether an ack counts: it has the number of the round, and comes from the target or from a helper that was asked
abbrev pub ack_counts : ℕ → List ℕ → List (List ℕ) → ℕ → List ℕ → Bool
ack_counts number target asked k sender =
    k == number && (is_same name_cmp sender target || is_among name_cmp sender asked)

-- whether an ack counted in a past
abbrev pub is_acked : ℕ → List ℕ → List RoundFact → Bool
is_acked number target [] = false
is_acked number target (Asked helpers ∷ past) = is_acked number target past
is_acked number target (Acked k sender ∷ past) =
    ack_counts number target (asked_in past) k sender || is_acked number target past
is_acked number target (Nacked k sender ∷ past) = is_acked number target past

-- whether a helper sent a nack with the number of the round since helpers were last asked
abbrev pub has_nacked : ℕ → List ℕ → List RoundFact → Bool
has_nacked number helper [] = false
has_nacked number helper (Asked helpers ∷ past) = false
has_nacked number helper (Acked k sender ∷ past) = has_nacked number helper past
has_nacked number helper (Nacked k sender ∷ past) =
    (k == number && is_same name_cmp helper sender) || has_nacked number helper past

-- the asked helpers that sent no nack
abbrev pub silent_in : ℕ → List RoundFact → List (List ℕ)
silent_in number past = filter (λ helper. not (has_nacked number helper past)) (asked_in past)

-- The mark of a round: 0 if an ack counted, else 1, or 2 if an asked helper sent no nack.
abbrev pub mark_of : Bool → List (List ℕ) → ℤ
mark_of true silent = pos 0
mark_of false [] = pos 1
mark_of false (helper ∷ silent) = pos 2

-- What a round holds: its number, its target, the asked helpers, those of them that sent no nack, and whether an ack
-- counted.
pub record RoundValue : Type 0 where
  pub number : ℕ
  pub target : List ℕ
  pub asked : List (List ℕ)
  pub silent : List (List ℕ)
  pub acked : Bool

abbrev pub round_of : ℕ → List ℕ → List RoundFact → RoundValue
round_of number target past =
    record {
      number = number;
      target = target;
      asked = asked_in past;
      silent = silent_in number past;
      acked = is_acked number target past;
    }

-- whether a nack that comes in a round counts: it has the number of the round, and is the first from an asked helper
abbrev pub nack_counts : RoundValue → ℕ → List ℕ → Bool
nack_counts r k sender = k == r.number && is_among name_cmp sender r.silent

-- whether an ack that comes in a round is the first that counts
abbrev pub is_first_ack : RoundValue → ℕ → List ℕ → Bool
is_first_ack r k sender = not r.acked && ack_counts r.number r.target r.asked k sender

-- a round after one more fact
abbrev pub round_with : RoundValue → RoundFact → RoundValue
round_with r (Asked helpers) = record r { asked = helpers; silent = helpers }
round_with r (Acked k sender) = record r { acked = r.acked || is_first_ack r k sender }
round_with r (Nacked k sender) =
    record r { silent = if nack_counts r k sender then without sender r.silent else r.silent }
