-- Which accusers of a suspected member count, and when the member is taken as failed (Lifeguard, local health aware
-- suspicion). A past of accusers has the latest first, so its last one raised the suspicion. Each further accuser
-- that counts confirms it.
use Rattle.std.specs.Prelude.{
  ℕ,
  ◌+◌,
  ◌-◌,
  ◌&&◌,
  Bool,
  not,
  List,
  length,
  nat_le,
  min,
  if◌then◌else◌,
}
use Rattle.lg_rules.specs.Meaning.Past.{oldest}
use Rattle.lg_rules.specs.Meaning.Rows.{name_cmp, is_among, distinct, in_order, put_key}
use Rattle.lg_timing.specs.Meaning.TimeoutValue.{TimeoutValue}
use Rattle.lg_timing.specs.Meaning.Timeouts.{timeout_of}
use Rattle.lg_suspicion.specs.declared.standing.SuspicionStanding.{SuspicionStanding}

-- when a suspicion was raised, its timeouts, and the accusers that count, in the order of names
pub record SuspicionValue : Type 0 where
  pub raised : ℕ
  pub timeout : TimeoutValue
  pub accusers : List (List ℕ)

-- The accusers that count: the first one, and the first others, as many as confirmations may count.
unfoldable pub counted_accusers : ℕ → List (List ℕ) → List (List ℕ)
counted_accusers confirmations past = in_order name_cmp (oldest (confirmations + 1) (distinct name_cmp past))

-- a suspicion after a past of accusers
abbrev pub suspicion_after : ℕ → TimeoutValue → List (List ℕ) → SuspicionValue
suspicion_after raised timeout past =
    record { raised = raised; timeout = timeout; accusers = counted_accusers timeout.confirmations past }

-- whether one more accuser would count beside those that count: these are fewer than may count, and it isn't one of
-- them
abbrev pub would_count : ℕ → List (List ℕ) → List ℕ → Bool
would_count confirmations accusers accuser =
    nat_le (length accusers) confirmations && not (is_among name_cmp accuser accusers)

-- whether one more accuser of a suspicion counts
abbrev pub accuser_counts : SuspicionValue → List ℕ → Bool
accuser_counts s accuser = would_count s.timeout.confirmations s.accusers accuser

-- a suspicion after one more accusation
abbrev pub accused : SuspicionValue → List ℕ → SuspicionValue
accused s accuser =
    if accuser_counts s accuser then record s { accusers = put_key name_cmp accuser s.accusers } else s

-- the deadline of a suspicion: when it runs out, and the member is taken as failed
abbrev pub deadline_of : SuspicionValue → ℕ
deadline_of s = s.raised + timeout_of s.timeout (length s.accusers - 1)

-- how a suspicion stands: when it was raised, its timeouts, and how many confirmations came that count, which are the
-- accusers that count without the first
abbrev pub standing_of_suspicion : SuspicionValue → SuspicionStanding
standing_of_suspicion s = record { raised = s.raised; timeout = s.timeout; confirmations = length s.accusers - 1 }

-- The same deadline by the set of all accusers, in the order of names. All but one of them are confirmations, but no
-- more than may count.
abbrev pub deadline_by_set : ℕ → TimeoutValue → List (List ℕ) → ℕ
deadline_by_set raised timeout set = raised + timeout_of timeout (min timeout.confirmations (length set - 1))

abbrev pub set_of : List (List ℕ) → List (List ℕ)
set_of past = in_order name_cmp past
