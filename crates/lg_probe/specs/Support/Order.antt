-- What holds of every order, and of the flags that it keeps beside a row of names.
use Rattle.std.specs.Prelude.{ℕ, ◌≡◌, Bool, true, List, ◌++◌, filter}
use Rattle.lg_bit_set.specs.Meaning.Flags.{entries_in, flags_by}
use Rattle.lg_rules.specs.Meaning.Rows.{name_cmp, is_among, Rises}
use Rattle.lg_probe.specs.Meaning.Order.{OrderValue}

-- These names are all in a row, and the flags of the row say which they are.
pub record IsPart (row names : List (List ℕ)) (flags : List Bool) : Type 0 where
  pub flagged : flags ≡ flags_by (λ n. is_among name_cmp n names) row
  pub all : names ≡ filter (λ n. is_among name_cmp n names) row

-- A row has the names that an order knows, in the order of names. Flags say which have joined and not left, and which
-- were chosen in the current cycle.
pub record Keeps (order : OrderValue) (known : List (List ℕ)) (joined chosen : List Bool) : Type 0 where
  pub rises : Rises name_cmp known
  pub names : IsPart known order.names joined
  pub cycle : IsPart known order.chosen chosen
  pub used : (n : List ℕ) → is_among name_cmp n known ≡ true → is_among name_cmp n (order.chosen ++ order.names) ≡ true

-- the order whose names and whose choices these flags say
abbrev pub order_in : List (List ℕ) → List Bool → List Bool → OrderValue
order_in known joined chosen = record { names = entries_in joined known; chosen = entries_in chosen known }

abbrev pub IsOrderKept : List (List ℕ) → List Bool → List Bool → Type 0
IsOrderKept known joined chosen = Keeps (order_in known joined chosen) known joined chosen
