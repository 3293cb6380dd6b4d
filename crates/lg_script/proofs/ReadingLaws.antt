-- Words that are read one after another.
use Rattle.std.proofs.Common.{◌≡◌, ℕ, ◌+◌, ◌≤◌, List, ◌++◌, length, Option}
use Rattle.std.specs.Option.{option_map}
use Rattle.lg_script.specs.Meaning.Values.{each_of}

-- some values, and those that are found behind them
abbrev onto : {A : Type 0} → List A → Option (List A) → Option (List A)
onto values found = option_map (λ others. values ++ others) found

-- Of all the words these are left, and those before them are these values, which are few enough.
pub record HasRead {A : Type 0} (most : ℕ) (read : List ℕ → Option A) (all left : List (List ℕ)) (values : List A) : Type 0 where
  pub so_far : onto values (each_of read left) ≡ each_of read all
  pub counted : length values + length left ≡ length all
  pub few : length values ≤ most
