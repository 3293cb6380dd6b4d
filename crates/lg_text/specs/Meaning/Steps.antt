-- Steps that may find no value.
use Rattle.std.specs.Prelude.{Option, option_and_then}

-- what follows from a value, if there is one
infixl 10 ◌>>=◌
abbrev pub ◌>>=◌ : {A B : Type 0} → Option A → (A → Option B) → Option B
found >>= f = option_and_then f found
