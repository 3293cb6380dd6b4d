-- What a row ends as, if an item of it was lent.
use Rattle.std.specs.Prelude.{ℕ, slice_set}
use Rattle.std.specs.Borrow.{Lends, Fml, RattleType, MutBor}
use Rattle.lg_rows.specs.Meaning.Rows.{RowsValue}
use Rattle.lg_rows.specs.contracts.rows.Rows.{the_row}

-- once the borrow ends, the item at the index is the one that was written last
abbrev pub lends_row : (T N : RattleType) → MutBor (RowsValue T.Denot) → ℕ → MutBor T.Denot → Fml
lends_row T N rows index lent =
    Lends (the_row T N) T rows lent (λ item. record { items = slice_set rows.now.items index item })
