-- What a contract sees of a row.
use Rattle.std.specs.Prelude.{List, refl}
use Rattle.std.specs.Coded.{Coded, code_by, coded_list}

-- A row: its items, in order.
pub record RowsValue (T : Type 0) : Type 0 where
  pub items : List T

-- a row is stored as the list of its items
abbrev pub rows_code : {T : Type 0} → Coded T → Coded (RowsValue T)
rows_code {T} code = code_by (List T) (coded_list code) (λ r. r.items) (λ xs. record { items = xs }) (λ _. refl)
