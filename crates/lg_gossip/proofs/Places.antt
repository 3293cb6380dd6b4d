-- Rows by their places.
use Rattle.std.proofs.Common.{◌≡◌, ℕ, suc, zero, ◌+◌, ◌<◌, ◌≤◌, List, [], ◌∷◌, ◌++◌, length, map, take, get_or, refl, sym, ◌∙◌, ap, append_assoc, arith}
use Rattle.std.specs.Prelude.{insert, nat_le}
use Rattle.std.specs.List.{AllByRecursion, prefix_len}
use Rattle.std.proofs.lemmas.List.{map-append}
use Rattle.std.proofs.lemmas.Option.{slice_get_within, get_or_from_slice_get}
use Rattle.lg_rules.specs.declared.claim.Claim.{Claim}
use Rattle.lg_gossip.specs.declared.choice.TakenRow.{TakenRow}
use Rattle.lg_gossip.specs.declared.queued.Queued.{Queued}
use Rattle.lg_gossip.specs.Meaning.Queue.{queued_claim}
use Rattle.lg_gossip.specs.Support.Places.{IsRowOf, rows_at}
use Rattle.lg_gossip.proofs.Each.{holds_at}

module _ (rows : List Queued) where
  -- there are as many as places,
  pub length-at : (ts : List TakenRow) → AllByRecursion (IsRowOf rows) ts → length (rows_at rows ts) ≡ length ts
  length-at [] a = refl
  length-at (t ∷ ts) a = rw a.0.stands (ap suc (length-at ts a.1))

  -- sent as often,
  pub sends-at : (k : ℕ) (d : Queued) (t : TakenRow) (ts : List TakenRow) → k < length ts → AllByRecursion (IsRowOf rows) ts
      → (get_or (rows_at rows ts) k d).sends ≡ (get_or ts k t).sends
  sends-at k d t [] l a = absurd (omega arith)
  sends-at zero d t (x ∷ xs) l a = rw a.0.stands (sym a.0.sends)
  sends-at (suc k) d t (x ∷ xs) l a = rw a.0.stands (sends-at k d t xs (omega arith) a.1)

  -- as many in front that were sent no more often than so,
  pub prefix-at : (sends : ℕ) (ts : List TakenRow) → AllByRecursion (IsRowOf rows) ts
      → prefix_len (λ r. nat_le r.sends sends) (rows_at rows ts) ≡ prefix_len (λ t. nat_le t.sends sends) ts
  prefix-at sends [] a = refl
  prefix-at sends (t ∷ ts) a = rw (a.0.stands, a.0.sends, prefix-at sends ts a.1) refl

  -- and the first so many are those at the first places.
  pub take-at : (k : ℕ) (ts : List TakenRow) → AllByRecursion (IsRowOf rows) ts → rows_at rows (take k ts) ≡ take k (rows_at rows ts)
  take-at zero ts a = refl
  take-at (suc k) [] a = refl
  take-at (suc k) (t ∷ ts) a = rw a.0.stands (ap (λ rs. a.0.row ∷ rs) (take-at k ts a.1))

  -- one more index shows one more row
  pub insert-at : (k : ℕ) (t : TakenRow) (ts : List TakenRow) (one : IsRowOf rows t) → AllByRecursion (IsRowOf rows) ts
      → rows_at rows (insert ts k t) ≡ insert (rows_at rows ts) k one.row
  insert-at zero t ts one a = rw one.stands refl
  insert-at (suc k) t [] one a = rw one.stands refl
  insert-at (suc k) t (x ∷ xs) one a = rw a.0.stands (ap (λ rs. a.0.row ∷ rs) (insert-at k t xs one a.1))

  -- the next of some places
  pub next-at : (k : ℕ) (d : TakenRow) (e : Queued) (ts : List TakenRow) → k < length ts → AllByRecursion (IsRowOf rows) ts
      → rows_at rows (take (suc k) ts) ≡ rows_at rows (take k ts) ++ get_or rows (get_or ts k d).index e ∷ []
  next-at k d e [] l a = absurd (omega arith)
  next-at zero d e (t ∷ ts) l a = rw (a.0.stands, get_or_from_slice_get rows t.index a.0.row e a.0.stands) refl
  next-at (suc k) d e (t ∷ ts) l a = rw a.0.stands (ap (λ rs. a.0.row ∷ rs) (next-at k d e ts (omega arith) a.1))

  -- and its claim
  pub claims-more : (before claims : List Claim) (k : ℕ) (d : TakenRow) (e : Queued) (ts : List TakenRow) → k < length ts → AllByRecursion (IsRowOf rows) ts
      → claims ≡ before ++ map queued_claim (rows_at rows (take k ts))
      → claims ++ (get_or rows (get_or ts k d).index e).claim ∷ [] ≡ before ++ map queued_claim (rows_at rows (take (k + 1) ts))
  claims-more before claims k d e ts l a is =
      let next : k + 1 ≡ suc k = omega arith in
      let row = get_or rows (get_or ts k d).index e in
      let more = ap (map queued_claim) (ap (λ n. rows_at rows (take n ts)) next ∙ next-at k d e ts l a) ∙ map-append queued_claim (rows_at rows (take k ts)) (row ∷ []) in
      ap (λ cs. cs ++ row.claim ∷ []) is ∙ append_assoc before (map queued_claim (rows_at rows (take k ts))) (row.claim ∷ []) ∙ ap (λ cs. before ++ cs) (sym more)

  -- an index is within the rows
  pub within-at : (k : ℕ) (d : TakenRow) (ts : List TakenRow) → k < length ts → AllByRecursion (IsRowOf rows) ts → (get_or ts k d).index < length rows
  within-at k d ts l a =
      let one = holds_at (IsRowOf rows) k d ts l a in
      slice_get_within rows (get_or ts k d).index one.row one.stands

-- Of the first so many, one more at an index among them shows the first so many of all with it.
pub take-insert : (few index : ℕ) (t : TakenRow) (ts : List TakenRow) → index ≤ few → take (suc few) (insert ts index t) ≡ insert (take few ts) index t
take-insert few zero t ts l = refl
take-insert zero (suc index) t ts l = absurd (omega arith)
take-insert (suc few) (suc index) t [] l = refl
take-insert (suc few) (suc index) t (x ∷ xs) l = ap (λ ys. x ∷ ys) (take-insert few index t xs (omega arith))
