-- The places of the rows of a set.
use Rattle.std.proofs.Common.{
  ◌≡◌,
  ℕ,
  suc,
  zero,
  ◌+◌,
  ◌<◌,
  ◌≤◌,
  Bool,
  true,
  false,
  not,
  ◌&&◌,
  List,
  [],
  ◌∷◌,
  ◌++◌,
  length,
  map,
  take,
  set,
  get_or,
  replicate,
  Option,
  Some,
  None,
  inl,
  inr,
  refl,
  sym,
  ◌∙◌,
  ap,
  arith,
  length-append,
}
use Rattle.std.specs.Prelude.{filter, nat_eq, slice_get}
use Rattle.std.specs.List.{AllByRecursion}
use Rattle.std.specs.Option.{option_map}
use Rattle.std.proofs.Math.Seq.{take-suc, take-append-add}
use Rattle.std.proofs.lemmas.Bool.{cases_Bool, cases_lt, eq-eqb, ne_eqb}
use Rattle.std.proofs.lemmas.List.{length-map, take_all}
use Rattle.std.proofs.lemmas.Option.{slice_get_within, get_or_from_slice_get, slice_get-map, slice_get-get_or}
use Rattle.lg_bit_set.specs.Meaning.Flags.{flags_by, numbers_of, numbers_from}
use Rattle.lg_bit_set.proofs.FilterLaws.{get_or-flags_by_past}
use Rattle.lg_bit_set.proofs.Numbers.{numbers_from-add}
use Rattle.lg_bit_set.proofs.TestLaws.{changed-flags_by, same-flags_by}
use Rattle.lg_rules.specs.declared.claim.Claim.{Claim}
use Rattle.lg_gossip.specs.declared.choice.TakenRow.{TakenRow}
use Rattle.lg_gossip.specs.declared.queued.Queued.{Queued}
use Rattle.lg_gossip.specs.Meaning.Queue.{is_beside}
use Rattle.lg_gossip.specs.Support.Places.{IsRowOf, rows_at}
use Rattle.lg_gossip.specs.Support.Sets.{was_sent, places_of}
use Rattle.lg_gossip.proofs.BySets.{may_at, and_false}
use Rattle.lg_gossip.proofs.Moving.{set_same}

-- the place of a row with this index that was sent so often
abbrev pub place : ℕ → ℕ → TakenRow
place sends n = record { index = n; sends = sends }

-- The places of the numbers from 1 on are places of the rows behind the first.
module _ (sends : ℕ) (x : Queued) (row : List Queued) where
  next_row : (n : ℕ) → slice_get (x ∷ row) (1 + n) ≡ slice_get row n
  next_row n = let next : 1 + n ≡ suc n = omega arith in rw next refl

  rows_behind : (ns : List ℕ)
      → rows_at (x ∷ row) (map (place sends) (map (λ n. 1 + n) ns)) ≡ rows_at row (map (place sends) ns)
  rows_behind [] = refl
  rows_behind (n ∷ ns) = rw (next_row n, rows_behind ns) refl

  places_behind : (ns : List ℕ) → AllByRecursion (IsRowOf row) (map (place sends) ns)
      → AllByRecursion (IsRowOf (x ∷ row)) (map (place sends) (map (λ n. 1 + n) ns))
  places_behind [] a = tt
  places_behind (n ∷ ns) a =
      (record { row = a.0.row; stands = next_row n ∙ a.0.stands; sends = a.0.sends }, places_behind ns a.1)

-- these are the numbers of some rows, which were sent so often
record HasPlaces (sends : ℕ) (rows passing : List Queued) (numbers : List ℕ) : Type 0 where
  places : AllByRecursion (IsRowOf rows) (map (place sends) numbers)
  shown : rows_at rows (map (place sends) numbers) ≡ passing

no_numbers : (first more : ℕ) → numbers_from first (replicate more false) ≡ []
no_numbers first zero = refl
no_numbers first (suc more) = no_numbers (first + 1) more

module _ (sends : ℕ) (test : Queued → Bool) (exact : (q : Queued) → test q ≡ true → q.sends ≡ sends) where
  has_places : (more : ℕ) (rows : List Queued)
      → HasPlaces sends rows (filter test rows) (numbers_of (map test rows ++ replicate more false))
  has_places more [] = rw (no_numbers 0 more) (record { places = tt; shown = refl })
  has_places more (x ∷ xs) =
      let rest = has_places more xs in
      let flags = map test xs ++ replicate more false in
      let behind : numbers_from 1 flags ≡ map (λ n. 1 + n) (numbers_of flags) = numbers_from-add 1 0 flags in
      let places = places_behind sends x xs (numbers_of flags) rest.places in
      let shown = rows_behind sends x xs (numbers_of flags) ∙ rest.shown in
      elim (cases_Bool (test x)) [
        | inl t ↦
            let first : IsRowOf (x ∷ xs) (place sends 0) =
            record { row = x; stands = refl; sends = sym (exact x t) } in
            rw (t, behind) (record { places = (first, places); shown = ap (λ rs. x ∷ rs) shown })
        | inr f ↦ rw (f, behind) (record { places = places; shown = shown })
      ]

  pub places_of-flags_by : (rows : List Queued) → AllByRecursion (IsRowOf rows) (places_of sends (flags_by test rows))
  unfolding flags_by
  places_of-flags_by rows = (has_places _ rows).places

  pub rows_at-flags_by : (rows : List Queued) → rows_at rows (places_of sends (flags_by test rows)) ≡ filter test rows
  unfolding flags_by
  rows_at-flags_by rows = (has_places _ rows).shown

-- The set without the row about the buddy's member.
and_true : (b : Bool) → (b && true) ≡ b
and_true true = refl
and_true false = refl

module _ (buddy : Option Claim) (sends passed_over : ℕ) where
  beside_others : (q : Queued) (k : ℕ) → is_beside buddy q ≡ not (nat_eq k passed_over) → (k ≡ passed_over → ⊥)
      → may_at buddy sends q ≡ was_sent sends q
  beside_others q k e n = rw (e, ne_eqb k passed_over n) (and_true (was_sent sends q))

  no_rows : flags_by (was_sent sends) [] ≡ flags_by (may_at buddy sends) []
  unfolding flags_by
  no_rows = refl

  pub set_beside : (rows : List Queued)
      → ((k : ℕ) (d : Queued) → k < length rows → is_beside buddy (get_or rows k d) ≡ not (nat_eq k passed_over))
      → set (flags_by (was_sent sends) rows) passed_over false ≡ flags_by (may_at buddy sends) rows
  set_beside [] beside =
      set_same (flags_by (was_sent sends) []) passed_over false false
      (get_or-flags_by_past (was_sent sends) [] passed_over (omega arith))
      ∙ no_rows
  set_beside (x ∷ xs) beside =
      let rows : List Queued = x ∷ xs in
      elim (cases_lt passed_over (length rows)) [
        | inl l ↦
            changed-flags_by (was_sent sends) (may_at buddy sends) rows passed_over false x l
            (rw (beside passed_over x l, eq-eqb passed_over passed_over refl)
            (and_false (was_sent sends (get_or rows passed_over x))))
            (λ k w n. beside_others (get_or rows k x) k (beside k x w) n)
        | inr g ↦
            set_same (flags_by (was_sent sends) rows) passed_over false false
            (get_or-flags_by_past (was_sent sends) rows passed_over g)
            ∙ same-flags_by (was_sent sends) (may_at buddy sends) rows x
            (λ k w. beside_others (get_or rows k x) k (beside k x w) (λ e. omega (arith, e, g, w)))
      ]

-- One more of some places.
pub take-found : (sends k number : ℕ) (flags : List Bool) → slice_get (numbers_of flags) k ≡ Some number
    → take k (places_of sends flags) ++ place sends number ∷ [] ≡ take (k + 1) (places_of sends flags)
take-found sends k number flags e =
    let ts = places_of sends flags in
    let t = place sends number in
    let at : slice_get ts k ≡ Some t =
    slice_get-map (place sends) (numbers_of flags) k ∙ ap (option_map (place sends)) e in
    let next : k + 1 ≡ suc k = omega arith in
    rw next
    (ap (λ x. take k ts ++ x ∷ []) (sym (get_or_from_slice_get ts k t t at))
    ∙ sym (take-suc ts k t (slice_get_within ts k t at)))

-- The set has no more.
pub places_end : (sends k : ℕ) (flags : List Bool) → slice_get (numbers_of flags) k ≡ None
    → length (places_of sends flags) ≤ k
places_end sends k flags e = elim (cases_lt k (length (numbers_of flags))) [
  | inl l ↦
      let found : None ≡ Some (get_or (numbers_of flags) k 0) = sym e ∙ slice_get-get_or (numbers_of flags) k 0 l in
      absurd cc
  | inr g ↦ omega (arith, g, length-map (numbers_of flags) (place sends))
]

module _ (room k : ℕ) (before now ts : List TakenRow) (is : now ≡ before ++ take k ts) where
  -- All places there is room for are taken,
  pub fills_room : length before + k ≡ room → now ≡ take room (before ++ ts)
  fills_room e = is ∙ sym (take-append-add before ts k) ∙ ap (λ n. take n (before ++ ts)) e

  -- or all places there are.
  pub takes_all : length ts ≤ k → length before + k ≤ room → now ≡ take room (before ++ ts)
  takes_all few l =
      is ∙ ap (λ xs. before ++ xs) (take_all k ts few)
      ∙ sym (take_all room (before ++ ts) (omega (arith, length-append before ts, few, l)))
