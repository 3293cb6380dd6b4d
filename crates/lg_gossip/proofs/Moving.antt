-- The sets of rows by their sends, once a row was moved or a new one has its place.
use Rattle.std.proofs.Common.{
  ◌≡◌,
  ◌≢◌,
  ℕ,
  zero,
  suc,
  ◌+◌,
  ◌-◌,
  ◌<◌,
  ◌≤◌,
  Bool,
  true,
  false,
  List,
  [],
  ◌∷◌,
  ◌++◌,
  map,
  length,
  get_or,
  set,
  replicate,
  Some,
  inl,
  inr,
  refl,
  sym,
  ◌∙◌,
  ap,
  arith,
}
use Rattle.std.specs.Prelude.{insert, remove, nat_eq, slice_get}
use Rattle.std.specs.List.{AllByRecursion}
use Rattle.std.proofs.lemmas.Bool.{cases_eq, cases_lt, eq-eqb, ne_eqb}
use Rattle.std.proofs.lemmas.List.{
  set-get_or,
  set-set,
  get_or-set_same,
  get_or-set_other,
  get_or-replicate,
  length-set,
  length-replicate,
  replicate-append-replicate,
}
use Rattle.std.proofs.lemmas.List.Edits.{length-insert, length-remove}
use Rattle.std.proofs.lemmas.Option.{slice_get_within, get_or_from_slice_get}
use Rattle.lg_bit_set.specs.Meaning.Flags.{no_flags, flags_by, opened_flags, closed_flags}
use Rattle.lg_bit_set.proofs.FilterLaws.{get_or-flags_by}
use Rattle.lg_bit_set.proofs.Opening.{get_or-opened_flags}
use Rattle.lg_bit_set.proofs.TestLaws.{length-flags_by, no_flags-flags_by, opened_flags-flags_by, closed_flags-flags_by, set-flags_by}
use Rattle.lg_gossip.specs.declared.queue.TheConstants.{MAX_QUEUED}
use Rattle.lg_gossip.specs.declared.queued.Queued.{Queued}
use Rattle.lg_gossip.specs.declared.sets.TheConstants.{SETS}
use Rattle.lg_gossip.specs.Support.Sets.{was_sent, AreSets}
use Rattle.lg_gossip.specs.Support.Sound.{AreBelow}
use Rattle.lg_gossip.proofs.Each.{all-insert}

-- to write what is there changes nothing
pub set_same : {X : Type 0} (xs : List X) (i : ℕ) (x d : X) → get_or xs i d ≡ x → set xs i x ≡ xs
set_same xs i x d e = ap (set xs i) (sym e) ∙ set-get_or xs i d

-- and neither does it to write behind all there is
pub set_past : {X : Type 0} (xs : List X) (i : ℕ) (x : X) → length xs ≤ i → set xs i x ≡ xs
set_past [] i x l = refl
set_past (y ∷ ys) zero x l = absurd (omega arith)
set_past (y ∷ ys) (suc i) x l = ap (λ zs. y ∷ zs) (set_past ys i x (omega arith))

-- one flag is written in the set of the rows that were sent so often
abbrev pub with_flag : List (List Bool) → ℕ → ℕ → Bool → List (List Bool)
with_flag sent sends index flag = set sent sends (set (get_or sent sends []) index flag)

flag-here : (sent : List (List Bool)) (sends index : ℕ) (flag : Bool) (d : List Bool) → sends < length sent
    → get_or (with_flag sent sends index flag) sends d ≡ set (get_or sent sends []) index flag
flag-here sent sends index flag d l = get_or-set_same sent sends (set (get_or sent sends []) index flag) d l

flag-other : (sent : List (List Bool)) (sends other index : ℕ) (flag : Bool) (d : List Bool) → other ≢ sends
    → get_or (with_flag sent sends index flag) other d ≡ get_or sent other d
flag-other sent sends other index flag d n =
    get_or-set_other sent sends other (set (get_or sent sends []) index flag) d n

length-flag : (sent : List (List Bool)) (sends index : ℕ) (flag : Bool)
    → length (with_flag sent sends index flag) ≡ length sent
length-flag sent sends index flag = length-set sent sends (set (get_or sent sends []) index flag)

module _ (sent : List (List Bool)) (rows : List Queued) (row next : Queued) (index from to : ℕ)
    (sets : AreSets sent rows) (stands : slice_get rows index ≡ Some row)
    (was : row.sends ≢ from → row.sends ≡ to) (now : next.sends ≡ to) where
  abbrev taken_out : List (List Bool)
  taken_out = with_flag sent from index false

  abbrev added : List (List Bool)
  added = with_flag taken_out to index true

  -- the flag of the row is written in the set of those that are sent as often as it is now
  written : (sends : ℕ) (flag : Bool) → flag ≡ nat_eq to sends
      → set (flags_by (was_sent sends) rows) index flag ≡ flags_by (was_sent sends) (set rows index next)
  written sends flag e =
      ap (set (flags_by (was_sent sends) rows) index) (e ∙ ap (λ n. nat_eq n sends) (sym now))
      ∙ set-flags_by (was_sent sends) rows index next (slice_get_within rows index row stands)

  -- the row is in no other set
  not_there : (sends : ℕ) → sends ≢ from → sends ≢ to → get_or (flags_by (was_sent sends) rows) index false ≡ false
  not_there sends f t =
      get_or-flags_by (was_sent sends) rows index row (slice_get_within rows index row stands)
      ∙ ap (was_sent sends) (get_or_from_slice_get rows index row row stands)
      ∙ ne_eqb row.sends sends (λ e. elim (cases_eq row.sends from) [
        | inl s ↦ f (sym e ∙ s)
        | inr n ↦ t (sym e ∙ was n)
      ])

  set_to : (d : List Bool) → to < SETS → get_or added to d ≡ flags_by (was_sent to) (set rows index next)
  set_to d l = flag-here taken_out to index true d (omega (arith, length-flag sent from index false, sets.long))
      ∙ elim (cases_eq to from) [
        | inl e ↦
            ap (λ n. set (get_or taken_out n []) index true) e
            ∙ ap (λ s. set s index true) (flag-here sent from index false [] (omega (arith, sets.long, e)))
            ∙ set-set (get_or sent from []) index false true
            ∙ ap (λ n. set (get_or sent n []) index true) (sym e)
            ∙ ap (λ s. set s index true) (sets.each to [] l)
            ∙ written to true (sym (eq-eqb to to refl))
        | inr n ↦
            ap (λ s. set s index true) (flag-other sent from to index false [] n ∙ sets.each to [] l)
            ∙ written to true (sym (eq-eqb to to refl))
      ]

  set_other : (sends : ℕ) (d : List Bool) → sends < SETS → sends ≢ to
      → get_or added sends d ≡ flags_by (was_sent sends) (set rows index next)
  set_other sends d l n = flag-other taken_out to sends index true d n
      ∙ elim (cases_eq sends from) [
        | inl e ↦
            ap (λ n. get_or taken_out n d) e
            ∙ flag-here sent from index false d (omega (arith, sets.long, e))
            ∙ ap (λ n. set (get_or sent n []) index false) (sym e)
            ∙ ap (λ s. set s index false) (sets.each sends [] l)
            ∙ written sends false (sym (ne_eqb to sends (λ w. n (sym w))))
        | inr f ↦
            flag-other sent from sends index false d f
            ∙ sets.each sends d l
            ∙ sym (set_same (flags_by (was_sent sends) rows) index false false (not_there sends f n))
            ∙ written sends false (sym (ne_eqb to sends (λ w. n (sym w))))
      ]

  pub sets-moved : AreSets added (set rows index next)
  sets-moved = record {
    long = length-flag taken_out to index true ∙ length-flag sent from index false ∙ sets.long;
    each = λ sends d l. elim (cases_eq sends to) [
      | inl e ↦
          ap (λ n. get_or added n d) e ∙ set_to d (omega (arith, l, e))
          ∙ ap (λ n. flags_by (was_sent n) (set rows index next)) (sym e)
      | inr n ↦ set_other sends d l n
    ];
  }

-- if no row was sent so often, the set has none
none_sent : (sends : ℕ) (rows : List Queued) → AllByRecursion (λ q. was_sent sends q ≡ false) rows
    → map (was_sent sends) rows ≡ replicate (length rows) false
none_sent sends [] all = refl
none_sent sends (q ∷ qs) all = rw all.0 (ap (λ flags. false ∷ flags) (none_sent sends qs all.1))

no_flag : (sends : ℕ) (rows : List Queued) → length rows ≤ MAX_QUEUED
    → AllByRecursion (λ q. was_sent sends q ≡ false) rows → flags_by (was_sent sends) rows ≡ no_flags
unfolding flags_by no_flags
no_flag sends rows few all =
    let more = MAX_QUEUED - length rows in
    let whole : length rows + more ≡ MAX_QUEUED = omega (arith, few) in
    ap (λ flags. flags ++ replicate more false) (none_sent sends rows all)
    ∙ replicate-append-replicate (length rows) more false
    ∙ ap (λ n. replicate n false) whole

none_above : (used sends : ℕ) (rows : List Queued) → used ≤ sends → sends < SETS → AreBelow used rows
    → AllByRecursion (λ q. was_sent sends q ≡ false) rows
none_above used sends [] l w b = tt
none_above used sends (q ∷ qs) l w b =
    (ne_eqb q.sends sends (λ e. omega (arith, e, l, b.0 (omega (arith, e, w)))), none_above used sends qs l w b.1)

-- such a set has no row, whatever rows there are
same_above : (used sends : ℕ) (rows others : List Queued) → used ≤ sends → sends < SETS → AreBelow used rows
    → AreBelow used others → length rows ≤ MAX_QUEUED → length others ≤ MAX_QUEUED
    → flags_by (was_sent sends) rows ≡ flags_by (was_sent sends) others
same_above used sends rows others l w b o few many =
    no_flag sends rows few (none_above used sends rows l w b)
    ∙ sym (no_flag sends others many (none_above used sends others l w o))

all-remove : (P : Queued → Type 0) (rows : List Queued) (index : ℕ) → AllByRecursion P rows
    → AllByRecursion P (remove rows index)
all-remove P [] zero all = all
all-remove P [] (suc index) all = all
all-remove P (q ∷ qs) zero all = all.1
all-remove P (q ∷ qs) (suc index) all = (all.0, all-remove P qs index all.1)

module _ (sent opened : List (List Bool)) (rows : List Queued) (row : Queued) (index so used : ℕ)
    (sets : AreSets sent rows) (long : length opened ≡ SETS)
    (each : (sends : ℕ) (d : List Bool) → sends < used
    → get_or opened sends d ≡ opened_flags index (get_or sent sends d))
    (kept : (sends : ℕ) (d : List Bool) → used ≤ sends → get_or opened sends d ≡ get_or sent sends d)
    (enough : used ≤ SETS) (below : AreBelow used rows) (under : row.sends < SETS → row.sends < used)
    (few : length rows < MAX_QUEUED) (within : index ≤ length rows) (was : row.sends ≡ so) where
  -- a place is open in the set of the rows that were sent so often
  open_place : (sends : ℕ) (d : List Bool) → sends < used
      → get_or opened sends d ≡ opened_flags index (flags_by (was_sent sends) rows)
  open_place sends d l = each sends d l ∙ ap (opened_flags index) (sets.each sends d (omega (arith, l, enough)))

  filled_place : (sends : ℕ) (flag : Bool) → flag ≡ nat_eq so sends
      → set (opened_flags index (flags_by (was_sent sends) rows)) index flag
      ≡ flags_by (was_sent sends) (insert rows index row)
  filled_place sends flag e =
      ap (set (opened_flags index (flags_by (was_sent sends) rows)) index) (e ∙ ap (λ n. nat_eq n sends) (sym was))
      ∙ opened_flags-flags_by (was_sent sends) rows index row few within

  other_set : (sends : ℕ) (d : List Bool) → sends < SETS → sends ≢ so
      → get_or opened sends d ≡ flags_by (was_sent sends) (insert rows index row)
  other_set sends d l n = elim (cases_lt sends used) [
    | inl u ↦
        let many = length-flags_by (was_sent sends) rows (omega (arith, few)) in
        open_place sends d u
        ∙ sym (set_same (opened_flags index (flags_by (was_sent sends) rows)) index false false
        (get_or-opened_flags (flags_by (was_sent sends) rows) index (omega (arith, many, few, within))))
        ∙ filled_place sends false (sym (ne_eqb so sends (λ e. n (sym e))))
    | inr g ↦
        kept sends d g
        ∙ sets.each sends d l
        ∙ same_above used sends rows (insert rows index row) g l below
        (all-insert (λ q. q.sends < SETS → q.sends < used) index row rows under below)
        (omega (arith, few)) (omega (arith, few, length-insert rows index row within))
  ]

  pub sets-opened : AreSets (with_flag opened so index true) (insert rows index row)
  sets-opened = record {
    long = length-flag opened so index true ∙ long;
    each = λ sends d l. elim (cases_eq sends so) [
      | inl e ↦
          ap (λ n. get_or (with_flag opened so index true) n d) e
          ∙ flag-here opened so index true d (omega (arith, long, l, e))
          ∙ ap (λ s. set s index true) (open_place so [] (omega (arith, was, under (omega (arith, was, l, e)))))
          ∙ filled_place so true (sym (eq-eqb so so refl))
          ∙ ap (λ n. flags_by (was_sent n) (insert rows index row)) (sym e)
      | inr n ↦ flag-other opened so sends index true d n ∙ other_set sends d l n
    ];
  }

-- once a row is removed, its place is closed in each set
pub sets-closed : (sent closed : List (List Bool)) (rows : List Queued) (index used : ℕ) → AreSets sent rows
    → length closed ≡ length sent
    → ((sends : ℕ) (d : List Bool) → sends < used → get_or closed sends d ≡ closed_flags index (get_or sent sends d))
    → ((sends : ℕ) (d : List Bool) → used ≤ sends → get_or closed sends d ≡ get_or sent sends d)
    → AreBelow used rows → length rows ≤ MAX_QUEUED → index < length rows → AreSets closed (remove rows index)
sets-closed sent closed rows index used sets long each kept below few within = record {
  long = long ∙ sets.long;
  each = λ sends d l. elim (cases_lt sends used) [
    | inl u ↦
        each sends d u
        ∙ ap (closed_flags index) (sets.each sends d l)
        ∙ closed_flags-flags_by (was_sent sends) rows index few within
    | inr g ↦
        kept sends d g
        ∙ sets.each sends d l
        ∙ same_above used sends rows (remove rows index) g l below
        (all-remove (λ q. q.sends < SETS → q.sends < used) rows index below) few
        (omega (arith, few, within, length-remove rows index within))
  ];
}

-- where there are no rows, no set has one
pub sets-none : (flags : List Bool) → flags ≡ no_flags → AreSets (replicate SETS flags) []
sets-none flags e = record {
  long = length-replicate SETS flags;
  each = λ sends d l. get_or-replicate SETS sends flags d l ∙ e ∙ sym (no_flags-flags_by (was_sent sends));
}

pub sets-cleared : (sent : List (List Bool)) → length sent ≡ SETS
    → ((sends : ℕ) (d : List Bool) → sends < SETS → get_or sent sends d ≡ no_flags) → AreSets sent []
sets-cleared sent long clear =
    record { long = long; each = λ sends d l. clear sends d l ∙ sym (no_flags-flags_by (was_sent sends)) }
