-- How often each row of a queue was sent at least, once a packet took some of them.
use Rattle.std.proofs.Common.{
  ◌≡◌,
  ℕ,
  suc,
  zero,
  ◌+◌,
  ◌-◌,
  ◌<◌,
  ◌≤◌,
  Bool,
  true,
  false,
  ◌||◌,
  List,
  [],
  ◌∷◌,
  length,
  map,
  take,
  get_or,
  Option,
  Some,
  None,
  ◌⊎◌,
  inl,
  inr,
  refl,
  sym,
  ◌∙◌,
  ap,
  subst,
  arith,
}
use Rattle.std.specs.Prelude.{⊤, filter, is_some}
use Rattle.std.specs.List.{AllByRecursion}
use Rattle.std.proofs.lemmas.Bool.{cases_Bool, cases_lt, lt-ltb, false≢true}
use Rattle.std.proofs.lemmas.List.{length-take}
use Rattle.lg_rules.specs.declared.claim.Claim.{Claim}
use Rattle.lg_rules.specs.declared.version.Version.{Version}
use Rattle.lg_rules.specs.declared.version.Version.TheVariants.{One, Two, Three}
use Rattle.lg_rules.specs.Meaning.Claim.{name_of}
use Rattle.lg_rules.specs.Meaning.Rows.{name_cmp, is_same, is_among}
use Rattle.lg_rules.specs.Meaning.Version.{most_claims_of}
use Rattle.lg_rules.proofs.KeyOrder.{names_order, same_key}
use Rattle.lg_gossip.specs.declared.choice.TakenRow.{TakenRow}
use Rattle.lg_gossip.specs.declared.queued.Queued.{Queued}
use Rattle.lg_gossip.specs.Meaning.Queue.{queued_name, queued_claim, is_sooner, put_by_sends, by_sends, may_go, rows_taken, sent_once}
use Rattle.lg_gossip.specs.Support.Places.{HasTaken}
use Rattle.lg_gossip.specs.Support.Sound.{AreInOrder, AreSent}
use Rattle.lg_gossip.proofs.BySends.{no_more, not_sooner}
use Rattle.lg_gossip.proofs.Each.{all-both, all-put_by_sends, holds_at}
use Rattle.lg_gossip.proofs.Places.{length-at, sends-at}
use Rattle.lg_gossip.proofs.Taken.{IsTaken, are_taken, below_limit, may_when_taken}

-- Each row was sent at least 0 times,
pub sent-none : (rows : List Queued) → AreSent 0 rows
sent-none [] = tt
sent-none (q ∷ qs) = (omega arith, sent-none qs)

-- and what was sent at least so often was sent at least as often as any lesser number.
pub sent-weaker : (low high : ℕ) (rows : List Queued) → low ≤ high → AreSent high rows → AreSent low rows
sent-weaker low high [] l a = tt
sent-weaker low high (q ∷ qs) l a = (omega (arith, a.0), sent-weaker low high qs l a.1)

-- After a packet no row was sent less often than before.
pub still_sent : (taken : List Claim) (fewest : ℕ) (rows : List Queued) → AreSent fewest rows → AreSent fewest (map (sent_once taken) rows)
still_sent taken fewest [] a = tt
still_sent taken fewest (q ∷ qs) a = (here, still_sent taken fewest qs a.1)
  where
    here : fewest ≤ (sent_once taken q).sends
    here = elim (cases_Bool (is_among name_cmp (queued_name q) (map name_of taken))) [
      | inl t ↦ rw t (omega (arith, a.0))
      | inr f ↦ rw f a.0
    ]

-- These rows are in the order of their sends.
abbrev AreRising : List Queued → Type 0
AreRising [] = ⊤
AreRising (q ∷ qs) = AreSent q.sends qs × AreRising qs

rising-put : (q : Queued) (rows : List Queued) → AreRising rows → AreRising (put_by_sends q rows)
rising-put q [] r = (tt, tt)
rising-put q (x ∷ xs) r = elim (cases_Bool (is_sooner q x)) [
  | inl t ↦ rw t ((no_more q x t, sent-weaker q.sends x.sends xs (no_more q x t) r.0), r)
  | inr f ↦ rw f (all-put_by_sends (λ y. x.sends ≤ y.sends) q xs (not_sooner q x f) r.0, rising-put q xs r.1)
]

rising-by_sends : (rows : List Queued) → AreRising (by_sends rows)
rising-by_sends [] = tt
rising-by_sends (q ∷ qs) = rising-put q (by_sends qs) (rising-by_sends qs)

-- What holds of each of some rows in the order of their sends holds of each of these rows,
of_put : (P : Queued → Type 0) (q : Queued) (rows : List Queued) → AllByRecursion P (put_by_sends q rows) → P q × AllByRecursion P rows
of_put P q [] a = a
of_put P q (x ∷ xs) a = elim (cases_Bool (is_sooner q x)) [
  | inl t ↦ rw t at a
  | inr f ↦ (
      let both = rw f at a in
      let rest = of_put P q xs both.1 in
      (rest.0, (both.0, rest.1)))
]

of_by_sends : (P : Queued → Type 0) (rows : List Queued) → AllByRecursion P (by_sends rows) → AllByRecursion P rows
of_by_sends P [] a = tt
of_by_sends P (q ∷ qs) a =
    let both = of_put P q (by_sends qs) a in
    (both.0, of_by_sends P qs both.1)

-- and what holds of those that pass a test holds of each if it passes.
of_filter : (P : Queued → Type 0) (p : Queued → Bool) (rows : List Queued) → AllByRecursion P (filter p rows) → AllByRecursion (λ q. p q ≡ true → P q) rows
of_filter P p [] a = tt
of_filter P p (x ∷ xs) a = elim (cases_Bool (p x)) [
  | inl t ↦ (let both = rw t at a in ((λ _. both.0), of_filter P p xs both.1))
  | inr f ↦ (let rest = rw f at a in ((λ t. absurd (false≢true (sym f ∙ t))), of_filter P p xs rest))
]

-- whether a row's name is among those of these
abbrev is_one : List Queued → Queued → Bool
is_one taken q = is_among name_cmp (queued_name q) (map name_of (map queued_claim taken))

one_of : (x : Queued) (xs : List Queued) → is_one (x ∷ xs) x ≡ true
one_of x xs = rw (same_key names_order (queued_name x) (queued_name x) refl) refl

or-true : (b : Bool) → (b || true) ≡ true
or-true true = refl
or-true false = refl

-- Of rows in the order of their sends, each is among the first k + 1, or was sent at least as often as the last of these,
among_or_later : (k floor : ℕ) (rows : List Queued) → AreRising rows → ((d : Queued) → k < length (take (suc k) rows) → floor ≤ (get_or (take (suc k) rows) k d).sends)
    → AllByRecursion (λ q. (is_one (take (suc k) rows) q ≡ true) ⊎ (floor ≤ q.sends)) rows
among_or_later k floor [] r l = tt
among_or_later zero floor (x ∷ xs) r l = (inl (one_of x []), all-both _ _ _ xs (λ q s _. inr (omega (arith, l x (omega arith), s))) r.0 r.0)
among_or_later (suc k) floor (x ∷ xs) r l =
    let more = among_or_later k floor xs r.1 (λ d w. l d (omega (arith, w))) in (
      inl (one_of x (take (suc k) xs)),
      all-both _ _ _ xs (λ q a _. elim a [
        | inl t ↦ inl (rw t (or-true (is_same name_cmp (queued_name x) (queued_name q))))
        | inr s ↦ inr s
      ]) more more,
    )

-- and each was sent at least as often as the first.
first_least : (k floor : ℕ) (rows : List Queued) → AreRising rows → ((d : Queued) → 0 < length (take (suc k) rows) → floor ≤ (get_or (take (suc k) rows) 0 d).sends + 1)
    → AllByRecursion (λ q. floor ≤ q.sends + 1) rows
first_least k floor [] r l = tt
first_least k floor (x ∷ xs) r l =
    let first = l x (omega arith) in
    (first, all-both _ _ _ xs (λ q s _. omega (arith, first, s)) r.0 r.0)

-- The sends after a packet, by the rows that it takes and those that it doesn't take.
sent_after : (taken : List Claim) (floor : ℕ) (rows : List Queued)
    → AllByRecursion (λ q. is_among name_cmp (queued_name q) (map name_of taken) ≡ true → floor ≤ q.sends + 1) rows
    → AllByRecursion (λ q. is_among name_cmp (queued_name q) (map name_of taken) ≡ false → floor ≤ q.sends) rows
    → AreSent floor (map (sent_once taken) rows)
sent_after taken floor [] a b = tt
sent_after taken floor (q ∷ qs) a b = (here, sent_after taken floor qs a.1 b.1)
  where
    here : floor ≤ (sent_once taken q).sends
    here = elim (cases_Bool (is_among name_cmp (queued_name q) (map name_of taken))) [
      | inl t ↦ rw t (a.0 t)
      | inr f ↦ rw f (b.0 f)
    ]

-- a packet of each version has room
pub has_room : (v : Version) → suc (most_claims_of v - 1) ≡ most_claims_of v
has_room One = refl
has_room Two = refl
has_room Three = refl

module _ (v : Version) (limit floor : ℕ) (rows : List Queued) (o : AreInOrder rows) where
  abbrev the_taken : List Queued
  the_taken = rows_taken v None limit rows

  -- Each row was sent at least so often, once a packet without a buddy took these: they have one more, and the others
  -- were sent as often as the last of them, if there was no room for more.
  rises : ((d : Queued) → 0 < length the_taken → floor ≤ (get_or the_taken 0 d).sends + 1)
      → ((d : Queued) → most_claims_of v - 1 < length the_taken
      → floor ≤ (get_or the_taken (most_claims_of v - 1) d).sends)
      → (length the_taken ≤ 0 → floor ≤ limit)
      → AreSent floor (map (sent_once (map queued_claim the_taken)) rows)
  rises first last none =
      let p = may_go None limit in
      let chosen = by_sends (filter p rows) in
      let rising = rising-by_sends (filter p rows) in
      let k = most_claims_of v - 1 in
      let room = has_room v in
      let least =
      subst (λ n. (d : Queued) → 0 < length (take n chosen) → floor ≤ (get_or (take n chosen) 0 d).sends + 1)
      (sym room) first in
      let behind =
      subst (λ n. (d : Queued) → k < length (take n chosen) → floor ≤ (get_or (take n chosen) k d).sends)
      (sym room) last in
      let among =
      subst (λ n. AllByRecursion (λ q. (is_one (take n chosen) q ≡ true) ⊎ (floor ≤ q.sends)) chosen) room
      (among_or_later k floor chosen rising behind) in
      let low = of_filter _ p rows (of_by_sends _ (filter p rows) (first_least k floor chosen rising least)) in
      let one = of_filter _ p rows (of_by_sends _ (filter p rows) among) in
      let may = may_when_taken v None limit rows o in
      sent_after (map queued_claim the_taken) floor rows
      (all-both _ _ _ rows (λ q l m a. l (m a)) low may)
      (all-both _ _ _ rows (λ q a _. other q a) one one)
    where
      most : (d : Queued) → floor ≤ limit
      most d = elim (cases_lt 0 (length the_taken)) [
        | inl l ↦
            let here = holds_at (IsTaken None limit rows) 0 d the_taken l (are_taken v None limit rows o) in
            omega (arith, first d l, below_limit None limit (get_or the_taken 0 d) here.may)
        | inr g ↦ none g
      ]

      other : (q : Queued) → (may_go None limit q ≡ true → (is_one the_taken q ≡ true) ⊎ (floor ≤ q.sends)) → is_one the_taken q ≡ false → floor ≤ q.sends
      other q a f = elim (cases_lt q.sends limit) [
        | inl l ↦ elim (a (rw (lt-ltb q.sends limit l) refl)) [
          | inl t ↦ absurd (false≢true (sym f ∙ t))
          | inr s ↦ s
        ]
        | inr g ↦ omega (arith, most q, g)
      ]

-- The same by the places of those that were taken.
pub rises-to : (v : Version) (buddy : Option Claim) (limit floor : ℕ) (rows : List Queued) (ts : List TakenRow)
    (t : TakenRow) → is_some buddy ≡ false → AreInOrder rows → HasTaken v buddy limit rows ts
    → (length ts ≡ 0 → floor ≤ limit)
    → (0 < length ts → floor ≤ (get_or ts 0 t).sends + 1)
    → (length ts ≡ most_claims_of v → floor ≤ (get_or ts (most_claims_of v - 1) t).sends)
    → AreSent floor (map (sent_once (map queued_claim (rows_taken v buddy limit rows))) rows)
rises-to v (Some b) limit floor rows ts t e o a none first last = absurd (false≢true (sym e))
rises-to v None limit floor rows ts t e o a none first last =
    let as_many : length (rows_taken v None limit rows) ≡ length ts =
    ap length (sym a.chosen) ∙ length-at rows ts a.places in
    let most : length (rows_taken v None limit rows) ≤ most_claims_of v = simp length-take (omega arith) in
    rises v limit floor rows o
    (λ d l. let within : 0 < length ts = omega (arith, l, as_many) in omega (arith, first within, same 0 d within))
    (λ d l. let within : most_claims_of v - 1 < length ts = omega (arith, l, as_many) in
    omega (arith, last (omega (arith, l, most, as_many)), same (most_claims_of v - 1) d within))
    (λ l. none (omega (arith, l, as_many)))
  where
    same : (k : ℕ) (d : Queued) → k < length ts
        → (get_or (rows_taken v None limit rows) k d).sends ≡ (get_or ts k t).sends
    same k d l = ap (λ rs. (get_or rs k d).sends) (sym a.chosen) ∙ sends-at rows k d t ts l a.places
