-- What a packet takes of a queue.
use Rattle.std.proofs.Common.{◌≡◌, ℕ, ◌<◌, Bool, true, List, [], ◌∷◌, map, Option, Some, inl, inr, refl, sym, ◌∙◌, subst}
use Rattle.std.specs.Prelude.{filter, nat_lt}
use Rattle.std.specs.List.{AllByRecursion}
use Rattle.std.specs.declared.cmp.Ordering.TheVariants.{Less}
use Rattle.std.proofs.lemmas.Bool.{cases_Bool, false≢true, ltb-true}
use Rattle.lg_rules.specs.declared.claim.Claim.{Claim}
use Rattle.lg_rules.specs.declared.version.Version.{Version}
use Rattle.lg_rules.specs.Meaning.Claim.{name_of}
use Rattle.lg_rules.specs.Meaning.Rows.{name_cmp, is_among, row_at, AreAbove}
use Rattle.lg_rules.proofs.KeyOrder.{names_order, tied, turned, cases_key}
use Rattle.lg_rules.proofs.Cases.{held_once}
use Rattle.lg_rules.proofs.Rises.{among-cons_other}
use Rattle.lg_rules.proofs.Tests.{both}
use Rattle.lg_gossip.specs.declared.queued.Queued.{Queued}
use Rattle.lg_gossip.specs.Meaning.Queue.{queued_name, queued_claim, by_sends, is_beside, may_go, room_beside, rows_taken}
use Rattle.lg_gossip.proofs.Each.{all-filter, all-by_sends, all-take, all-both, passed}
use Rattle.lg_gossip.specs.Support.Sound.{AreInOrder}

-- names above one
pub above : (n : List ℕ) (rows : List Queued) → AreAbove name_cmp n (map queued_name rows) → AllByRecursion (λ q. name_cmp n (queued_name q) ≡ Less) rows
above n [] a = tt
above n (x ∷ xs) a = (a.0, above n xs a.1)

above-filter : (p : Queued → Bool) (n : List ℕ) (rows : List Queued) → AreAbove name_cmp n (map queued_name rows) → AreAbove name_cmp n (map queued_name (filter p rows))
above-filter p n [] a = tt
above-filter p n (x ∷ xs) a = elim (cases_Bool (p x)) [
  | inl t ↦ rw t (a.0, above-filter p n xs a.1)
  | inr f ↦ rw f (above-filter p n xs a.1)
]

pub in_order-filter : (p : Queued → Bool) (rows : List Queued) → AreInOrder rows → AreInOrder (filter p rows)
in_order-filter p [] o = tt
in_order-filter p (x ∷ xs) o = elim (cases_Bool (p x)) [
  | inl t ↦ rw t (above-filter p (queued_name x) xs o.0, in_order-filter p xs o.1)
  | inr f ↦ rw f (in_order-filter p xs o.1)
]

-- each row of a queue is that of its name
pub its_own : (rows : List Queued) → AreInOrder rows → AllByRecursion (λ q. row_at name_cmp queued_name (queued_name q) rows ≡ Some q) rows
its_own [] o = tt
its_own (x ∷ xs) o = (here, all-both _ _ _ xs there (above (queued_name x) xs o.0) (its_own xs o.1))
  where
    here : row_at name_cmp queued_name (queued_name x) (x ∷ xs) ≡ Some x
    here = rw (tied names_order (queued_name x) (queued_name x) refl) refl

    there : (q : Queued) → name_cmp (queued_name x) (queued_name q) ≡ Less → row_at name_cmp queued_name (queued_name q) xs ≡ Some q → row_at name_cmp queued_name (queued_name q) (x ∷ xs) ≡ Some q
    there q l e = rw (turned names_order (queued_name x) (queued_name q) Less l) e

-- a row that a packet takes is the queue's row of its name, and may go
pub record IsTaken (buddy : Option Claim) (limit : ℕ) (rows : List Queued) (q : Queued) : Type 0 where
  pub its_own : row_at name_cmp queued_name (queued_name q) rows ≡ Some q
  pub may : may_go buddy limit q ≡ true

pub are_taken : (v : Version) (buddy : Option Claim) (limit : ℕ) (rows : List Queued) → AreInOrder rows
    → AllByRecursion (IsTaken buddy limit rows) (rows_taken v buddy limit rows)
are_taken v buddy limit rows o =
    let p = may_go buddy limit in
    let open_rows = filter p rows in
    all-take (IsTaken buddy limit rows) (room_beside v buddy) (by_sends open_rows)
    (all-by_sends (IsTaken buddy limit rows) open_rows
    (all-both _ _ (IsTaken buddy limit rows) open_rows (λ q a b. record { its_own = a; may = b }) (all-filter _ p rows (its_own rows o)) (passed p rows)))

-- a row that may go was sent fewer times than the limit
pub below_limit : (buddy : Option Claim) (limit : ℕ) (q : Queued) → may_go buddy limit q ≡ true → q.sends < limit
below_limit buddy limit q e = ltb-true q.sends limit (both (nat_lt q.sends limit) (is_beside buddy q) e).0

-- what the queue holds of a name among those taken
record Found (buddy : Option Claim) (limit : ℕ) (rows : List Queued) (n : List ℕ) : Type 0 where
  row : Queued
  stands : row_at name_cmp queued_name n rows ≡ Some row
  may : may_go buddy limit row ≡ true

found : (buddy : Option Claim) (limit : ℕ) (rows : List Queued) (n : List ℕ) (taken : List Queued) → AllByRecursion (IsTaken buddy limit rows) taken
    → is_among name_cmp n (map name_of (map queued_claim taken)) ≡ true → Found buddy limit rows n
found buddy limit rows n [] a e = absurd (false≢true e)
found buddy limit rows n (q ∷ qs) a e = elim (cases_key names_order (queued_name q) n) [
  | inl s ↦ record { row = q; stands = subst (λ m. row_at name_cmp queued_name m rows ≡ Some q) s a.0.its_own; may = a.0.may }
  | inr d ↦ found buddy limit rows n qs a.1 (sym (among-cons_other names_order n (queued_name q) (map name_of (map queued_claim qs)) d) ∙ e)
]

-- so a row whose name is taken may go
pub may_when_taken : (v : Version) (buddy : Option Claim) (limit : ℕ) (rows : List Queued) → AreInOrder rows
    → AllByRecursion (λ r. is_among name_cmp (queued_name r)
    (map name_of (map queued_claim (rows_taken v buddy limit rows))) ≡ true → may_go buddy limit r ≡ true) rows
may_when_taken v buddy limit rows o = all-both _ _ _ rows go (its_own rows o) (its_own rows o)
  where
    go : (r : Queued) → row_at name_cmp queued_name (queued_name r) rows ≡ Some r → row_at name_cmp queued_name (queued_name r) rows ≡ Some r
        → is_among name_cmp (queued_name r) (map name_of (map queued_claim (rows_taken v buddy limit rows))) ≡ true
        → may_go buddy limit r ≡ true
    go r e _ a =
        let taken = rows_taken v buddy limit rows in
        let f = found buddy limit rows (queued_name r) taken (are_taken v buddy limit rows o) a in
        subst (λ x. may_go buddy limit x ≡ true) (held_once f.row r (sym f.stands ∙ e)) f.may
