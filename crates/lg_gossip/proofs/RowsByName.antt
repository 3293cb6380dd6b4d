-- The rows of a queue that a function gives for names in rising order: what a put and a packet do at each name.
use Rattle.std.proofs.Common.{◌≡◌, ℕ, ◌+◌, ◌<◌, ◌≤◌, true, false, List, [], ◌∷◌, ◌++◌, length, map, take, Option, Some, None, refl, sym, ◌∙◌, ap, arith}
use Rattle.std.specs.Prelude.{filter_map, option_map, nat_lt}
use Rattle.std.specs.Option.{option_to_list}
use Rattle.std.specs.List.{AllByRecursion, IsDistinct}
use Rattle.std.proofs.lemmas.Bool.{ltb-true}
use Rattle.std.proofs.lemmas.List.{length-map, length-take}
use Rattle.lg_rules.specs.declared.claim.Claim.{Claim}
use Rattle.lg_rules.specs.declared.version.Version.{Version}
use Rattle.lg_rules.specs.Meaning.Claim.{name_of}
use Rattle.lg_rules.specs.Meaning.Rows.{name_cmp, is_same, is_among, put_key, row_at, Rises}
use Rattle.lg_rules.specs.Meaning.Version.{most_claims_of}
use Rattle.lg_rules.proofs.Cases.{Missing, Holding, held, held_once}
use Rattle.lg_rules.proofs.KeyOrder.{names_order}
use Rattle.lg_rules.proofs.RowLaws.{Keyed, AgreeBut, rows-put, rises-rows}
use Rattle.lg_rules.proofs.Tests.{both}
use Rattle.lg_gossip.specs.declared.queued.Queued.{Queued}
use Rattle.lg_gossip.specs.Meaning.Queue.{QueueValue, queued_name, queued_claim, fresh, put_of, limit_of, buddy_of, room_beside, is_beside, rows_taken, taken_of, fill_of, sent_once, filled}
use Rattle.lg_gossip.specs.Support.Sound.{AreInOrder}
use Rattle.lg_gossip.proofs.Distinct.{distinct-taken, distinct-packet}
use Rattle.lg_gossip.proofs.Fewest.{has_room}
use Rattle.lg_gossip.proofs.Taken.{IsTaken, are_taken}

-- a queue of the rows that a function gives
abbrev pub queue_by : ℕ → Version → (List ℕ → Option Queued) → List (List ℕ) → QueueValue
queue_by lambda v f names = record { lambda = lambda; version = v; rows = filter_map f names }

-- its rows are in the order of their names
pub in_order-rows : (f : List ℕ → Option Queued) (names : List (List ℕ)) → Keyed queued_name f → Rises name_cmp names → AreInOrder (filter_map f names)
in_order-rows f names keyed rise = rises-rows names_order queued_name f names keyed rise

-- A put makes a fresh row at its name, and leaves every other name as it was.
pub put-rows : (lambda : ℕ) (v : Version) (c : Claim) (f g : List ℕ → Option Queued) (names : List (List ℕ))
    → Rises name_cmp names → Keyed queued_name f → g c.name ≡ Some (fresh v c) → AgreeBut c.name f g
    → put_of c (queue_by lambda v f names) ≡ queue_by lambda v g (put_key name_cmp c.name names)
put-rows lambda v c f g names rise keyed here there =
    ap (λ rows. record { lambda = lambda; version = v; rows = rows })
    (rows-put names_order queued_name f g (fresh v c) names rise keyed here there)

-- A packet that took some claims counts at each name that these are about, and at no other.
abbrev pub sent_at : List Claim → (List ℕ → Option Queued) → List ℕ → Option Queued
sent_at taken f n = option_map (sent_once taken) (f n)

pub sent-rows : (taken : List Claim) (f : List ℕ → Option Queued) (names : List (List ℕ)) → map (sent_once taken) (filter_map f names) ≡ filter_map (sent_at taken f) names
sent-rows taken f [] = refl
sent-rows taken f (n ∷ ns) = elim (held (f n)) [
  | Missing e ↦ rw e (sent-rows taken f ns)
  | Holding q e ↦ rw e (ap (λ rows. sent_once taken q ∷ rows) (sent-rows taken f ns))
]

pub filled-rows : (lambda : ℕ) (v : Version) (f : List ℕ → Option Queued) (names : List (List ℕ)) (to : Option Claim)
    (n : ℕ)
    → filled (queue_by lambda v f names) to n
    ≡ queue_by lambda v (sent_at (taken_of (queue_by lambda v f names) to n) f) names
filled-rows lambda v f names to n =
    ap (λ rows. record { lambda = lambda; version = v; rows = rows })
    (sent-rows (taken_of (queue_by lambda v f names) to n) f names)

pub sent_keyed : (taken : List Claim) (f : List ℕ → Option Queued) → Keyed queued_name f → Keyed queued_name (sent_at taken f)
sent_keyed taken f keyed n r e = elim (held (f n)) [
  | Missing gap ↦ (let none : None ≡ Some r = sym (ap (option_map (sent_once taken)) gap) ∙ e in absurd cc)
  | Holding q is ↦ (
      let one : sent_once taken q ≡ r = held_once (sent_once taken q) r (sym (ap (option_map (sent_once taken)) is) ∙ e) in
      sym (ap queued_name one) ∙ keyed n q is)
]

module _ (taken : List Claim) (f : List ℕ → Option Queued) (keyed : Keyed queued_name f) (n : List ℕ) where
  pub sent_at-none : f n ≡ None → sent_at taken f n ≡ None
  sent_at-none e = ap (option_map (sent_once taken)) e

  pub sent_at-held : (q : Queued) → f n ≡ Some q → is_among name_cmp n (map name_of taken) ≡ true → sent_at taken f n ≡ Some record { claim = q.claim; sends = q.sends + 1 }
  sent_at-held q e a =
      let held_here : is_among name_cmp (queued_name q) (map name_of taken) ≡ true = ap (λ m. is_among name_cmp m (map name_of taken)) (keyed n q e) ∙ a in
      rw (e, held_here) refl

  pub sent_at-other : is_among name_cmp n (map name_of taken) ≡ false → sent_at taken f n ≡ f n
  sent_at-other a = elim (held (f n)) [
    | Missing e ↦ rw e refl
    | Holding q e ↦ (
        let not_here : is_among name_cmp (queued_name q) (map name_of taken) ≡ false = ap (λ m. is_among name_cmp m (map name_of taken)) (keyed n q e) ∙ a in
        rw (e, not_here) refl)
  ]

-- A claim that a packet takes is the queue's claim about its member, below the limit.
pub record IsStanding (queue : QueueValue) (n : ℕ) (c : Claim) : Type 0 where
  pub row : Queued
  pub stands : row_at name_cmp queued_name c.name queue.rows ≡ Some row
  pub claim : row.claim ≡ c
  pub below : row.sends < limit_of queue.lambda n

standing : (queue : QueueValue) (n : ℕ) (buddy : Option Claim) (taken : List Queued) → AllByRecursion (IsTaken buddy (limit_of queue.lambda n) queue.rows) taken
    → AllByRecursion (IsStanding queue n) (map queued_claim taken)
standing queue n buddy [] a = tt
standing queue n buddy (q ∷ qs) a =
    let limit = limit_of queue.lambda n in
    let open_still = (both (nat_lt q.sends limit) (is_beside buddy q) a.0.may).0 in
    (record { row = q; stands = a.0.its_own; claim = refl; below = ltb-true q.sends limit open_still }, standing queue n buddy qs a.1)

pub standing-taken : (queue : QueueValue) (to : Option Claim) (n : ℕ) → AreInOrder queue.rows → AllByRecursion (IsStanding queue n) (taken_of queue to n)
unfolding taken_of
standing-taken queue to n o =
    let limit = limit_of queue.lambda n in
    let buddy = buddy_of queue.version to in
    standing queue n buddy (rows_taken queue.version buddy limit queue.rows)
    (are_taken queue.version buddy limit queue.rows o)

-- they are about different members, and so are the claims of the packet
pub distinct-taken_of : (queue : QueueValue) (to : Option Claim) (n : ℕ) → AreInOrder queue.rows → IsDistinct (is_same name_cmp) (map name_of (taken_of queue to n))
unfolding taken_of
distinct-taken_of queue to n o =
    distinct-taken queue.version (buddy_of queue.version to) (limit_of queue.lambda n) queue.rows o

pub distinct-fill_of : (queue : QueueValue) (to : Option Claim) (n : ℕ) → AreInOrder queue.rows → IsDistinct (is_same name_cmp) (map name_of (fill_of queue to n))
unfolding taken_of
distinct-fill_of queue to n o =
    distinct-packet queue.version (buddy_of queue.version to) (limit_of queue.lambda n) queue.rows o

-- there are at most so many
few : (k : ℕ) (rows : List Queued) → length (map queued_claim (take k rows)) ≤ k
few k rows = omega (arith, length-map (take k rows) queued_claim, length-take k rows)

pub length-taken_of : (queue : QueueValue) (to : Option Claim) (n : ℕ)
    → length (taken_of queue to n) ≤ room_beside queue.version (buddy_of queue.version to)
unfolding taken_of
length-taken_of queue to n = few (room_beside queue.version (buddy_of queue.version to)) _

pub length-fill_of : (queue : QueueValue) (to : Option Claim) (n : ℕ)
    → length (fill_of queue to n) ≤ most_claims_of queue.version
length-fill_of queue to n =
    with_buddy queue.version (buddy_of queue.version to) (taken_of queue to n) (length-taken_of queue to n)
  where
    with_buddy : (v : Version) (buddy : Option Claim) (taken : List Claim) → length taken ≤ room_beside v buddy
        → length (option_to_list buddy ++ taken) ≤ most_claims_of v
    with_buddy v None taken l = l
    with_buddy v (Some b) taken l = omega (arith, l, has_room v)

-- a packet without a buddy holds what it took
pub fill_of-alone : (queue : QueueValue) (n : ℕ) → fill_of queue None n ≡ taken_of queue None n
fill_of-alone queue n = refl
