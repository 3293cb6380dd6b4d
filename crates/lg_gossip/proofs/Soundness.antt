-- A queue stays sound.
use Rattle.std.proofs.Common.{
  ◌≡◌,
  ℕ,
  ◌+◌,
  Bool,
  true,
  Option,
  inl,
  inr,
  ◌<◌,
  ◌≤◌,
  List,
  [],
  ◌∷◌,
  length,
  map,
  replicate,
  refl,
  sym,
  ap,
  subst,
  arith,
}
use Rattle.std.specs.List.{AllByRecursion}
use Rattle.lg_rules.specs.declared.claim.Claim.{Claim}
use Rattle.lg_rules.specs.declared.version.Version.{Version}
use Rattle.lg_rules.specs.Meaning.Claim.{name_of}
use Rattle.lg_rules.specs.Meaning.Rows.{name_cmp, is_same, is_among, put_row, put_key, without_row, Rises}
use Rattle.lg_rules.specs.Meaning.Version.{tells}
use Rattle.std.proofs.lemmas.Bool.{cases_Bool}
use Rattle.std.proofs.lemmas.List.{length-map}
use Rattle.lg_rules.proofs.Cases.{Below, Tied, Above, compared}
use Rattle.lg_rules.proofs.KeyOrder.{names_order}
use Rattle.lg_rules.proofs.Removing.{rises-without}
use Rattle.lg_rules.proofs.Rises.{rises-put}
use Rattle.lg_gossip.specs.declared.queued.Queued.{Queued}
use Rattle.lg_gossip.specs.Meaning.Queue.{
  queued_name,
  queued_claim,
  most_times_sent,
  first_sends,
  fresh,
  rows_taken,
  sent_once,
}
use Rattle.lg_bit_set.specs.Meaning.Flags.{no_flags}
use Rattle.lg_rules.specs.declared.claim.TheConstants.{MAX_LAMBDA}
use Rattle.lg_gossip.specs.declared.queue.TheConstants.{MAX_QUEUED}
use Rattle.lg_gossip.specs.declared.sets.TheConstants.{SETS}
use Rattle.lg_gossip.proofs.Each.{all-both}
use Rattle.lg_gossip.proofs.Moving.{sets-none}
use Rattle.lg_gossip.proofs.Fewest.{sent-none}
use Rattle.lg_gossip.proofs.Taken.{below_limit, may_when_taken}
use Rattle.lg_gossip.specs.Support.Sets.{AreSets}
use Rattle.lg_gossip.specs.Support.Sound.{AreBelow, AreSent, IsSound}

-- the names of rows with one put
names-put : (r : Queued) (rows : List Queued) → map queued_name (put_row name_cmp queued_name r rows) ≡ put_key name_cmp (queued_name r) (map queued_name rows)
names-put r [] = refl
names-put r (x ∷ xs) = elim (compared (name_cmp (queued_name r) (queued_name x))) [
  | Below l ↦ rw l refl
  | Tied t ↦ rw t refl
  | Above a ↦ rw a (ap (λ ns. queued_name x ∷ ns) (names-put r xs))
]

all-put : (P : Queued → Type 0) (r : Queued) (rows : List Queued) → P r → AllByRecursion P rows
    → AllByRecursion P (put_row name_cmp queued_name r rows)
all-put P r [] p all = (p, all)
all-put P r (x ∷ xs) p all = elim (compared (name_cmp (queued_name r) (queued_name x))) [
  | Below e ↦ rw e (p, all)
  | Tied e ↦ rw e (p, all.1)
  | Above e ↦ rw e (all.0, all-put P r xs p all.1)
]

-- a new queue has no rows, and no set has one
pub sound-new : (lambda fewest : ℕ) (set : List Bool) → lambda ≤ MAX_LAMBDA → set ≡ no_flags
    → IsSound lambda fewest 1 (replicate SETS set) []
sound-new lambda fewest set l e = record {
  often = l;
  few = omega arith;
  in_order = tt;
  within = tt;
  least = tt;
  some = omega arith;
  enough = omega arith;
  below = tt;
  sets = sets-none set e;
}

-- the sends of a claim that no packet has taken yet are none or the most
within-fresh : (v : Version) (c : Claim) → first_sends v c ≤ most_times_sent
within-fresh v c = elim (cases_Bool (tells v c.addr)) [
  | inl t ↦ rw t (omega arith)
  | inr f ↦ rw f (omega arith)
]

-- and if they are fewer than there are sets, they are none
pub below-fresh : (v : Version) (c : Claim) (used : ℕ) → 0 < used → first_sends v c < SETS → first_sends v c < used
below-fresh v c used some = elim (cases_Bool (tells v c.addr)) [
  | inl t ↦ rw t (λ l. some)
  | inr f ↦ rw f (λ l. absurd (omega (arith, l)))
]

pub sound-put : (lambda fewest used : ℕ) (v : Version) (c : Claim) (sent now : List (List Bool)) (rows : List Queued)
    → IsSound lambda fewest used sent rows
    → length (put_row name_cmp queued_name (fresh v c) rows) ≤ MAX_QUEUED
    → AreSets now (put_row name_cmp queued_name (fresh v c) rows)
    → IsSound lambda 0 used now (put_row name_cmp queued_name (fresh v c) rows)
sound-put lambda fewest used v c sent now rows s few sets = record {
  often = s.often;
  few = few;
  in_order = subst (Rises name_cmp) (sym (names-put (fresh v c) rows))
      (rises-put names_order c.name (map queued_name rows) s.in_order);
  within = all-put (λ q. q.sends ≤ most_times_sent) (fresh v c) rows (within-fresh v c) s.within;
  least = sent-none (put_row name_cmp queued_name (fresh v c) rows);
  some = s.some;
  enough = s.enough;
  below = all-put (λ q. q.sends < SETS → q.sends < used) (fresh v c) rows (below-fresh v c used s.some) s.below;
  sets = sets;
}

-- what holds of all rows holds of those but one
all-without : (P : Queued → Type 0) (name : List ℕ) (rows : List Queued) → AllByRecursion P rows
    → AllByRecursion P (without_row name_cmp queued_name name rows)
all-without P name [] all = all
all-without P name (q ∷ qs) all = elim (cases_Bool (is_same name_cmp (queued_name q) name)) [
  | inl t ↦ rw t (all-without P name qs all.1)
  | inr f ↦ rw f (all.0, all-without P name qs all.1)
]

length-without : (name : List ℕ) (rows : List Queued)
    → length (without_row name_cmp queued_name name rows) ≤ length rows
length-without name [] = omega arith
length-without name (q ∷ qs) = elim (cases_Bool (is_same name_cmp (queued_name q) name)) [
  | inl t ↦ rw t (omega (arith, length-without name qs))
  | inr f ↦ rw f (omega (arith, length-without name qs))
]

pub sound-removed : (lambda fewest used : ℕ) (name : List ℕ) (sent now : List (List Bool)) (rows : List Queued)
    → IsSound lambda fewest used sent rows
    → AreSets now (without_row name_cmp queued_name name rows)
    → IsSound lambda fewest used now (without_row name_cmp queued_name name rows)
sound-removed lambda fewest used name sent now rows s sets = record {
  often = s.often;
  few = omega (arith, s.few, length-without name rows);
  in_order = rises-without names_order queued_name name rows s.in_order;
  within = all-without (λ q. q.sends ≤ most_times_sent) name rows s.within;
  least = all-without (λ q. fewest ≤ q.sends) name rows s.least;
  some = s.some;
  enough = s.enough;
  below = all-without (λ q. q.sends < SETS → q.sends < used) name rows s.below;
  sets = sets;
}

-- the names of rows after a packet
names-sent : (taken : List Claim) (rows : List Queued) → map queued_name (map (sent_once taken) rows) ≡ map queued_name rows
names-sent taken [] = refl
names-sent taken (q ∷ qs) = ap (λ ns. queued_name q ∷ ns) (names-sent taken qs)

within-sent : (taken : List Claim) (limit most : ℕ) (rows : List Queued) → limit ≤ most
    → AllByRecursion (λ q. q.sends ≤ most) rows → AllByRecursion (λ q. is_among name_cmp (queued_name q) (map name_of taken) ≡ true → q.sends < limit) rows
    → AllByRecursion (λ q. q.sends ≤ most) (map (sent_once taken) rows)
within-sent taken limit most [] l w t = tt
within-sent taken limit most (q ∷ qs) l w t = (here, within-sent taken limit most qs l w.1 t.1)
  where
    here : (sent_once taken q).sends ≤ most
    here = elim (cases_Bool (is_among name_cmp (queued_name q) (map name_of taken))) [
      | inl a ↦ rw a (omega (arith, t.0 a))
      | inr n ↦ rw n w.0
    ]

below-sent : (taken : List Claim) (limit used next : ℕ) (rows : List Queued) → used ≤ next
    → ((n : ℕ) → n ≤ limit → n < SETS → n < next) → AreBelow used rows
    → AllByRecursion (λ q. is_among name_cmp (queued_name q) (map name_of taken) ≡ true → q.sends < limit) rows
    → AreBelow next (map (sent_once taken) rows)
below-sent taken limit used next [] l e b t = tt
below-sent taken limit used next (q ∷ qs) l e b t = (here, below-sent taken limit used next qs l e b.1 t.1)
  where
    here : (sent_once taken q).sends < SETS → (sent_once taken q).sends < next
    here = elim (cases_Bool (is_among name_cmp (queued_name q) (map name_of taken))) [
      | inl a ↦ rw a (e (q.sends + 1) (omega (arith, t.0 a)))
      | inr n ↦ rw n (λ s. omega (arith, b.0 s, l))
    ]

pub sound-sent : (lambda limit fewest now used next : ℕ) (v : Version) (buddy : Option Claim) (sent after : List (List Bool))
    (rows : List Queued) → limit ≤ most_times_sent
    → used ≤ next → next ≤ SETS → ((n : ℕ) → n ≤ limit → n < SETS → n < next)
    → IsSound lambda fewest used sent rows
    → AreSent now (map (sent_once (map queued_claim (rows_taken v buddy limit rows))) rows)
    → AreSets after (map (sent_once (map queued_claim (rows_taken v buddy limit rows))) rows)
    → IsSound lambda now next after (map (sent_once (map queued_claim (rows_taken v buddy limit rows))) rows)
sound-sent lambda limit fewest now used next v buddy sent after rows l rises most enough s least sets =
    let taken = map queued_claim (rows_taken v buddy limit rows) in
    record {
      often = s.often;
      few = omega (arith, s.few, length-map rows (sent_once taken));
      in_order = subst (Rises name_cmp) (sym (names-sent taken rows)) s.in_order;
      within = within-sent taken limit most_times_sent rows l s.within
          (all-both _ _ _ rows (λ q w m a. below_limit buddy limit q (m a)) s.within
          (may_when_taken v buddy limit rows s.in_order));
      least = least;
      some = omega (arith, s.some, rises);
      enough = most;
      below = below-sent taken limit used next rows rises enough s.below
          (all-both _ _ _ rows (λ q w m a. below_limit buddy limit q (m a)) s.within
          (may_when_taken v buddy limit rows s.in_order));
      sets = sets;
    }
