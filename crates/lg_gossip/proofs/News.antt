-- Whether a claim of a queue may still be sent, and what a packet without a buddy then takes. Callers have these laws.
use Rattle.std.proofs.Common.{
  ◌≡◌,
  ℕ,
  suc,
  ◌<◌,
  true,
  false,
  List,
  [],
  ◌∷◌,
  length,
  map,
  take,
  None,
  inl,
  inr,
  refl,
  sym,
  ◌∙◌,
  ap,
  arith,
}
use Rattle.std.specs.Prelude.{filter, nat_lt}
use Rattle.std.specs.List.{list_any}
use Rattle.std.proofs.lemmas.Bool.{cases_lt, cases_Bool, false≢true, lt-ltb, le-ltb}
use Rattle.std.proofs.lemmas.List.{length-map}
use Rattle.lg_rules.specs.declared.version.Version.{Version}
use Rattle.lg_gossip.specs.declared.queued.Queued.{Queued}
use Rattle.lg_gossip.specs.Meaning.Queue.{
  QueueValue,
  queued_claim,
  limit_of,
  is_sooner,
  put_by_sends,
  by_sends,
  may_go,
  rows_taken,
  taken_of,
  fill_of,
  sent_once,
  filled,
  has_news,
}
use Rattle.lg_gossip.specs.Support.Sound.{AreSent}
use Rattle.lg_gossip.proofs.Choosing.{takes_none}
use Rattle.lg_gossip.proofs.Counting.{count-none}
use Rattle.lg_gossip.proofs.Fewest.{has_room}

-- If no row is below the limit, each was sent as often as the limit, or more often,
pub sent-none_below : (limit : ℕ) (rows : List Queued) → list_any (λ q. nat_lt q.sends limit) rows ≡ false
    → AreSent limit rows
sent-none_below limit [] e = tt
sent-none_below limit (q ∷ qs) e = elim (cases_lt q.sends limit) [
  | inl l ↦
      let some : list_any (λ r. nat_lt r.sends limit) (q ∷ qs) ≡ true = rw (lt-ltb q.sends limit l) refl in
      absurd (false≢true (sym e ∙ some))
  | inr g ↦
      let rest = rw (le-ltb q.sends limit g) at e in
      (g, sent-none_below limit qs rest)
]

-- and the other way round.
pub none_below-sent : (limit : ℕ) (rows : List Queued) → AreSent limit rows
    → list_any (λ q. nat_lt q.sends limit) rows ≡ false
none_below-sent limit [] a = refl
none_below-sent limit (q ∷ qs) a = rw (le-ltb q.sends limit a.0) (none_below-sent limit qs a.1)

-- If one is, a packet without a buddy takes one.
some_put : (q : Queued) (rows : List Queued) → 0 < length (put_by_sends q rows)
some_put q [] = omega arith
some_put q (r ∷ rs) = elim (cases_Bool (is_sooner q r)) [
  | inl t ↦ rw t (omega arith)
  | inr f ↦ rw f (omega arith)
]

some_may : (limit : ℕ) (rows : List Queued) → list_any (λ q. nat_lt q.sends limit) rows ≡ true
    → 0 < length (by_sends (filter (may_go None limit) rows))
some_may limit [] e = absurd (false≢true e)
some_may limit (q ∷ qs) e = elim (cases_lt q.sends limit) [
  | inl l ↦ rw (lt-ltb q.sends limit l) (some_put q (by_sends (filter (may_go None limit) qs)))
  | inr g ↦
      let rest = rw (le-ltb q.sends limit g) at e in
      rw (le-ltb q.sends limit g) (some_may limit qs rest)
]

some_first : (k : ℕ) (rows : List Queued) → 0 < length rows → 0 < length (take (suc k) rows)
some_first k [] l = l
some_first k (q ∷ qs) l = omega arith

takes_some : (v : Version) (limit : ℕ) (rows : List Queued) → list_any (λ q. nat_lt q.sends limit) rows ≡ true
    → 0 < length (rows_taken v None limit rows)
takes_some v limit rows e =
    rw (sym (has_room v))
    (some_first _ (by_sends (filter (may_go None limit) rows)) (some_may limit rows e))

-- Without news a packet without a buddy has no claim,
pub fill_of-no_news : (queue : QueueValue) (n : ℕ) → has_news queue n ≡ false → fill_of queue None n ≡ []
unfolding taken_of
fill_of-no_news queue n e =
    let limit = limit_of queue.lambda n in
    ap (map queued_claim) (takes_none queue.version None limit queue.rows (sent-none_below limit queue.rows e))

-- and leaves the queue as it is.
pub filled-no_news : (queue : QueueValue) (n : ℕ) → has_news queue n ≡ false → filled queue None n ≡ queue
filled-no_news queue n e =
    let with_rows : List Queued → QueueValue =
    λ rows. record { lambda = queue.lambda; version = queue.version; rows = rows } in
    ap (λ taken. with_rows (map (sent_once taken) queue.rows)) (fill_of-no_news queue n e)
    ∙ ap with_rows (sym (count-none queue.rows))

-- With news it has one.
pub fill_of-news : (queue : QueueValue) (n : ℕ) → has_news queue n ≡ true → 0 < length (fill_of queue None n)
unfolding taken_of
fill_of-news queue n e =
    let limit = limit_of queue.lambda n in
    let taken = rows_taken queue.version None limit queue.rows in
    omega (arith, length-map taken queued_claim, takes_some queue.version limit queue.rows e)
