-- A packet filled from the fields of a queue.
use Rattle.std.proofs.Common.{◌≡◌, ℕ, ◌++◌, List, map, Option, sym, ◌∙◌, ap, subst}
use Rattle.std.specs.List.{AllByRecursion}
use Rattle.std.specs.Option.{option_to_list}
use Rattle.lg_rules.specs.declared.claim.Claim.{Claim}
use Rattle.lg_rules.specs.declared.version.Version.{Version}
use Rattle.lg_gossip.specs.declared.choice.TakenRow.{TakenRow}
use Rattle.lg_gossip.specs.declared.queued.Queued.{Queued}
use Rattle.lg_gossip.specs.Meaning.Queue.{QueueValue, queued_claim, buddy_of, limit_of, rows_taken, taken_of, fill_of, sent_once, filled}
use Rattle.lg_gossip.specs.Support.Places.{IsRowOf, rows_at}

module _ (rows : List Queued) (places shown : List TakenRow) (same : shown ≡ places) where
  -- the places that were chosen are read through a slice
  pub places-at : AllByRecursion (IsRowOf rows) places → AllByRecursion (IsRowOf rows) shown
  places-at all = subst (λ ts. AllByRecursion (IsRowOf rows) ts) (sym same) all

  module _ (v : Version) (buddy : Option Claim) (limit : ℕ)
      (chosen : rows_at rows places ≡ rows_taken v buddy limit rows) where
    -- and so are the rows there
    pub taken-at : rows_at rows shown ≡ rows_taken v buddy limit rows
    taken-at = ap (rows_at rows) same ∙ chosen

    -- a packet is counted at each row
    pub counted-each : (after : List Queued) → after ≡ map (sent_once (map queued_claim (rows_at rows shown))) rows
        → after ≡ map (sent_once (map queued_claim (rows_taken v buddy limit rows))) rows
    counted-each after is = is ∙ ap (λ ts. map (sent_once (map queued_claim ts)) rows) taken-at

-- what is chosen among the rows of a queue
pub record IsChosen (queue : QueueValue) (to : Option Claim) (n : ℕ) (buddy : Option Claim) (limit : ℕ)
    (taken : List Queued) : Type 0 where
  pub buddy_is : buddy ≡ buddy_of queue.version to
  pub limit_is : limit ≡ limit_of queue.lambda n
  pub taken_is : taken ≡ rows_taken queue.version buddy limit queue.rows

module _ (queue : QueueValue) (to : Option Claim) (n : ℕ) (buddy : Option Claim) (limit : ℕ) (taken : List Queued)
    (chosen : IsChosen queue to n buddy limit taken) where
  takes : map queued_claim taken ≡ taken_of queue to n
  unfolding taken_of
  takes =
      ap (map queued_claim) chosen.taken_is
      ∙ ap (λ l. map queued_claim (rows_taken queue.version buddy l queue.rows)) chosen.limit_is
      ∙ ap (λ b. map queued_claim (rows_taken queue.version b (limit_of queue.lambda n) queue.rows)) chosen.buddy_is

  pub fills : option_to_list buddy ++ map queued_claim taken ≡ fill_of queue to n
  fills =
      ap (λ b. option_to_list b ++ map queued_claim taken) chosen.buddy_is
      ∙ ap (λ cs. option_to_list (buddy_of queue.version to) ++ cs) takes

  -- the queue with these rows
  abbrev pub with_rows : List Queued → QueueValue
  with_rows rows = record { lambda = queue.lambda; version = queue.version; rows = rows }

  pub counts : with_rows (map (sent_once (map queued_claim taken)) queue.rows) ≡ filled queue to n
  counts = ap (λ cs. with_rows (map (sent_once cs) queue.rows)) takes
