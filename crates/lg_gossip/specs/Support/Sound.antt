-- What holds of every queue.
use Rattle.std.specs.Prelude.{ℕ, ◌<◌, ◌≤◌, Bool, List, length, map}
use Rattle.std.specs.List.{AllByRecursion}
use Rattle.lg_rules.specs.Meaning.Rows.{name_cmp, Rises}
use Rattle.lg_rules.specs.declared.claim.TheConstants.{MAX_LAMBDA}
use Rattle.lg_gossip.specs.declared.queue.TheConstants.{MAX_QUEUED}
use Rattle.lg_gossip.specs.declared.queued.Queued.{Queued}
use Rattle.lg_gossip.specs.declared.sets.TheConstants.{SETS}
use Rattle.lg_gossip.specs.Meaning.Queue.{queued_name, most_times_sent}
use Rattle.lg_gossip.specs.Support.Sets.{AreSets}

-- its claims are in the order of the names of their members, at most one about each
abbrev pub AreInOrder : List Queued → Type 0
AreInOrder rows = Rises name_cmp (map queued_name rows)

-- no claim was sent more often than any claim may be
abbrev pub AreWithin : List Queued → Type 0
AreWithin rows = AllByRecursion (λ q. q.sends ≤ most_times_sent) rows

-- each of these was sent at least `fewest` times
abbrev pub AreSent : ℕ → List Queued → Type 0
AreSent fewest rows = AllByRecursion (λ q. fewest ≤ q.sends) rows

-- each of these that is in a set was sent fewer than `used` times
abbrev pub AreBelow : ℕ → List Queued → Type 0
AreBelow used rows = AllByRecursion (λ q. q.sends < SETS → q.sends < used) rows

pub record IsSound (lambda fewest used : ℕ) (sent : List (List Bool)) (rows : List Queued) : Type 0 where
  pub often : lambda ≤ MAX_LAMBDA
  pub few : length rows ≤ MAX_QUEUED
  pub in_order : AreInOrder rows
  pub within : AreWithin rows
  pub least : AreSent fewest rows
  pub some : 0 < used
  pub enough : used ≤ SETS
  pub below : AreBelow used rows
  pub sets : AreSets sent rows
