-- What holds of a state that some log has, so that a claim can be applied. This member has one name. What is put has
-- a place in the queue. A suspicion has a place among the suspicions.
use Rattle.std.specs.Prelude.{ℕ, ◌≡◌, ◌≢◌, ◌<◌, ◌≤◌}
use Rattle.std.specs.Prelude.{map, true, List, length, Option, Some, None}
use Rattle.lg_rules.specs.declared.claim.Claim.{Claim}
use Rattle.lg_rules.specs.declared.members.TheConstants.{MAX_OTHERS}
use Rattle.lg_rules.specs.Meaning.Claim.{name_of}
use Rattle.lg_rules.specs.Meaning.Rows.{name_cmp, row_at, Rises}
use Rattle.lg_rules.specs.Meaning.Table.{takes}
use Rattle.lg_gossip.specs.declared.queue.TheConstants.{MAX_QUEUED}
use Rattle.lg_gossip.specs.Meaning.Queue.{QueueValue, queued_name}
use Rattle.lg_membership.specs.declared.origin.Origin.{Origin}
use Rattle.lg_membership.specs.Meaning.Suspicions.{suspected_name}
use Rattle.lg_membership.specs.Support.State.{GroupState, put_in}

abbrev pub HasPlace : Option Claim → QueueValue → Type 0
HasPlace None waiting = Unit {0}
HasPlace (Some c) waiting =
    row_at name_cmp queued_name c.name waiting.rows ≡ None → length waiting.rows < MAX_QUEUED

abbrev pub HasSeat : {R : Type 0} → (R → List ℕ) → List ℕ → List R → Type 0
HasSeat key m rows = row_at name_cmp key m rows ≡ None → length rows < MAX_OTHERS

pub record HasRoom (origin : Origin) (c : Claim) (s : GroupState) : Type 0 where
  pub place : HasPlace (put_in origin c s) s.queue
  pub seat : c.name ≢ s.members.own → takes s.members.forgets s.members.table c ≡ true
      → HasSeat suspected_name c.name s.suspicions

-- what holds of each state: the records of the others and their suspicions are in the order of names, and no record
-- there is about this member
pub record IsOrdered (s : GroupState) : Type 0 where
  pub one_name : s.own.name ≡ s.members.own
  pub rises : Rises name_cmp (map name_of s.members.table)
  pub others : row_at name_cmp name_of s.own.name s.members.table ≡ None
  pub few : length s.members.table ≤ MAX_OTHERS
  pub suspects : Rises name_cmp (map suspected_name s.suspicions)
