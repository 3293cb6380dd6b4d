-- What a member knows of its group, as plain data, and what each fact does to it.
use Rattle.std.specs.Prelude.{ℕ, ◌+◌, Bool, false, not, ◌||◌, nat_le, List, [], ◌∷◌, length, map}
use Rattle.std.specs.Prelude.{Option, Some, None, if◌then◌else◌}
use Rattle.lg_rules.specs.Meaning.Bounds.{most_others}
use Rattle.lg_rules.specs.declared.claim.Claim.{Claim}
use Rattle.lg_rules.specs.declared.own.OwnHeard.{OwnHeard}
use Rattle.lg_rules.specs.declared.version.Version.{Version}
use Rattle.lg_rules.specs.Meaning.Claim.{name_of}
use Rattle.lg_rules.specs.Meaning.Own.{OwnValue, own_of, own_hearing, own_heard, own_left}
use Rattle.lg_rules.specs.Meaning.Rows.{name_cmp, is_same, put_row, without_row}
use Rattle.lg_rules.specs.Meaning.Table.{MembersValue, known_of, takes, members_heard, members_forgot, live_in}
use Rattle.lg_rules.specs.Meaning.Table.{table_needs_room}
use Rattle.lg_rules.specs.Support.Standing.{Standing}
use Rattle.lg_timing.specs.declared.config.Config.{Config}
use Rattle.lg_timing.specs.Meaning.Config.{version_of, does_forget}
use Rattle.lg_gossip.specs.Meaning.Queue.{QueueValue, put_of, removed, may_send_about, sent_once, taken_of, fill_of}
use Rattle.lg_membership.specs.declared.addressee.Addressee.{Addressee}
use Rattle.lg_membership.specs.declared.applied.Applied.{Applied}
use Rattle.lg_membership.specs.declared.applied.Deadline.TheVariants.{Stays}
use Rattle.lg_membership.specs.declared.applied.Presence.TheVariants.{Stays as Remains}
use Rattle.lg_membership.specs.declared.origin.Origin.{Origin}
use Rattle.lg_membership.specs.Meaning.Log.{GroupLog, config, me, own_facts, own, forgets, forgets_in}
use Rattle.lg_membership.specs.Meaning.Log.{live_names, view_in}
use Rattle.lg_membership.specs.Meaning.Suspicions.{SuspectedValue, suspicions, suspected_name}
use Rattle.lg_membership.specs.Meaning.Gossip.{version_sent, own_arrival, answers_doubt, leave_to_repeat}
use Rattle.lg_membership.specs.Meaning.Gossip.{put_of_own, put_of_oneself}
use Rattle.lg_membership.specs.Meaning.Gossip.{put_of_other, put_of_leave, queue, buddy_record}
use Rattle.lg_membership.specs.Meaning.Applied.{is_refuted}
use Rattle.lg_membership.specs.Meaning.Pages.{is_in_page}
use Rattle.lg_membership.specs.Support.Changes.{Change, change_of, suspicions_after, deadline_of_change, presence_heard}

pub record GroupState : Type 0 where
  pub config : Option Config
  pub own : OwnValue
  pub members : MembersValue
  pub suspicions : List SuspectedValue
  pub queue : QueueValue

-- the state after a log: each part by its definition
abbrev pub group_state_of : GroupLog → GroupState
group_state_of log = record {
  config = config log;
  own = own log;
  members = known_of (forgets log) (me log) (own_facts log);
  suspicions = suspicions log;
  queue = queue log;
}

-- the queue once a claim is put, or none
abbrev pub queue_with : Option Claim → QueueValue → QueueValue
queue_with None waiting = waiting
queue_with (Some c) waiting = put_of c waiting

-- the queue once the member was opened: an empty one, with one's own arrival
abbrev pub blank_queue : Config → QueueValue
blank_queue opening = record { lambda = opening.lambda; version = version_of opening; rows = [] }

abbrev pub opened_queue : Config → OwnValue → QueueValue
opened_queue opening oneself = queue_with (own_arrival (version_of opening) oneself) (blank_queue opening)

-- the state once the member was opened
abbrev pub open_group : Config → GroupState → GroupState
open_group opening s = record {
  config = Some opening;
  own = own_of opening.name opening.addr [];
  members = known_of (does_forget opening) opening.name [];
  suspicions = [];
  queue = opened_queue opening (own_of opening.name opening.addr []);
}

-- what this member knows of itself, and the records of the others
abbrev pub standing : GroupState → Standing
standing s = record { own = s.own; forgets = s.members.forgets; table = s.members.table }

-- the others that aren't gone
abbrev pub live_others_in : GroupState → List (List ℕ)
live_others_in s = live_names s.members.table

-- the member table, this member included
abbrev pub shown : GroupState → List Claim
shown s = view_in s.config s.own s.members.table

-- the records with one more, if one was found
abbrev pub with_found : Option Claim → List Claim → List Claim
with_found None rows = rows
with_found (Some r) rows = put_row name_cmp name_of r rows

-- the records with one more, if that one can be on the pages after a name
abbrev pub with_paged : Version → Option (List ℕ) → Claim → List Claim → List Claim
with_paged v after r rows = if is_in_page v after r then put_row name_cmp name_of r rows else rows

-- what a claim at a moment changes of the suspicions
abbrev pub change_in : ℕ → Claim → GroupState → Change
change_in now c s = change_of s.members.forgets s.config now s.members.table s.suspicions c

-- what hearing a claim about this member does
abbrev pub own_hearing_in : Claim → GroupState → OwnHeard
own_hearing_in c s = own_hearing s.own c

-- whether the queue still has a claim about a member to send, and whether a claim is a doubt that is answered
abbrev pub waits_in : List ℕ → GroupState → Bool
waits_in m s = may_send_about m s.queue (live_in s.members.table)

abbrev pub is_answered : Claim → GroupState → Bool
is_answered c s = answers_doubt (version_sent s.config) (waits_in s.own.name s) s.own c

-- the leave that a claim about another lets this member repeat
abbrev pub repeated_in : Claim → GroupState → Option Claim
repeated_in c s = leave_to_repeat (version_sent s.config) (waits_in c.name s) s.members.table c

-- what a claim about this member puts into the queue, and what any claim does
abbrev pub own_put_in : Claim → GroupState → Option Claim
own_put_in c s = put_of_oneself (version_sent s.config) (waits_in s.own.name s) s.own c

abbrev pub other_put_in : Origin → Claim → GroupState → Option Claim
other_put_in origin c s =
    put_of_other (version_sent s.config) (waits_in c.name s) origin s.members.forgets s.members.table s.suspicions c

abbrev pub put_in : Origin → Claim → GroupState → Option Claim
put_in origin c s = if is_same name_cmp c.name s.own.name then own_put_in c s else other_put_in origin c s

-- the state once a claim was applied
abbrev pub apply_own : Claim → GroupState → GroupState
apply_own c s = record s {
  own = own_heard s.own c;
  queue = queue_with (own_put_in c s) s.queue;
}

abbrev pub apply_other : ℕ → Origin → Claim → GroupState → GroupState
apply_other now origin c s = record s {
  members = members_heard s.members c;
  suspicions = suspicions_after (change_in now c s) s.suspicions;
  queue = queue_with (other_put_in origin c s) s.queue;
}

unfoldable pub apply_to_group : ℕ → Origin → Claim → GroupState → GroupState
apply_to_group now origin c s = if is_same name_cmp c.name s.own.name then apply_own c s else apply_other now origin c s

-- a record that a claim changes; before the opening nobody has one
abbrev pub if_open : Option Config → Option Claim → Option Claim
if_open None r = None
if_open (Some opening) r = r

-- the record that a claim about another makes or replaces
abbrev pub taken_if : Bool → Claim → Option Claim
taken_if takes c = if takes then Some c else None

-- what applying a claim returns
abbrev pub applied_own : Claim → GroupState → Applied
applied_own c s =
    let hearing = own_hearing_in c s in
    let raised = put_of_own hearing (own_heard s.own c) in
    record { changed = if_open s.config raised; refuted = is_refuted hearing; deadline = Stays; presence = Remains }

abbrev pub applied_other : ℕ → Claim → GroupState → Applied
applied_other now c s =
    let table = s.members.table in
    let deadline = deadline_of_change (change_in now c s) in
    let taken = if_open s.config (taken_if (takes s.members.forgets table c) c) in
    let presence = presence_heard s.members.forgets table c in
    record { changed = taken; refuted = false; deadline = deadline; presence = presence }

unfoldable pub applied : ℕ → Claim → GroupState → Applied
applied now c s = if is_same name_cmp c.name s.own.name then applied_own c s else applied_other now c s

-- the state once this member left, and its own record if that changed
abbrev pub leave_group : GroupState → GroupState
leave_group s = record s {
  own = own_left s.own;
  queue = queue_with (put_of_leave s.own) s.queue;
}

abbrev pub changed_by_leave : GroupState → Option Claim
changed_by_leave s = if_open s.config (put_of_leave s.own)

-- The state once this member forgot a name, which does nothing to its own: the record and the suspicion of the name are
-- dropped, its slot is free, and nothing is queued about it.
abbrev pub without_name : List ℕ → GroupState → GroupState
without_name n s = record s {
  members = members_forgot n s.members;
  suspicions = without_row name_cmp suspected_name n s.suspicions;
  queue = removed n s.queue;
}

abbrev pub forget_from_group : List ℕ → GroupState → GroupState
forget_from_group n s = if is_same name_cmp n s.members.own then s else without_name n s

-- whether a claim brings a member for which there is no room until one is forgotten
abbrev pub needs_room_in : Claim → GroupState → Bool
needs_room_in c s = if is_same name_cmp c.name s.own.name then false else table_needs_room s.members c

-- whether no claim of so many can bring such a member: nobody is ever forgotten, or each of them has room
abbrev pub has_room_in : ℕ → GroupState → Bool
has_room_in count s = not (forgets_in s.config) || nat_le (length s.members.table + count) most_others

-- the state once claims were applied, one after another
abbrev pub apply_all_to_group : ℕ → Origin → List Claim → GroupState → GroupState
apply_all_to_group now origin [] s = s
apply_all_to_group now origin (c ∷ cs) s = apply_all_to_group now origin cs (apply_to_group now origin c s)

-- the record that a packet to this addressee begins with, the claims that it takes from the queue, and all its claims
abbrev pub buddy_in : Addressee → GroupState → Option Claim
buddy_in to s = buddy_record (version_sent s.config) to s.members.table

abbrev pub taken_in : Addressee → GroupState → List Claim
taken_in to s = taken_of s.queue (buddy_in to s) (live_in s.members.table)

abbrev pub fill_in : Addressee → GroupState → List Claim
fill_in to s = fill_of s.queue (buddy_in to s) (live_in s.members.table)

-- the state once a packet was sent that took these claims from the queue
abbrev pub send_from_group : List Claim → GroupState → GroupState
send_from_group taken s =
    let rows = map (sent_once taken) s.queue.rows in
    record s { queue = record { lambda = s.queue.lambda; version = s.queue.version; rows = rows } }
