-- The queue of claims that ride on packets (piggyback; SWIM, section 4.1), and the buddy (Lifeguard's buddy system).
--
-- A packet that takes claims has at most 6, or 12 in version 3. If its sender says which record is to stand first, it
-- begins with that record, its buddy: a Ping to a member whose record is Suspect begins with this record. The buddy
-- takes one of these places, and doesn't count as sent. The other claims are from the queue, and none of them is about
-- the buddy's member. They are claims that were sent fewer times than the retransmit limit: lambda times for each
-- decimal digit of the number of live members, which are those that aren't gone, this member included. Claims sent
-- least often come first, and of those sent equally often the one about the lesser name by its bytes. Each claim that
-- is taken counts as sent once more, and stays in the queue. A claim that is put replaces the one about its member, and
-- has no sends. Lambda is set by the configuration, 4 by default. The queue has news as long as one of its claims may
-- still be sent.
--
-- A claim whose address the version can't tell, one of IPv6 in versions 1 and 2, is passed over: it takes no place, is
-- no buddy, and no send is counted. For this it is queued as one that was sent as often as any claim may be.
use Rattle.std.specs.Prelude.{ℕ, ◌+◌, ◌-◌, ◌*◌, Bool, true, false, ◌&&◌}
use Rattle.std.specs.Prelude.{◌||◌, not, Option, Some, None, nat_lt, ◌==◌}
use Rattle.std.specs.Prelude.{List, [], ◌∷◌, ◌++◌, length, map, filter, take, if◌then◌else◌, decimal}
use Rattle.std.specs.List.{list_any}
use Rattle.std.specs.Option.{option_to_list}
use Rattle.std.specs.Ordering.{is_lt}
use Rattle.lg_rules.specs.declared.claim.Claim.{Claim}
use Rattle.lg_rules.specs.declared.claim.Status.{Status}
use Rattle.lg_rules.specs.declared.claim.Status.TheVariants.{Alive, Suspect, Failed, Left}
use Rattle.lg_rules.specs.declared.version.Version.{Version}
use Rattle.lg_rules.specs.Meaning.Claim.{name_of}
use Rattle.lg_rules.specs.Meaning.Rows.{name_cmp, is_same, is_among, put_row, row_at, without_row}
use Rattle.lg_rules.specs.Meaning.Version.{most_claims_of, tells}
use Rattle.lg_gossip.specs.declared.queued.Queued.{Queued}

-- How often a claim may be sent for each decimal digit of the number of members (lambda), the version of the packets
-- that take claims, and the claims that wait. These are in the order of the names of the members that they are about.
pub record QueueValue : Type 0 where
  pub lambda : ℕ
  pub version : Version
  pub rows : List Queued

-- the claim of a row
abbrev pub queued_claim : Queued → Claim
queued_claim q = q.claim

-- the member that the claim of a row is about
abbrev pub queued_name : Queued → List ℕ
queued_name q = q.claim.name

-- the most packets that take a claim from a queue: lambda is at most 10, and a number of members has at most 20 digits
abbrev pub most_times_sent : ℕ
most_times_sent = 200

-- The sends of a claim that no packet has taken yet. One whose address the version can't tell has as many as any claim
-- may have, so that it is never below the retransmit limit.
abbrev pub first_sends : Version → Claim → ℕ
first_sends v c = if tells v c.addr then 0 else most_times_sent

-- a claim that no packet has taken yet
abbrev pub fresh : Version → Claim → Queued
fresh v c = record { claim = c; sends = first_sends v c }

-- a queue once a claim was put, which replaces an older one about its member
abbrev pub put_of : Claim → QueueValue → QueueValue
put_of c queue = record {
  lambda = queue.lambda;
  version = queue.version;
  rows = put_row name_cmp queued_name (fresh queue.version c) queue.rows;
}

-- a queue once the claim about a member was dropped, if there was one
abbrev pub removed : List ℕ → QueueValue → QueueValue
removed name queue = record {
  lambda = queue.lambda;
  version = queue.version;
  rows = without_row name_cmp queued_name name queue.rows;
}

-- how many decimal digits a number has
abbrev pub decimal_digits : ℕ → ℕ
decimal_digits n = length (decimal n)

-- the retransmit limit: how often a claim may be sent among n live members
abbrev pub limit_of : ℕ → ℕ → ℕ
limit_of lambda n = lambda * decimal_digits n

-- whether a claim goes before another: it was sent fewer times; or it was sent as often, and its member's name is
-- lesser
abbrev pub is_sooner : Queued → Queued → Bool
is_sooner q r = nat_lt q.sends r.sends || (q.sends == r.sends && is_lt (name_cmp (queued_name q) (queued_name r)))

-- these claims in the order of their sends, and then of the names of their members
abbrev pub put_by_sends : Queued → List Queued → List Queued
put_by_sends q [] = q ∷ []
put_by_sends q (r ∷ rs) = if is_sooner q r then q ∷ r ∷ rs else r ∷ put_by_sends q rs

abbrev pub by_sends : List Queued → List Queued
by_sends [] = []
by_sends (q ∷ qs) = put_by_sends q (by_sends qs)

-- whether a status is Suspect
abbrev pub is_suspect : Status → Bool
is_suspect Alive = false
is_suspect (Suspect accuser) = true
is_suspect Failed = false
is_suspect Left = false

-- The buddy of a packet is the record that is to stand first, if there is one and the version can tell its address.
-- Which record that is, is its sender's choice.
abbrev pub buddy_of : Version → Option Claim → Option Claim
buddy_of v None = None
buddy_of v (Some first) = if tells v first.addr then Some first else None

-- A packet with a buddy takes one claim fewer from the queue, and none about the buddy's member.
abbrev pub room_beside : Version → Option Claim → ℕ
room_beside v None = most_claims_of v
room_beside v (Some buddy) = most_claims_of v - 1

abbrev pub is_beside : Option Claim → Queued → Bool
is_beside None q = true
is_beside (Some buddy) q = not (is_same name_cmp (queued_name q) buddy.name)

-- whether a packet with this buddy, or with none, may take a row
abbrev pub may_go : Option Claim → ℕ → Queued → Bool
may_go buddy limit q = nat_lt q.sends limit && is_beside buddy q

-- the rows that it takes: the first in the order of sends
abbrev pub rows_taken : Version → Option Claim → ℕ → List Queued → List Queued
rows_taken v buddy limit rows = take (room_beside v buddy) (by_sends (filter (may_go buddy limit) rows))

-- The claims that a packet takes from the queue among n live members. The record is the one that is to stand first, if
-- there is one.
unfoldable pub taken_of : QueueValue → Option Claim → ℕ → List Claim
taken_of queue first n =
    let buddy = buddy_of queue.version first in
    map queued_claim (rows_taken queue.version buddy (limit_of queue.lambda n) queue.rows)

-- all claims of that packet: its buddy, if it has one, and then those taken
abbrev pub fill_of : QueueValue → Option Claim → ℕ → List Claim
fill_of queue first n = option_to_list (buddy_of queue.version first) ++ taken_of queue first n

-- a row after a packet that took these claims: one more send if its claim is among them
abbrev pub sent_once : List Claim → Queued → Queued
sent_once taken q =
    let is_taken = is_among name_cmp q.claim.name (map name_of taken) in
    record { claim = q.claim; sends = if is_taken then q.sends + 1 else q.sends }

-- the queue after that packet
abbrev pub filled : QueueValue → Option Claim → ℕ → QueueValue
filled queue first n = record {
  lambda = queue.lambda;
  version = queue.version;
  rows = map (sent_once (taken_of queue first n)) queue.rows;
}

-- whether a claim of the queue may still be sent among n live members
abbrev pub has_news : QueueValue → ℕ → Bool
has_news queue n = list_any (λ q. nat_lt q.sends (limit_of queue.lambda n)) queue.rows

-- whether there is a row, and it was sent fewer times than a retransmit limit
abbrev pub is_below : ℕ → Option Queued → Bool
is_below limit None = false
is_below limit (Some q) = nat_lt q.sends limit

-- whether the queue has a claim about a member that may still be sent among n live members
abbrev pub may_send_about : List ℕ → QueueValue → ℕ → Bool
may_send_about name queue n =
    is_below (limit_of queue.lambda n) (row_at name_cmp queued_name name queue.rows)
