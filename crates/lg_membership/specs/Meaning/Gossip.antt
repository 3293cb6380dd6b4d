-- What waits to be sent as gossip (piggyback; SWIM, section 4.1), and what a packet takes of it.
use Rattle.std.specs.Prelude.{ℕ, Bool, true, false, not, ◌&&◌, ◌||◌, nat_lt, if◌then◌else◌}
use Rattle.std.specs.Prelude.{List, [], ◌∷◌, Option, Some, None, option_map}
use Rattle.std.specs.List.{filter_map}
use Rattle.lg_rules.specs.declared.claim.Claim.{Claim}
use Rattle.lg_rules.specs.declared.claim.Status.{Status}
use Rattle.lg_rules.specs.declared.claim.Status.TheVariants.{Alive, Suspect, Failed, Left}
use Rattle.lg_rules.specs.Meaning.Claim.{name_of}
use Rattle.lg_rules.specs.Meaning.Rows.{name_cmp, is_same, row_at}
use Rattle.lg_rules.specs.Meaning.Table.{takes}
use Rattle.lg_rules.specs.declared.own.OwnHeard.{OwnHeard}
use Rattle.lg_rules.specs.declared.own.OwnHeard.TheVariants.{Refuted, Raised, Ousted, Ignored}
use Rattle.lg_rules.specs.declared.version.Version.{Version}
use Rattle.lg_rules.specs.declared.version.Version.TheVariants.{One, Two, Three}
use Rattle.lg_rules.specs.Meaning.Own.{OwnValue, own_hearing, own_heard, own_left, own_of, own_record}
use Rattle.lg_timing.specs.declared.config.Config.{Config}
use Rattle.lg_timing.specs.Meaning.Config.{version_of}
use Rattle.lg_gossip.specs.declared.queued.Queued.{Queued}
use Rattle.lg_gossip.specs.Meaning.Queue.{QueueValue, fresh, has_news, is_below, is_suspect, limit_of}
use Rattle.lg_gossip.specs.Meaning.Queue.{sent_once, taken_of, fill_of}
use Rattle.lg_membership.specs.declared.addressee.Addressee.{Addressee}
use Rattle.lg_membership.specs.declared.addressee.Addressee.TheVariants.{Anybody, Pinged, Acked}
use Rattle.lg_membership.specs.declared.origin.Origin.{Origin}
use Rattle.lg_membership.specs.declared.origin.Origin.TheVariants.{Seed, Group}
use Rattle.lg_membership.specs.Meaning.Log.{GroupLog, Opened, Said, Sent, Departed, Forgot, config, me, own, forgets}
use Rattle.lg_membership.specs.Meaning.Log.{table, live, known, loses}
use Rattle.lg_membership.specs.Meaning.Suspicions.{SuspectedValue, suspicions, confirms}

-- how often a claim may be sent for each decimal digit of the number of members that aren't gone
abbrev pub lambda_in : Option Config → ℕ
lambda_in None = 1
lambda_in (Some opening) = opening.lambda

-- The version of all that a member sends: that of the key `wire` of its configuration. Nothing is sent before the
-- opening.
abbrev pub version_sent : Option Config → Version
version_sent None = One
version_sent (Some opening) = version_of opening

-- Whether a member with this version tells of itself unasked: it queues its own arrival, answers doubts of it, and
-- tells a member that it acks if that one is suspected or failed (this project's choice). Version 3 alone does so.
abbrev pub tells_news : Version → Bool
tells_news One = false
tells_news Two = false
tells_news Three = true

-- One's own arrival: what the opening puts into the queue. In version 3 it is this member's own record.
abbrev pub own_arrival : Version → OwnValue → Option Claim
own_arrival v oneself = if tells_news v then Some (own_record oneself) else None

-- Whether a status doubts a member: it is Suspect or Failed. Left doesn't, since a member says that of itself.
abbrev pub is_doubted : Status → Bool
is_doubted Alive = false
is_doubted (Suspect accuser) = true
is_doubted Failed = true
is_doubted Left = false

-- A claim doubts this member if it says that this member is Suspect or Failed at a smaller incarnation than its own. It
-- doesn't raise the incarnation, but whoever says it hasn't heard this member's own record.
abbrev pub doubts : OwnValue → Claim → Bool
doubts oneself c =
    is_same name_cmp c.name oneself.name && (is_doubted c.status && nat_lt c.incarnation oneself.number)

-- Such a claim is answered in version 3, unless the queue still has this member's own record to send, or this member
-- has left.
abbrev pub answers_doubt : Version → Bool → OwnValue → Claim → Bool
answers_doubt v waits oneself c = tells_news v && (not oneself.left && (doubts oneself c && not waits))

-- The record of a member that left, if a claim suspects that member, in version 3, unless the queue still has a claim
-- about the member to send. Whoever says such a claim hasn't heard of the leave.
abbrev pub is_left : Status → Bool
is_left Alive = false
is_left (Suspect accuser) = false
is_left Failed = false
is_left Left = true

abbrev pub record_if : (Status → Bool) → Option Claim → Option Claim
record_if test None = None
record_if test (Some r) = if test r.status then Some r else None

abbrev pub leave_to_repeat : Version → Bool → List Claim → Claim → Option Claim
leave_to_repeat v waits rows c =
    if tells_news v && (is_suspect c.status && not waits)
    then record_if is_left (row_at name_cmp name_of c.name rows)
    else None

-- What a claim puts into the queue when it is said, unless the opening says it. A claim about another member puts
-- itself there if it makes or replaces a record, or confirms a suspicion; and else the record of the leave that is to
-- be repeated, if there is one. A claim about this member puts this member's own record there if it raises this
-- member's incarnation, or if it is a doubt that is answered. `waits` says whether the queue still has a claim about
-- the claim's member to send.
abbrev pub put_of_own : OwnHeard → OwnValue → Option Claim
put_of_own Refuted oneself = Some (own_record oneself)
put_of_own Raised oneself = Some (own_record oneself)
put_of_own Ousted oneself = None
put_of_own Ignored oneself = None

abbrev pub put_if_answered : Bool → OwnHeard → OwnValue → Option Claim
put_if_answered answered hearing oneself =
    if answered then Some (own_record oneself) else put_of_own hearing oneself

abbrev pub put_of_oneself : Version → Bool → OwnValue → Claim → Option Claim
put_of_oneself v waits oneself c =
    put_if_answered (answers_doubt v waits oneself c) (own_hearing oneself c) (own_heard oneself c)

abbrev pub put_if : Origin → Option Claim → Option Claim
put_if Seed news = None
put_if Group news = news

abbrev pub counted_or : Bool → Claim → Option Claim → Option Claim
counted_or counts c repeated = if counts then Some c else repeated

abbrev pub put_of_other : Version → Bool → Origin → Bool → List Claim → List SuspectedValue → Claim → Option Claim
put_of_other v waits origin forgetting rows suspects c =
    let counts = takes forgetting rows c || confirms forgetting rows suspects c in
    put_if origin (counted_or counts c (leave_to_repeat v waits rows c))

unfoldable pub put_by : Origin → Bool → GroupLog → Claim → Option Claim
put_by origin waits log c =
    if is_same name_cmp c.name (me log)
    then put_of_oneself (version_sent (config log)) waits (own log) c
    else put_of_other (version_sent (config log)) waits origin (forgets log) (table log) (suspicions log) c

-- What a leave puts into the queue: this member's own record, which is Left then. A further leave puts nothing.
abbrev pub put_if_leaves : Bool → OwnValue → Option Claim
put_if_leaves has_left oneself = if has_left then None else Some (own_record oneself)

abbrev pub put_of_leave : OwnValue → Option Claim
put_of_leave oneself = put_if_leaves oneself.left (own_left oneself)

-- What is queued about a member, once a claim is put or none: a claim about this member replaces what was queued. It
-- begins with no sends, or with 200 if the version can't tell its address, so that no packet takes it.
abbrev pub queued_by : Version → Option Claim → List ℕ → Option Queued → Option Queued
queued_by v None m before = before
queued_by v (Some c) m before = if is_same name_cmp c.name m then Some (fresh v c) else before

-- how often a claim may be sent: the retransmit limit among the members that aren't gone
abbrev pub send_limit_after : GroupLog → ℕ
send_limit_after log = limit_of (lambda_in (config log)) (live log)

-- The claim about a member that is queued, with its sends. The opening puts one's own arrival, and a claim that is said
-- and a leave put what is said above. Each packet that takes a claim about the member counts as one more send. If the
-- member is forgotten, nothing is queued about it any more.
unfoldable pub queued : GroupLog → List ℕ → Option Queued
queued [] m = None
queued (Opened opening ∷ log) m =
    let v = version_of opening in
    queued_by v (own_arrival v (own_of opening.name opening.addr [])) m None
queued (Said now origin c ∷ log) m =
    let waits = is_below (send_limit_after log) (queued log c.name) in
    queued_by (version_sent (config log)) (put_by origin waits log c) m (queued log m)
queued (Sent taken ∷ log) m = option_map (sent_once taken) (queued log m)
queued (Departed ∷ log) m = queued_by (version_sent (config log)) (put_of_leave (own log)) m (queued log m)
queued (Forgot n ∷ log) m = if loses log n m then None else queued log m

-- whether the queue still has a claim about a member to send
abbrev pub waits : GroupLog → List ℕ → Bool
waits log m = is_below (send_limit_after log) (queued log m)

-- the queue, in the order of names
unfoldable pub queue_rows : GroupLog → List Queued
queue_rows log = filter_map (queued log) (known log)

abbrev pub queue : GroupLog → QueueValue
queue log = record {
  lambda = lambda_in (config log);
  version = version_sent (config log);
  rows = queue_rows log;
}

-- whether a claim of the queue may still be sent
abbrev pub news : GroupLog → Bool
news log = has_news (queue log) (live log)

-- The record that a packet begins with, its buddy (Lifeguard, buddy system), if the version can tell its address. A
-- Ping begins with the record of the member that it goes to, if that is Suspect. In version 3 an Ack begins with the
-- record of the member that it goes to, if that is Suspect or Failed (this project's choice). A member that isn't
-- known, or is this member itself, has no record here. Any other packet has no such member.
abbrev pub buddy_record : Version → Addressee → List Claim → Option Claim
buddy_record v Anybody rows = None
buddy_record v (Pinged m) rows = record_if is_suspect (row_at name_cmp name_of m rows)
buddy_record v (Acked m) rows = if tells_news v then record_if is_doubted (row_at name_cmp name_of m rows) else None

-- the claims that a packet takes from the queue
abbrev pub taken : Addressee → GroupLog → List Claim
taken to log = taken_of (queue log) (buddy_record (version_sent (config log)) to (table log)) (live log)

-- all claims of that packet: its buddy, if it has one, and then those taken
abbrev pub fill : Addressee → GroupLog → List Claim
fill to log = fill_of (queue log) (buddy_record (version_sent (config log)) to (table log)) (live log)
