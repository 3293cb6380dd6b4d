-- Joining, by a form of anti-entropy (push-pull): a member asks another for its table by a Pull. The answers are
-- Pages of records, in the order of names, at most 6 each, or 12 in version 3. None of these takes claims of the queue
-- (this project's choice; SWIM, section 3.2, leaves open how a member joins).
use Rattle.std.specs.Prelude.{ℕ, ◌-◌, List, [], ◌∷◌, Option, Some, None, slice_get, if◌then◌else◌}
use Rattle.lg_rules.specs.declared.addr.Addr.{Addr}
use Rattle.lg_rules.specs.declared.claim.Claim.{Claim}
use Rattle.lg_rules.specs.declared.version.Version.{Version}
use Rattle.lg_rules.specs.Meaning.Own.{own_record}
use Rattle.lg_rules.specs.Meaning.Version.{most_claims_of, tells}
use Rattle.lg_packet.specs.declared.packet.Body.{Body}
use Rattle.lg_packet.specs.declared.packet.Body.TheVariants.{Pull, Page}
use Rattle.lg_membership.specs.Meaning.Gossip.{version_sent}
use Rattle.lg_membership.specs.Meaning.Log as group
use Rattle.lg_membership.specs.Meaning.Log.{group_view}
use Rattle.lg_membership.specs.Meaning.Pages.{page_of}
use Rattle.lg_detector.specs.declared.reply.Outgoing.{Outgoing}
use Rattle.lg_detector.specs.Meaning.Groups.{own_group}
use Rattle.lg_detector.specs.Meaning.Log.{Log, group_log}
use Rattle.lg_detector.specs.Meaning.Apply.{come}

-- a packet of this version and group that is sent with these claims
abbrev pub with_claims : Addr → Version → Option (List ℕ) → List ℕ → Body → List Claim → Outgoing
with_claims to version group sender body claims =
    record {
      to = to;
      packet = record {
        version = version;
        group = group;
        sender = sender;
        body = body;
        claims = record { items = claims };
      };
    }

-- A Pull asks for the records after a name, or for the first of all if it has no name. It carries this member's record
-- if the version can tell its address.
abbrev pub own_told : Version → Claim → List Claim
own_told v own = if tells v own.addr then own ∷ [] else []

abbrev pub own_packet : Addr → Body → Log → Outgoing
own_packet to body log =
    let members = group_log log in
    let version = version_sent (group.config members) in
    let mine = own_group (group.config members) in
    with_claims to version mine (group.me members) body (own_told version (own_record (group.own members)))

abbrev pub pull_after : Addr → Option (List ℕ) → Log → Outgoing
pull_after to after log = own_packet to (Pull after) log

-- A Page has the next records after the name of a Pull. This member's own may be among them.
abbrev pub page_behind : Addr → Option (List ℕ) → Log → Outgoing
page_behind to after log =
    let members = group_log log in
    let version = version_sent (group.config members) in
    let mine = own_group (group.config members) in
    with_claims to version mine (group.me members) Page (page_of version after (group_view members))

-- A Page is full if it has as many claims as a packet of its version has room for. It is answered by a Pull for the
-- records after its last claim, whether or not that one was known.
abbrev pub next_pull : Addr → Option Claim → Log → List Outgoing
next_pull to None log = []
next_pull to (Some last) log = pull_after to (Some last.name) log ∷ []

abbrev pub last_of_full : Version → List Claim → Option Claim
last_of_full v claims = slice_get claims (most_claims_of v - 1)

-- the event Pull: a Pull for the first records goes to a peer
abbrev pub pull : ℕ → Log → Log
pull now log = come now log

abbrev pub pulls : ℕ → Addr → Log → List Outgoing
pulls now peer log = pull_after peer None (come now log) ∷ []
