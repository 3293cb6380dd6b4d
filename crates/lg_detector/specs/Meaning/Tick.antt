-- The event Tick: the first of the timers that are due fires, and no other (this project's choice). Which timers are
-- set is `pending` in Timing.antt. Whom a start of a round chooses and who helps is in Probing.antt.
use Rattle.std.specs.Prelude.{ℕ, List, [], ◌∷◌, Option, Some, None, option_map, if◌then◌else◌}
use Rattle.std.specs.List.{filter_map}
use Rattle.lg_rules.specs.declared.claim.Claim.{Claim}
use Rattle.lg_rules.specs.declared.claim.Status.{Status}
use Rattle.lg_rules.specs.declared.claim.Status.TheVariants.{Suspect, Failed, Left}
use Rattle.lg_rules.specs.Meaning.Claim.{name_of}
use Rattle.lg_rules.specs.Meaning.Rows.{name_cmp, row_at}
use Rattle.lg_packet.specs.declared.packet.Body.TheVariants.{Ping, PingReq}
use Rattle.lg_packet.specs.declared.packet.Body.TheVariants as body
use Rattle.lg_timers.specs.declared.timer.Timer.{Timer}
use Rattle.lg_timers.specs.declared.timer.TimerId.{TimerId}
use Rattle.lg_timers.specs.declared.timer.TimerId.TheVariants.{RoundEnd, Suspicion, Direct, RelayNack}
use Rattle.lg_timers.specs.declared.timer.TimerId.TheVariants.{RoundStart, Gossip}
use Rattle.lg_probe.specs.declared.relays.Asker.{Asker}
use Rattle.lg_probe.specs.Meaning.Relays.{asker_at}
use Rattle.lg_probe.specs.Meaning.Round.{RoundValue}
use Rattle.lg_membership.specs.declared.origin.Origin.TheVariants.{Group}
use Rattle.lg_membership.specs.Meaning.Gossip.{news}
use Rattle.lg_membership.specs.Meaning.Log as group
use Rattle.lg_membership.specs.Meaning.Log.{group_view}
use Rattle.lg_detector.specs.declared.message.Message.{Message}
use Rattle.lg_detector.specs.declared.reply.Outgoing.{Outgoing}
use Rattle.lg_detector.specs.Meaning.Log.{Log, group_log}
use Rattle.lg_detector.specs.Meaning.Timing.{due}
use Rattle.lg_detector.specs.Meaning.Apply.{come, apply_all, fire}
use Rattle.lg_detector.specs.Meaning.Hear.{nack_of}
use Rattle.lg_detector.specs.Meaning.Probing.{chosen, helpers, number, round, told_by}
use Rattle.lg_detector.specs.Meaning.Relaying.{relays}
use Rattle.lg_detector.specs.Meaning.Send.{send, send_all, packets}

-- The record of a name in a table, if it has one.
abbrev pub found : List ℕ → List Claim → Option Claim
found m rows = row_at name_cmp name_of m rows

-- The claims that a timer makes when it fires, at the incarnation and the address of a record. A member whose
-- suspicion runs out has failed (SWIM, section 4.2). If a round ends without an Ack that counts, this member suspects
-- its target, unless that is gone already.
abbrev pub failed_of : Option Claim → List Claim
failed_of None = []
failed_of (Some r) = record { name = r.name; addr = r.addr; status = Failed; incarnation = r.incarnation } ∷ []

abbrev pub accusation : List ℕ → Status → Claim → List Claim
accusation me Failed r = []
accusation me Left r = []
accusation me _ r =
    record { name = r.name; addr = r.addr; status = Suspect me; incarnation = r.incarnation } ∷ []

abbrev pub suspect_of : List ℕ → Option Claim → List Claim
suspect_of me None = []
suspect_of me (Some r) = accusation me r.status r

abbrev pub failure_of : List ℕ → Option RoundValue → List Claim → List Claim
failure_of me None rows = []
failure_of me (Some r) rows = if r.acked then [] else suspect_of me (found r.target rows)

abbrev pub fired_claims : TimerId → List ℕ → Option RoundValue → List Claim → List Claim
fired_claims (Suspicion m) me r rows = failed_of (found m rows)
fired_claims RoundEnd me r rows = failure_of me r rows
fired_claims _ me r rows = []

abbrev pub claims_said : TimerId → Log → List Claim
claims_said id log =
    let g = group_log log in
    fired_claims id (group.me g) (round log) (group_view g)

-- The packets that a timer sends. A start of a round pings the chosen member at the address of its record. If no Ack
-- came in time, the helpers are asked to ping the target (PingReq), in the order in which they were picked. A relay
-- sends its asker a Nack with the asker's number and name, since no Ack came.
abbrev pub ping_at : ℕ → Option Claim → List Message
ping_at k None = []
ping_at k (Some r) = record { to = r.addr; body = Ping k r.name } ∷ []

abbrev pub ping_to : ℕ → List Claim → Option (List ℕ) → List Message
ping_to k rows None = []
ping_to k rows (Some m) = ping_at k (found m rows)

abbrev pub request_to : ℕ → Claim → Claim → Message
request_to k target helper = record { to = helper.addr; body = PingReq k target.name target.addr }

abbrev pub requests_of : ℕ → Option Claim → List Claim → List (List ℕ) → List Message
requests_of k None rows names = []
requests_of k (Some target) rows names = filter_map (λ m. option_map (request_to k target) (found m rows)) names

abbrev pub requests : Option RoundValue → List Claim → List (List ℕ) → List Message
requests None rows names = []
requests (Some r) rows names = requests_of r.number (found r.target rows) rows names

abbrev pub nack_to : Option Asker → List Message
nack_to None = []
nack_to (Some asker) = nack_of asker

-- A gossip goes to the members that are picked, at the addresses of their records, one after another, as long as a
-- claim of the queue may still be sent.
abbrev pub gossip_for : Claim → Message
gossip_for r = record { to = r.addr; body = body.Gossip }

abbrev pub gossips_for : List Claim → List (List ℕ) → List Message
gossips_for rows names = filter_map (λ m. option_map gossip_for (found m rows)) names

abbrev pub while_news : List Message → Log → List Message
while_news [] log = []
while_news (m ∷ ms) log = if news (group_log log) then m ∷ while_news ms (send m.body log) else []

abbrev pub messages : TimerId → List ℕ → Log → List Message
messages RoundStart words log = ping_to (number log) (group_view (group_log log)) (chosen words log)
messages Direct words log = requests (round log) (group_view (group_log log)) (helpers words log)
messages (RelayNack k) words log = nack_to (asker_at k (relays log))
messages Gossip words log = while_news (gossips_for (group_view (group_log log)) (told_by words log)) log
messages _ words log = []

-- a timer fires, if one is due: its claims are applied, and its packets are sent
abbrev pub expire : Option Timer → List ℕ → Log → Log
expire None words log = log
expire (Some timer) words log =
    send_all (messages timer.id words log) (apply_all Group (claims_said timer.id log) (fire timer words log))

abbrev pub tick : ℕ → List ℕ → Log → Log
tick now words log = expire (due (come now log)) words (come now log)

abbrev pub expire_sends : Option Timer → List ℕ → Log → List Outgoing
expire_sends None words log = []
expire_sends (Some timer) words log =
    packets (messages timer.id words log) (apply_all Group (claims_said timer.id log) (fire timer words log))

abbrev pub sends_at : ℕ → List ℕ → Log → List Outgoing
sends_at now words log = expire_sends (due (come now log)) words (come now log)
