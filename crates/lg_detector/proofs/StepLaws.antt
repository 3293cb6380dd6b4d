-- The states lead on as the events do, and give the replies to them.
use Rattle.std.proofs.Common.{◌≡◌, ℕ, Bool, true, false, cond, List, [], ◌∷◌, ◌++◌, append-nil, append_assoc, reverse, Option, Some, None, IsTrue, refl, sym, ◌∙◌, ap}
use Rattle.std.specs.Prelude.{option_map}
use Rattle.std.specs.List.{filter_map}
use Rattle.std.proofs.lemmas.List.{reverse-append}
use Rattle.lg_rules.specs.declared.addr.Addr.{Addr}
use Rattle.lg_rules.specs.declared.claim.Claim.{Claim}
use Rattle.lg_rules.specs.Meaning.Own.{own_record}
use Rattle.lg_rules.specs.Meaning.View.{changed}
use Rattle.lg_packet.specs.declared.packet.Body.{Body}
use Rattle.lg_packet.specs.declared.packet.Body.TheVariants.{Ping, PingReq, Ack, Nack, Pull, Page, Gossip}
use Rattle.lg_packet.specs.declared.packet.Packet.{Packet}
use Rattle.lg_timing.specs.declared.config.Config.{Config}
use Rattle.lg_timers.specs.declared.timer.Timer.{Timer}
use Rattle.lg_timers.specs.declared.timer.TimerId.{TimerId}
use Rattle.lg_timers.specs.declared.timer.TimerId.TheVariants.{RoundEnd, Suspicion, Direct}
use Rattle.lg_timers.specs.declared.timer.TimerId.TheVariants.{RelayNack, RelayEnd, RoundStart, Forget}
use Rattle.lg_timers.specs.Meaning.Timers.{first_forget}
use Rattle.lg_timers.specs.declared.timer.TimerId.TheVariants as ids
use Rattle.lg_probe.specs.declared.relays.Asker.{Asker}
use Rattle.lg_membership.specs.declared.origin.Origin.{Origin}
use Rattle.lg_membership.specs.declared.origin.Origin.TheVariants.{Seed, Group}
use Rattle.lg_membership.specs.Meaning.Gossip.{news, version_sent}
use Rattle.lg_membership.specs.Meaning.Log as group
use Rattle.lg_membership.specs.Meaning.Log.{group_view, needs_room}
use Rattle.lg_membership.specs.Meaning.Pages.{page_of}
use Rattle.lg_membership.proofs.FactLaws.{own_name}
use Rattle.lg_membership.proofs.Forgetting.{needs_room-log}
use Rattle.lg_detector.specs.declared.event.Event.{Event}
use Rattle.lg_detector.specs.declared.event.Event.TheVariants.{Open, Tick, Heard, Ask, Health, Pull as Pulls, Leave}
use Rattle.lg_detector.specs.declared.message.Message.{Message}
use Rattle.lg_detector.specs.declared.reply.Outgoing.{Outgoing}
use Rattle.lg_detector.specs.Meaning.Forget.{forgotten}
use Rattle.lg_detector.specs.Meaning.Groups.{own_group}
use Rattle.lg_detector.specs.Meaning.Log.{Log, Came, Fired, Relayed, OfGroup, group_log}
use Rattle.lg_detector.specs.Meaning.Probing.{has_left, number, round, told_by}
use Rattle.lg_detector.specs.Meaning.Relaying.{relays}
use Rattle.lg_detector.specs.Meaning.Timing.{due, pending, or_zero}
use Rattle.lg_detector.specs.Meaning.Apply as to_log
use Rattle.lg_detector.specs.Meaning.Open as open_log
use Rattle.lg_detector.specs.Meaning.Hear as hear_log
use Rattle.lg_detector.specs.Meaning.Tick as tick_log
use Rattle.lg_detector.specs.Meaning.Send as send_log
use Rattle.lg_detector.specs.Meaning.Joining as join_log
use Rattle.lg_detector.specs.Meaning.Leave as leave_log
use Rattle.lg_detector.specs.Meaning.Step as step_log
use Rattle.lg_detector.specs.Support.State.{State, state_of, begin, end_event, apply_state, apply_all_state, open_relay}
use Rattle.lg_detector.specs.Support.State.{forget_id, forget_first_state, make_room_state, as_merged_state, hear_one_state, hear_each_state, forgotten_id, forgotten_first, forgotten_for, forgotten_each}
use Rattle.lg_detector.specs.Support.Send.{claims_of_state, outgoing_state, packets_state, send_all_state, send_state}
use Rattle.lg_detector.specs.Support.Open.{open_with_state}
use Rattle.lg_detector.specs.Support.Hear.{answer_state, body_meant_state, hear_claims_state, hear_state, note_state, respond_state}
use Rattle.lg_detector.specs.Support.Hear.{response_state, sends_of_state, sends_to_state}
use Rattle.lg_detector.specs.Support.Joining.{next_pull_state, own_packet_state, page_behind_state, pull_after_state}
use Rattle.lg_detector.specs.Support.Leave.{leave_state, leave_packets_state, leave_sends_state}
use Rattle.lg_detector.specs.Support.Tick as tick_state
use Rattle.lg_detector.specs.Support.Tick.{claims_said_state, due_state, expire_sends_state, expire_state}
use Rattle.lg_detector.specs.Support.Tick.{messages_state, tick_state, while_news_state}
use Rattle.lg_detector.specs.Support.Step.{state_after, accepts_of, view_state, advance, happen_state, step_state, deadline_state}
use Rattle.lg_detector.specs.Support.Step.{reply_state, forgotten_by_state}
use Rattle.lg_detector.proofs.FactLaws.{come-state, begin-state, apply-state, forget-state, send-state}
use Rattle.lg_detector.proofs.OrderLaws.{chosen-is}
use Rattle.lg_detector.proofs.Untouched.{IsUntouched, untouched-apply_all, untouched-respond, untouched-expire}
use Rattle.lg_detector.proofs.ProbeLaws.{depart-state, fire-state, ack-state, ended-state, nack-heard, relayed-state, helpers-is}

pub apply_all-state : (origin : Origin) (cs : List Claim) (log : Log) → apply_all_state origin cs (state_of log) ≡ state_of (to_log.apply_all origin cs log)
apply_all-state origin [] log = refl
apply_all-state origin (c ∷ cs) log = ap (apply_all_state origin cs) (apply-state origin c log) ∙ apply_all-state origin cs (to_log.apply origin c log)

open-state : (now : ℕ) (opening : Config) (log : Log) → open_with_state now opening (state_of log) ≡ state_of (open_log.open_with now opening log)
open-state now opening log =
    let claims = open_log.seed_claims opening in
    ap (λ s. apply_all_state Seed claims (begin opening s)) (come-state now log)
    ∙ ap (apply_all_state Seed claims) (begin-state opening (Came now ∷ log))
    ∙ apply_all-state Seed claims (OfGroup (group.Opened opening) ∷ Came now ∷ log)

-- claims are heard, and members are forgotten where one of them lacks room
forget_id-state : (id : TimerId) (log : Log) → forget_id id (state_of log) ≡ state_of (to_log.forget_by id log)
forget_id-state RoundEnd log = refl
forget_id-state (Suspicion m) log = refl
forget_id-state Direct log = refl
forget_id-state (RelayNack k) log = refl
forget_id-state (RelayEnd k) log = refl
forget_id-state RoundStart log = refl
forget_id-state (Forget m) log = forget-state m log
forget_id-state ids.Gossip log = refl

room-by : (b : Bool) (o : Option Timer) (log : Log) → cond b (forget_first_state o (state_of log)) (state_of log) ≡ state_of (cond b (to_log.forget_first o log) log)
room-by true None log = refl
room-by true (Some timer) log = forget_id-state timer.id log
room-by false o log = refl

make_room-state : (c : Claim) (log : Log) → make_room_state c (state_of log) ≡ state_of (to_log.make_room c log)
unfolding make_room_state
make_room-state c log =
    let first = first_forget (pending log) in
    ap (λ b. cond b (forget_first_state first (state_of log)) (state_of log)) (needs_room-log c (group_log log))
    ∙ room-by (needs_room (group_log log) c) first log

as_merged-log : (teller : Option (List ℕ)) (c : Claim) (log : Log) → as_merged_state teller c (state_of log) ≡ to_log.as_merged teller c log
as_merged-log teller c log = ap (λ me. to_log.merged me (group_view (group_log log)) teller c) (own_name (group_log log))

hear_one-state : (teller : Option (List ℕ)) (c : Claim) (log : Log) → hear_one_state teller c (state_of log) ≡ state_of (to_log.hear_one teller c log)
hear_one-state teller c log =
    let roomy = to_log.make_room c log in
    ap (λ s. apply_state Group (as_merged_state teller c s) s) (make_room-state c log)
    ∙ ap (λ said. apply_state Group said (state_of roomy)) (as_merged-log teller c roomy)
    ∙ apply-state Group (to_log.as_merged teller c roomy) roomy

hear_each-state : (teller : Option (List ℕ)) (cs : List Claim) (log : Log) → hear_each_state teller cs (state_of log) ≡ state_of (to_log.hear_each teller cs log)
hear_each-state teller [] log = refl
hear_each-state teller (c ∷ cs) log = ap (hear_each_state teller cs) (hear_one-state teller c log) ∙ hear_each-state teller cs (to_log.hear_one teller c log)

claims-state : (now : ℕ) (packet : Packet) (log : Log) → hear_claims_state now packet (state_of log) ≡ state_of (hear_log.hear_claims now packet log)
claims-state now packet log =
    let said = hear_log.claims_heard (hear_log.my_group log) packet in
    let teller = hear_log.table_teller (version_sent (group.config (group_log log))) packet in
    ap (hear_each_state teller said) (come-state now log) ∙ hear_each-state teller said (Came now ∷ log)

-- the packets that are sent
send-body : (body : Body) (log : Log) → send_state body (state_of log) ≡ state_of (send_log.send body log)
send-body (Ping number target) log = send-state _ log
send-body (PingReq number target addr) log = send-state _ log
send-body (Ack number receiver) log = send-state _ log
send-body (Nack number receiver) log = refl
send-body (Pull after) log = refl
send-body Page log = refl
send-body Gossip log = send-state _ log

pub send_all-state : (ms : List Message) (log : Log) → send_all_state ms (state_of log) ≡ state_of (send_log.send_all ms log)
send_all-state [] log = refl
send_all-state (m ∷ ms) log = ap (send_all_state ms) (send-body m.body log) ∙ send_all-state ms (send_log.send m.body log)

claims_of-log : (body : Body) (log : Log) → claims_of_state body (state_of log) ≡ send_log.claims_of body log
claims_of-log (Ping number target) log = refl
claims_of-log (PingReq number target addr) log = refl
claims_of-log (Ack number receiver) log = refl
claims_of-log (Nack number receiver) log = refl
claims_of-log (Pull after) log = refl
claims_of-log Page log = refl
claims_of-log Gossip log = refl

outgoing-log : (m : Message) (log : Log) → outgoing_state m (state_of log) ≡ send_log.outgoing m log
outgoing-log m log = λ i. record {
  to = m.to;
  packet = record {
    version = version_sent (group.config (group_log log));
    group = own_group (group.config (group_log log));
    sender = own_name (group_log log) i;
    body = send_log.body_told (version_sent (group.config (group_log log))) m.body;
    claims = record { items = claims_of-log m.body log i };
  };
}

packets-log : (ms : List Message) (log : Log) → packets_state ms (state_of log) ≡ send_log.packets ms log
packets-log [] log = refl
packets-log (m ∷ ms) log =
    let rest = ap (packets_state ms) (send-body m.body log) ∙ packets-log ms (send_log.send m.body log) in
    λ i. outgoing-log m log i ∷ rest i

-- the response to a body
response-log : (source : Addr) (sender : List ℕ) (body : Body) (log : Log) → response_state source sender body (state_of log) ≡ hear_log.response source sender body log
response-log source sender body log = ap (λ me. hear_log.response_by me (number log) (relays log) source sender body) (own_name (group_log log))

note-request : (b : Bool) (target : List ℕ) (asker : Asker) (log : Log)
    → cond b (open_relay target asker (state_of log)) (state_of log) ≡ state_of (cond b (Relayed target asker ∷ log) log)
note-request true target asker log = relayed-state target asker log
note-request false target asker log = refl

note-state : (source : Addr) (sender : List ℕ) (body : Body) (log : Log) → note_state source sender body (state_of log) ≡ state_of (hear_log.note source sender body log)
note-state source sender (Ping k target) log = refl
note-state source sender (PingReq k target addr) log =
    let asker = hear_log.asker_from sender source k in
    ap (λ me. cond (hear_log.is_relayed me (relays log) target) (open_relay target asker (state_of log)) (state_of log)) (own_name (group_log log))
    ∙ note-request (hear_log.is_relayed (group.me (group_log log)) (relays log) target) target asker log
note-state source sender (Ack k receiver) log = ack-state k sender log
note-state source sender (Nack k receiver) log = nack-heard k sender log
note-state source sender (Pull after) log = refl
note-state source sender Page log = refl
note-state source sender Gossip log = refl

respond-state : (source : Addr) (sender : List ℕ) (body : Body) (log : Log) → respond_state source sender body (state_of log) ≡ state_of (hear_log.respond source sender body log)
respond-state source sender body log =
    (λ i. send_all_state (response-log source sender body log i) (note-state source sender body log i))
    ∙ send_all-state (hear_log.response source sender body log) (hear_log.note source sender body log)

-- what the body of a packet means to this member
body-is : (packet : Packet) (log : Log) → body_meant_state packet (state_of log) ≡ hear_log.body_meant packet log
body-is packet log = ap (λ me. hear_log.body_heard (hear_log.my_group log) me packet) (own_name (group_log log))

answer-state : (source : Addr) (packet : Packet) (log : Log)
    → answer_state source packet (state_of log) ≡ state_of (hear_log.respond source packet.sender (hear_log.body_meant packet log) log)
answer-state source packet log =
    ap (λ body. respond_state source packet.sender body (state_of log)) (body-is packet log)
    ∙ respond-state source packet.sender (hear_log.body_meant packet log) log

hear-state : (now : ℕ) (source : Addr) (packet : Packet) (log : Log) → hear_state now source packet (state_of log) ≡ state_of (hear_log.hear now source packet log)
hear-state now source packet log =
    ap (answer_state source packet) (claims-state now packet log) ∙ answer-state source packet (hear_log.hear_claims now packet log)

response_sent-log : (source : Addr) (sender : List ℕ) (body : Body) (log : Log)
    → packets_state (response_state source sender body (state_of log)) (note_state source sender body (state_of log))
    ≡ send_log.packets (hear_log.response source sender body log) (hear_log.note source sender body log)
response_sent-log source sender body log =
    (λ i. packets_state (response-log source sender body log i) (note-state source sender body log i))
    ∙ packets-log (hear_log.response source sender body log) (hear_log.note source sender body log)

-- Pulls and Pages
own_packet-log : (to : Addr) (body : Body) (log : Log) → own_packet_state to body (state_of log) ≡ join_log.own_packet to body log
own_packet-log to body log =
    let version = version_sent (group.config (group_log log)) in
    let mine = own_group (group.config (group_log log)) in
    let own = join_log.own_told version (own_record (group.own (group_log log))) in
    ap (λ me. join_log.with_claims to version mine me body own) (own_name (group_log log))

pull_after-log : (to : Addr) (after : Option (List ℕ)) (log : Log) → pull_after_state to after (state_of log) ≡ join_log.pull_after to after log
pull_after-log to after log = own_packet-log to (Pull after) log

page_behind-log : (to : Addr) (after : Option (List ℕ)) (log : Log) → page_behind_state to after (state_of log) ≡ join_log.page_behind to after log
page_behind-log to after log =
    let version = version_sent (group.config (group_log log)) in
    let mine = own_group (group.config (group_log log)) in
    ap (λ me. join_log.with_claims to version mine me Page (page_of version after (group_view (group_log log)))) (own_name (group_log log))

next_pull-log : (to : Addr) (last : Option Claim) (log : Log) → next_pull_state to last (state_of log) ≡ join_log.next_pull to last log
next_pull-log to None log = refl
next_pull-log to (Some last) log = λ i. pull_after-log to (Some last.name) log i ∷ []

sends_of-log : (source : Addr) (packet : Packet) (body : Body) (log : Log)
    → sends_of_state source packet body (state_of log) ≡ hear_log.sends_of source packet body log
sends_of-log source packet (Ping k target) log = response_sent-log source packet.sender (Ping k target) log
sends_of-log source packet (PingReq k target addr) log = response_sent-log source packet.sender (PingReq k target addr) log
sends_of-log source packet (Ack k receiver) log = response_sent-log source packet.sender (Ack k receiver) log
sends_of-log source packet (Nack k receiver) log = response_sent-log source packet.sender (Nack k receiver) log
sends_of-log source packet (Pull after) log = λ i. page_behind-log source after log i ∷ []
sends_of-log source packet Page log = next_pull-log source (join_log.last_of_full packet.version packet.claims.items) log
sends_of-log source packet Gossip log = response_sent-log source packet.sender Gossip log

sends_to-log : (source : Addr) (packet : Packet) (log : Log) → sends_to_state source packet (state_of log) ≡ hear_log.sends_to source packet log
sends_to-log source packet log =
    ap (λ body. sends_of_state source packet body (state_of log)) (body-is packet log) ∙ sends_of-log source packet (hear_log.body_meant packet log) log

-- a timer fires, if one is due
said-log : (id : TimerId) (log : Log) → claims_said_state id (state_of log) ≡ tick_log.claims_said id log
said-log id log = ap (λ me. tick_log.fired_claims id me (round log) (group_view (group_log log))) (own_name (group_log log))

while_news-log : (ms : List Message) (log : Log) → while_news_state ms (state_of log) ≡ tick_log.while_news ms log
while_news-log [] log = refl
while_news-log (m ∷ ms) log =
    let rest = ap (while_news_state ms) (send-body m.body log) ∙ while_news-log ms (send_log.send m.body log) in
    ap (λ l. cond (news (group_log log)) (m ∷ l) []) rest

messages-log : (id : TimerId) (words : List ℕ) (log : Log) → messages_state id words (state_of log) ≡ tick_log.messages id words log
messages-log RoundEnd words log = refl
messages-log (Suspicion m) words log = refl
messages-log Direct words log = ap (tick_log.requests (round log) (group_view (group_log log))) (helpers-is words log)
messages-log (RelayNack k) words log = refl
messages-log (Forget m) words log = refl
messages-log ids.Gossip words log = while_news-log (tick_log.gossips_for (group_view (group_log log)) (told_by words log)) log
messages-log (RelayEnd k) words log = refl
messages-log RoundStart words log = ap (tick_log.ping_to (number log) (group_view (group_log log))) (chosen-is words log)

fired-log : (timer : Timer) (words : List ℕ) (log : Log)
    → tick_state.said_by (Some timer) words (state_of log) ≡ state_of (to_log.apply_all Group (tick_log.claims_said timer.id log) (to_log.fire timer words log))
fired-log timer words log =
    (λ i. apply_all_state Group (said-log timer.id log i) (fire-state timer words log i)) ∙ apply_all-state Group (tick_log.claims_said timer.id log) (to_log.fire timer words log)

expire-state : (o : Option Timer) (words : List ℕ) (log : Log) → expire_state o words (state_of log) ≡ state_of (tick_log.expire o words log)
expire-state None words log = refl
expire-state (Some timer) words log =
    (λ i. send_all_state (messages-log timer.id words log i) (fired-log timer words log i))
    ∙ send_all-state (tick_log.messages timer.id words log) (to_log.apply_all Group (tick_log.claims_said timer.id log) (to_log.fire timer words log))

expire_sends-log : (o : Option Timer) (words : List ℕ) (log : Log) → expire_sends_state o words (state_of log) ≡ tick_log.expire_sends o words log
expire_sends-log None words log = refl
expire_sends-log (Some timer) words log =
    (λ i. packets_state (messages-log timer.id words log i) (fired-log timer words log i))
    ∙ packets-log (tick_log.messages timer.id words log) (to_log.apply_all Group (tick_log.claims_said timer.id log) (to_log.fire timer words log))

tick-state : (now : ℕ) (words : List ℕ) (log : Log) → tick_state now words (state_of log) ≡ state_of (tick_log.tick now words log)
tick-state now words log = expire-state (due (Came now ∷ log)) words (Came now ∷ log)

-- this member leaves
leave-state : (now : ℕ) (log : Log) → leave_state now (state_of log) ≡ state_of (leave_log.leave now log)
leave-state now log = depart-state (Came now ∷ log)

leave_packets-log : (words : List ℕ) (log : Log) → leave_packets_state words (state_of log) ≡ leave_log.leave_packets words log
leave_packets-log words log =
    let body = leave_log.leave_body (version_sent (group.config (group_log log))) in
    let rows = group_view (group_log log) in
    ap (λ (packet : Claim → Outgoing). filter_map (λ m. option_map packet (tick_log.found m rows)) (leave_log.told_of_leave words log))
    (λ i r. own_packet-log r.addr body log i)

leave_sends-log : (now : ℕ) (words : List ℕ) (log : Log) → leave_sends_state now words (state_of log) ≡ leave_log.leave_sends now words log
leave_sends-log now words log =
    ap (cond (has_left log) []) (ap (leave_packets_state words) (leave-state now log) ∙ leave_packets-log words (leave_log.leave now log))

happen-state : (log : Log) (e : Event) → happen_state (state_of log) e ≡ state_of (step_log.happen e log)
unfolding happen_state
happen-state log (Open now opening) = open-state now opening log
happen-state log (Heard now source packet) = hear-state now source packet log
happen-state log (Tick now words) = tick-state now words log
happen-state log (Ask now name) = come-state now log
happen-state log (Health now) = come-state now log
happen-state log (Pulls now peer) = come-state now log
happen-state log (Leave now words) = leave-state now log

pub advance-state : (log : Log) (e : Event) → advance (state_of log) e ≡ state_of (step_log.step e log)
advance-state log e = ap end_event (happen-state log e) ∙ ended-state (step_log.happen e log)

-- the names that an event forgets
forgotten_untouched : IsUntouched forgotten
forgotten_untouched = record {
  said = λ now origin c log. refl;
  sent = λ taken log. refl;
  acked = λ k sender log. refl;
  nacked = λ k sender log. refl;
  relayed = λ target asker log. refl;
}

forgotten-id : (id : TimerId) (log : Log) → forgotten (to_log.forget_by id log) ≡ forgotten log ++ forgotten_id id
forgotten-id RoundEnd log = sym (append-nil (forgotten log))
forgotten-id (Suspicion m) log = sym (append-nil (forgotten log))
forgotten-id Direct log = sym (append-nil (forgotten log))
forgotten-id (RelayNack k) log = sym (append-nil (forgotten log))
forgotten-id (RelayEnd k) log = sym (append-nil (forgotten log))
forgotten-id RoundStart log = sym (append-nil (forgotten log))
forgotten-id (Forget m) log = refl
forgotten-id ids.Gossip log = sym (append-nil (forgotten log))

forgotten-room : (b : Bool) (o : Option Timer) (log : Log) → forgotten (cond b (to_log.forget_first o log) log) ≡ forgotten log ++ cond b (forgotten_first o) []
forgotten-room true None log = sym (append-nil (forgotten log))
forgotten-room true (Some timer) log = forgotten-id timer.id log
forgotten-room false o log = sym (append-nil (forgotten log))

forgotten-for : (c : Claim) (log : Log) → forgotten (to_log.make_room c log) ≡ forgotten log ++ forgotten_for c (state_of log)
forgotten-for c log =
    let first = first_forget (pending log) in
    forgotten-room (needs_room (group_log log) c) first log
    ∙ ap (λ b. forgotten log ++ cond b (forgotten_first first) []) (sym (needs_room-log c (group_log log)))

forgotten-each : (teller : Option (List ℕ)) (cs : List Claim) (log : Log) → forgotten (to_log.hear_each teller cs log) ≡ forgotten log ++ forgotten_each teller cs (state_of log)
forgotten-each teller [] log = sym (append-nil (forgotten log))
forgotten-each teller (c ∷ cs) log =
    let next = to_log.hear_one teller c log in
    forgotten-each teller cs next
    ∙ ap (λ ns. ns ++ forgotten_each teller cs (state_of next)) (forgotten-for c log)
    ∙ append_assoc (forgotten log) (forgotten_for c (state_of log)) (forgotten_each teller cs (state_of next))
    ∙ ap (λ s. forgotten log ++ (forgotten_for c (state_of log) ++ forgotten_each teller cs s)) (sym (hear_one-state teller c log))

forgotten-expire : (o : Option Timer) (words : List ℕ) (now : ℕ) (log : Log) → forgotten_first o ≡ forgotten (tick_log.expire o words (Came now ∷ log))
forgotten-expire None words now log = refl
forgotten-expire (Some timer) words now log =
    sym (untouched-expire forgotten forgotten_untouched timer words (Came now ∷ log) ∙ forgotten-id timer.id (Fired timer words ∷ Came now ∷ log))

forgotten-log : (log : Log) (e : Event) → forgotten_by_state (state_of log) e ≡ step_log.forgotten_by e log
forgotten-log log (Open now opening) =
    sym (untouched-apply_all forgotten forgotten_untouched Seed (open_log.seed_claims opening) (OfGroup (group.Opened opening) ∷ Came now ∷ log))
forgotten-log log (Heard now source packet) =
    let teller = hear_log.table_teller (version_sent (group.config (group_log log))) packet in
    let said = hear_log.claims_heard (hear_log.my_group log) packet in
    sym (untouched-respond forgotten forgotten_untouched now source packet log ∙ forgotten-each teller said (Came now ∷ log))
forgotten-log log (Tick now words) = forgotten-expire (due (Came now ∷ log)) words now log
forgotten-log log (Ask now name) = refl
forgotten-log log (Health now) = refl
forgotten-log log (Pulls now peer) = refl
forgotten-log log (Leave now words) = refl

pub reply-state : (log : Log) (e : Event) → reply_state (state_of log) e ≡ step_log.reply e log
unfolding reply_state
reply-state log (Open now opening) = λ i. record {
  fired = None;
  sends = record { items = [] };
  changed = record { items = [] };
  forgotten = record { items = forgotten-log log (Open now opening) i };
  answer = None;
  ousted = (advance-state log (Open now opening) i).membership.own.ousted;
  next = or_zero (deadline_state (advance-state log (Open now opening) i));
}
reply-state log (Heard now source packet) =
    let heard = hear_log.hear_claims now packet log in
    let heard-is = claims-state now packet log in
    let sends-is = ap (sends_to_state source packet) heard-is ∙ sends_to-log source packet heard in
    λ i. record {
      fired = None;
      sends = record { items = sends-is i };
      changed = record { items = changed (step_log.view log) (view_state (heard-is i)) };
      forgotten = record { items = forgotten-log log (Heard now source packet) i };
      answer = None;
      ousted = (advance-state log (Heard now source packet) i).membership.own.ousted;
      next = or_zero (deadline_state (advance-state log (Heard now source packet) i));
    }
reply-state log (Ask now name) = λ i. record {
  fired = None;
  sends = record { items = [] };
  changed = record { items = [] };
  forgotten = record { items = forgotten-log log (Ask now name) i };
  answer = step_log.answer_by (Ask now name) log;
  ousted = (advance-state log (Ask now name) i).membership.own.ousted;
  next = or_zero (deadline_state (advance-state log (Ask now name) i));
}
reply-state log (Health now) = λ i. record {
  fired = None;
  sends = record { items = [] };
  changed = record { items = [] };
  forgotten = record { items = forgotten-log log (Health now) i };
  answer = step_log.answer_by (Health now) log;
  ousted = (advance-state log (Health now) i).membership.own.ousted;
  next = or_zero (deadline_state (advance-state log (Health now) i));
}
reply-state log (Pulls now peer) = λ i. record {
  fired = None;
  sends = record { items = pull_after-log peer None (Came now ∷ log) i ∷ [] };
  changed = record { items = [] };
  forgotten = record { items = forgotten-log log (Pulls now peer) i };
  answer = None;
  ousted = (advance-state log (Pulls now peer) i).membership.own.ousted;
  next = or_zero (deadline_state (advance-state log (Pulls now peer) i));
}
reply-state log (Leave now words) = λ i. record {
  fired = None;
  sends = record { items = leave_sends-log now words log i };
  changed = record { items = changed (step_log.view log) (view_state (leave-state now log i)) };
  forgotten = record { items = forgotten-log log (Leave now words) i };
  answer = None;
  ousted = (advance-state log (Leave now words) i).membership.own.ousted;
  next = or_zero (deadline_state (advance-state log (Leave now words) i));
}
reply-state log (Tick now words) = λ i. record {
  fired = due_state (come-state now log i);
  sends = record { items = expire_sends-log (due (Came now ∷ log)) words (Came now ∷ log) i };
  changed = record { items = changed (step_log.view log) (view_state (tick-state now words log i)) };
  forgotten = record { items = forgotten-log log (Tick now words) i };
  answer = None;
  ousted = (advance-state log (Tick now words) i).membership.own.ousted;
  next = or_zero (deadline_state (advance-state log (Tick now words) i));
}

-- an event that is accepted leads on
pub step-accepted : (s : State) (e : Event) → IsTrue (accepts_of s e) → step_state s e ≡ advance s e
step-accepted s e accepted = rw accepted refl

-- one more event
state_after-append : (f : List Event) (e : Event) → state_of (step_log.step e (step_log.log_of (reverse f))) ≡ state_after (f ++ e ∷ [])
state_after-append f e = sym (ap (λ (past : List Event). state_of (step_log.log_of past)) (reverse-append f (e ∷ [])))

pub step-after : (f : List Event) (e : Event) → IsTrue (accepts_of (state_after f) e) → step_state (state_after f) e ≡ state_after (f ++ e ∷ [])
step-after f e accepted =
    step-accepted (state_after f) e accepted ∙ advance-state (step_log.log_of (reverse f)) e ∙ state_after-append f e

pub reply-of : (f : List Event) (e : Event) → reply_state (state_after f) e ≡ step_log.reply_after f e
reply-of f e = reply-state (step_log.log_of (reverse f)) e
