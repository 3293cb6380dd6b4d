-- The state of a detector as plain data, and what each fact does to it.
use Rattle.std.specs.Prelude.{ℕ, ◌+◌, max, pos, negsuc, Bool, true, false, List, [], ◌∷◌, ◌++◌, map, filter}
use Rattle.std.specs.Prelude.{Option, Some, None, option_map, is_some, length, ◌==◌, ◌&&◌, not, if◌then◌else◌}
use Rattle.lg_rules.specs.declared.claim.Claim.{Claim}
use Rattle.lg_rules.specs.Meaning.Claim.{is_gone, name_of}
use Rattle.lg_rules.specs.Meaning.Rows.{name_cmp, is_same, is_among, in_order}
use Rattle.lg_timing.specs.declared.config.Config.{Config}
use Rattle.lg_timing.specs.Meaning.Score.{ScoreValue, marked}
use Rattle.lg_timers.specs.declared.timer.Timer.{Timer}
use Rattle.lg_timers.specs.declared.timer.TimerId.{TimerId}
use Rattle.lg_timers.specs.declared.timer.TimerId.TheVariants.{RoundEnd, Suspicion, Direct}
use Rattle.lg_timers.specs.declared.timer.TimerId.TheVariants.{RelayNack, RelayEnd, RoundStart, Forget, Gossip}
use Rattle.lg_timers.specs.Meaning.Timers.{with_timer, without_timer, first_forget}
use Rattle.lg_rules.specs.Meaning.Table.{live_in}
use Rattle.lg_gossip.specs.Meaning.Queue.{has_news}
use Rattle.lg_probe.specs.declared.relays.Asker.{Asker}
use Rattle.lg_probe.specs.declared.relays.Relay.{Relay}
use Rattle.lg_probe.specs.Meaning.Order.{OrderValue, Joined, Left, Chose, Forgot, choice, order_with}
use Rattle.lg_probe.specs.Meaning.Relays.{Opened, TargetAcked, Closed, ended_asker}
use Rattle.lg_probe.specs.Support.Relays.{relays_with}
use Rattle.lg_probe.specs.Meaning.Round.{RoundValue, Asked, Acked, Nacked, mark_of, round_of, round_with}
use Rattle.lg_membership.specs.declared.applied.Deadline.{Deadline}
use Rattle.lg_membership.specs.declared.applied.Deadline.TheVariants.{Stays, Ends, Stands}
use Rattle.lg_membership.specs.declared.applied.Presence.{Presence}
use Rattle.lg_membership.specs.declared.applied.Presence.TheVariants as presence
use Rattle.lg_membership.specs.declared.origin.Origin.{Origin}
use Rattle.lg_membership.specs.declared.origin.Origin.TheVariants.{Group}
use Rattle.lg_membership.specs.Meaning.Gossip.{version_sent}
use Rattle.lg_membership.specs.Meaning.Log.{forgets_in}
use Rattle.lg_membership.specs.Support.State as group
use Rattle.lg_membership.specs.Support.State.{GroupState, apply_to_group, group_state_of, open_group}
use Rattle.lg_membership.specs.Support.State.{forget_from_group, needs_room_in, leave_group, send_from_group}
use Rattle.lg_detector.specs.Meaning.Apply.{merged}
use Rattle.lg_detector.specs.Meaning.Forget.{forget_time}
use Rattle.lg_detector.specs.Meaning.Log.{Log, event_count, moment, group_log}
use Rattle.lg_detector.specs.Meaning.Probing as probing
use Rattle.lg_detector.specs.Meaning.Probing.{asked_about, first_word, indirect_in, helpers_of, next_number}
use Rattle.lg_detector.specs.Meaning.Relaying as relaying
use Rattle.lg_detector.specs.Meaning.Relaying.{new_relay}
use Rattle.lg_detector.specs.Meaning.Timing.{score, pending, scaled_interval, scaled_timeout, nack_time, relay_time}
use Rattle.lg_detector.specs.Meaning.Timing.{gossip_at, gossip_by, gossip_delay, gossip_timer}
use Rattle.lg_detector.specs.Meaning.Timing.{is_first, start_timer, end_timer}
use Rattle.lg_detector.specs.Meaning.Timing.{direct_timer, nack_timer, relay_timer}

pub record State : Type 0 where
  pub events : ℕ
  pub moment : ℕ
  pub score : ScoreValue
  pub timers : List Timer
  pub order : OrderValue
  pub number : ℕ
  pub round : Option RoundValue
  pub gossip : Option ℕ
  pub relays : List Relay
  pub membership : GroupState

-- each part by its definition
abbrev pub order_of : Log → OrderValue
order_of log = record { names = probing.others log; chosen = in_order name_cmp (probing.cycle_names log) }

abbrev pub state_of : Log → State
state_of log = record {
  events = event_count log;
  moment = moment log;
  score = score log;
  timers = pending log;
  order = order_of log;
  number = probing.number log;
  round = probing.round log;
  gossip = gossip_at log;
  relays = relaying.relays log;
  membership = group_state_of (group_log log);
}

-- an event comes
abbrev pub come_state : ℕ → State → State
come_state now s = record s { events = s.events + 1; moment = max now s.moment }

-- the member is opened
abbrev pub begin : Config → State → State
begin opening s = record s {
  score = record { value = 0; max = opening.max_score };
  timers = start_timer s.moment ∷ [];
  order = record { names = []; chosen = [] };
  number = opening.first;
  round = None;
  gossip = None;
  relays = [];
  membership = open_group opening s.membership;
}

-- once a claim is applied: the score, the timer of the member's suspicion by what became of its deadline, the timer
-- that forgets the member by the record that it has then, and the order by what became of the member's presence
abbrev pub marked_if : Bool → ScoreValue → ScoreValue
marked_if true s = marked s (pos 1)
marked_if false s = s

abbrev pub follow : TimerId → Deadline → List Timer → List Timer
follow id Stays timers = timers
follow id Ends timers = without_timer id timers
follow id (Stands deadline) timers = with_timer (record { deadline = deadline; id = id }) (without_timer id timers)

-- What becomes of the moment at which a member is forgotten once its record changed, if it did: it is set anew if the
-- member is gone, and else there is none. This member itself is never forgotten.
abbrev pub until_forgotten : Bool → ℕ → Deadline
until_forgotten gone later = if gone then Stands later else Ends

abbrev pub forget_after : Option Config → List ℕ → ℕ → Option Claim → Deadline
forget_after opened me now None = Stays
forget_after opened me now (Some r) =
    if forgets_in opened && not (is_same name_cmp r.name me)
    then until_forgotten (is_gone r.status) (now + forget_time opened)
    else Stays

abbrev pub forget_deadline : ℕ → Option Claim → GroupState → Deadline
forget_deadline now changed after = forget_after after.config after.own.name now changed

abbrev pub reorder : List ℕ → Presence → OrderValue → OrderValue
reorder m presence.Stays order = order
reorder m presence.Joins order = order_with order (Joined m)
reorder m presence.Leaves order = order_with order (Left m)

-- a claim is applied
unfoldable pub apply_state : Origin → Claim → State → State
apply_state origin c s =
    let applied = group.applied s.moment c s.membership in
    let after = apply_to_group s.moment origin c s.membership in
    let until = forget_deadline s.moment applied.changed after in
    record s {
      score = marked_if applied.refuted s.score;
      timers = follow (Forget c.name) until (follow (Suspicion c.name) applied.deadline s.timers);
      order = reorder c.name applied.presence s.order;
      membership = after;
    }

abbrev pub apply_all_state : Origin → List Claim → State → State
apply_all_state origin [] s = s
apply_all_state origin (c ∷ cs) s = apply_all_state origin cs (apply_state origin c s)

-- a name is forgotten
unfoldable pub forget_name : List ℕ → State → State
forget_name m s = record s {
  timers = without_timer (Forget m) (without_timer (Suspicion m) s.timers);
  order = order_with s.order (Forgot m);
  membership = forget_from_group m s.membership;
}

abbrev pub forget_id : TimerId → State → State
forget_id (Forget m) s = forget_name m s
forget_id _ s = s

-- room is made for the member of a claim, and a claim is applied once that is done
abbrev pub forget_first_state : Option Timer → State → State
forget_first_state None s = s
forget_first_state (Some timer) s = forget_id timer.id s

unfoldable pub make_room_state : Claim → State → State
make_room_state c s = if needs_room_in c s.membership then forget_first_state (first_forget s.timers) s else s

abbrev pub as_merged_state : Option (List ℕ) → Claim → State → Claim
as_merged_state teller c s = merged s.membership.own.name (group.shown s.membership) teller c

abbrev pub hear_one_state : Option (List ℕ) → Claim → State → State
hear_one_state teller c s =
    let roomy = make_room_state c s in
    apply_state Group (as_merged_state teller c roomy) roomy

abbrev pub hear_each_state : Option (List ℕ) → List Claim → State → State
hear_each_state teller [] s = s
hear_each_state teller (c ∷ cs) s = hear_each_state teller cs (hear_one_state teller c s)

-- the names that are forgotten by that
abbrev pub forgotten_id : TimerId → List (List ℕ)
forgotten_id (Forget m) = m ∷ []
forgotten_id _ = []

abbrev pub forgotten_first : Option Timer → List (List ℕ)
forgotten_first None = []
forgotten_first (Some timer) = forgotten_id timer.id

abbrev pub forgotten_for : Claim → State → List (List ℕ)
forgotten_for c s = if needs_room_in c s.membership then forgotten_first (first_forget s.timers) else []

abbrev pub forgotten_each : Option (List ℕ) → List Claim → State → List (List ℕ)
forgotten_each teller [] s = []
forgotten_each teller (c ∷ cs) s = forgotten_for c s ++ forgotten_each teller cs (hear_one_state teller c s)

-- of some records, those of the members that claims are about
abbrev pub records_about : List Claim → List Claim → List Claim
records_about cs rows = filter (λ r. is_among name_cmp r.name (map name_of cs)) rows

-- A round starts: the order chooses, unless this member left, and the timers of the round are set anew.
abbrev pub choice_unless : Bool → ℕ → OrderValue → Option (List ℕ)
choice_unless has_left word order = if has_left then None else choice order.names order.chosen word

abbrev pub chose_unless : Bool → ℕ → OrderValue → OrderValue
chose_unless has_left word order = if has_left then order else order_with order (Chose word)

abbrev pub chosen_state : List ℕ → State → Option (List ℕ)
chosen_state words s = choice_unless s.membership.own.left (first_word words) s.order

abbrev pub with_start : ℕ → List Timer → List Timer
with_start deadline timers =
    with_timer (start_timer deadline) (
    without_timer RoundStart (without_timer Direct (without_timer RoundEnd timers)))

abbrev pub with_probe : ℕ → ℕ → List Timer → List Timer
with_probe end direct timers =
    with_timer (end_timer end) (
    without_timer RoundEnd (
    with_timer (direct_timer direct) (without_timer Direct (without_timer RoundStart timers))))

abbrev pub interval_later_state : State → ℕ
interval_later_state s = s.moment + scaled_interval s.membership.config s.score

abbrev pub timeout_later_state : State → ℕ
timeout_later_state s = s.moment + scaled_timeout s.membership.config s.score

abbrev pub with_round : Option (List ℕ) → ℕ → ℕ → List Timer → List Timer
with_round None end direct timers = with_start end timers
with_round (Some target) end direct timers = with_probe end direct timers

abbrev pub round_of_choice : ℕ → Option (List ℕ) → Option RoundValue
round_of_choice k target = option_map (λ m. round_of k m []) target

abbrev pub number_after : ℕ → Option (List ℕ) → ℕ
number_after k target = if is_some target then next_number k else k

abbrev pub start_probe : Option (List ℕ) → State → State
start_probe target s = record s {
  round = round_of_choice s.number target;
  number = number_after s.number target;
  timers = with_round target (interval_later_state s) (timeout_later_state s) s.timers;
}

abbrev pub start_round : List ℕ → State → State
start_round words s =
    start_probe (chosen_state words s)
    (record s { order = chose_unless s.membership.own.left (first_word words) s.order })

-- helpers are asked
abbrev pub helpers_state : List ℕ → State → List (List ℕ)
helpers_state words s =
    let target = option_map (λ r. r.target) s.round in
    let told = asked_about (version_sent s.membership.config) (group.shown s.membership) target in
    helpers_of (indirect_in s.membership.config) words s.order.names told

abbrev pub ask_helpers : List ℕ → State → State
ask_helpers words s = record s {
  round = option_map (λ r. round_with r (Asked (helpers_state words s))) s.round;
  timers = without_timer Direct s.timers;
}

-- a round ends, and the next one starts at once
abbrev pub marked_end : Option RoundValue → ScoreValue → ScoreValue
marked_end None s = s
marked_end (Some r) s = if r.acked then s else marked s (mark_of false r.silent)

abbrev pub end_round : State → State
end_round s = record s {
  score = marked_end s.round s.score;
  round = None;
  timers = with_start s.moment s.timers;
}

-- This member leaves: the probe that runs is dropped.
abbrev pub without_probe : Bool → ℕ → List Timer → List Timer
without_probe probes later timers = if probes then with_start later timers else timers

unfoldable pub depart : State → State
depart s = record s {
  round = None;
  timers = without_probe (is_some s.round) (interval_later_state s) s.timers;
  membership = leave_group s.membership;
}

-- a relay sends its Nack, and stays open; or it is closed
abbrev pub nack_relay : ℕ → State → State
nack_relay k s = record s { timers = without_timer (RelayNack k) s.timers }

abbrev pub without_relay : ℕ → List Timer → List Timer
without_relay k timers = without_timer (RelayNack k) (without_timer (RelayEnd k) timers)

abbrev pub close_relay : ℕ → State → State
close_relay k s = record s { relays = relays_with s.relays (Closed k); timers = without_relay k s.timers }

-- news is gossiped: the timer is gone
abbrev pub gossip_fired : State → State
gossip_fired s = record s { gossip = None; timers = without_timer Gossip s.timers }

-- a timer fires
abbrev pub fire_id : TimerId → List ℕ → State → State
fire_id RoundEnd words s = end_round s
fire_id (Suspicion m) words s = s
fire_id Direct words s = ask_helpers words s
fire_id (RelayNack k) words s = nack_relay k s
fire_id (RelayEnd k) words s = close_relay k s
fire_id RoundStart words s = start_round words s
fire_id (Forget m) words s = forget_name m s
fire_id Gossip words s = gossip_fired s

unfoldable pub fire_state : Timer → List ℕ → State → State
fire_state timer words s = fire_id timer.id words s

-- an Ack or a Nack comes
abbrev pub marked_ack : Bool → ScoreValue → ScoreValue
marked_ack first s = if first then marked s (negsuc 0) else s

abbrev pub without_direct : Bool → List Timer → List Timer
without_direct first timers = if first then without_timer Direct timers else timers

abbrev pub ack_round : ℕ → List ℕ → State → State
ack_round k sender s =
    let first = is_first k sender s.round in
    record s {
      score = marked_ack first s.score;
      round = option_map (λ r. round_with r (Acked k sender)) s.round;
      timers = without_direct first s.timers;
    }

abbrev pub without_ended : Bool → ℕ → List Timer → List Timer
without_ended ended k timers = if ended then without_relay k timers else timers

abbrev pub ack_relay : ℕ → List ℕ → State → State
ack_relay k sender s = record s {
  relays = relays_with s.relays (TargetAcked k sender);
  timers = without_ended (is_some (ended_asker k sender s.relays)) k s.timers;
}

unfoldable pub hear_ack : ℕ → List ℕ → State → State
hear_ack k sender s = ack_relay k sender (ack_round k sender s)

unfoldable pub hear_nack : ℕ → List ℕ → State → State
hear_nack k sender s = record s { round = option_map (λ r. round_with r (Nacked k sender)) s.round }

-- a relay is opened
abbrev pub nack_later : State → ℕ
nack_later s = s.moment + nack_time s.membership.config

abbrev pub relay_later : State → ℕ
relay_later s = s.moment + relay_time s.membership.config

abbrev pub with_relay : ℕ → ℕ → ℕ → List Timer → List Timer
with_relay nack end k timers =
    with_timer (nack_timer nack k) (
    without_timer (RelayNack k) (with_timer (relay_timer end k) (without_timer (RelayEnd k) timers)))

unfoldable pub open_relay : List ℕ → Asker → State → State
open_relay target asker s = record s {
  relays = relays_with (relays_with s.relays (Closed s.number)) (Opened (new_relay s.number target asker));
  number = next_number s.number;
  timers = with_relay (nack_later s) (relay_later s) s.number s.timers;
}

-- a packet is sent that took these claims of the queue
abbrev pub send_taken : List Claim → State → State
send_taken taken s = record s { membership = send_from_group taken s.membership }

-- whether a claim of the queue may still be sent
abbrev pub has_news_in : GroupState → Bool
has_news_in g = has_news g.queue (live_in g.members.table)

-- an event ends: the next gossip is set, if one is to be and none is
abbrev pub has_to_tell_state : State → Bool
has_to_tell_state s = has_news_in s.membership && not (length s.order.names == 0)

abbrev pub with_gossip : Option ℕ → Option ℕ → List Timer → List Timer
with_gossip (Some deadline) next timers = timers
with_gossip None None timers = timers
with_gossip None (Some deadline) timers = with_timer (gossip_timer deadline) (without_timer Gossip timers)

abbrev pub next_gossip : State → Option ℕ
next_gossip s = gossip_by (has_to_tell_state s) (gossip_delay s.membership.config) s.moment s.gossip

unfoldable pub end_event : State → State
end_event s = record s { gossip = next_gossip s; timers = with_gossip s.gossip (next_gossip s) s.timers }
