-- What claims, packets and what is noted of a body leave untouched.
use Rattle.std.proofs.Common.{◌≡◌, ℕ, Bool, true, false, cond, List, [], ◌∷◌, Option, Some, None, refl, ◌∙◌}
use Rattle.lg_rules.specs.declared.addr.Addr.{Addr}
use Rattle.lg_rules.specs.declared.claim.Claim.{Claim}
use Rattle.lg_packet.specs.declared.packet.Body.{Body}
use Rattle.lg_packet.specs.declared.packet.Body.TheVariants.{Ping, PingReq, Ack, Nack, Pull, Page, Gossip}
use Rattle.lg_packet.specs.declared.packet.Packet.{Packet}
use Rattle.lg_timing.specs.declared.config.Config.{Config}
use Rattle.lg_timers.specs.declared.timer.Timer.{Timer}
use Rattle.lg_timers.specs.declared.timer.TimerId.{TimerId}
use Rattle.lg_timers.specs.declared.timer.TimerId.TheVariants.{RoundEnd, Suspicion, Direct, RelayNack, RelayEnd, RoundStart, Forget}
use Rattle.lg_timers.specs.declared.timer.TimerId.TheVariants as ids
use Rattle.lg_timers.specs.Meaning.Timers.{first_forget}
use Rattle.lg_probe.specs.declared.relays.Asker.{Asker}
use Rattle.lg_membership.specs.declared.origin.Origin.{Origin}
use Rattle.lg_membership.specs.declared.origin.Origin.TheVariants.{Seed, Group}
use Rattle.lg_membership.specs.Meaning.Gossip.{version_sent}
use Rattle.lg_membership.specs.Meaning.Log as group
use Rattle.lg_membership.specs.Meaning.Log.{needs_room}
use Rattle.lg_detector.specs.declared.message.Message.{Message}
use Rattle.lg_detector.specs.Meaning.Log.{Log, Came, Fired, AckHeard, NackHeard, Relayed, OfGroup, moment, group_log}
use Rattle.lg_detector.specs.Meaning.Relaying.{relays}
use Rattle.lg_detector.specs.Meaning.Send.{send, send_all}
use Rattle.lg_detector.specs.Meaning.Timing.{pending}
use Rattle.lg_detector.specs.Meaning.Apply.{apply, apply_all, fire, forget_by, forget_first, as_merged, hear_one, hear_each, make_room}
use Rattle.lg_detector.specs.Meaning.Open.{open_with, seed_claims}
use Rattle.lg_detector.specs.Meaning.Hear.{asker_from, body_meant, claims_heard, hear, hear_claims, my_group, table_teller, response, note, is_relayed}
use Rattle.lg_detector.specs.Meaning.Tick.{expire, claims_said, messages}

-- What is read off a log stays the same after each fact but that an event came, a timer fired, the member was opened, or
-- a name was forgotten.
pub record IsUntouched {X : Type 0} (read : Log → X) : Type 0 where
  pub said : (now : ℕ) (origin : Origin) (c : Claim) (log : Log) → read (OfGroup (group.Said now origin c) ∷ log) ≡ read log
  pub sent : (taken : List Claim) (log : Log) → read (OfGroup (group.Sent taken) ∷ log) ≡ read log
  pub acked : (k : ℕ) (sender : List ℕ) (log : Log) → read (AckHeard k sender ∷ log) ≡ read log
  pub nacked : (k : ℕ) (sender : List ℕ) (log : Log) → read (NackHeard k sender ∷ log) ≡ read log
  pub relayed : (target : List ℕ) (asker : Asker) (log : Log) → read (Relayed target asker ∷ log) ≡ read log

module _ {X : Type 0} (read : Log → X) (stays : IsUntouched read) where
  pub untouched-apply_all : (origin : Origin) (cs : List Claim) (log : Log) → read (apply_all origin cs log) ≡ read log
  untouched-apply_all origin [] log = refl
  untouched-apply_all origin (c ∷ cs) log = untouched-apply_all origin cs (apply origin c log) ∙ stays.said (moment log) origin c log

  untouched-send : (body : Body) (log : Log) → read (send body log) ≡ read log
  untouched-send (Ping number target) log = stays.sent _ log
  untouched-send (PingReq number target addr) log = stays.sent _ log
  untouched-send (Ack number receiver) log = stays.sent _ log
  untouched-send (Nack number receiver) log = refl
  untouched-send (Pull after) log = refl
  untouched-send Page log = refl
  untouched-send Gossip log = stays.sent _ log

  untouched-send_all : (ms : List Message) (log : Log) → read (send_all ms log) ≡ read log
  untouched-send_all [] log = refl
  untouched-send_all (m ∷ ms) log = untouched-send_all ms (send m.body log) ∙ untouched-send m.body log

  untouched-relayed : (b : Bool) (target : List ℕ) (asker : Asker) (log : Log) → read (cond b (Relayed target asker ∷ log) log) ≡ read log
  untouched-relayed true target asker log = stays.relayed target asker log
  untouched-relayed false target asker log = refl

  untouched-note : (source : Addr) (sender : List ℕ) (body : Body) (log : Log) → read (note source sender body log) ≡ read log
  untouched-note source sender (Ping k target) log = refl
  untouched-note source sender (PingReq k target addr) log = untouched-relayed (is_relayed (group.me (group_log log)) (relays log) target) target (asker_from sender source k) log
  untouched-note source sender (Ack k receiver) log = stays.acked k sender log
  untouched-note source sender (Nack k receiver) log = stays.nacked k sender log
  untouched-note source sender (Pull after) log = refl
  untouched-note source sender Page log = refl
  untouched-note source sender Gossip log = refl

  -- an opening, by the fact that the member was opened
  pub untouched-open : (now : ℕ) (opening : Config) (log : Log) → read (open_with now opening log) ≡ read (OfGroup (group.Opened opening) ∷ Came now ∷ log)
  untouched-open now opening log = untouched-apply_all Seed (seed_claims opening) (OfGroup (group.Opened opening) ∷ Came now ∷ log)

  -- a packet that is heard, by its claims, and a timer that fires, by what it does itself
  pub untouched-respond : (now : ℕ) (source : Addr) (packet : Packet) (log : Log) → read (hear now source packet log) ≡ read (hear_claims now packet log)
  untouched-respond now source packet log =
      let heard = hear_claims now packet log in
      let body = body_meant packet heard in
      untouched-send_all (response source packet.sender body heard) (note source packet.sender body heard)
      ∙ untouched-note source packet.sender body heard

  pub untouched-expire : (timer : Timer) (words : List ℕ) (log : Log) → read (expire (Some timer) words log) ≡ read (fire timer words log)
  untouched-expire timer words log =
      untouched-send_all (messages timer.id words log) (apply_all Group (claims_said timer.id log) (fire timer words log))
      ∙ untouched-apply_all Group (claims_said timer.id log) (fire timer words log)

  -- The same where a forgotten name leaves it untouched, too.
  module _ (forgot : (m : List ℕ) (log : Log) → read (OfGroup (group.Forgot m) ∷ log) ≡ read log) where
    untouched-forget_by : (id : TimerId) (log : Log) → read (forget_by id log) ≡ read log
    untouched-forget_by RoundEnd log = refl
    untouched-forget_by (Suspicion m) log = refl
    untouched-forget_by Direct log = refl
    untouched-forget_by (RelayNack k) log = refl
    untouched-forget_by (RelayEnd k) log = refl
    untouched-forget_by RoundStart log = refl
    untouched-forget_by (Forget m) log = forgot m log
    untouched-forget_by ids.Gossip log = refl

    untouched-room : (b : Bool) (o : Option Timer) (log : Log) → read (cond b (forget_first o log) log) ≡ read log
    untouched-room true None log = refl
    untouched-room true (Some timer) log = untouched-forget_by timer.id log
    untouched-room false o log = refl

    untouched-hear_each : (teller : Option (List ℕ)) (cs : List Claim) (log : Log) → read (hear_each teller cs log) ≡ read log
    untouched-hear_each teller [] log = refl
    untouched-hear_each teller (c ∷ cs) log =
        let roomy = make_room c log in
        untouched-hear_each teller cs (hear_one teller c log)
        ∙ stays.said (moment roomy) Group (as_merged teller c roomy) roomy
        ∙ untouched-room (needs_room (group_log log) c) (first_forget (pending log)) log

    -- a packet that is heard, by the event that came
    pub untouched-hear : (now : ℕ) (source : Addr) (packet : Packet) (log : Log) → read (hear now source packet log) ≡ read (Came now ∷ log)
    untouched-hear now source packet log =
        let teller = table_teller (version_sent (group.config (group_log log))) packet in
        untouched-respond now source packet log ∙ untouched-hear_each teller (claims_heard (my_group log) packet) (Came now ∷ log)

    -- a tick, by the timer that fires, if one does
    pub untouched-fire : (timer : Timer) (words : List ℕ) (log : Log) → read (expire (Some timer) words log) ≡ read (Fired timer words ∷ log)
    untouched-fire timer words log = untouched-expire timer words log ∙ untouched-forget_by timer.id (Fired timer words ∷ log)
