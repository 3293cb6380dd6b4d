-- The timer of a gossip that fired stays set until the event ends.
use Rattle.std.proofs.Common.{◌≡◌, ℕ, List, [], ◌∷◌, Option, Some, None, inl, inr, refl, sym, ap, ◌∙◌}
use Rattle.std.proofs.lemmas.Bool.{cases_Bool}
use Rattle.lg_timers.specs.declared.timer.Timer.{Timer}
use Rattle.lg_timers.specs.declared.timer.TimerId.{TimerId}
use Rattle.lg_timers.specs.declared.timer.TimerId.TheVariants.{RoundEnd, Suspicion, Direct, RelayNack, RelayEnd, RoundStart, Forget, Gossip}
use Rattle.lg_timers.specs.Meaning.Timers.{has_id, without_timer}
use Rattle.lg_packet.specs.declared.packet.Body.{Body}
use Rattle.lg_packet.specs.declared.packet.Body.TheVariants.{Ping, PingReq, Ack, Nack, Page}
use Rattle.lg_packet.specs.declared.packet.Body.TheVariants as body
use Rattle.lg_detector.specs.declared.event.Event.{Event}
use Rattle.lg_detector.specs.declared.event.Event.TheVariants.{Open, Tick, Heard, Ask, Health, Pull, Leave}
use Rattle.lg_detector.specs.declared.message.Message.{Message}
use Rattle.lg_detector.specs.Support.Send.{packet_state, packets_state, send_all_state, send_state}
use Rattle.lg_detector.specs.Support.State.{State, come_state, end_event, fire_state, gossip_fired}
use Rattle.lg_detector.specs.Support.Step.{advance, fired_by_state, happen_state, react_state}
use Rattle.lg_detector.specs.Support.Tick.{due_state, ended_state, expire_sends_state, expire_state, fired_state, messages_state}

-- a timer that is cancelled can't be cancelled once more
pub without-again : (id : TimerId) (timers : List Timer) → without_timer id (without_timer id timers) ≡ without_timer id timers
without-again id [] = refl
without-again id (t ∷ timers) = elim (cases_Bool (has_id id t)) [
  | inl same ↦ rw same (without-again id timers)
  | inr other ↦ rw (other, other) (ap (λ ts. t ∷ ts) (without-again id timers))
]

-- What is sent goes by what is known of the group, and not by the timer.
send-fired : (b : Body) (s : State) → send_state b (gossip_fired s) ≡ gossip_fired (send_state b s)
send-fired (Ping number target) s = refl
send-fired (PingReq number target addr) s = refl
send-fired (Ack number receiver) s = refl
send-fired (Nack number receiver) s = refl
send-fired (body.Pull after) s = refl
send-fired Page s = refl
send-fired body.Gossip s = refl

send_all-fired : (ms : List Message) (s : State) → send_all_state ms (gossip_fired s) ≡ gossip_fired (send_all_state ms s)
send_all-fired [] s = refl
send_all-fired (m ∷ ms) s = ap (send_all_state ms) (send-fired m.body s) ∙ send_all-fired ms (send_state m.body s)

packet-fired : (b : Body) (s : State) → packet_state b s ≡ packet_state b (gossip_fired s)
packet-fired (Ping number target) s = refl
packet-fired (PingReq number target addr) s = refl
packet-fired (Ack number receiver) s = refl
packet-fired (Nack number receiver) s = refl
packet-fired (body.Pull after) s = refl
packet-fired Page s = refl
packet-fired body.Gossip s = refl

packets-fired : (ms : List Message) (s : State) → packets_state ms s ≡ packets_state ms (gossip_fired s)
packets-fired [] s = refl
packets-fired (m ∷ ms) s =
    let rest = packets-fired ms (send_state m.body s) ∙ ap (packets_state ms) (sym (send-fired m.body s)) in
    λ i. record { to = m.to; packet = packet-fired m.body s i } ∷ rest i

pub gossip-sends : (timer : Timer) (words : List ℕ) (s : State) → timer.id ≡ Gossip
    → packets_state (messages_state Gossip words s) s ≡ expire_sends_state (Some timer) words s
unfolding fire_state
gossip-sends timer words s is =
    packets-fired (messages_state Gossip words s) s
    ∙ ap (λ id. expire_sends_state (Some (record { deadline = timer.deadline; id = id })) words s) (sym is)

by_id : (deadline : ℕ) (id : TimerId) (words : List ℕ) (s : State)
    → ended_state (Some (record { deadline = deadline; id = id })) (fired_state (Some (record { deadline = deadline; id = id })) words s)
    ≡ end_event (expire_state (Some (record { deadline = deadline; id = id })) words s)
unfolding fire_state
by_id deadline RoundEnd words s = refl
by_id deadline (Suspicion m) words s = refl
by_id deadline Direct words s = refl
by_id deadline (RelayNack k) words s = refl
by_id deadline (RelayEnd k) words s = refl
by_id deadline RoundStart words s = refl
by_id deadline (Forget m) words s = refl
by_id deadline Gossip words s = ap end_event (sym (send_all-fired (messages_state Gossip words s) s))

pub ended-fired : (fired : Option Timer) (words : List ℕ) (s : State) → ended_state fired (fired_state fired words s) ≡ end_event (expire_state fired words s)
ended-fired None words s = refl
ended-fired (Some timer) words s = by_id timer.deadline timer.id words s

-- so an event that ends leads on as the definitions say
pub ended-react : (s : State) (e : Event) → ended_state (fired_by_state s e) (react_state s e) ≡ advance s e
unfolding happen_state
ended-react s (Open now opening) = refl
ended-react s (Heard now source packet) = refl
ended-react s (Tick now words) = ended-fired (due_state (come_state now s)) words (come_state now s)
ended-react s (Ask now name) = refl
ended-react s (Health now) = refl
ended-react s (Pull now peer) = refl
ended-react s (Leave now words) = refl
