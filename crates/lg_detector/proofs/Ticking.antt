-- What a tick changes of the records.
use Rattle.std.proofs.Common.{◌≡◌, ℕ, List, [], ◌∷◌, sym, Some, None, refl, ◌∙◌, ap}
use Rattle.lg_rules.specs.Meaning.View.{changed}
use Rattle.lg_packet.specs.declared.packet.Body.{Body}
use Rattle.lg_packet.specs.declared.packet.Body.TheVariants.{Ping, PingReq, Ack, Nack, Pull, Page, Gossip}
use Rattle.lg_timers.specs.declared.timer.Timer.{Timer}
use Rattle.lg_timers.specs.declared.timer.TimerId.{TimerId}
use Rattle.lg_timers.specs.declared.timer.TimerId.TheVariants.{RoundEnd, Suspicion, Direct, RelayNack, RelayEnd, RoundStart, Forget}
use Rattle.lg_timers.specs.declared.timer.TimerId.TheVariants as ids
use Rattle.lg_membership.specs.declared.origin.Origin.TheVariants.{Group}
use Rattle.lg_detector.specs.declared.message.Message.{Message}
use Rattle.lg_detector.specs.Support.State.{State, come_state, apply_all_state, fire_state, fire_id, forget_id}
use Rattle.lg_detector.specs.Support.Step.{view_state}
use Rattle.lg_detector.specs.Support.Send.{send_state, send_all_state}
use Rattle.lg_detector.specs.Support.Reached.{IsReached}
use Rattle.lg_detector.specs.Support.Tick.{due_state, fire_due, claims_said_state, messages_by, said_by, expire_state}
use Rattle.lg_detector.specs.Support.Tick.{tick_state}
use Rattle.lg_detector.proofs.Forgetting.{fired-differ}

-- packets change no record
view-send : (body : Body) (s : State) → view_state (send_state body s) ≡ view_state s
view-send (Ping number target) s = refl
view-send (PingReq number target addr) s = refl
view-send (Ack number receiver) s = refl
view-send (Nack number receiver) s = refl
view-send (Pull after) s = refl
view-send Page s = refl
view-send Gossip s = refl

pub view-send_all : (ms : List Message) (s : State) → view_state (send_all_state ms s) ≡ view_state s
view-send_all [] s = refl
view-send_all (m ∷ ms) s = view-send_all ms (send_state m.body s) ∙ view-send m.body s

-- Nor does a timer without a claim make one that differs, also where it forgets a member.
fires-as : (timer : Timer) (words : List ℕ) (s : State) → view_state (fire_due (Some timer) words s) ≡ view_state (forget_id timer.id s)
unfolding fire_state
fires-as timer words s = by-id timer.id words s
  where
    by-id : (id : TimerId) (words : List ℕ) (s : State) → view_state (fire_id id words s) ≡ view_state (forget_id id s)
    by-id RoundEnd words s = refl
    by-id (Suspicion m) words s = refl
    by-id Direct words s = refl
    by-id (RelayNack k) words s = refl
    by-id (RelayEnd k) words s = refl
    by-id RoundStart words s = refl
    by-id (Forget m) words s = refl
    by-id ids.Gossip words s = refl

pub silent_differing : (s : State) (timer : Timer) (words : List ℕ) → IsReached s → claims_said_state timer.id s ≡ []
    → [] ≡ changed (view_state s) (view_state (expire_state (Some timer) words s))
silent_differing s timer words reached none =
    let fired = fire_due (Some timer) words s in
    let said : view_state (said_by (Some timer) words s) ≡ view_state fired = ap (λ cs. view_state (apply_all_state Group cs fired)) none in
    fired-differ timer.id s reached
    ∙ ap (λ rows. changed (view_state s) rows) (sym (view-send_all (messages_by (Some timer) words s) (said_by (Some timer) words s) ∙ said ∙ fires-as timer words s))

pub idle_differing : (s here : State) (now : ℕ) (words : List ℕ) → IsReached s → here ≡ come_state now s → None ≡ due_state here
    → [] ≡ changed (view_state s) (view_state (tick_state now words s))
idle_differing s here now words reached came none =
    let idle : None ≡ due_state (come_state now s) = none ∙ ap due_state came in
    fired-differ RoundEnd s reached ∙ ap (λ o. changed (view_state s) (view_state (expire_state o words (come_state now s)))) idle
