-- What calls and looks do, and which calls are refused.
use Rattle.std.specs.Prelude.{◌≡◌, ◌⊎◌, ℕ, ◌+◌, ◌<◌, Bool, true, false, ◌||◌, nat_lt, nat_le, ◌==◌, ◌≤◌, drop}
use Rattle.std.specs.Prelude.{if◌then◌else◌}
use Rattle.std.specs.Prelude.{List, [], ◌∷◌, ◌++◌, length, Option, Some, None, All}
use mathlib.Core.List.{IsPrefix}
use Rattle.lg_detector.specs.declared.event.Event.{Event}
use Rattle.lg_detector.specs.declared.reply.Reply.{Reply}
use Rattle.lg_detector.specs.Meaning.Step.{is_accepted, reply_after, most_events}
use Rattle.lg_detector.specs.Support.State.{State}
use Rattle.lg_detector.specs.Support.Summary.{IsSummary}
use Rattle.lg_history.specs.Meaning.History.{entry, events, Answered}
use Rattle.lg_history.specs.Meaning.Rest.{made_by, of_seat, IsRest, StandsFor, AnsweredFrom}
use Rattle.lg_view.specs.Meaning.Views.{begins_open}
use Rattle.lg_packet.specs.declared.fault.Fault.{Fault}
use Rattle.lg_packet.specs.declared.packet.Body.{Body}
use Rattle.lg_packet.specs.declared.packet.Body.TheVariants.{Page}
use Rattle.lg_agent.specs.declared.receipt.Receipt.{Receipt}
use Rattle.lg_agent.specs.declared.refusal.Refusal.{Refusal}
use Rattle.lg_agent.specs.declared.refusal.Refusal.TheVariants.{BadPacket, NoMemory, HistoryFull}
use Rattle.lg_agent.specs.declared.refusal.Refusal.TheVariants.{Behind, NoPlace, NoView}
use Rattle.lg_agent.specs.Meaning.Values.{KeptValue, PassValue, CutOffValue, all_events, count_of, own_limit}

-- the ledger with one more entry: the seat's event, and the reply that the definitions give to it there
abbrev pub with_entry : KeptValue → ℕ → Event → KeptValue
with_entry l seat e = record l { history = l.history ++ entry seat e (reply_after (all_events l) e) ∷ [] }

-- A ledger after a rotation. All entries are cut off and none is stored; there is a summary of all events so far.
-- Each seat's count of entries that were cut off has grown by those of it that were stored.
pub record IsRotated (before after : KeptValue) : Type 0 where
  pub history : after.history ≡ []
  pub past : after.past ≡ all_events before
  pub summary : State
  pub kept : after.summary ≡ Some summary
  pub of_all : IsSummary summary (all_events before)
  pub cut : (seat : ℕ) → of_seat after.cut seat ≡ of_seat before.cut seat + made_by seat before.history
  pub places : after.places ≡ before.places
  pub limit : after.limit ≡ before.limit

-- What a rotation handed out. Its entries, behind those that were cut off before, are the end of a single thread's
-- history. The events of those before are `past`, each seat made as many of them as `cut` says, the summary is one of
-- them, and `base` is how many they are. All events are accepted. Each reply is the one that the definitions give after
-- all events before it, and the one that follows from the summary.
pub record IsCutOff (places : ℕ) (c : CutOffValue) : Type 0 where
  pub past : List Event
  pub cut : List ℕ
  pub rest : IsRest places past cut c.entries
  pub before : StandsFor c.before past
  pub base : length past ≡ c.base
  pub accepted : is_accepted (past ++ events c.entries) ≡ true
  pub answered : Answered past c.entries
  pub from : (s : State) → c.before ≡ Some s → AnsweredFrom s c.entries

-- Why the ledger refuses a call of a seat, if it does: there is no such seat, a detector accepts no more events, or
-- as many entries are stored as are allowed.
abbrev pub refusal_of : KeptValue → ℕ → Option Refusal
refusal_of l seat =
    if (seat == 0) || nat_lt l.places seat
    then Some NoPlace
    else (if nat_le most_events (count_of l)
    then Some (HistoryFull most_events)
    else (if nat_le l.limit (length l.history) then Some (HistoryFull l.limit) else None))

-- the receipt of an answered call, by the position of its entry and the reply that was written for it
abbrev pub receipt_of : ℕ → Reply → Receipt
receipt_of place reply = record { place = place; reply = reply }

-- whether what a packet asks for or answers is a Page
abbrev pub is_page : Body → Bool
is_page Page = true
is_page body = false

-- An answered call, by what its caller has seen before and after. There is an accepted list of events which begins
-- with all that the caller had seen and ends with the call's event. The event has the receipt's position (`place`),
-- and the reply is the one that the definitions give there. The caller has then seen the list.
pub record IsAnswered (seen : List Event) (e : Event) (r : Receipt) (now : List Event) : Type 0 where
  pub before : List Event
  pub begins : IsPrefix seen before
  pub ends : now ≡ before ++ e ∷ []
  pub accepted : is_accepted now ≡ true
  pub place : length before ≡ r.place
  pub reply : r.reply ≡ reply_after before e

-- An answered call of a pass: its position is one more of the pass's positions, and later than all of them. Of the
-- first of these, whose entries were cut off, perhaps only the number is kept from then on.
pub record IsCall (before : PassValue) (e : Event) (r : Receipt) (after : PassValue) : Type 0 where
  pub answered : IsAnswered before.seen e r after.seen
  pub moved : ℕ
  pub few : moved ≤ length before.mine
  pub gone : after.gone ≡ before.gone + moved
  pub mine : after.mine ≡ drop moved before.mine ++ r.place ∷ []
  pub later : All (λ k. k < r.place) before.mine
  pub seat : after.seat ≡ before.seat
  pub name : after.name ≡ before.name

-- A pass after a rotation: it has seen what it had seen, all its calls among it, and made as many calls. Of the first
-- of its positions perhaps only the number is kept from then on.
pub record IsRotatedPass (before after : PassValue) : Type 0 where
  pub early : All (λ k. k < length before.seen) before.mine
  pub moved : ℕ
  pub few : moved ≤ length before.mine
  pub gone : after.gone ≡ before.gone + moved
  pub mine : after.mine ≡ drop moved before.mine
  pub seen : after.seen ≡ before.seen
  pub seat : after.seat ≡ before.seat
  pub name : after.name ≡ before.name

-- What a call of a pass that has seen these events can be refused for. HistoryFull has the limit that the opening
-- gives, or the most events that a detector accepts. Behind has how many events the pass has seen and how many there
-- are, which is fewer. A call is refused neither for its seat, which is one of the agent's, nor for its bytes, nor
-- for what looks are refused for.
abbrev pub IsRefusal : List Event → Refusal → Type 0
IsRefusal seen (BadPacket fault) = ⊥
IsRefusal seen NoMemory = Unit {0}
IsRefusal seen (HistoryFull limit) = (limit ≡ own_limit seen) ⊎ (limit ≡ most_events)
IsRefusal seen (Behind before here) = (before ≡ length seen) × (here < before)
IsRefusal seen NoPlace = ⊥
IsRefusal seen NoView = ⊥

-- a refusal for the bytes of a datagram
abbrev pub IsBadPacket : Refusal → Type 0
IsBadPacket r = (fault : Fault) × (r ≡ BadPacket fault)

-- A look: what is seen afterwards is an accepted list of events that begins with all that was seen before. Nothing else
-- changes.
pub record IsLook (before after : PassValue) : Type 0 where
  pub begins : IsPrefix before.seen after.seen
  pub accepted : is_accepted after.seen ≡ true
  pub gone : after.gone ≡ before.gone
  pub mine : after.mine ≡ before.mine
  pub seat : after.seat ≡ before.seat
  pub name : after.name ≡ before.name

-- A fresh pass of an agent with this name: it has seen the opening, and made no call.
pub record IsFresh (agent : List ℕ) (place : ℕ) (pass : PassValue) : Type 0 where
  pub name : pass.name ≡ agent
  pub seat : pass.seat ≡ place
  pub seen : begins_open pass.seen ≡ true
  pub gone : pass.gone ≡ 0
  pub mine : pass.mine ≡ []

-- fresh passes, in the order of their seats, which follow n
abbrev pub AreFresh : List ℕ → ℕ → List PassValue → Type 0
AreFresh agent n [] = Unit {0}
AreFresh agent n (pass ∷ passes) = IsFresh agent (n + 1) pass × AreFresh agent (n + 1) passes
