-- What holds of a server's slots, each of which has a client's connection or is free.
use Rattle.std.specs.Prelude.{◌≡◌, ℕ, ◌-◌, ◌≤◌, List, length, replicate, position, All, Bool, true, false}
use Rattle.std.specs.Prelude.{[], ◌∷◌, ◌++◌, Option, Some, None, IsSome, ◌⊎◌, ⊤}
use Rattle.std.specs.Option.{option_or}
use Rattle.lg_http.specs.declared.peer.Peer.{Peer}
use Rattle.lg_http.specs.declared.server.Server.{Server}
use Rattle.lg_http.specs.declared.slots.Slots.{Slots}
use Rattle.lg_http.specs.declared.slots.TheConstants.{MAX_PEERS, MAX_PARKED}
use Rattle.lg_http.specs.Meaning.Answers.{SiteReplies, SiteOrder, AreAnswered}
use Rattle.lg_http.specs.Meaning.Parked.{Slot, parked_count}
use Rattle.lg_http.specs.Meaning.Peers.{calls_of, Answers, IsBounded, AnswersInOrder}
use Rattle.lg_http.specs.Meaning.Phases.{may_yield}

-- the fact holds of the slot's connection, if it has one
abbrev pub InSlot : (Peer → Type 0) → Slot → Type 0
InSlot P None = ⊤
InSlot P (Some peer) = P peer

-- The requests of the connection were answered from states of the site up to this one, and it never went back: each was
-- answered from the state that the one before was answered from, or a later one.
abbrev pub IsAnsweredPeer : {S : Type 0} → SiteReplies S → SiteOrder S → S → Peer → Type 0
IsAnsweredPeer {S} replies later site peer = (first : S) × AreAnswered replies later first (calls_of peer) site

-- so were those of the slot's connection, if it has one
abbrev pub IsAnsweredSlot : {S : Type 0} → SiteReplies S → SiteOrder S → S → Slot → Type 0
IsAnsweredSlot replies later site slot = InSlot (IsAnsweredPeer replies later site) slot

-- a connection as it stood when it left its slot, and that moment
abbrev pub Ended : Type 0
Ended = Peer × ℕ

abbrev pub is_free : Slot → Bool
is_free None = true
is_free (Some peer) = false

-- whether a new connection may have the slot at this moment
abbrev pub is_to_have : ℕ → Slot → Bool
is_to_have at None = true
is_to_have at (Some peer) = may_yield peer.phase (peer.until - at)

-- the slot that a new connection gets at this moment, if it gets one: the first that is free, or else the first that it
-- may have
abbrev pub place_for : ℕ → List Slot → Option ℕ
place_for at slots = option_or (position is_free slots) (position (is_to_have at) slots)

-- each slot is free
abbrev pub AreFree : List Slot → Type 0
AreFree slots = slots ≡ replicate MAX_PEERS None

-- What holds of the slots all the time, if the site has this state: there are so many, so few long polls wait, no
-- connection holds back too much, each sends its answers in the order of the requests, and was answered from states of
-- the site that never go back.
pub record AreSlots {S : Type 0} (replies : SiteReplies S) (later : SiteOrder S) (site : S)
    (slots : List Slot) : Type 0 where
  pub count : length slots ≡ MAX_PEERS
  pub parked : parked_count slots ≤ MAX_PARKED
  pub bounded : All (InSlot IsBounded) slots
  pub ordered : All (InSlot AnswersInOrder) slots
  pub answered : All (IsAnsweredSlot replies later site) slots

-- The slot's connection had a turn, in which it was answered from this state of the site. Then it keeps its slot, or it
-- has ended and is noted as it stood then.
abbrev pub HadTurn : {S : Type 0} → SiteReplies S → S → Slot → Slot → List Ended → List Ended → Type 0
HadTurn replies site None new before after = (new ≡ None) × (after ≡ before)
HadTurn replies site (Some peer) new before after =
    (last : Peer) × Answers replies site peer last
    × (((new ≡ Some last) × (after ≡ before))
    ⊎ ((new ≡ None) × ((at : ℕ) × (after ≡ before ++ (last, at) ∷ []))))

-- the connections that ended, if a slot is given to another connection at this moment
abbrev pub noted_from : List Ended → ℕ → Slot → List Ended
noted_from ended at None = ended
noted_from ended at (Some peer) = ended ++ (peer, at) ∷ []

-- Further connections ended. Each of them was answered from states of the site up to this one, which never go back, and
-- in the order of its requests.
abbrev pub AddsEnded : {S : Type 0} → SiteReplies S → SiteOrder S → S → List Ended → List Ended → Type 0
AddsEnded replies later site old new =
    (more : List Ended) × (new ≡ old ++ more)
    × All (λ ended. IsAnsweredPeer replies later site ended.0 × AnswersInOrder ended.0) more

-- The slots after some time, in which the site got to this state: what holds of them all the time, and what holds of
-- the connections that ended since. These stand in a history that the proofs alone have, and that is never cut.
pub record AreServed {S : Type 0} (replies : SiteReplies S) (later : SiteOrder S) (site : S)
    (old new : Slots) : Type 0 where
  pub slots : AreSlots replies later site new.slots.items
  pub ended : AddsEnded replies later site old.ended.items new.ended.items

-- those of a server
abbrev pub slots_of : Server → List Slot
slots_of server = server.slots.slots.items

-- the connections of a server that left their slots, in order
abbrev pub ended_of : Server → List Ended
ended_of server = server.slots.ended.items

-- it was told to stop: it has what a look at its signal alone makes
abbrev pub IsTold : Server → Type 0
IsTold server = IsSome server.told
