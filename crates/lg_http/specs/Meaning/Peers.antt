-- What holds of a client's connection.
use Rattle.std.specs.Prelude.{◌≡◌, ℕ, ◌+◌, ◌<◌, ◌≤◌, ◌⊎◌, List, [], ◌++◌, length, min}
use Rattle.http_server.specs.Exchange.{Call}
use Rattle.http_server.specs.History.{IsServed}
use Rattle.http_server.specs.Connection.{config_of, history}
use Rattle.lg_http.specs.declared.peer.Peer.{Peer}
use Rattle.lg_http.specs.declared.peer.Phase.TheVariants.{Reading, Parked}
use Rattle.lg_http.specs.declared.peer.TheConstants.{MAX_HELD, MAX_WAIT_MS}
use Rattle.lg_http.specs.declared.site.Wait.{Wait}
use Rattle.lg_http.specs.Meaning.Answers.{SiteReplies, AddsCalls}
use Rattle.lg_http.specs.Meaning.Phases.{time_limit}

-- all that the client sent, in order: what its connection was given, and what is held back
abbrev pub stream_of : Peer → List ℕ
stream_of peer = (history peer.http).received ++ peer.held.items

-- what its client sent went on, and nothing of it was lost
abbrev pub GoesOn : Peer → Peer → Type 0
GoesOn old new = (more : List ℕ) × (stream_of new ≡ stream_of old ++ more)

-- the requests that were answered, in order, with their responses
abbrev pub calls_of : Peer → List Call
calls_of peer = (history peer.http).calls

-- further requests were answered, each from this state of the site
abbrev pub Answers : {S : Type 0} → SiteReplies S → S → Peer → Peer → Type 0
Answers replies site old new = AddsCalls replies site (calls_of old) (calls_of new)

-- At this moment it isn't late, and it doesn't wait for a version that came.
abbrev pub IsCurrent : ℕ → ℕ → Peer → Type 0
IsCurrent at version peer = (at < peer.until) × ((after : ℕ) → peer.phase ≡ Parked after → version ≤ after)

-- at this moment no more time is left to it than its phase allows
abbrev pub IsWithinLimit : ℕ → Peer → Type 0
IsWithinLimit at peer = peer.until ≤ at + time_limit peer.phase

-- It stands as it did, and has the time that it had. Or it was given time anew at this moment, no more than its phase
-- allows.
abbrev pub KeepsTime : ℕ → Peer → Peer → Type 0
KeepsTime at old new = ((new.phase ≡ old.phase) × (new.until ≡ old.until)) ⊎ IsWithinLimit at new

-- a long poll that waits for this from this moment on
abbrev pub WaitsFrom : ℕ → Wait → Peer → Type 0
WaitsFrom at wait peer = (peer.phase ≡ Parked wait.after) × (peer.until ≡ at + min wait.wait_ms MAX_WAIT_MS)

-- What it was given begins with the requests that were answered. What it sent, and then what it has to send, is their
-- answers in this order. Its state says what follows.
abbrev pub AnswersInOrder : Peer → Type 0
AnswersInOrder peer = ∥ IsServed (config_of peer.http) (history peer.http) ∥₁

-- it holds back no more than this
abbrev pub IsBounded : Peer → Type 0
IsBounded peer = length peer.held.items ≤ MAX_HELD

-- nothing was received yet, and nothing answered
pub record IsNewPeer (peer : Peer) : Type 0 where
  pub phase : peer.phase ≡ Reading
  pub stream : stream_of peer ≡ []
  pub held : peer.held.items ≡ []
  pub calls : calls_of peer ≡ []
