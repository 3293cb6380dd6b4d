-- What holds after a step of a connection that reads a request.
use Rattle.std.proofs.Common.{◌≡◌, ℕ, ◌+◌, ◌≤◌, ◌<◌, [], inr, arith, sym, ◌∙◌}
use Rattle.std.proofs.lemmas.List.{append-nil}
use Rattle.lg_http.specs.declared.peer.Peer.{Peer}
use Rattle.lg_http.specs.declared.peer.Phase.{Phase}
use Rattle.lg_http.specs.declared.peer.Phase.TheVariants.{Reading, Parked, Answering, Draining}
use Rattle.lg_http.specs.declared.peer.TheConstants.{LIMIT_MS}
use Rattle.lg_http.specs.Meaning.Peers.{stream_of, GoesOn, IsCurrent, KeepsTime}
use Rattle.lg_http.specs.Meaning.Phases.{MayBecome, IsAwake, IsGiven, time_limit}

-- nothing came
pub goes_on_same : (old new : Peer) → stream_of new ≡ stream_of old → GoesOn old new
goes_on_same old new same = ([], same ∙ sym (append-nil (stream_of old)))

-- it still reads
pub reading_moves : (old new : Phase) → old ≡ Reading → new ≡ old → MayBecome old new
reading_moves old new reading same = rw (same, reading) tt

pub reading_awake : (old new : Phase) → old ≡ Reading → new ≡ old → IsAwake new
reading_awake old new reading same = rw (same, reading) tt

-- what isn't parked, and isn't late
pub awake_current : (at version : ℕ) (peer : Peer) → at < peer.until → IsAwake peer.phase → IsCurrent at version peer
awake_current at version peer timely awake = (timely, λ after parked. absurd (rw parked at awake))

-- it was given what it was to be given
pub given_moves : (old new : Phase) → old ≡ Reading → IsGiven new → MayBecome old new
given_moves old Reading reading given = rw reading tt
given_moves old (Parked after) reading given = absurd given
given_moves old Answering reading given = rw reading tt
given_moves old Draining reading given = absurd given

pub given_awake : (phase : Phase) → IsGiven phase → IsAwake phase
given_awake Reading given = tt
given_awake (Parked after) given = absurd given
given_awake Answering given = tt
given_awake Draining given = absurd given

given_limit : (at until : ℕ) (phase : Phase) → IsGiven phase → until ≡ at + LIMIT_MS → until ≤ at + time_limit phase
given_limit at until Reading given time = omega arith
given_limit at until (Parked after) given time = absurd given
given_limit at until Answering given time = omega arith
given_limit at until Draining given time = absurd given

pub given_keeps : (at : ℕ) (old new : Peer) → IsGiven new.phase → new.until ≡ at + LIMIT_MS → KeepsTime at old new
given_keeps at old new given time = inr (given_limit at new.until new.phase given time)

pub given_current : (at version : ℕ) (peer : Peer) → IsGiven peer.phase → peer.until ≡ at + LIMIT_MS
    → IsCurrent at version peer
given_current at version peer given time =
    awake_current at version peer (omega arith) (given_awake peer.phase given)
