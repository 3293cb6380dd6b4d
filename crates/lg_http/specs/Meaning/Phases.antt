-- Where a connection stands, and where a step may bring it.
use Rattle.std.specs.Prelude.{◌≡◌, ℕ, ◌-◌, Bool, true, false, nat_le, ⊤}
use Rattle.lg_http.specs.declared.peer.Phase.{Phase}
use Rattle.lg_http.specs.declared.peer.Phase.TheVariants.{Reading, Parked, Answering, Draining}
use Rattle.lg_http.specs.declared.peer.TheConstants.{LIMIT_MS, FRESH_MS, DRAIN_MS, MAX_WAIT_MS}

-- A step may leave the first for the second. A long poll is answered, or waits on for the same version. What drains is
-- never answered again.
abbrev pub MayBecome : Phase → Phase → Type 0
MayBecome Reading Draining = ⊥
MayBecome Reading _ = ⊤
MayBecome (Parked after) Reading = ⊤
MayBecome (Parked after) (Parked next) = next ≡ after
MayBecome (Parked after) Answering = ⊤
MayBecome (Parked after) Draining = ⊥
MayBecome Answering (Parked after) = ⊥
MayBecome Answering _ = ⊤
MayBecome Draining Draining = ⊤
MayBecome Draining _ = ⊥

-- it isn't parked
abbrev pub IsAwake : Phase → Type 0
IsAwake (Parked after) = ⊥
IsAwake _ = ⊤

-- it drains
abbrev pub IsDraining : Phase → Type 0
IsDraining Draining = ⊤
IsDraining _ = ⊥

-- its connection was given what it was to be given
abbrev pub IsGiven : Phase → Type 0
IsGiven Reading = ⊤
IsGiven Answering = ⊤
IsGiven _ = ⊥

-- how many milliseconds it may stand so at most
abbrev pub time_limit : Phase → ℕ
time_limit Reading = LIMIT_MS
time_limit (Parked after) = MAX_WAIT_MS
time_limit Answering = LIMIT_MS
time_limit Draining = DRAIN_MS

-- Whether it may lose its slot to a new connection if so many milliseconds are left to it: its last answer was sent, or
-- it has waited a while for a request.
abbrev pub may_yield : Phase → ℕ → Bool
may_yield Reading left = nat_le left (LIMIT_MS - FRESH_MS)
may_yield Draining left = true
may_yield _ left = false
