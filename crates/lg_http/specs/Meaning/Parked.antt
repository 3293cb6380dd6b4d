-- How many long polls wait.
use Rattle.std.specs.Prelude.{ℕ, Bool, true, false, List, sum_by, Option, Some, None, if◌then◌else◌}
use Rattle.lg_http.specs.declared.peer.Peer.{Peer}
use Rattle.lg_http.specs.declared.peer.Phase.{Phase}
use Rattle.lg_http.specs.declared.peer.Phase.TheVariants.{Parked}

-- a slot of a server, which has a client's connection or is free
abbrev pub Slot : Type 0
Slot = Option Peer

-- whether it is a long poll that waits
abbrev pub is_parked : Phase → Bool
is_parked (Parked after) = true
is_parked _ = false

abbrev pub parked_in : Slot → ℕ
parked_in None = 0
parked_in (Some peer) = if is_parked peer.phase then 1 else 0

-- whether a slot's client is on loopback; a free slot has no client
abbrev pub loopback_in : Slot → Bool
loopback_in None = false
loopback_in (Some peer) = peer.is_loopback

-- how many long polls wait
abbrev pub parked_count : List Slot → ℕ
parked_count slots = sum_by parked_in slots
