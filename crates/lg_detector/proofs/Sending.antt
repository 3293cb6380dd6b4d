-- Helpers are asked: their packets are sent one after another.
use Rattle.std.proofs.Common.{◌≡◌, ℕ, ◌≤◌, List, ◌++◌, length, drop, take, option_map}
use Rattle.std.specs.List.{filter_map}
use Rattle.lg_rules.specs.declared.claim.Claim.{Claim}
use Rattle.lg_detector.specs.declared.message.Message.{Message}
use Rattle.lg_detector.specs.declared.reply.Outgoing.{Outgoing}
use Rattle.lg_detector.specs.Meaning.Tick.{found, request_to}
use Rattle.lg_detector.specs.Support.Send.{packets_state, send_all_state}
use Rattle.lg_detector.specs.Support.State.{State}
use Rattle.lg_detector.specs.Support.Step.{view_state}

-- the PingReqs to the names from an index on, for each that has a record
abbrev pub requests_from : ℕ → ℕ → Claim → List Claim → List (List ℕ) → List Message
requests_from i k target rows names = filter_map (λ m. option_map (request_to k target) (found m rows)) (drop i names)

-- after the first so many names, to so many of which a packet was sent
pub record HaveRequested (k : ℕ) (target : Claim) (first now : State) (names : List (List ℕ)) (i count : ℕ) (sends : List Outgoing) : Type 0 where
  pub state : send_all_state (requests_from i k target (view_state first) names) now ≡ send_all_state (requests_from 0 k target (view_state first) names) first
  pub sent : take count sends ++ packets_state (requests_from i k target (view_state first) names) now ≡ packets_state (requests_from 0 k target (view_state first) names) first
  pub rows : view_state now ≡ view_state first
  pub few : count ≤ i
  pub places : length names ≤ length sends
