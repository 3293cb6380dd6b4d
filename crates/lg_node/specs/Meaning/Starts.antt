-- With what a node starts: the stall of its clock, the wait of its turns, and the configuration that its status server
-- shows.
use Rattle.std.specs.Prelude.{◌≡◌, ℕ, ◌/◌, ◌==◌, min, max, if◌then◌else◌, codes}
use Rattle.std.specs.Prelude.{List, [], ◌∷◌, map, Option, Some, None}
use Rattle.lg_rules.specs.declared.addr.Addr.{Addr}
use Rattle.lg_rules.specs.Meaning.Addr.{is_loopback}
use Rattle.lg_timing.specs.declared.config.Config.{Config}
use Rattle.lg_http.specs.declared.hosts.Hosts.{Hosts}
use Rattle.lg_http.specs.declared.hosts.Hosts.TheVariants.{Any, Local}
use Rattle.lg_answers.specs.declared.snapshot.NodeNumber.{NodeNumber}
use Rattle.lg_answers.specs.declared.snapshot.ShownConfig.{ShownConfig}
use Rattle.lg_node.specs.declared.node.Settings.{Settings}

-- The stall of a node's clock by its `stall_ms`: one below 25 is taken as 25. With 0 the clock is the machine's, and
-- has no stall.
abbrev pub stall_of : ℕ → ℕ
stall_of stall_ms = if stall_ms == 0 then 0 else max stall_ms 25

-- a tenth of a timeout, but at least 5 and at most 50
abbrev pub tenth_of : ℕ → ℕ
tenth_of timeout_ms = max 5 (min (timeout_ms / 10) 50)

-- How long a turn waits at most, by the configuration's `timeout_ms` and the stall of the clock: a tenth of the
-- timeout, within its bounds, and at most half the stall, if there is one.
abbrev pub turn_wait : (timeout_ms stall : ℕ) → ℕ
turn_wait timeout_ms stall = if stall == 0 then tenth_of timeout_ms else min (tenth_of timeout_ms) (stall / 2)

-- The hosts that a status server at this address answers to: if it is a loopback address, addresses and `localhost`
-- alone, so that no page of another name can read the answers in a browser on this machine.
abbrev pub hosts_at : Addr → Hosts
hosts_at addr = if is_loopback addr.ip then Local else Any

abbrev pub hosts_of : Option Addr → Hosts
hosts_of None = Any
hosts_of (Some addr) = hosts_at addr

-- the numbers of the node's own that it shows, in order, each behind its key
abbrev pub own_numbers : Settings → List (List ℕ × ℕ)
own_numbers s =
    (codes "dice", s.dice) ∷ (codes "pull_ms", s.pull_ms) ∷ (codes "stall_ms", s.stall_ms)
    ∷ (codes "resolve_ms", s.resolve_ms) ∷ []

abbrev pub numbers_shown : List NodeNumber → List (List ℕ × ℕ)
numbers_shown numbers = map (λ own. (own.key.now, own.value)) numbers

-- What a node shows of itself: its configuration, and its settings.
pub record Shows (config : Config) (settings : Settings) (shown : ShownConfig) : Type 0 where
  pub config_is : shown.config ≡ config
  pub numbers_are : numbers_shown shown.numbers.items ≡ own_numbers settings
  pub status_is : shown.status ≡ settings.status
  pub open_is : shown.status_open ≡ settings.status_open
  pub leave_is : shown.leave ≡ settings.leave
  pub bind_is : shown.bind ≡ settings.bind
  pub seeds_are : shown.seeds ≡ settings.shown_seeds
