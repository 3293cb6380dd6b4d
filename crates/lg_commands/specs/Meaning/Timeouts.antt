-- What the command `timeouts` writes for its numbers.
use Rattle.std.specs.Prelude.{ℕ, ◌+◌, Bool, ◌&&◌, List, [], ◌∷◌, ◌++◌, codes, decimal}
use Rattle.std.specs.List.{flat_map, range_with_len}
use Rattle.lg_rules.specs.declared.addr.Addr.{Addr}
use Rattle.lg_rules.specs.declared.addr.Ip.TheVariants.{V4}
use Rattle.lg_timing.specs.Meaning.TimeoutValue.{TimeoutValue}
use Rattle.lg_timing.specs.Meaning.Timeouts.{range_of, timeout_of}
use Rattle.lg_timing.specs.declared.config.Config.{Config}
use Rattle.lg_text.specs.Meaning.Lines.{newline}
use Rattle.lg_timing.specs.Meaning.Config.{defaults}
use Rattle.lg_rules.specs.Meaning.Bounds.{most_members}
use Rattle.lg_timing.specs.Meaning.Keys.{allows_number, is_within}
use Rattle.lg_timing.specs.declared.keys.Key.TheVariants.{Alpha, Beta, Confirmations, IntervalMs}
use Rattle.lg_commands.specs.declared.timeouts.Numbers.{Numbers}

-- whether each number is in its range
abbrev pub are_good : Numbers → Bool
are_good n =
    is_within 1 most_members n.members
    && (allows_number Confirmations n.confirmations
    && (allows_number Alpha n.alpha
    && (allows_number Beta n.beta && allows_number IntervalMs n.interval_ms)))

abbrev pub no_addr : Addr
no_addr = record { ip = V4 (0 ∷ 0 ∷ 0 ∷ 0 ∷ []); port = 0 }

-- the configuration that has these numbers; no timeout depends on its other fields
abbrev pub config_of : Numbers → Config
config_of n = record (defaults (97 ∷ []) no_addr) {
  interval_ms = n.interval_ms;
  timeout_ms = 1;
  alpha = n.alpha;
  beta = n.beta;
  confirmations = n.confirmations;
}

-- a word, a blank and a number of milliseconds, as a line
abbrev pub ms_line : List ℕ → ℕ → List ℕ
ms_line word ms = word ++ (32 ∷ (decimal ms ++ newline))

-- the line of the timeout after c confirmations
abbrev pub after_line : TimeoutValue → ℕ → List ℕ
after_line r c = ms_line (decimal c) (timeout_of r c)

-- the lines from no confirmation to as many as count
abbrev pub after_lines : TimeoutValue → List ℕ
after_lines r = flat_map (after_line r) (range_with_len 0 (r.confirmations + 1))

-- the least and the greatest timeout, then those lines
abbrev pub range_text : TimeoutValue → List ℕ
range_text r = ms_line (codes "min") r.min ++ ms_line (codes "max") r.max ++ after_lines r

-- what is written for some numbers
unfoldable pub timeouts_text : Numbers → List ℕ
timeouts_text n = range_text (range_of n.members (config_of n))
