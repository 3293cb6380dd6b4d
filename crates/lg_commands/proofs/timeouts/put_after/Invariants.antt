use Rattle.std.proofs.Common.{◌≡◌, ◌++◌, string_bytes}
use Rattle.std.specs.List.{flat_map, range_with_len}
use Rattle.lg_commands.specs.Meaning.Timeouts.{after_line}
use Rattle.lg_commands.proofs.timeouts.put_after.Given as goal

-- the lines so far
abbrev pub invariant-loop-confirmations : goal.invariant-loop-confirmations
invariant-loop-confirmations l = string_bytes l.text ≡ string_bytes l.initial.text ++ flat_map (after_line l.timeout) (range_with_len 0 l.confirmations-counter)
