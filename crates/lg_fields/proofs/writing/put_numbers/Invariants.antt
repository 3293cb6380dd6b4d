use Rattle.std.proofs.Common.{◌≡◌, ◌++◌, take}
use Rattle.std.specs.List.{flat_map}
use Rattle.lg_timing.specs.Meaning.Keys.{number_of_key}
use Rattle.lg_fields.specs.Meaning.Spelled.{spelled_count}
use Rattle.lg_fields.proofs.writing.put_numbers.Given as goal

-- the numbers so far
abbrev pub invariant-loop-key : goal.invariant-loop-key
invariant-loop-key l = l.out.items ≡ l.initial.out.items ++ flat_map (λ key. spelled_count (number_of_key key l.config)) (take l.key-index l.keys)
