use Rattle.std.proofs.Common.{◌≡◌, ◌++◌, string_bytes, take}
use Rattle.std.specs.List.{flat_map}
use Rattle.lg_answers.specs.Meaning.Bodies.{own_field}
use Rattle.lg_answers.proofs.config.put_owns.Given as goal

-- the numbers so far
abbrev pub invariant-loop-own : goal.invariant-loop-own
invariant-loop-own l =
    string_bytes l.text ≡ string_bytes l.initial.text ++ flat_map (own_field) (take l.own-index l.numbers)
