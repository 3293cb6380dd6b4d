use Rattle.std.proofs.Common.{◌≡◌, ◌++◌, string_bytes, take}
use Rattle.std.specs.List.{flat_map}
use Rattle.lg_answers.specs.Meaning.Bodies.{key_field}
use Rattle.lg_answers.proofs.config.put_keys.Given as goal

-- the numbers so far
abbrev pub invariant-loop-key : goal.invariant-loop-key
invariant-loop-key l =
    string_bytes l.text ≡ string_bytes l.initial.text ++ flat_map (key_field l.config) (take l.key-index l.keys)
