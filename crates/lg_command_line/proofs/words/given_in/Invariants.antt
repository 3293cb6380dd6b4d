use Rattle.std.proofs.Common.{◌≡◌, map, take}
use Rattle.std.specs.List.{flat_map}
use Rattle.clap.specs.Matches.{found_of}
use Rattle.clap.specs.Walk.{rows_of}
use Rattle.lg_config.specs.Meaning.Options.{options_of}
use Rattle.lg_command_line.specs.Meaning.KeyOptions.{given_for}
use Rattle.lg_command_line.proofs.words.given_in.Given as goal

-- the texts of the keys so far
abbrev pub invariant-loop-key : goal.invariant-loop-key
invariant-loop-key l =
    options_of l.given.items ≡ flat_map (given_for (rows_of (found_of l.found))) (map (λ key. key.now) (take l.key-index l.keys))
