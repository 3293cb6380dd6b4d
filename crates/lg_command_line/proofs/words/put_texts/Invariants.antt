use Rattle.std.proofs.Common.{◌≡◌, ◌++◌, map, take}
use Rattle.lg_config.specs.Meaning.Options.{options_of}
use Rattle.lg_command_line.proofs.words.put_texts.Given as goal

-- the texts so far
abbrev pub invariant-loop-text : goal.invariant-loop-text
invariant-loop-text l =
    options_of l.given.items ≡ options_of l.initial.given.items ++ map (λ text. (l.key, text.now)) (take l.text-index l.texts)
