-- The texts that are given for a key, by what reading them gives.
use Rattle.std.proofs.Common.{◌≡◌, ◌++◌, ◌∙◌, ap, sym, append-nil, refl, List, [], ◌∷◌, Option, Some, None, map, Bor}
use Rattle.std.specs.Prelude.{unwrap_or}
use Rattle.clap.specs.Walk.{Row, Text, all_of}
use Rattle.lg_config.specs.Meaning.Options.{Options}
use Rattle.lg_command_line.specs.Meaning.KeyOptions.{given_for}

-- the texts of a key, each with it
abbrev given_of : Text → Option (List Text) → Options
given_of key found = map {B = Text × Text} (λ text. (key, text)) (unwrap_or found [])

-- the texts behind references
paired : (key : Text) (texts : List (Bor Text)) → map {B = Text × Text} (λ text. (key, text.now)) texts ≡ given_of key (Some (map (λ text. text.now) texts))
paired key [] = refl
paired key (text ∷ texts) = ap (λ (rest : Options). (key, text.now) ∷ rest) (paired key texts)

pub given-some : (key : Text) (rows : List Row) (texts : List (Bor Text)) → Some (map (λ text. text.now) texts) ≡ all_of key rows
    → map {B = Text × Text} (λ text. (key, text.now)) texts ≡ given_for rows key
given-some key rows texts is = paired key texts ∙ ap (given_of key) is

pub given-none : (key : Text) (rows : List Row) (before : Options) → None ≡ all_of key rows → before ≡ before ++ given_for rows key
given-none key rows before is = sym (append-nil before) ∙ ap (λ found. before ++ given_of key found) is
