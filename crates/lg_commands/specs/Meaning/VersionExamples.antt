-- Worked texts of the command `version`.
use Rattle.std.specs.Prelude.{⊤, ◌≡◌, ℕ, List, [], ◌++◌, codes, refl, replicate}
use Rattle.lg_text.specs.Meaning.Cutting.{before}
use Rattle.lg_commands.specs.Meaning.Version.{unknown_lines, version_lines, version_text}

-- what the rows have to unfold
unfoldable by_telling : ⊤
unfolding before unknown_lines version_lines version_text
by_telling = tt

-- the program of a build
noted : version_text (codes "lg build 1\ncommit 27499ed3\nkit k\nproved yes\n" ++ replicate 3 0)
    ≡ codes "version 0.9.0\npackets 1 to 3\ncommit 27499ed3\nkit k\nproved yes\n"
unfolding by_telling
noted = refl

abbrev nothing_known : List ℕ
nothing_known =
    codes "version 0.9.0\npackets 1 to 3\n"
    ++ codes "commit unknown\nkit unknown\nproved unknown: the program has no note of its build\n"

-- a program that can't read its own file, one without a note, and one whose mark is another
nothing_noted : version_text [] ≡ nothing_known × version_text (replicate 256 0) ≡ nothing_known
    × version_text (codes "lg build 2\nproved yes\n") ≡ nothing_known
unfolding by_telling
nothing_noted = (refl, refl, refl)
