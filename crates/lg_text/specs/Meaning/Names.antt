-- The name of a member that a text spells.
use Rattle.std.specs.Prelude.{ℕ, List, Option}
use Rattle.std.specs.Result.{result_ok}
use Rattle.lg_rules.specs.Meaning.Name.{name_of_text}

-- the name, unless something is wrong with it
abbrev pub member_name_of : List ℕ → Option (List ℕ)
member_name_of text = result_ok (name_of_text text)
