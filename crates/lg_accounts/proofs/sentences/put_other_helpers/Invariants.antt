use Rattle.std.proofs.Common.{◌≡◌, ◌++◌, length, string_bytes}
use Rattle.lg_accounts.specs.Meaning.Sentences.{other_helpers}
use Rattle.lg_accounts.proofs.sentences.put_other_helpers.Given as goal

-- the helpers so far, with those of the rest
abbrev pub invariant-others : goal.invariant-others
invariant-others l =
    string_bytes l.text ++ other_helpers l.rest ≡ string_bytes l.initial.text ++ other_helpers l.fn.others

abbrev pub decreases-others : goal.decreases-others
decreases-others l = length l.rest
