use Rattle.std.proofs.Common.{◌∙◌}
use Rattle.std.specs.Ordering.{nat_cmp}
use Rattle.std.specs.Cmp.Lexicographic.{slice_cmp}
use Rattle.lg_rules.proofs.Words.{names_compare}
use Rattle.lg_rules.proofs.name.NameOrd.cmp.Goals as goal

pub returns : goal.returns
returns c =
    c.cmp.ensures ∙ (λ i. slice_cmp nat_cmp (c.words.ensures.words i) (c.words-2.ensures.words i))
    ∙ names_compare c.args.self.now c.args.other.now c.words.ensures.name c.words-2.ensures.name
