use Rattle.std.proofs.Common.{rules, tests}
use Rattle.std.proofs.lemmas.Iterator.Search.{find_from_yields_List}
use Rattle.std.proofs.lemmas.Iterator.Splits.{YieldsList-from_slice_split}
use Rattle.lg_script.specs.Meaning.Words.{is_filled}
use Rattle.lg_text.specs.Meaning.Cutting.{is_byte}
use Rattle.lg_script.proofs.words.first_word.Goals as goal

pub returns : goal.returns
returns c =
    find_from_yields_List is_filled _ _ c.find.result c.find.ensures.ran
    (YieldsList-from_slice_split _ (is_byte 32) c.args.line.now c.split.ensures.rest c.split.ensures.done c.split.ensures.closure (λ x b q k. search (rules, tests)))
    (λ x b q k. search (rules, tests))
