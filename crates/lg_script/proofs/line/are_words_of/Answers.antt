use Rattle.std.proofs.Common.{sym, ap, ◌∙◌}
use Rattle.lg_script.specs.Meaning.Words.{takes_words}
use Rattle.lg_script.proofs.CuttingLaws.{words-none, words-some}
use Rattle.lg_script.proofs.line.are_words_of.Goals as goal

pub returns-then-takes_words : goal.returns-then-takes_words
returns-then-takes_words c = words-some c.args.verb c.args.line.now c.are_words.result (sym (c.takes_words.ensures ∙ ap (takes_words c.args.verb) c.spaces_in.ensures) ∙ c.if-takes_words.true) c.are_words.ensures

pub returns-else-takes_words : goal.returns-else-takes_words
returns-else-takes_words c = words-none c.args.verb c.args.line.now c.takes_words.result (sym (c.takes_words.ensures ∙ ap (takes_words c.args.verb) c.spaces_in.ensures)) c.if-takes_words.false
