use Rattle.std.proofs.Common.{◌≡◌, length, sym, ◌∙◌, lit<, None}
use Rattle.std.proofs.lemmas.Iterator.Consumers.{YieldsList-end, YieldsList-turn}
use Rattle.std.proofs.lemmas.Iterator.Splits.{YieldsList-from_str_split}
use Rattle.lg_script.specs.Meaning.Values.{random_word_of}
use Rattle.lg_commands.proofs.ListLaws.{all_words, bad_word, no_words}
use Rattle.lg_commands.proofs.order.words_in.Goals as goal

pub returns-then-is_empty : goal.returns-then-is_empty
returns-then-is_empty c = no_words c.args.text.now c.new-words.result.items (sym c.is_empty.ensures ∙ c.if-is_empty.true) c.new-words.ensures.items

pub returns-in-None-random_word_in : goal.returns-in-None-random_word_in
returns-in-None-random_word_in c =
    let text = c.args.text.now in
    let part = c.in-Some.part.now in
    let t = YieldsList-turn (YieldsList-from_str_split 44 text (lit< tt) (cc) (cc) (cc)) c.loop-part.yielded _ c.loop-part.yielded_by _ _ c.in-Some.part c.in-Some.is c.next.ensures.steps in
    let none : random_word_of part ≡ None = cc in
    bad_word text part (length c.loop-part.yielded) part (sym c.is_empty.ensures ∙ c.if-is_empty.false) t.0 t.1 none

pub returns : goal.returns
returns c =
    let text = c.args.text.now in
    let t = YieldsList-end (YieldsList-from_str_split 44 text (lit< tt) (cc) (cc) (cc)) c.loop-part.yielded _ c.loop-part.yielded_by _ _ c.in-None.is c.next.ensures.steps in
    all_words text _ c.loop-part.words.items (sym c.is_empty.ensures ∙ c.if-is_empty.false) c.loop-part.invariant t.0
