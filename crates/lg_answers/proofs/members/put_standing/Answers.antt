use Rattle.std.proofs.Common.{◌∙◌}
use Rattle.lg_answers.proofs.Writing.{standing_written}
use Rattle.lg_answers.proofs.members.put_standing.Goals as goal

pub returns : goal.returns
returns c =
    standing_written c.put_numbered.result _ _ _ _ _ _ _ _ _ _ c.text_of_name.ensures c.standing_words.ensures
    (c.from-incarnation.ensures ∙ c.number.ensures.number) c.in_ok-put_text.ensures c.put_numbered.ensures
