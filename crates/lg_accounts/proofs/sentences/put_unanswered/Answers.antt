use Rattle.lg_accounts.specs.Meaning.Sentences.{unanswered_text}
use Rattle.lg_accounts.proofs.TextLaws.{written_twice}
use Rattle.lg_accounts.proofs.sentences.put_unanswered.Goals as goal

pub returns : goal.returns
unfolding unanswered_text
returns c = written_twice c.put_asked.result _ _ _ _ _ c.in_ok-write.ensures.bytes c.put_asked.ensures
