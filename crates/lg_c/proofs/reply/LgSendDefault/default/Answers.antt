use Rattle.lg_c.proofs.reply.LgSendDefault.default.Goals as goal

pub returns : goal.returns
returns c = λ i. record { bytes = c.padded.ensures i; length = 0; to = c.none.ensures i }
