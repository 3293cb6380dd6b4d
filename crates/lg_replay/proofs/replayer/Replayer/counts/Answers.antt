use Rattle.lg_replay.proofs.CountLaws.{counted}
use Rattle.lg_replay.proofs.replayer.Replayer.counts.Goals as goal

pub returns : goal.returns
returns c = λ files is. counted c.args.self.now.counts _ is.come.counts
