use Rattle.lg_timing.proofs.ConfigLemmas.{ranges}
use Rattle.lg_detector.proofs.detector.gossip.delay_in.Goals as goal

pub returns-in-Three-clause-within : goal.returns-in-Three-clause-within
returns-in-Three-clause-within c = (ranges c.args.config.now c.requires).gossip_most
