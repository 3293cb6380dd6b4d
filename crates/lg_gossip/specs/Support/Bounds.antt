-- The bounds of the code are those of the definitions.
use Rattle.std.specs.Prelude.{◌≡◌, refl}
use Rattle.lg_rules.specs.Meaning.Bounds.{most_members}
use Rattle.lg_gossip.specs.Meaning.Queue.{most_times_sent}
use Rattle.lg_gossip.specs.declared.limit.TheConstants.{MAX_TIMES_SENT}
use Rattle.lg_gossip.specs.declared.queue.TheConstants.{MAX_QUEUED}

pub most_queued-is : MAX_QUEUED ≡ most_members
most_queued-is = refl

pub most_times_sent-is : MAX_TIMES_SENT ≡ most_times_sent
most_times_sent-is = refl
