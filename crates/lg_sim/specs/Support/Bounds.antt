-- The bounds of the code are those of the definitions.
use Rattle.std.specs.Prelude.{◌≡◌, refl}
use Rattle.lg_sim.specs.Meaning.Outcome.{most_opened}
use Rattle.lg_sim.specs.declared.cluster.TheConstants.{MAX_CLUSTER}

most_opened-is : MAX_CLUSTER ≡ most_opened
most_opened-is = refl
