-- The bounds of the code are those of the definitions.
use Rattle.std.specs.Prelude.{◌≡◌, refl}
use Rattle.lg_probe.specs.declared.relays.TheConstants.{MAX_RELAYS}
use Rattle.lg_detector.specs.declared.detector.TheConstants.{MAX_EVENTS}
use Rattle.lg_detector.specs.Meaning.Relaying.{most_relays}
use Rattle.lg_detector.specs.Meaning.Step.{most_events}

pub most_events-is : MAX_EVENTS ≡ most_events
most_events-is = refl

pub most_relays-is : MAX_RELAYS ≡ most_relays
most_relays-is = refl
