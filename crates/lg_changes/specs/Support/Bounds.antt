-- The bound of the code is that of the definitions.
use Rattle.std.specs.Prelude.{◌≡◌, refl}
use Rattle.lg_changes.specs.declared.ring.TheConstants.{MAX_CHANGES}
use Rattle.lg_changes.specs.Meaning.Changes.{most_changes}

most_changes-is : MAX_CHANGES ≡ most_changes
most_changes-is = refl
