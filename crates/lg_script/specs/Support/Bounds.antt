-- The bounds of the code are those of the definitions.
use Rattle.std.specs.Prelude.{◌≡◌, refl}
use Rattle.lg_timing.specs.declared.moment.TheConstants.{MAX_MOMENT}
use Rattle.lg_script.specs.Meaning.Bounds.{greatest_moment, random_words}
use Rattle.lg_script.specs.declared.command.TheConstants.{RANDOM_WORDS}

greatest_moment-is : MAX_MOMENT ≡ greatest_moment
greatest_moment-is = refl

random_words-is : RANDOM_WORDS ≡ random_words
random_words-is = refl
