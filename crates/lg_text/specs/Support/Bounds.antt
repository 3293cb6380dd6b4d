-- The bounds of the code are those of the definitions.
use Rattle.std.specs.Prelude.{◌≡◌, refl}
use Rattle.lg_text.specs.Meaning.Ranges.{most_digits, most_input}
use Rattle.lg_text.specs.declared.input.TheConstants.{MAX_INPUT}
use Rattle.lg_text.specs.declared.number.TheConstants.{MAX_DIGITS}

most_input-is : MAX_INPUT ≡ most_input
most_input-is = refl

most_digits-is : MAX_DIGITS ≡ most_digits
most_digits-is = refl
