-- The bounds of the code are those of the definitions.
use Rattle.std.specs.Prelude.{◌≡◌, ℕ, zero, suc, ◌*◌, ◌^◌, refl}
use Rattle.lg_timing.specs.declared.moment.TheConstants.{MAX_MOMENT}
use Rattle.lg_fields.specs.Meaning.Spelled.{check_bytes}
use Rattle.lg_fields.specs.Meaning.Scanned.{latest_moment}
use Rattle.lg_fields.specs.declared.writing.TheConstants.{CHECK_LEN}

latest_moment-is : MAX_MOMENT ≡ latest_moment
latest_moment-is = refl

check_bytes-is : CHECK_LEN ≡ check_bytes
check_bytes-is = refl

-- What a number of at most this many bytes before its last one is below: each of them has seven bits, and the last one
-- has one.
unfoldable pub digits_bound : ℕ → ℕ
digits_bound zero = 2
digits_bound (suc more) = 128 * digits_bound more

pub greatest_count-is : digits_bound 9 ≡ 2 ^ 64
unfolding digits_bound
greatest_count-is = refl
