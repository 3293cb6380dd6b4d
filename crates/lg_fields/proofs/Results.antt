-- What steps that may fail come to, and the bytes of a list and of its parts.
use Rattle.std.proofs.Common.{◌≡◌, ℕ, Bool, true, false, cond, List, [], ◌∷◌, ◌++◌, Result, Ok, Err, refl}
use Rattle.std.specs.List.{AllByRecursion}
use Rattle.lg_packet.specs.declared.fault.Fault.{Fault}
use Rattle.lg_packet.specs.Meaning.Bytes.{IsByte}
use Rattle.lg_fields.specs.declared.fault.FieldFault.{FieldFault}
use Rattle.lg_fields.specs.Meaning.Scanned.{◌>>=◌, as_field}

-- the value of a step that didn't fail
pub step_ok : {A B : Type 0} (r : Result A FieldFault) (f : A → Result B FieldFault) (y : B) → (r >>= f) ≡ Ok y → (x : A) × (r ≡ Ok x) × (f x ≡ Ok y)
step_ok (Ok x) f y e = (x, refl, e)
step_ok (Err d) f y e = absurd cc

-- a test whose one side fails
pub passed : {A : Type 0} (b : Bool) (d : FieldFault) (r : Result A FieldFault) (y : A) → cond b r (Err d) ≡ Ok y → (b ≡ true) × (r ≡ Ok y)
passed true d r y e = (refl, e)
passed false d r y e = absurd cc

pub passed_by : {A : Type 0} (b : Bool) (d : FieldFault) (r : Result A FieldFault) (y : A) → cond b (Err d) r ≡ Ok y → (b ≡ false) × (r ≡ Ok y)
passed_by true d r y e = absurd cc
passed_by false d r y e = (refl, e)

abbrev good : {A : Type 0} → A → Result A FieldFault
good x = Ok x

pub same_ok : {A : Type 0} (x y : A) → good x ≡ good y → x ≡ y
same_ok x y e = cc

-- the value of a field of packets that didn't fail
pub field_ok : {A : Type 0} (r : Result A Fault) (x : A) → as_field r ≡ Ok x → r ≡ Ok x
field_ok (Ok y) x e = cc
field_ok (Err f) x e = absurd cc

-- ---- bytes

pub front_bytes : (front rest : List ℕ) → AllByRecursion IsByte (front ++ rest) → AllByRecursion IsByte front
front_bytes [] rest fit = tt
front_bytes (b ∷ front) rest fit = (fit.0, front_bytes front rest fit.1)

pub rest_bytes : (front rest : List ℕ) → AllByRecursion IsByte (front ++ rest) → AllByRecursion IsByte rest
rest_bytes [] rest fit = fit
rest_bytes (b ∷ front) rest fit = rest_bytes front rest fit.1
