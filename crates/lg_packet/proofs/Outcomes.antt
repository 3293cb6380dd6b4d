-- What steps that may fail come to.
use Rattle.std.proofs.Common.{◌≡◌, Bool, true, false, cond, Result, Ok, Err, refl}
use Rattle.lg_packet.specs.declared.fault.Fault.{Fault}
use Rattle.lg_packet.specs.Meaning.Reading.{◌>>=◌}

-- the value of a step that didn't fail
pub step_ok : {A B : Type 0} (r : Result A Fault) (f : A → Result B Fault) (y : B) → (r >>= f) ≡ Ok y → (x : A) × (r ≡ Ok x) × (f x ≡ Ok y)
step_ok (Ok x) f y e = (x, refl, e)
step_ok (Err d) f y e = absurd cc

-- a test whose one side fails
pub passed : {A : Type 0} (b : Bool) (d : Fault) (r : Result A Fault) (y : A) → cond b r (Err d) ≡ Ok y → (b ≡ true) × (r ≡ Ok y)
passed true d r y e = (refl, e)
passed false d r y e = absurd cc

pub passed_by : {A : Type 0} (b : Bool) (d : Fault) (r : Result A Fault) (y : A) → cond b (Err d) r ≡ Ok y → (b ≡ false) × (r ≡ Ok y)
passed_by true d r y e = absurd cc
passed_by false d r y e = (refl, e)

abbrev good : {A : Type 0} → A → Result A Fault
good x = Ok x

pub same_ok : {A : Type 0} (x y : A) → good x ≡ good y → x ≡ y
same_ok x y e = cc

-- the fault, or what is said of the value
abbrev pub fault_or : {A : Type 0} → (A → Fault) → Result A Fault → Fault
fault_or go (Ok x) = go x
fault_or go (Err f) = f

pub fault_then : {A B : Type 0} (r : Result A Fault) (f : A → Result B Fault) (go : A → Fault) (on : B → Fault) → ((x : A) → go x ≡ fault_or on (f x)) → fault_or go r ≡ fault_or on (r >>= f)
fault_then (Ok x) f go on h = h x
fault_then (Err d) f go on h = refl
