-- The cases of a value, with what each says of it.
use Rattle.std.proofs.Common.{◌≡◌, Option, Some, None, refl}
use Rattle.std.specs.declared.cmp.Ordering.{Ordering}
use Rattle.std.specs.declared.cmp.Ordering.TheVariants.{Less, Equal, Greater}

-- an option is missing or holds a value
pub data Held {A : Type 0} (o : Option A) : Type 0 where
  Missing : o ≡ None → Held o
  Holding : (x : A) → o ≡ Some x → Held o

pub held : {A : Type 0} (o : Option A) → Held o
held None = Missing refl
held (Some x) = Holding x refl

-- what stands in two options that are one
pub held_once : {A : Type 0} (x y : A) → Some x ≡ Some y → x ≡ y
held_once x y e = cc

-- how two keys compare
pub data Compared (o : Ordering) : Type 0 where
  Below : o ≡ Less → Compared o
  Tied : o ≡ Equal → Compared o
  Above : o ≡ Greater → Compared o

pub compared : (o : Ordering) → Compared o
compared Less = Below refl
compared Equal = Tied refl
compared Greater = Above refl
