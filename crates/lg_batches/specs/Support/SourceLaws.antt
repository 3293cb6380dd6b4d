-- Rotating once and again is rotating.
use Rattle.std.proofs.Common.{refl}
use Rattle.lg_agent.specs.Meaning.Values.{PassValue}
use Rattle.lg_turns.specs.Meaning.Recorders.{OnlyRotated}

pub rotated_none : (p : PassValue) → OnlyRotated p p
rotated_none p = record { seen = refl; calls = refl; seat = refl; name = refl }

pub rotated_twice : (p q r : PassValue) → OnlyRotated p q → OnlyRotated q r → OnlyRotated p r
rotated_twice p q r first second = record {
  seen = rw second.seen first.seen;
  calls = rw second.calls first.calls;
  seat = rw second.seat first.seat;
  name = rw second.name first.name;
}
