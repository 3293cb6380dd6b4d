-- What recording a node does to the pass by which it is recorded.
use Rattle.std.specs.Prelude.{◌≡◌, ◌+◌, length}
use Rattle.lg_agent.specs.Meaning.Values.{PassValue}

-- A pass has rotated, any number of times, and has done nothing else: it has seen what it had seen, and has made as
-- many calls.
pub record OnlyRotated (before after : PassValue) : Type 0 where
  pub seen : after.seen ≡ before.seen
  pub calls : after.gone + length after.mine ≡ before.gone + length before.mine
  pub seat : after.seat ≡ before.seat
  pub name : after.name ≡ before.name
