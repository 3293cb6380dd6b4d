-- What one turn of a loop does, as the code reports it.
use Rattle.std.specs.Prelude.{◌≡◌, ◌+◌, ◌≤◌, Bool, true, ◌++◌}
use Rattle.lg_agent.specs.Meaning.Values.{PassValue}
use Rattle.lg_loops.specs.declared.turned.Turned.{Turned}
use Rattle.lg_turns.specs.Meaning.Turns.{Turn, LinkValue, IsTurn, deeds, drops, losses, breaks, stops}

-- There is a turn of this kind that led a pass and a link from one state to another. Whether it ends the loop, and
-- what is counted of it, is as reported.
pub record Took (kind : Turn → Bool) (tells : Bool) (k k' : LinkValue) (p q : PassValue) (told_of : Turned)
    : Type 0 where
  pub turn : Turn
  pub kind_is : kind turn ≡ true
  pub is : IsTurn p turn q
  pub told : tells ≡ true → k'.log ≡ k.log ++ deeds turn
  pub failed : k'.failed ≡ k.failed + breaks turn
  pub why : stops turn ≡ told_of.why
  pub dropped : told_of.dropped ≡ drops turn
  pub unsent : told_of.unsent ≡ losses turn
  pub few_dropped : told_of.dropped ≤ 1
  pub few_unsent : told_of.unsent ≤ 8
