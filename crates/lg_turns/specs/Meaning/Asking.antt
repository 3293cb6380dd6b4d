-- How the seeds of a node are asked.
use Rattle.std.specs.Prelude.{◌≡◌, ℕ, Bool, List}
use Rattle.std.specs.List.{flat_map, sum_by}
use Rattle.lg_rules.specs.declared.addr.Addr.{Addr}
use Rattle.lg_agent.specs.Meaning.Values.{PassValue}
use Rattle.lg_turns.specs.Meaning.Turns.{Turn, LinkValue, Made}
use Rattle.lg_turns.specs.Meaning.Turns.{is_pull, losses, peers_in}

-- The seeds at these addresses were asked for their tables, each once and in order. `unsent` of the packets weren't
-- sent.
pub record Asked (tells : Bool) (seeds : List Addr) (k k' : LinkValue) (p q : PassValue) (unsent : ℕ) : Type 0 where
  pub turns : List Turn
  pub made : Made is_pull tells turns k k' p q
  pub each : flat_map peers_in turns ≡ seeds
  pub unsent_is : unsent ≡ sum_by losses turns
