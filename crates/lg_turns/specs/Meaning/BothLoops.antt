-- How both loops of a node ran, the receiving one in a thread of its own and the ticking one beside it.
use Rattle.std.specs.Prelude.{ℕ, Bool, List, ◌⊎◌}
use Rattle.lg_agent.specs.Meaning.Values.{PassValue}
use Rattle.lg_turns.specs.declared.ending.LoopEnd.{LoopEnd}
use Rattle.lg_turns.specs.declared.plan.Plan.{Plan}
use Rattle.lg_turns.specs.Meaning.Turns.{LinkValue, Lasted, HadNoThread, MadeNoTurn, receives}
use Rattle.lg_turns.specs.Meaning.Pulling.{Ticking}

-- Each turn of the receiving loop waits at most so many milliseconds. If no thread could be started for it, the ticking
-- loop made no turn, and this member didn't leave.
abbrev pub BothRan :
    {D : Type 0} (wait : ℕ) (throws : D → List ℕ → D → Type 0) (dice : D) (plan : Plan) (tells : Bool) (bound : ℕ)
    (endless : Bool) (hears hears' : LinkValue) (p p' : PassValue) (received : LoopEnd) (sends sends' : LinkValue)
    (q q' : PassValue) (ticked : LoopEnd)
    → Type 0
BothRan wait throws dice plan tells bound endless hears hears' p p' received sends sends' q q' ticked =
    (Lasted (receives wait) tells bound endless hears hears' p p' received
    × Ticking throws dice plan tells bound endless sends sends' q q' ticked)
    ⊎ (HadNoThread (receives wait) tells bound endless hears hears' p p' received
    × MadeNoTurn sends sends' q q' ticked)
