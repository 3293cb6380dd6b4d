-- When this member leaves its group: when its ticking loop is to stop (this project's choice). The loop lingers then.
use Rattle.std.specs.Prelude.{◌≡◌, ◌+◌, ℕ, min, Bool, true, false, List, [], ◌∷◌, ◌++◌, All}
use Rattle.lg_timing.specs.declared.moment.TheConstants.{MAX_MOMENT}
use Rattle.lg_turns.specs.declared.ending.Why.{Why}
use Rattle.lg_turns.specs.declared.ending.Why.TheVariants.{Stopped}
use Rattle.lg_turns.specs.declared.plan.Plan.{Plan}
use Rattle.lg_turns.specs.Meaning.Resolving.{learning}
use Rattle.lg_turns.specs.Meaning.Turns.{Turn}
use Rattle.lg_turns.specs.Meaning.Turns.Turn.{Departed, Learned}

-- a turn in which this member left
abbrev pub departs : Turn → Bool
departs (Departed now words r sent) = true
departs _ = false

-- and one in which it didn't
abbrev pub Stays : Turn → Type 0
Stays t = departs t ≡ false

-- The plan of a loop whose member left at a moment: for one interval more it only ticks, and asks nobody.
abbrev pub lingering : Plan → ℕ → Plan
lingering plan now =
    record plan {
      seeds = record { items = [] };
      learns = false;
      pull_ms = 0;
      until = min (now + plan.interval_ms) MAX_MOMENT;
      leaves = false;
    }

-- the plan after a turn, and after some turns
abbrev pub next_plan : Plan → Turn → Plan
next_plan plan (Departed now words r sent) = lingering plan now
next_plan plan (Learned now found) = learning plan found
next_plan plan _ = plan

abbrev pub plan_after : Plan → List Turn → Plan
plan_after plan [] = plan
plan_after plan (t ∷ turns) = plan_after (next_plan plan t) turns

-- This member left in one of some turns. It hadn't left before, and its plan doesn't let it leave again.
pub record HasLeft (turns : List Turn) : Type 0 where
  pub before : List Turn
  pub leave : Turn
  pub after : List Turn
  pub are : turns ≡ before ++ leave ∷ after
  pub stayed : All Stays before
  pub left : departs leave ≡ true

-- If so, it left in one of some turns.
abbrev pub HasLeftIf : Bool → List Turn → Type 0
HasLeftIf true turns = HasLeft turns
HasLeftIf false turns = Unit {0}

-- Whether this member has left once its ticking loop has ended so: its plan says that it leaves, and the loop was told
-- to stop or its end time came.
abbrev pub leaves_at : Plan → Why → Bool
leaves_at plan Stopped = plan.leaves
leaves_at plan why = false
