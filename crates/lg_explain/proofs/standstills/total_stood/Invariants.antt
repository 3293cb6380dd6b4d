use Rattle.std.proofs.Common.{take}
use Rattle.std.specs.Prelude.{◌≡◌}
use Rattle.lg_explain.specs.Meaning.Standstills.{stood_in_minute}
use Rattle.lg_explain.proofs.standstills.total_stood.Given as goal

-- so many make up those so far
abbrev pub invariant-loop-stood : goal.invariant-loop-stood
invariant-loop-stood l = l.total ≡ stood_in_minute l.now (take l.stood-index l.all)
