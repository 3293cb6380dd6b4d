-- The events Ask and Health: questions. They change nothing but the moment and the number of events. And what this
-- member knows of itself, and of the suspicions of others.
use Rattle.std.specs.Prelude.{ℕ, List, Option}
use Rattle.lg_rules.specs.Meaning.Claim.{name_of}
use Rattle.lg_rules.specs.Meaning.Rows.{name_cmp, row_at}
use Rattle.lg_membership.specs.Meaning.Log as group
use Rattle.lg_membership.specs.Meaning.Log.{group_view}
use Rattle.lg_membership.specs.Meaning.Suspicions.{standing_of_suspected}
use Rattle.lg_suspicion.specs.declared.standing.SuspicionStanding.{SuspicionStanding}
use Rattle.lg_detector.specs.declared.reply.Answer.{Answer}
use Rattle.lg_detector.specs.declared.reply.Answer.TheVariants.{Status, Health}
use Rattle.lg_detector.specs.declared.standing.Standing.{Standing}
use Rattle.lg_detector.specs.Meaning.Log.{Log, group_log}
use Rattle.lg_detector.specs.Meaning.Timing.{score}
use Rattle.lg_detector.specs.Meaning.Apply.{come}

abbrev pub ask : ℕ → Log → Log
ask now log = come now log

-- the answer is the record of the name, if it is known
abbrev pub status : List ℕ → Log → Answer
status name log = Status (row_at name_cmp name_of name (group_view (group_log log)))

-- or the score, this member's incarnation, and how many members aren't gone
abbrev pub health : Log → Answer
health log =
    let members = group_log log in
    Health (score log).value (group.own members).number (group.live members)

-- what this member knows of itself, which is no event: its score, its incarnation, and whether it was ousted
abbrev pub own_standing : Log → Standing
own_standing log =
    let own = group.own (group_log log) in
    record { score = (score log).value; number = own.number; ousted = own.ousted }

-- how the suspicion of a member stands, if it is suspected, which is no event
abbrev pub suspicion_standing : List ℕ → Log → Option SuspicionStanding
suspicion_standing name log = standing_of_suspected (group_log log) name
