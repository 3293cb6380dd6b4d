-- The events Ask and Health, and what this member knows of itself and of suspicions, as functions of the state.
use Rattle.std.specs.Prelude.{ℕ, List, Option, option_map}
use Rattle.lg_rules.specs.Meaning.Claim.{name_of}
use Rattle.lg_rules.specs.Meaning.Rows.{name_cmp, row_at}
use Rattle.lg_rules.specs.Meaning.Table.{live_in}
use Rattle.lg_suspicion.specs.declared.standing.SuspicionStanding.{SuspicionStanding}
use Rattle.lg_membership.specs.Meaning.Suspicions.{suspected_name, standing_of_row}
use Rattle.lg_membership.specs.Support.State.{shown}
use Rattle.lg_detector.specs.declared.reply.Answer.{Answer}
use Rattle.lg_detector.specs.declared.reply.Answer.TheVariants.{Status, Health}
use Rattle.lg_detector.specs.declared.standing.Standing.{Standing}
use Rattle.lg_detector.specs.Support.State.{State, come_state}

abbrev pub ask_state : ℕ → State → State
ask_state now s = come_state now s

abbrev pub status_state : List ℕ → State → Answer
status_state name s = Status (row_at name_cmp name_of name (shown s.membership))

abbrev pub health_state : State → Answer
health_state s = Health s.score.value s.membership.own.number (live_in s.membership.members.table)

abbrev pub own_standing_state : State → Standing
own_standing_state s =
    record { score = s.score.value; number = s.membership.own.number; ousted = s.membership.own.ousted }

abbrev pub suspicion_standing_state : State → List ℕ → Option SuspicionStanding
suspicion_standing_state s name =
    option_map standing_of_row (row_at name_cmp suspected_name name s.membership.suspicions)
