use Rattle.std.proofs.Common.{ℕ, List, Option, ap, ◌∙◌}
use Rattle.std.specs.Prelude.{option_map}
use Rattle.lg_rules.specs.Meaning.Rows.{name_cmp, row_at}
use Rattle.lg_suspicion.specs.declared.standing.SuspicionStanding.{SuspicionStanding}
use Rattle.lg_membership.specs.Meaning.Suspicions.{suspected_name, standing_of_row}
use Rattle.lg_membership.specs.Support.State.{GroupState}
use Rattle.lg_membership.proofs.Rooms.{reached-ordered}
use Rattle.lg_membership.proofs.RowsByNames.{rises-kept}
use Rattle.lg_membership.proofs.SuspicionLaws.{found-suspected}
use Rattle.lg_membership.proofs.membership.Membership.suspicion_of.Goals as goal

abbrev standing_in_state : List ℕ → GroupState → Option SuspicionStanding
standing_in_state m s = option_map standing_of_row (row_at name_cmp suspected_name m s.suspicions)

pub standing_of-requires : goal.standing_of-requires
standing_of-requires c =
    let inside = c.self.inside in
    rises-kept inside.members.names inside.suspicions (reached-ordered _ c.self.invariant.reached).suspects

pub returns-clause-state : goal.returns-clause-state
returns-clause-state c =
    c.standing_of.ensures.standing c.self.inside.members.names c.self.invariant.known
    ∙ ap (standing_in_state c.args.name.now) c.self.view_is

pub returns-clause-log : goal.returns-clause-log
returns-clause-log c = λ log is.
    returns-clause-state c
    ∙ ap (standing_in_state c.args.name.now) is
    ∙ ap (option_map standing_of_row) (found-suspected log c.args.name.now)
