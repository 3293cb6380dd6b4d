use Rattle.std.proofs.Common.{◌≡◌, ◌+◌, leb, ap, sym, ◌∙◌, rules}
use Rattle.lg_membership.specs.Support.State.{has_room_in}
use Rattle.lg_membership.proofs.Forgetting.{has_room-log, room-no_need}
use Rattle.lg_membership.proofs.membership.Membership.has_room_for.Goals as goal

pub returns-else-not-forgets-clause-log : goal.returns-else-not-forgets-clause-log
returns-else-not-forgets-clause-log c = λ log is.
    let count = c.args.count in
    let state : leb (c.count.result + count) 255 ≡ has_room_in count c.args.self.now = search rules in
    state ∙ ap (has_room_in count) is ∙ has_room-log count log

pub returns-else-not-forgets-clause-none : goal.returns-else-not-forgets-clause-none
returns-else-not-forgets-clause-none c = λ log claim is roomy some.
    let count = c.args.count in
    let state : leb (c.count.result + count) 255 ≡ has_room_in count c.args.self.now = search rules in
    let logged = state ∙ ap (has_room_in count) is ∙ has_room-log count log in
    room-no_need log count claim some (sym logged ∙ roomy)
