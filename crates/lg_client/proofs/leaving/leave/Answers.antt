use Rattle.std.proofs.Common.{ap, sym}
use Rattle.lg_client.specs.Meaning.Leaving.{end_told}
use Rattle.lg_client.proofs.LeaveLaws.{leaves_awaited}
use Rattle.lg_client.proofs.leaving.leave.Goals as goal

pub returns-then-await_end-clause-asked : goal.returns-then-await_end-clause-asked
returns-then-await_end-clause-asked g c =
    λ tells. leaves_awaited _ c.in-Ok.name c.in-Ok-leaving_from.field-0 _ _ _ _ c.ask_to_leave-fetched.result c.await_end.result _ (c.name_for.ensures.asked tells) c.in-Ok.ensures.found
    (c.ask_to_leave-fetched.ensures.asked tells) c.in-Ok-leaving_from.ensures.tells (c.await_end.ensures tells) (ap end_told (sym c.if-await_end.true))

pub returns-else-await_end-clause-asked : goal.returns-else-await_end-clause-asked
returns-else-await_end-clause-asked g c =
    λ tells. leaves_awaited _ c.in-Ok.name c.in-Ok-leaving_from.field-0 _ _ _ _ c.ask_to_leave-fetched.result c.await_end.result _ (c.name_for.ensures.asked tells) c.in-Ok.ensures.found
    (c.ask_to_leave-fetched.ensures.asked tells) c.in-Ok-leaving_from.ensures.tells (c.await_end.ensures tells) (ap end_told (sym c.if-await_end.false))
