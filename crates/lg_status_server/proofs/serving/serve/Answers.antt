use Rattle.std.proofs.Common.{refl}
use Rattle.lg_follow.proofs.SightLaws.{looked_through}
use Rattle.lg_status_server.proofs.serving.serve.Goals as goal

pub returns-clause-looked : goal.returns-clause-looked
returns-clause-looked g c =
    let later = rw c.new-desk.ensures.site at c.serve-end.ensures.goes_on in
    rw (c.finish-2.ensures, c.finish.ensures)
    (looked_through c.args.pass c.in-Ok.site.pass c.serve-end.new.desk.site.pass c.in-Ok.ensures.looked later.looked)

pub returns-clause-served : goal.returns-clause-served
returns-clause-served g c =
    let later = rw c.new-desk.ensures.site at c.serve-end.ensures.goes_on in
    rw (c.finish-2.ensures, c.finish.ensures) (
      record {
        first = c.in-Ok.site;
        last = c.serve-end.new.desk.site;
        looked = c.in-Ok.ensures.looked;
        is_first = c.in-Ok.ensures.first;
        goes_on = later;
        free = rw c.new-desk.ensures.hosts at c.serve-end.ensures.free;
        left = refl;
      },
      c.serve-end.ensures.stopped,
    )
