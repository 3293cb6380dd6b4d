use Rattle.std.proofs.Common.{◌<◌, length, sym, arith}
use Rattle.lg_membership.proofs.Listing.{take-read, read-none}
use Rattle.lg_membership.proofs.membership.readers.copy_all.Goals as goal
use Rattle.lg_membership.proofs.membership.readers.copy_all.Goals.{in-Some, in-None}

pub loop-index-preserved : goal.loop-index-preserved
loop-index-preserved c =
    let table = c.args.members.now.table in
    let i = c.loop-index.index in
    let within : i < length table = omega (arith, c.loop-index-test.true, c.count-index-end.ensures.count) in
    elim c.match-at.branch [
      | in-Some w ↦ (
          let more = take-read table i w.in-Some.other.now (sym w.in-Some.ensures) in
          cc (w.row-is, w.push.ensures.items, more, c.loop-index.invariant))
      | in-None w ↦ absurd (read-none table i within (sym w.in-None.ensures))
    ]
