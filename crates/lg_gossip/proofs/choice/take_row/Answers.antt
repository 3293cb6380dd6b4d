use Rattle.std.proofs.Common.{◌≡◌, suc, ◌-◌, take, sym, ◌∙◌, ap, arith}
use Rattle.std.specs.Prelude.{insert, nat_le}
use Rattle.std.specs.List.{prefix_len}
use Rattle.lg_gossip.proofs.Places.{take-insert}
use Rattle.lg_gossip.proofs.choice.take_row.Goals as goal

pub returns-then-index-room-clause-rows : goal.returns-then-index-room-clause-rows
returns-then-index-room-clause-rows c =
    let row = c.args.row in
    let before = c.args.first.now.items in
    let index = c.index_after-index.result in
    let room : suc (c.args.room - 1) ≡ c.args.room = omega (arith, c.requires.some) in
    c.insert.ensures.items ∙ ap (λ ts. insert ts index row) c.truncate.ensures.items
    ∙ sym (take-insert (c.args.room - 1) index row before (omega (arith, c.if-index-room.true)))
    ∙ ap (λ n. take n (insert before index row)) room
    ∙ ap (λ n. take c.args.room (insert before n row)) (c.index_after-index.ensures.index ∙ ap (prefix_len (λ r. nat_le r.sends row.sends)) c.as_slice.ensures.value)
