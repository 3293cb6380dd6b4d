use Rattle.std.proofs.Common.{◌≡◌, length, take, ap, ◌∙◌}
use Rattle.lg_turns.proofs.KeyedLaws.{packet_moved}
use Rattle.lg_turns.proofs.keyed.unseal.Goals as goal

pub returns-clause-taken : goal.returns-clause-taken
returns-clause-taken c =
    let packet = c.in_ok-packet_len.field-0.now in
    let taken = c.in_ok-packet_len.ensures.taken in
    let moved : take (length packet) c.copy_within.new.self ≡ packet =
    ap (take (length packet)) c.copy_within.ensures.after
    ∙ packet_moved c.args.keys.now c.args.buffer.now packet c.args.length taken in
    rw moved taken
