use Rattle.std.proofs.Common.{◌≡◌, map, take}
use Rattle.lg_c.specs.Meaning.Replies.{c_send}
use Rattle.lg_c.proofs.reply.c_sends.Given as goal

abbrev pub invariant-loop-outgoing : goal.invariant-loop-outgoing
invariant-loop-outgoing l = l.row.items ≡ map c_send (take l.outgoing-index l.sends)
