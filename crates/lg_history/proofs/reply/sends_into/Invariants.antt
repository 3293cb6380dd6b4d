use Rattle.std.proofs.Common.{◌≡◌, take}
use Rattle.lg_history.proofs.reply.sends_into.Given as goal

abbrev pub invariant-loop-outgoing : goal.invariant-loop-outgoing
invariant-loop-outgoing l = l.sends.items ≡ take l.outgoing-index l.stored
