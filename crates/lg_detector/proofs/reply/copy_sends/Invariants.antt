use Rattle.std.proofs.Common.{◌≡◌, take}
use Rattle.lg_detector.proofs.reply.copy_sends.Given as goal

abbrev pub invariant-loop-outgoing : goal.invariant-loop-outgoing
invariant-loop-outgoing l = l.copies.items ≡ take l.outgoing-index l.sends
