use Rattle.std.proofs.Common.{◌≡◌, ◌++◌, map, take}
use Rattle.lg_sim.specs.Meaning.Members.{sent_from}
use Rattle.lg_sim.proofs.host.keep_sends.Given as goal

abbrev pub invariant-loop-outgoing : goal.invariant-loop-outgoing
invariant-loop-outgoing l = l.sent.items ≡ l.initial.sent.items ++ map (sent_from l.from) (take l.outgoing-index l.sends)
