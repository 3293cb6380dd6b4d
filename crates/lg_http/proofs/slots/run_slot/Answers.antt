use Rattle.std.proofs.Common.{refl, inl, inr}
use Rattle.lg_http.proofs.slots.run_slot.Goals as goal

pub returns-in-Some-run_peer-clause-had : goal.returns-in-Some-run_peer-clause-had
returns-in-Some-run_peer-clause-had g c =
    rw c.in-Some.is (c.run_peer.new.peer, c.run_peer.ensures.answers, inl (refl, refl))

pub returns-clause-had : goal.returns-clause-had
returns-clause-had g c =
    rw c.in-Some.is (c.run_peer.new.peer, c.run_peer.ensures.answers, inr (c.free.ensures, (c.args.turn.now.at, c.and.ensures)))
