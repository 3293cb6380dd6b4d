use Rattle.std.proofs.Common.{ℕ, ◌≤◌, Bool, not, List, length, arith}
use Rattle.std.proofs.lemmas.List.Sums.{count_by-le-length}
use Rattle.lg_detector.specs.declared.reply.Outgoing.{Outgoing}
use Rattle.lg_turns.specs.Meaning.Links.{LinkEvent, WereHanded}
use Rattle.lg_loops.proofs.sending.hand_over.Goals as goal

-- not more packets are lost than are handed over
few_lost : (tells : Bool) (log log' : List LinkEvent) (failed failed' : ℕ) (sends : List Outgoing) (unsent : ℕ)
    → WereHanded tells log log' failed failed' sends unsent → length sends ≤ 8 → unsent ≤ 8
few_lost tells log log' failed failed' sends unsent was short = omega (arith, count_by-le-length not was.sent, was.each, was.unsent_is, short)

pub returns-clause-few : goal.returns-clause-few
returns-clause-few g c = rw c.of.ensures (few_lost _ _ _ _ _ _ _ c.send_all-unsent.ensures c.as_slice.ensures.fits)
