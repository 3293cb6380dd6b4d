use Rattle.std.proofs.Common.{arith, ◌≡◌, ◌≤◌, ◌∙◌}
use Rattle.lg_agent.specs.Meaning.Values.{own_limit}
use Rattle.lg_agent.proofs.LedgerLaws.{limit-front, refusal_if}
use Rattle.lg_agent.proofs.PassLaws.{answered_if}
use Rattle.lg_agent.proofs.kept.Kept.call_into.Goals as goal

pub returns-then-is_ok-clause-answered : goal.returns-then-is_ok-clause-answered
returns-then-is_ok-clause-answered g c = answered_if c.args.self.now c.args.seat c.args.look.now c.args.event.now c.apply_into-answer.result c.apply_into-answer.new.reply c.apply_into-answer.new.self c.tell.new.look (omega arith) c.apply_into-answer.ensures.answered c.tell.ensures.begins c.tell.ensures.told c.tell.ensures.accepted

pub returns-else-is_ok-clause-refusal : goal.returns-else-is_ok-clause-refusal
returns-else-is_ok-clause-refusal g c =
    let l = c.args.self.now in
    let own : l.limit ≡ own_limit c.args.look.now = c.history-history.ensures.limit ∙ limit-front c.args.look.now _ c.requires.look c.compare.ensures in
    let high : c.args.seat ≤ l.places = rw c.history-history.ensures.named c.requires.seat.1 in
    refusal_if l c.args.seat c.args.look.now c.apply_into-answer.result c.requires.seat.0 high own c.apply_into-answer.ensures.exact
