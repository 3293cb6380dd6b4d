use Rattle.std.proofs.Common.{rules, ℕ, ◌≡◌, ◌≤◌, ◌+◌, ◌∷◌, ◌++◌, [], length, refl, subst, drop}
use Rattle.std.specs.Prelude.{Result, IfOk}
use Rattle.lg_agent.specs.declared.receipt.Receipt.{Receipt}
use Rattle.lg_agent.specs.declared.refusal.Refusal.{Refusal}
use Rattle.lg_agent.specs.Meaning.Calls.{receipt_of, IsAnswered, IsCall}
use Rattle.lg_agent.specs.Meaning.Values.{PassValue}
use Rattle.lg_agent.proofs.PassLaws.{keeps_up, call_of}
use Rattle.lg_agent.proofs.spent.Spent.call_in.Goals as goal

pub invariant_of-self-in-Ok : goal.invariant_of-self-in-Ok
invariant_of-self-in-Ok g c =
    let s = c.self.inside in
    let r : Receipt = receipt_of c.in-Ok.place c.call_into-answer.new.reply in
    let answered : IsAnswered s.look c.args.event.now r c.call_into-answer.new.look = subst (λ (o : Result ℕ Refusal). IfOk o (λ place. IsAnswered s.look c.args.event.now (receipt_of place c.call_into-answer.new.reply) c.call_into-answer.new.look)) c.in-Ok.is c.call_into-answer.ensures.answered in
    let grown : c.push_reserved.new.self.items ≡ drop c.cut_positions-moved.result s.mine.items ++ c.in-Ok.place ∷ [] = search rules in
    let kept = keeps_up s.look c.args.event.now r c.call_into-answer.new.look s.gone c.cut_positions-moved.result s.mine.items _ c.self.invariant.0 c.self.invariant.1 c.self.invariant.2 (search rules) answered grown in
    (kept.0, kept.1, kept.2, c.self.invariant.3, c.self.invariant.4)

pub returns-in-Ok-clause-answered : goal.returns-in-Ok-clause-answered
returns-in-Ok-clause-answered g c =
    let s = c.self.inside in
    let r : Receipt = receipt_of c.in-Ok.place c.call_into-answer.new.reply in
    let answered : IsAnswered s.look c.args.event.now r c.call_into-answer.new.look = subst (λ (o : Result ℕ Refusal). IfOk o (λ place. IsAnswered s.look c.args.event.now (receipt_of place c.call_into-answer.new.reply) c.call_into-answer.new.look)) c.in-Ok.is c.call_into-answer.ensures.answered in
    let grown : c.push_reserved.new.self.items ≡ drop c.cut_positions-moved.result s.mine.items ++ c.in-Ok.place ∷ [] = search rules in
    let before : PassValue = record { name = s.name; seat = s.seat; seen = s.look; gone = s.gone; mine = s.mine.items } in
    let after : PassValue = record { name = s.name; seat = s.seat; seen = c.call_into-answer.new.look; gone = s.gone + c.cut_positions-moved.result; mine = c.push_reserved.new.self.items } in
    let few : c.cut_positions-moved.result ≤ length s.mine.items = search rules in
    let is : IsCall before c.args.event.now r after = call_of before after c.args.event.now r c.cut_positions-moved.result c.self.invariant.1 answered few refl grown refl refl in
    rw (← c.self.view_is, c.in-Ok.is) is
