-- What a pass has seen goes on from what it had seen.
use Rattle.std.proofs.Common.{List, [], ◌∷◌, ◌++◌, ap, sym, ◌∙◌, append_assoc, append-nil}
use mathlib.Core.List.{IsPrefix}
use Rattle.lg_detector.specs.declared.event.Event.{Event}
use Rattle.lg_agent.specs.declared.receipt.Receipt.{Receipt}
use Rattle.lg_agent.specs.Meaning.Values.{PassValue}
use Rattle.lg_agent.specs.Meaning.Calls.{IsCall}

pub seen_itself : (seen : List Event) → IsPrefix seen seen
seen_itself seen = ([], append-nil seen)

seen_on : (from mid to : List Event) → IsPrefix from mid → IsPrefix mid to → IsPrefix from to
seen_on from mid to p q = (p.0 ++ q.0, sym (append_assoc from p.0 q.0) ∙ (ap (λ (l : List Event). l ++ q.0) p.1 ∙ q.1))

-- what a pass sees after a call begins with what it had seen before
pub call_begins : (from : List Event) (p q : PassValue) (e : Event) (r : Receipt) → IsPrefix from p.seen → IsCall p e r q → IsPrefix from q.seen
call_begins from p q e r begins call =
    let a = call.answered in seen_on from p.seen q.seen begins (seen_on p.seen a.before q.seen a.begins (e ∷ [], sym a.ends))
