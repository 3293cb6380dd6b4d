use Rattle.std.proofs.Common.{◌≡◌, ◌≤◌, List, All, length, subst}
use Rattle.lg_agent.specs.Meaning.Values.{PassValue, count_of}
use Rattle.lg_agent.specs.Meaning.Closing.{IsRefusedClosing, close_fault}
use Rattle.lg_agent.proofs.UnclosedLaws.{missing_lacks, misplaced_foreign, misplaced_unclosed}
use Rattle.lg_agent.proofs.agent.Agent.close.Goals as goal

pub returns-in-Err-clause-missing : goal.returns-in-Err-clause-missing
returns-in-Err-clause-missing g c =
    let all : List PassValue = c.args.spents.items in
    let refused : IsRefusedClosing g.A.AgentName.places all c.in-Err.fault = rw (← c.judge.ensures.named, ← c.as_slice.ensures.value) c.in-Err.ensures.refused in
    missing_lacks g.A.AgentName.places all c.in-Err.fault refused

pub returns-in-Err-clause-foreign : goal.returns-in-Err-clause-foreign
returns-in-Err-clause-foreign g c =
    let all : List PassValue = c.args.spents.items in
    let refused : IsRefusedClosing g.A.AgentName.places all c.in-Err.fault = rw (← c.judge.ensures.named, ← c.as_slice.ensures.value) c.in-Err.ensures.refused in
    misplaced_foreign g.A.AgentName.places all c.in-Err.fault refused

pub closed-requires-clause-short : goal.closed-requires-clause-short
closed-requires-clause-short g c = subst (λ (l : List PassValue). All (λ (s : PassValue). length s.seen ≤ count_of c.into_inner-kept.result) l) c.as_slice.ensures.value c.in_default.ensures.short

pub returns-clause-foreign : goal.returns-clause-foreign
returns-clause-foreign g c =
    let all : List PassValue = c.args.spents.items in
    let none : close_fault c.into_inner-kept.result all ≡ _ = rw (← c.as_slice.ensures.value) c.in_default.ensures.audited in
    λ some. misplaced_unclosed c.into_inner-kept.result all none (rw c.judge.ensures.named some)
