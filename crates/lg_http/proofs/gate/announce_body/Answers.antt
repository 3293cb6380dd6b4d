use Rattle.std.proofs.Common.{arith}
use Rattle.lg_http.proofs.FramingLaws.{framing_none}
use Rattle.lg_http.proofs.gate.announce_body.Goals as goal

pub returns-clause-none : goal.returns-clause-none
returns-clause-none c = λ _. framing_none c.args.held.now c.args.spans.now c.loop-span.span-index (omega arith) c.loop-span.invariant
