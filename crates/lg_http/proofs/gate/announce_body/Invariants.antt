use Rattle.std.specs.List.{AllWithin}
use Rattle.httparse.specs.Spans.{span_bytes}
use Rattle.lg_http.specs.Meaning.Fronts.{IsFraming}
use Rattle.lg_http.proofs.gate.announce_body.Given as goal

abbrev pub invariant-loop-span : goal.invariant-loop-span
invariant-loop-span l = AllWithin (λ span. ¬ (IsFraming (span_bytes l.held span.name))) l.spans 0 l.span-index
