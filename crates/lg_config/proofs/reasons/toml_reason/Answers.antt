use Rattle.std.proofs.Common.{arith, length}
use Rattle.toml.specs.Errors.{span_start}
use Rattle.lg_config.proofs.ReasonLaws.{line_said, line_named}
use Rattle.lg_config.proofs.reasons.toml_reason.Goals as goal

pub returns-clause-reason : goal.returns-clause-reason
returns-clause-reason c =
    line_said c.line_reason.result c.args.bytes.now c.place_of.result c.line_at.result c.message.result.now
    (c.place_of.ensures.within (length c.args.bytes.now) (omega (arith, c.requires.0, c.requires.1))) c.line_at.ensures c.line_reason.ensures

pub returns-clause-line : goal.returns-clause-line
returns-clause-line c = λ read.
    line_named c.line_reason.result c.args.bytes.now c.place_of.result (span_start c.args.error.now) c.line_at.result c.message.result.now
    (c.place_of.ensures.starts read) c.line_at.ensures c.line_reason.ensures
