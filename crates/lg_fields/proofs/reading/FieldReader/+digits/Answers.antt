use Rattle.std.proofs.Common.{◌<◌, ◌+◌, ◌*◌, ◌^◌, arith}
use Rattle.std.proofs.lemmas.Result.{err_from_is_err_and}
use Rattle.lg_fields.proofs.DigitSteps.{ends_here, last_below, none_left, others_none, others_refused, others_there, small_below, sum_below, sum_fits}
use Rattle.lg_fields.proofs.reading.FieldReader.+digits.Goals as goal

pub returns-then-more-eq0-clause-below : goal.returns-then-more-eq0-clause-below
returns-then-more-eq0-clause-below t c = last_below c.args.more c.last_digit.result (omega arith) c.last_digit.ensures.below

pub returns-in_default-clause-value : goal.returns-in_default-clause-value
returns-in_default-clause-value t c = none_left c.args.more c.args.self.now.rest.now (omega arith)

pub returns-then-byte-lt128-clause-value : goal.returns-then-byte-lt128-clause-value
returns-then-byte-lt128-clause-value t c = rw c.from.ensures (ends_here c.args.more c.args.self.now.rest.now (omega arith) (omega arith) (omega arith))

pub returns-then-byte-lt128-clause-below : goal.returns-then-byte-lt128-clause-below
returns-then-byte-lt128-clause-below t c = small_below c.args.more c.from.result (omega arith) (omega arith)

pub returns-in_err-others-clause-value : goal.returns-in_err-others-clause-value
returns-in_err-others-clause-value t c =
    let p = err_from_is_err_and c.from_residual.result c.from_residual.ensures.1 in
    rw (p.1, p.2) (others_refused c.args.more c.args.self.now.rest.now c.in_err-others.field-0.0 (omega arith) (omega arith) (omega arith) c.in_err-others.ensures.value)

pub returns-then-others-eq0-clause-value : goal.returns-then-others-eq0-clause-value
returns-then-others-eq0-clause-value t c =
    others_none c.args.more c.args.self.now.rest.now c.digits.new.self.rest.now c.in_ok-others.others (omega arith) (omega arith) (omega arith) c.in_ok-others.ensures.value (omega arith)

pub overflow_mul-result : goal.overflow_mul-result
overflow_mul-result t c =
    let fits : 0 + 128 * c.in_ok-others.others < 2 ^ 64 = sum_fits c.args.more 0 c.in_ok-others.others (omega arith) c.requires (omega arith) c.in_ok-others.ensures.below in
    omega arith

pub overflow_add-result : goal.overflow_add-result
overflow_add-result t c =
    let fits : c.from-2.result + 128 * c.in_ok-others.others < 2 ^ 64 = sum_fits c.args.more c.from-2.result c.in_ok-others.others (omega arith) c.requires (omega arith) c.in_ok-others.ensures.below in
    omega arith

pub returns-clause-value : goal.returns-clause-value
returns-clause-value t c =
    rw c.from-2.ensures (others_there c.args.more c.args.self.now.rest.now c.digits.new.self.rest.now c.in_ok-others.others (omega arith) (omega arith) (omega arith) c.in_ok-others.ensures.value c.if-others-eq0.false)

pub returns-clause-below : goal.returns-clause-below
returns-clause-below t c = sum_below c.args.more c.from-2.result c.in_ok-others.others (omega arith) (omega arith) c.in_ok-others.ensures.below
