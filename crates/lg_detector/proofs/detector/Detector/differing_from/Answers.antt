use Rattle.std.proofs.Common.{not, cond, None, Some, sym, ◌∙◌, ap, subst}
use Rattle.lg_rules.specs.Meaning.Claim.{name_of}
use Rattle.lg_rules.proofs.KeyOrder.{names_order}
use Rattle.lg_membership.proofs.Shown.{rises-shown}
use Rattle.lg_detector.specs.Support.Reached.{IsReached}
use Rattle.lg_detector.specs.Support.Step.{view_state}
use Rattle.lg_detector.proofs.Forgetting.{differs}
use Rattle.lg_detector.proofs.Reaching.{reached-member}
use Rattle.lg_detector.proofs.RowFilters.{keep, row_at-kept}
use Rattle.lg_detector.proofs.detector.Detector.differing_from.Goals as goal

pub returns-in_err-record : goal.returns-in_err-record
returns-in_err-record c =
    let s = c.args.self.now in
    let reached : IsReached s = subst IsReached c.self.view_is c.self.invariant in
    let p = differs c.args.before.now in
    c.from_residual.ensures
    ∙ sym (
    row_at-kept names_order name_of p c.args.name.now (view_state s) (rises-shown s.membership (reached-member s reached))
    ∙ ap (keep p) (sym c.record_of.ensures.state ∙ c.in_err-record.was))

pub returns-then-is_among : goal.returns-then-is_among
returns-then-is_among c =
    let s = c.args.self.now in
    let reached : IsReached s = subst IsReached c.self.view_is c.self.invariant in
    let p = differs c.args.before.now in
    let r = c.in_ok-record.record in
    sym (
    row_at-kept names_order name_of p c.args.name.now (view_state s) (rises-shown s.membership (reached-member s reached))
    ∙ ap (keep p) (sym c.record_of.ensures.state ∙ c.in_ok-record.was)
    ∙ ap (λ b. cond (not b) (Some r) None) (sym c.is_among.ensures ∙ c.if-is_among.true))

pub returns-else-is_among : goal.returns-else-is_among
returns-else-is_among c =
    let s = c.args.self.now in
    let reached : IsReached s = subst IsReached c.self.view_is c.self.invariant in
    let p = differs c.args.before.now in
    let r = c.in_ok-record.record in
    sym (
    row_at-kept names_order name_of p c.args.name.now (view_state s) (rises-shown s.membership (reached-member s reached))
    ∙ ap (keep p) (sym c.record_of.ensures.state ∙ c.in_ok-record.was)
    ∙ ap (λ b. cond (not b) (Some r) None) (sym c.is_among.ensures ∙ c.if-is_among.false))
