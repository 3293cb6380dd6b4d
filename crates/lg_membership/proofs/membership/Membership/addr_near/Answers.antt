use Rattle.std.proofs.Common.{sym, ap, ◌∙◌}
use Rattle.std.specs.Option.{option_copied}
use Rattle.std.specs.Prelude.{option_map}
use Rattle.lg_rules.specs.declared.claim.Claim.{Claim}
use Rattle.lg_rules.specs.Meaning.Claim.{name_of}
use Rattle.lg_rules.specs.Meaning.Rows.{name_cmp, row_at}
use Rattle.lg_membership.specs.Support.State.{GroupState, shown}
use Rattle.lg_membership.proofs.Near.{shown-near}
use Rattle.lg_membership.proofs.membership.Membership.addr_near.Goals as goal

pub returns-in-Some : goal.returns-in-Some
returns-in-Some c =
    let m = c.args.name.now in
    let at = sym c.at.ensures ∙ ap option_copied c.in-Some.is in
    let same = sym c.is_same_name.ensures ∙ c.if-is_same_name.true in
    let found = shown-near _ c.args.near c.in-Some.record.now m c.self.invariant.reached c.if-is_none.ensures at same in
    ap (option_map (λ (r : Claim). r.addr))
    (sym found ∙ ap (λ (s : GroupState). row_at name_cmp name_of m (shown s)) c.self.view_is)
