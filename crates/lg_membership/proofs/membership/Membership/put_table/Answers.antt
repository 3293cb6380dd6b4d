use Rattle.std.proofs.Common.{List, map, sym, subst, arith, lit<}
use Rattle.lg_rules.specs.declared.claim.Claim.{Claim}
use Rattle.lg_rules.specs.Meaning.Claim.{name_of}
use Rattle.lg_rules.specs.Meaning.Rows.{name_cmp, Rises}
use Rattle.lg_membership.proofs.Rooms.{reached-ordered}
use Rattle.lg_membership.proofs.membership.Membership.put_table.Goals as goal

pub put_row-requires : goal.put_row-requires
put_row-requires c =
    let rises =
    subst (λ (rows : List Claim). Rises name_cmp (map name_of rows)) (sym c.copy_all.ensures.all)
    (reached-ordered _ c.self.invariant.reached).rises in
    (lit< tt, (λ missing. omega (arith, c.copy_all.ensures.few), rises))
