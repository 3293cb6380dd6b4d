use Rattle.std.proofs.Common.{not, arith}
use Rattle.std.proofs.lemmas.List.Sums.{count_by-le-length}
use Rattle.lg_rules.specs.declared.claim.Claim.{Claim}
use Rattle.lg_rules.specs.Meaning.Claim.{is_gone}
use Rattle.lg_rules.proofs.members.Members.live.Goals as goal

pub returns-clause-few : goal.returns-clause-few
returns-clause-few c =
    omega (
      arith,
      c.self.invariant.rows.counted,
      c.len.ensures.few,
      c.len.ensures.len,
      count_by-le-length (λ (r : Claim). not (is_gone r.status)) c.self.inside.records.items,
    )
