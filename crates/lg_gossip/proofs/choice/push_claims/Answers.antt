use Rattle.std.proofs.Common.{◌++◌, [], ◌∷◌, ◌∙◌, ap, arith}
use Rattle.lg_gossip.proofs.Places.{claims-more}
use Rattle.lg_gossip.proofs.choice.push_claims.Goals as goal

pub loop-row-preserved : goal.loop-row-preserved
loop-row-preserved c = record {
  claims =
      c.push_claim.ensures.items
      ∙ ap (λ q. c.loop-row.claims.items ++ q.claim ∷ []) c.index.ensures
      ∙ claims-more c.args.rows.now.items c.args.claims.now.items c.loop-row.claims.items c.loop-row.row-index _
      c.index.result.now c.args.taken.now c.loop-row-test.true c.requires.places c.loop-row.invariant.claims;
  room = omega (arith, c.push_claim.ensures.len, c.loop-row.invariant.room, c.loop-row-test.true);
}
