use Rattle.std.proofs.Common.{sym, subst}
use Rattle.lg_rules.specs.Meaning.Table.{MembersValue, takes}
use Rattle.lg_suspicion.specs.Meaning.Parts.{IsKnownTo}
use Rattle.lg_parts_tests.proofs.suspicion.join.Goals as goal

pub returns-then-ne : goal.returns-then-ne
returns-then-ne c = λ parts known.
    let k : MembersValue = c.args.members.now in
    let claim = c.alive-claim.result in
    let law = c.accusers_keep_their_names.ensures.heard in
    subst (λ (m : MembersValue). IsKnownTo m.names parts) (sym c.hear.ensures.members)
    (law (takes k.forgets k.table claim) k.names claim parts known).0
