use Rattle.std.proofs.Common.{◌++◌, List, sym, ap, ◌∙◌}
use Rattle.lg_rules.specs.declared.claim.Claim.{Claim}
use Rattle.lg_lines.specs.Meaning.Records.{table_text}
use Rattle.lg_sim.specs.Meaning.Members.{events_of}
use Rattle.lg_sim.proofs.ClusterLaws.{named_after, named_at, named_nowhere, not_named, named_open}
use Rattle.lg_sim.proofs.cluster.Cluster.put_table_of.Goals as goal

pub returns-in_default-clause-stops : goal.returns-in_default-clause-stops
returns-in_default-clause-stops c = λ members past is.
    not_named c.args.name.now members (named_nowhere _ _ members past c.args.name.now is (sym c.in_default.is ∙ c.place_of.ensures))

pub returns-clause-stops : goal.returns-clause-stops
returns-clause-stops c = λ members past is.
    named_open c.args.name.now members _ (named_at _ _ members past c.args.name.now c.in-Some.at is (sym c.in-Some.is ∙ c.place_of.ensures)).1

pub returns-clause-text : goal.returns-clause-text
returns-clause-text c = λ members past is.
    let after = named_after _ _ members past c.args.name.now c.in-Some.at c.index.result.now is (sym c.in-Some.is ∙ c.place_of.ensures) c.index.ensures in
    c.in_ok-put_table.ensures.put
    ∙ ap (λ (records : List Claim). c.args.text.now.items ++ table_text records)
    (c.as_slice.ensures.value ∙ c.in_ok-records.ensures.list (events_of c.args.name.now past) after)
