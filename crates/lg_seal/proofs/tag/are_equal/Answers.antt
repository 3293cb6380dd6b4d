use Rattle.std.proofs.Common.{sym, ◌∙◌, arith, eq-eqb}
use Rattle.std.proofs.lemmas.Bool.{eqb-true}
use Rattle.lg_seal.proofs.SameBytes.{none_differs}
use Rattle.lg_seal.proofs.tag.are_equal.Goals as goal

pub returns : goal.returns
returns c =
    let same = none_differs c.args.tag.now.0 c.args.bytes.now (omega arith) in (
      λ none. same.0 (sym c.differing_bits.ensures ∙ eqb-true c.differing_bits.result 0 none),
      λ are. eq-eqb c.differing_bits.result 0 (c.differing_bits.ensures ∙ same.1 are),
    )
