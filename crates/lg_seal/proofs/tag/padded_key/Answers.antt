use Rattle.std.proofs.Common.{◌≡◌, length, ◌∙◌, ap, arith, add-one}
use Rattle.lg_seal.proofs.Padding.{padded_more, padded_whole, partly_padded}
use Rattle.lg_seal.proofs.tag.padded_key.Goals as goal

pub loop-place-preserved : goal.loop-place-preserved
loop-place-preserved c =
    rw (c.loop-place.invariant, add-one)
    (padded_more 64 c.args.pad c.args.key.now c.loop-place.place (omega arith) c.requires)

pub returns : goal.returns
returns c =
    let key = c.args.key.now in
    let all : c.loop-place.place ≡ length key = omega arith in
    c.loop-place.invariant ∙ ap (partly_padded 64 c.args.pad key) all ∙ padded_whole c.args.pad key
