use Rattle.lg_seal.specs.Meaning.Sealing.{signed_part}
use Rattle.lg_seal.specs.Meaning.Tags.{tag_of}
use Rattle.lg_seal.proofs.SealedParts.{length-tag_of, wrong_tag}
use Rattle.lg_seal.proofs.laws.other_key.Goals as goal

pub returns-clause-forged : goal.returns-clause-forged
returns-clause-forged c keys key packet wrong =
    wrong_tag keys packet (tag_of key (signed_part packet)) (length-tag_of key (signed_part packet)) wrong
