use Rattle.std.proofs.Common.{◌≡◌}
use Rattle.lg_seal.proofs.Padding.{partly_padded}
use Rattle.lg_seal.proofs.tag.padded_key.Given as goal

abbrev pub invariant-loop-place : goal.invariant-loop-place
invariant-loop-place l = l.block ≡ partly_padded 64 l.pad l.key l.place
