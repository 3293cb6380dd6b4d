use Rattle.lg_gossip.proofs.limit.+decimal_digits.Given as goal

abbrev pub decreases-decimal_digits : goal.decreases-decimal_digits
decreases-decimal_digits l = l.live
