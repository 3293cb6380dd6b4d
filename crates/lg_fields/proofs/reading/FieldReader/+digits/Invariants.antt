use Rattle.lg_fields.proofs.reading.FieldReader.+digits.Given as goal

abbrev pub decreases-digits : goal.decreases-digits
decreases-digits l = l.more
