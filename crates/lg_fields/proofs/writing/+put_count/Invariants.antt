use Rattle.lg_fields.proofs.writing.+put_count.Given as goal

abbrev pub decreases-put_count : goal.decreases-put_count
decreases-put_count l = l.n
