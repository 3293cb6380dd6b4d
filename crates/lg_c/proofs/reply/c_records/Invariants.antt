use Rattle.std.proofs.Common.{◌≡◌, map, take}
use Rattle.lg_c_values.specs.Meaning.Records.{c_record}
use Rattle.lg_c.proofs.reply.c_records.Given as goal

abbrev pub invariant-loop-claim : goal.invariant-loop-claim
invariant-loop-claim g l = l.row.items ≡ map c_record (take l.claim-index l.records)
