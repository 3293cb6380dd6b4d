use Rattle.lg_fields.specs.Meaning.Scanned.{seeds_scan}
use Rattle.lg_fields.proofs.SeedLoop.{ReadsSome}
use Rattle.lg_fields.proofs.reading.FieldReader.seeds.Given as goal

abbrev pub invariant-loop : goal.invariant-loop
invariant-loop l = ReadsSome l.seeds.items l.self.rest.now l.counter l.count (seeds_scan l.count l.fn.self.rest.now)
