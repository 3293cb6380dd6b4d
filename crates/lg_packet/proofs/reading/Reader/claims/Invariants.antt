use Rattle.lg_packet.specs.Meaning.Reading.{claims_at}
use Rattle.lg_packet.proofs.ClaimLoop.{Fills}
use Rattle.lg_packet.proofs.reading.Reader.claims.Given as goal

abbrev pub invariant-loop : goal.invariant-loop
invariant-loop l = Fills l.version l.fn.packet l.packet l.self.rest.now l.counter l.count (claims_at l.version l.count l.fn.self.rest.now)
