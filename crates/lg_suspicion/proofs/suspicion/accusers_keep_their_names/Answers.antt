use Rattle.lg_suspicion.proofs.Hearing.{known-heard, suspicion-heard}
use Rattle.lg_suspicion.proofs.KnownAccusers.{suspicion-given, known-given}
use Rattle.lg_suspicion.proofs.suspicion.accusers_keep_their_names.Goals as goal

pub returns : goal.returns
returns c = record {
  given = λ names name slot parts free fresh known.
      (known-given names name slot parts free fresh known, suspicion-given names name slot parts free known);
  heard = λ taken names claim parts known.
      (known-heard taken names claim parts known, suspicion-heard taken names claim parts known);
}
