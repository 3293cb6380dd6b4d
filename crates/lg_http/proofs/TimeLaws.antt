-- How a connection's time goes on over several steps of one turn.
use Rattle.std.proofs.Common.{ℕ, inl, inr, ◌∙◌}
use Rattle.lg_http.specs.declared.peer.Peer.{Peer}
use Rattle.lg_http.specs.Meaning.Peers.{KeepsTime}

pub keeps_both : (at : ℕ) (old now new : Peer) → KeepsTime at old now → KeepsTime at now new → KeepsTime at old new
keeps_both at old now new first (inr within) = inr within
keeps_both at old now new (inl was) (inl same) = inl (same.0 ∙ was.0, same.1 ∙ was.1)
keeps_both at old now new (inr within) (inl same) = inr (rw (same.0, same.1) within)
