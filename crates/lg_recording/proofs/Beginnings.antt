-- What a file begins with is read back, whatever follows.
use Rattle.std.proofs.Common.{◌≡◌, ℕ, List, ◌++◌, Ok}
use Rattle.lg_fields.specs.Meaning.Spelled.{IsCountedText}
use Rattle.lg_fields.proofs.Chunks.{chunk_again}
use Rattle.lg_recording.specs.Meaning.Starts.{spelled_start, magic_scan, start_scan}

pub start_again : (head rest : List ℕ) → IsCountedText head → start_scan (spelled_start head ++ rest) ≡ Ok (head, rest)
unfolding start_scan magic_scan
start_again head rest fit = chunk_again head rest fit
