use Rattle.std.proofs.Common.{◌≡◌, ◌++◌, List, ℕ}
use Rattle.std.specs.Io.KnownBytes.{Appends}
use Rattle.lg_text.proofs.output.write_pieces.Given as goal

-- what was taken so far, and the rest
abbrev pub invariant-loop : goal.invariant-loop
invariant-loop g l = record {
  front : List ℕ;
  is : l.text ≡ front ++ l.rest;
  taken : Appends (g.W.Write.contents l.initial.writer) (g.W.Write.contents l.writer) front;
}
