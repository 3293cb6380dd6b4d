use Rattle.std.proofs.Common.{◌≡◌, ◌++◌, List, ℕ, ap, sym, ◌∙◌, append_assoc, take, drop, take-append-drop, length, ◌-◌}
use Rattle.std.proofs.KnownBytes.{Appends-kept, Appends-trans}
use Rattle.lg_text.proofs.CuttingLaws.{rest_of}
use Rattle.lg_text.proofs.output.write_pieces.Goals.{in-Ok, in-Err+else-ne}
use Rattle.lg_text.proofs.output.write_pieces.Goals as goal

pub loop-preserved : goal.loop-preserved
loop-preserved g c =
    let so_far = c.loop.invariant in
    let rest = c.loop.rest.now in
    elim c.match-write.branch [
      | in-Ok w ↦
          let count = w.in-Ok.count in
          let left : c.match-write.rest.now ≡ take (length rest - count) (drop count rest) = ap (λ r. r.now) w.rest-is in
          record {
            front = so_far.front ++ take count rest;
            is = so_far.is ∙ ap (λ (xs : List ℕ). so_far.front ++ xs) (sym (take-append-drop count rest) ∙ ap (λ (xs : List ℕ). take count rest ++ xs) (sym (left ∙ rest_of rest count)))
                ∙ sym (append_assoc so_far.front (take count rest) c.match-write.rest.now);
            taken = Appends-trans _ _ _ so_far.front (take count rest) so_far.taken w.in-Ok.ensures.bytes;
          }
      | in-Err+else-ne w ↦
          let left : c.match-write.rest.now ≡ rest = ap (λ r. r.now) w.rest-is in
          record {
            front = so_far.front;
            is = so_far.is ∙ ap (λ (xs : List ℕ). so_far.front ++ xs) (sym left);
            taken = Appends-kept _ _ _ so_far.front so_far.taken w.in-Err.ensures.bytes;
          }
    ]
