use Rattle.std.proofs.Common.{◌++◌, ◌∷◌, [], ℕ, List, codes, decimal, ap, ◌∙◌, append_assoc}
use Rattle.lg_replay.proofs.lines.put_unchecked.Goals as goal

pub returns : goal.returns
returns c =
    c.in_ok-extend_from_slice.ensures.items
    ∙ ap (λ (t : List ℕ). t ++ 10 ∷ []) c.in_ok-put_counted.ensures
    ∙ append_assoc c.args.text.now.items (codes "unchecked from entry " ++ decimal c.args.number) (10 ∷ [])
