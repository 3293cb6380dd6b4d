use Rattle.std.proofs.Common.{◌++◌, [], ◌∷◌, ◌∙◌, ap, None}
use Rattle.std.proofs.lemmas.List.{replicate_more}
use Rattle.lg_http.proofs.slots.free_places.Goals as goal

-- it would be found after many failures
pub loop-number-preserved : goal.loop-number-preserved
loop-number-preserved g c = c.in_ok-push.ensures.items ∙ ap (λ places. places ++ None ∷ []) c.loop-number.invariant ∙ replicate_more c.loop-number.number None
