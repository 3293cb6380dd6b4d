use Rattle.std.proofs.Common.{ℕ, List, ◌++◌, ap, codes}
use Rattle.lg_accounts.specs.Meaning.Json.{ended_json}
use Rattle.lg_accounts.proofs.TextLaws.{written_as}
use Rattle.lg_accounts.proofs.json_steps.put_ended.Goals as goal

pub returns : goal.returns
unfolding ended_json
returns c =
    written_as c.write.result _ _ _ _ c.write.ensures.bytes
    (ap (λ (truth : List ℕ). codes "{\"step\":\"ended\",\"failed\":" ++ (truth ++ codes "}")) c.truth_word-truth.ensures)
