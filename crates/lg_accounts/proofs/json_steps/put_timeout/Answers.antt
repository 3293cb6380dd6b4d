use Rattle.lg_accounts.specs.Meaning.Json.{timeout_json}
use Rattle.lg_accounts.proofs.TextLaws.{written_twice}
use Rattle.lg_accounts.proofs.json_steps.put_timeout.Goals as goal

pub returns : goal.returns
unfolding timeout_json
returns c = written_twice c.write-2.result _ _ _ _ _ c.in_ok-write.ensures.bytes c.write-2.ensures.bytes
