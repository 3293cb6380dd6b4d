use Rattle.std.proofs.Common.{◌≡◌, None, Some, rules}
use Rattle.lg_client.specs.Meaning.Waiting.{delay_of}
use Rattle.lg_client.proofs.AskLaws.{fetched_by}
use Rattle.lg_client.proofs.AskerLaws.{asks_no_more, asks_once_more}
use Rattle.lg_client.proofs.asker.ask_twice.Goals as goal

pub returns-in_default : goal.returns-in_default
returns-in_default g c =
    let none : delay_of c.ask-outcome.result ≡ None = search rules in
    record {
      heard = fetched_by _ c.ask-outcome.result _ c.ask-outcome.ensures.heard c.told.ensures;
      asked = λ tells. asks_no_more _ _ c.ask-outcome.result _ (c.ask-outcome.ensures.told tells) c.told.ensures none;
    }

pub returns : goal.returns
returns g c =
    let busy : delay_of c.ask-outcome.result ≡ Some c.in-Some.delay = search rules in
    record {
      heard = c.ask_once.ensures.heard;
      asked = λ tells. let waited = rw c.seconds.ensures at (c.wait.ensures.told tells) in
          asks_once_more _ _ _ _ c.ask-outcome.result c.in-Some.delay _ (c.ask-outcome.ensures.told tells) busy waited (c.ask_once.ensures.asked tells);
    }
