-- What a site answers by whether its recording is asked for a member.
use Rattle.std.proofs.Common.{ℕ, List, Option, Some, None, Result, Ok, Err, IfOk}
use Rattle.std.specs.declared.alloc.AllocError.{AllocError}
use Rattle.lg_http.specs.declared.site.HttpAnswer.{HttpAnswer}
use Rattle.lg_status_server.specs.Meaning.Explaining.{ExplainsIf}
use Rattle.lg_status_server.specs.Meaning.Shown.{IsAnswerFor, IsShownAnswer, SiteValue}

-- it is, and the answer is what was found
pub explained-answer : (asked : Option (List ℕ)) (site : SiteValue) (path : List ℕ) (query : Option (List ℕ)) (answer : HttpAnswer)
    → ExplainsIf asked (Some answer) → IsAnswerFor asked site path query answer
explained-answer None site path query answer none = absurd none
explained-answer (Some name) site path query answer explains = explains

-- it isn't, and the answer is of what the site shows
pub shown-answer : (asked : Option (List ℕ)) (site : SiteValue) (path : List ℕ) (query : Option (List ℕ)) (result : Result HttpAnswer AllocError)
    → ExplainsIf asked None → IfOk result (λ answer. IsShownAnswer site path query answer) → IfOk result (λ answer. IsAnswerFor asked site path query answer)
shown-answer None site path query result none shows = shows
shown-answer (Some name) site path query result none shows = absurd none
