-- Why a request has no route: the status of the answer, and the words (this project's choice).
use Rattle.std.specs.Prelude.{ℕ, List, codes}
use Rattle.lg_http.specs.declared.site.HttpStatus.{HttpStatus}
use Rattle.lg_http.specs.declared.site.HttpStatus.TheVariants.{BadRequest, NotFound}
use Rattle.lg_http.specs.declared.site.HttpStatus.TheVariants as http
use Rattle.lg_answers.specs.declared.reason.RouteFault.{RouteFault}
use Rattle.lg_answers.specs.declared.reason.RouteFault.TheVariants.{UnknownPath, PostOnly, NoName, NoQuery}
use Rattle.lg_answers.specs.declared.reason.RouteFault.TheVariants.{BadStatus, BadChanges, BadPort}

-- 404 Not Found if the path is unknown, 405 Method Not Allowed if it takes POST alone, or else 400 Bad Request (RFC
-- 9110)
abbrev pub fault_status : RouteFault → HttpStatus
fault_status UnknownPath = NotFound
fault_status PostOnly = http.PostOnly
fault_status NoName = BadRequest
fault_status NoQuery = BadRequest
fault_status BadStatus = BadRequest
fault_status BadChanges = BadRequest
fault_status BadPort = BadRequest

-- the fault in words
abbrev pub reason_text : RouteFault → List ℕ
reason_text UnknownPath = codes "there is nothing at this path"
reason_text PostOnly = codes "this path takes POST alone"
reason_text NoName = codes "a name has to be 1 to 32 bytes of A-Z a-z 0-9 . _ -"
reason_text NoQuery = codes "this path takes no query"
reason_text BadStatus = codes "the query has to be status=alive, status=suspect, status=failed or status=left"
reason_text BadChanges =
    codes "the query takes after=V and wait_ms=W, each at most once, with V of 1 to 16 digits and W 0 to 30000"
reason_text BadPort = codes "the query has to be port=P, with P of 1 to 65535"
