-- The answer to a request: its status, what its body is, and the body (this project's choice).
use Rattle.std.specs.Prelude.{ℕ, Bool, List, codes, find, Option, Some, None}
use Rattle.std.specs.Prelude.{Result, Ok, Err, if◌then◌else◌}
use Rattle.std.specs.Str.{bytes_eq}
use Rattle.lg_http.specs.declared.site.HttpAnswer.{HttpAnswer}
use Rattle.lg_http.specs.declared.site.Kind.{Kind}
use Rattle.lg_http.specs.declared.site.Kind.TheVariants as kind
use Rattle.lg_http.specs.declared.site.Kind.TheVariants.{Json, Html}
use Rattle.lg_http.specs.declared.site.HttpStatus.{HttpStatus}
use Rattle.lg_http.specs.declared.site.HttpStatus.TheVariants.{Fine, NotFound, Unavailable}
use Rattle.lg_rules.specs.declared.claim.Claim.{Claim}
use Rattle.lg_changes.specs.declared.change.Change.{Change}
use Rattle.lg_answers.specs.declared.explaining.Explained.{Explained}
use Rattle.lg_answers.specs.declared.explaining.Explained.TheVariants.{Unrecorded}
use Rattle.lg_answers.specs.declared.reason.RouteFault.{RouteFault}
use Rattle.lg_answers.specs.declared.route.Route.{Route}
use Rattle.lg_answers.specs.declared.route.Route.TheVariants.{Page, Members, Member, Health, Changes, Config, Metrics}
use Rattle.lg_answers.specs.declared.route.Route.TheVariants.{Targets, Explain}
use Rattle.lg_answers.specs.declared.snapshot.ShownConfig.{ShownConfig}
use Rattle.lg_answers.specs.declared.snapshot.Snapshot.{Snapshot}
use Rattle.lg_answers.specs.Meaning.Bodies.{config_body, error_body, health_body}
use Rattle.lg_answers.specs.Meaning.Changes.{changes_body}
use Rattle.lg_answers.specs.Meaning.Explaining.{explained_body, explained_status}
use Rattle.lg_answers.specs.Meaning.Members.{member_body, members_body}
use Rattle.lg_answers.specs.Meaning.Metrics.{metrics_body}
use Rattle.lg_answers.specs.Meaning.Page.{page_body}
use Rattle.lg_answers.specs.Meaning.Reasons.{fault_status, reason_text}
use Rattle.lg_answers.specs.Meaning.Routes.{route_of}
use Rattle.lg_answers.specs.Meaning.Targets.{targets_body}

-- an answer, with its body as bytes
pub record AnswerValue : Type 0 where
  pub status : HttpStatus
  pub kind : Kind
  pub body : List ℕ

abbrev pub answer_value : HttpAnswer → AnswerValue
answer_value answer = record { status = answer.status; kind = answer.kind; body = answer.body.items }

-- an answer with the status 200, and one with a fault in words
abbrev pub found_answer : Kind → List ℕ → AnswerValue
found_answer kind body = record { status = Fine; kind = kind; body = body }

abbrev pub error_answer : HttpStatus → List ℕ → AnswerValue
error_answer status reason = record { status = status; kind = Json; body = error_body reason }

-- the record of a member, if its name is known
abbrev pub record_named : List ℕ → List Claim → Option Claim
record_named name records = find (λ c. bytes_eq c.name name) records

abbrev pub known_answer : ℕ → Option Claim → AnswerValue
known_answer version None = error_answer NotFound (codes "no member of this name is known")
known_answer version (Some c) = found_answer Json (member_body version c)

abbrev pub member_answer : Snapshot → List ℕ → AnswerValue
member_answer s name = known_answer s.version (record_named name s.records.items)

-- the health: 503 Service Unavailable if the member is ousted (RFC 9110)
abbrev pub health_status : Bool → HttpStatus
health_status ousted = if ousted then Unavailable else Fine

abbrev pub health_answer : Snapshot → AnswerValue
health_answer s = record { status = health_status s.ousted; kind = Json; body = health_body s }

-- what the recording tells of a member
abbrev pub explained_answer : Explained → AnswerValue
explained_answer explained =
    record { status = explained_status explained; kind = Json; body = explained_body explained }

-- The answer for a route, from one look, all changes, and the configuration. No recording is among these: so the answer
-- for what one tells is that of a node that doesn't record, and whoever has a recording answers this route by
-- `explained_answer`.
unfoldable pub route_answer : Snapshot → List Change → ShownConfig → Route → AnswerValue
route_answer s all setup Page = found_answer Html (page_body s)
route_answer s all setup (Members kind) = found_answer Json (members_body s kind)
route_answer s all setup (Member name) = member_answer s name
route_answer s all setup Health = health_answer s
route_answer s all setup (Changes wait) = found_answer Json (changes_body s wait.after all)
route_answer s all setup Config = found_answer Json (config_body setup)
route_answer s all setup Metrics = found_answer kind.Metrics (metrics_body s)
route_answer s all setup (Targets port) = found_answer Json (targets_body s setup.status port)
route_answer s all setup (Explain name) = explained_answer Unrecorded

-- the answer to a request for a path and a query
abbrev pub routed_answer : Snapshot → List Change → ShownConfig → Result Route RouteFault → AnswerValue
routed_answer s all setup (Ok route) = route_answer s all setup route
routed_answer s all setup (Err fault) = error_answer (fault_status fault) (reason_text fault)

unfoldable pub answer_to : Snapshot → List Change → ShownConfig → List ℕ → Option (List ℕ) → AnswerValue
answer_to s all setup path query = routed_answer s all setup (route_of path query)
