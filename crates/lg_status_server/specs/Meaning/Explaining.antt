-- What a site answers to who asks why a member was suspected, or taken as failed or left (this project's choice).
use Rattle.std.specs.Prelude.{◌≡◌, ℕ, List, Option, Some, None, Result, Ok, Err}
use Rattle.lg_http.specs.declared.site.HttpAnswer.{HttpAnswer}
use Rattle.lg_answers.specs.declared.explaining.Explained.{Explained}
use Rattle.lg_answers.specs.declared.explaining.Explained.TheVariants.{Told, Unreadable, Unrecorded}
use Rattle.lg_answers.specs.declared.reason.RouteFault.{RouteFault}
use Rattle.lg_answers.specs.declared.route.Route.{Route}
use Rattle.lg_answers.specs.declared.route.Route.TheVariants as routes
use Rattle.lg_answers.specs.Meaning.Answers.{answer_value, explained_answer}
use Rattle.lg_answers.specs.Meaning.Routes.{route_of}
use Rattle.lg_explain_run.specs.Meaning.Newest.{TellsNewest}

-- the member of which a route asks what the recording tells
abbrev pub route_asks : Route → Option (List ℕ)
route_asks (routes.Explain name) = Some name
route_asks _ = None

abbrev pub found_route_asks : Result Route RouteFault → Option (List ℕ)
found_route_asks (Ok route) = route_asks route
found_route_asks (Err fault) = None

-- the member of which a request asks that, if the node has a recording
abbrev pub asked_of : (folder : Option (List ℕ)) → List ℕ → Option (List ℕ) → Option (List ℕ)
asked_of None path query = None
asked_of (Some folder) path query = found_route_asks (route_of path query)

-- What was found of a member: the stated JSON of some files, or that a file or the folder can't be read.
abbrev pub IsExplained : List ℕ → Explained → Type 0
IsExplained name Unrecorded = ⊥
IsExplained name Unreadable = Unit {0}
IsExplained name (Told text) = TellsNewest name text.items

-- an answer of what was found
pub record Explains (name : List ℕ) (answer : HttpAnswer) : Type 0 where
  pub explained : Explained
  pub found : IsExplained name explained
  pub is : answer_value answer ≡ explained_answer explained

-- the same, if that is asked for
abbrev pub ExplainsIf : Option (List ℕ) → Option HttpAnswer → Type 0
ExplainsIf None None = Unit {0}
ExplainsIf None (Some answer) = ⊥
ExplainsIf (Some name) None = ⊥
ExplainsIf (Some name) (Some answer) = Explains name answer
