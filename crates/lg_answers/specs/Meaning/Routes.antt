-- Which route a request has, or why it has none, and what it waits for.
use Rattle.std.specs.Prelude.{ℕ, ◌==◌, Bool, true, false, List, [], ◌∷◌, length, codes, find, unwrap_or}
use Rattle.std.specs.Prelude.{Option, Some, None, Result, Ok, Err, if◌then◌else◌}
use Rattle.std.specs.Str.{bytes_eq}
use Rattle.lg_http.specs.declared.site.Wait.{Wait}
use Rattle.lg_rules.specs.declared.claim.Status.{Status}
use Rattle.lg_rules.specs.declared.claim.Status.TheVariants as status
use Rattle.lg_rules.specs.declared.name.NameFault.{NameFault}
use Rattle.lg_rules.specs.Meaning.Name.{name_of_text}
use Rattle.lg_answers.specs.declared.place.Place.{Place}
use Rattle.lg_answers.specs.declared.place.Place.TheVariants as variants
use Rattle.lg_answers.specs.declared.reason.RouteFault.{RouteFault}
use Rattle.lg_answers.specs.declared.reason.RouteFault.TheVariants.{UnknownPath, NoName, NoQuery, BadStatus, BadChanges}
use Rattle.lg_answers.specs.declared.reason.RouteFault.TheVariants.{BadPort, PostOnly}
use Rattle.lg_answers.specs.declared.route.Route.{Route}
use Rattle.lg_answers.specs.declared.route.Route.TheVariants.{Page, Members, Member, Health, Changes, Config, Metrics}
use Rattle.lg_answers.specs.declared.route.Route.TheVariants.{Targets, Explain}
use Rattle.lg_answers.specs.declared.route.StatusKind.{StatusKind}
use Rattle.lg_answers.specs.declared.route.StatusKind.TheVariants.{Alive, Suspect, Failed, Left}
use Rattle.lg_answers.specs.Meaning.Places.{explained_name, member_name, place_at}
use Rattle.lg_answers.specs.Meaning.Queries.{changes_asked, port_asked}

-- the statuses without their accusers, and the queries that ask for members of one
abbrev pub status_kinds : List StatusKind
status_kinds = Alive ∷ Suspect ∷ Failed ∷ Left ∷ []

abbrev pub kind_query : StatusKind → List ℕ
kind_query Alive = codes "status=alive"
kind_query Suspect = codes "status=suspect"
kind_query Failed = codes "status=failed"
kind_query Left = codes "status=left"

abbrev pub has_kind_query : List ℕ → StatusKind → Bool
has_kind_query query kind = bytes_eq query (kind_query kind)

-- whether a status is of a kind
abbrev pub is_kind_of : StatusKind → Status → Bool
is_kind_of Alive status.Alive = true
is_kind_of Alive (status.Suspect accuser) = false
is_kind_of Alive status.Failed = false
is_kind_of Alive status.Left = false
is_kind_of Suspect status.Alive = false
is_kind_of Suspect (status.Suspect accuser) = true
is_kind_of Suspect status.Failed = false
is_kind_of Suspect status.Left = false
is_kind_of Failed status.Alive = false
is_kind_of Failed (status.Suspect accuser) = false
is_kind_of Failed status.Failed = true
is_kind_of Failed status.Left = false
is_kind_of Left status.Alive = false
is_kind_of Left (status.Suspect accuser) = false
is_kind_of Left status.Failed = false
is_kind_of Left status.Left = true

-- the route of a path that takes no query
abbrev pub plain_route : Route → List ℕ → Result Route RouteFault
plain_route route query = if length query == 0 then Ok route else Err NoQuery

-- the route of the members: all, or those of one status
abbrev pub kind_route : Option StatusKind → Result Route RouteFault
kind_route None = Err BadStatus
kind_route (Some kind) = Ok (Members (Some kind))

abbrev pub members_route : List ℕ → Result Route RouteFault
members_route query =
    if length query == 0 then Ok (Members None) else kind_route (find (has_kind_query query) status_kinds)

-- the route of a member, whose name stands in the path
abbrev pub named_route : Result (List ℕ) NameFault → List ℕ → Result Route RouteFault
named_route (Ok name) query = plain_route (Member name) query
named_route (Err fault) query = Err NoName

abbrev pub member_route : List ℕ → List ℕ → Result Route RouteFault
member_route name query = named_route (name_of_text name) query

-- the route of what the recording tells of a member, whose name stands in the path
abbrev pub told_route : Result (List ℕ) NameFault → List ℕ → Result Route RouteFault
told_route (Ok name) query = plain_route (Explain name) query
told_route (Err fault) query = Err NoName

abbrev pub explain_route : List ℕ → List ℕ → Result Route RouteFault
explain_route name query = told_route (name_of_text name) query

-- the route of the changes
abbrev pub asked_route : Option Wait → Result Route RouteFault
asked_route None = Err BadChanges
asked_route (Some wait) = Ok (Changes wait)

abbrev pub changes_route : List ℕ → Result Route RouteFault
changes_route query = asked_route (changes_asked query)

-- the route of the targets: at the port of the node's own status server, or at one that is asked for
abbrev pub port_route : Option ℕ → Result Route RouteFault
port_route None = Err BadPort
port_route (Some port) = Ok (Targets (Some port))

abbrev pub targets_route : List ℕ → Result Route RouteFault
targets_route query = if length query == 0 then Ok (Targets None) else port_route (port_asked query)

-- the route of a place with a query; one takes POST alone, whatever the query
abbrev pub place_route : Place → List ℕ → Result Route RouteFault
place_route variants.Page query = plain_route Page query
place_route variants.Members query = members_route query
place_route variants.Health query = plain_route Health query
place_route variants.Changes query = changes_route query
place_route variants.Config query = plain_route Config query
place_route variants.Metrics query = plain_route Metrics query
place_route variants.Targets query = targets_route query
place_route variants.Leave query = Err PostOnly

-- the route of a path with a query
abbrev pub found_route : Option Place → List ℕ → Result Route RouteFault
found_route None query = Err UnknownPath
found_route (Some place) query = place_route place query

abbrev pub route_unless_explained : Option (List ℕ) → List ℕ → List ℕ → Result Route RouteFault
route_unless_explained None path query = found_route (place_at path) query
route_unless_explained (Some name) path query = explain_route name query

abbrev pub route_unless_member : Option (List ℕ) → List ℕ → List ℕ → Result Route RouteFault
route_unless_member None path query = route_unless_explained (explained_name path) path query
route_unless_member (Some name) path query = member_route name query

abbrev pub path_route : List ℕ → List ℕ → Result Route RouteFault
path_route path query = route_unless_member (member_name path) path query

-- the route of a request for a path and a query; an empty query is as none
unfoldable pub route_of : List ℕ → Option (List ℕ) → Result Route RouteFault
route_of path query = path_route path (unwrap_or query [])

-- what a request waits for: only one for changes waits
abbrev pub wait_in : Result Route RouteFault → Option Wait
wait_in (Ok (Changes wait)) = Some wait
wait_in _ = None

abbrev pub wait_of : List ℕ → Option (List ℕ) → Option Wait
wait_of path query = wait_in (route_of path query)
