-- Worked routes and waits.
use Rattle.std.specs.Prelude.{⊤, ◌≡◌, ℕ, List, [], Option, Some, None, Ok, Err, codes, refl}
use Rattle.lg_http.specs.declared.site.Wait.{Wait}
use Rattle.lg_text.specs.Meaning.Cutting.{before, behind}
use Rattle.lg_answers.specs.declared.reason.RouteFault.{RouteFault}
use Rattle.lg_answers.specs.declared.reason.RouteFault.TheVariants.{UnknownPath, NoName, NoQuery, BadStatus, BadChanges}
use Rattle.lg_answers.specs.declared.reason.RouteFault.TheVariants.{BadPort, PostOnly}
use Rattle.lg_answers.specs.declared.route.Route.{Route}
use Rattle.lg_answers.specs.declared.route.Route.TheVariants.{Page, Members, Member, Health, Changes, Config, Metrics}
use Rattle.lg_answers.specs.declared.route.Route.TheVariants.{Targets, Explain}
use Rattle.lg_answers.specs.declared.route.StatusKind.TheVariants.{Suspect}
use Rattle.lg_answers.specs.Meaning.Queries.{changes_asked, pair_said, port_asked, two_pairs_said}
use Rattle.lg_answers.specs.Meaning.Queries.{value_said}
use Rattle.lg_answers.specs.Meaning.Routes.{route_of, wait_of}

-- what the rows have to unfold
unfoldable by_routing : ⊤
unfolding before behind changes_asked pair_said port_asked route_of two_pairs_said value_said
by_routing = tt

abbrev is_route : List ℕ → Option (List ℕ) → Route → Type 0
is_route path query route = route_of path query ≡ Ok route

abbrev is_no_route : List ℕ → Option (List ℕ) → RouteFault → Type 0
is_no_route path query fault = route_of path query ≡ Err fault

abbrev waiting : ℕ → ℕ → Wait
waiting after wait_ms = record { after = after; wait_ms = wait_ms }

abbrev waits_for : List ℕ → Option (List ℕ) → Option Wait → Type 0
waits_for path query wait = wait_of path query ≡ wait

abbrev asking : ℕ → ℕ → Route
asking after wait_ms = Changes (waiting after wait_ms)

the_page : is_route (codes "/") None Page
unfolding by_routing
the_page = refl

all_members : is_route (codes "/v1/members") None (Members None)
unfolding by_routing
all_members = refl

those_suspected : is_route (codes "/v1/members") (Some (codes "status=suspect")) (Members (Some Suspect))
unfolding by_routing
those_suspected = refl

one_member : is_route (codes "/v1/members/b-2.example") None (Member (codes "b-2.example"))
unfolding by_routing
one_member = refl

one_explained : is_route (codes "/v1/explain/b-2.example") None (Explain (codes "b-2.example"))
unfolding by_routing
one_explained = refl

the_health : is_route (codes "/v1/health") (Some []) Health
unfolding by_routing
the_health = refl

the_metrics : is_route (codes "/metrics") None Metrics
unfolding by_routing
the_metrics = refl

the_config : is_route (codes "/v1/config") None Config
unfolding by_routing
the_config = refl

the_targets :
    is_route (codes "/v1/prometheus") None (Targets None)
    × is_route (codes "/v1/prometheus") (Some (codes "port=9100")) (Targets (Some 9100))
unfolding by_routing
the_targets = (refl, refl)

all_changes_asked : is_route (codes "/v1/changes") None (asking 0 0)
unfolding by_routing
all_changes_asked = refl

changes_behind_a_version : is_route (codes "/v1/changes") (Some (codes "after=41")) (asking 41 0)
unfolding by_routing
changes_behind_a_version = refl

changes_waited_for : is_route (codes "/v1/changes") (Some (codes "wait_ms=30000&after=41")) (asking 41 30000)
unfolding by_routing
changes_waited_for = refl

-- a path is whole, and its case counts
unknown_paths :
    is_no_route (codes "/v1/member") None UnknownPath × is_no_route (codes "/v1/health/") None UnknownPath
    × is_no_route (codes "/V1/health") None UnknownPath × is_no_route [] None UnknownPath
    × is_no_route (codes "/v1/explain") None UnknownPath
unfolding by_routing
unknown_paths = (refl, refl, refl, refl, refl)

-- GET and HEAD have no route to a path that takes POST alone
post_only :
    is_no_route (codes "/v1/leave") None PostOnly × is_no_route (codes "/v1/leave") (Some (codes "a=1")) PostOnly
unfolding by_routing
post_only = (refl, refl)

no_names :
    is_no_route (codes "/v1/members/") None NoName × is_no_route (codes "/v1/members/b%2D2") None NoName
    × is_no_route (codes "/v1/members/a/b") None NoName
    × is_no_route (codes "/v1/members/123456789012345678901234567890123") None NoName
    × is_no_route (codes "/v1/explain/") None NoName × is_no_route (codes "/v1/explain/a/b") None NoName
unfolding by_routing
no_names = (refl, refl, refl, refl, refl, refl)

no_queries :
    is_no_route (codes "/metrics") (Some (codes "a=1")) NoQuery
    × is_no_route (codes "/v1/members/b") (Some (codes "status=alive")) NoQuery
    × is_no_route (codes "/v1/explain/b") (Some (codes "all")) NoQuery
unfolding by_routing
no_queries = (refl, refl, refl)

bad_statuses :
    is_no_route (codes "/v1/members") (Some (codes "status=dead")) BadStatus
    × is_no_route (codes "/v1/members") (Some (codes "alive")) BadStatus
unfolding by_routing
bad_statuses = (refl, refl)

-- no port, no number, another key, and a second pair
bad_ports :
    is_no_route (codes "/v1/prometheus") (Some (codes "port=0")) BadPort
    × is_no_route (codes "/v1/prometheus") (Some (codes "port=65536")) BadPort
    × is_no_route (codes "/v1/prometheus") (Some (codes "port")) BadPort
    × is_no_route (codes "/v1/prometheus") (Some (codes "ports=9100")) BadPort
    × is_no_route (codes "/v1/prometheus") (Some (codes "port=9100&port=9100")) BadPort
unfolding by_routing
bad_ports = (refl, refl, refl, refl, refl)

-- a wait beyond the limit, a key twice, an unknown key, a sign, a third pair and an empty one
bad_changes :
    is_no_route (codes "/v1/changes") (Some (codes "wait_ms=30001")) BadChanges
    × is_no_route (codes "/v1/changes") (Some (codes "after=1&after=2")) BadChanges
    × is_no_route (codes "/v1/changes") (Some (codes "since=1")) BadChanges
    × is_no_route (codes "/v1/changes") (Some (codes "after=-1")) BadChanges
    × is_no_route (codes "/v1/changes") (Some (codes "after=1&wait_ms=2&x=3")) BadChanges
    × is_no_route (codes "/v1/changes") (Some (codes "after=1&")) BadChanges
unfolding by_routing
bad_changes = (refl, refl, refl, refl, refl, refl)

-- only a request for changes waits
waits :
    waits_for (codes "/v1/changes") (Some (codes "after=41&wait_ms=30000")) (Some (waiting 41 30000))
    × waits_for (codes "/v1/changes") None (Some (waiting 0 0)) × waits_for (codes "/v1/members") None None
    × waits_for (codes "/v1/changes") (Some (codes "wait_ms=30001")) None
    × waits_for (codes "/v1/explain/b") None None
unfolding by_routing
waits = (refl, refl, refl, refl, refl)
