-- The paths that there are (this project's choice).
use Rattle.std.specs.Prelude.{ℕ, Bool, List, [], ◌∷◌, take, drop, length, codes}
use Rattle.std.specs.Prelude.{Option, Some, None, find, if◌then◌else◌}
use Rattle.std.specs.Str.{bytes_eq}
use Rattle.lg_answers.specs.declared.place.Place.{Place}
use Rattle.lg_answers.specs.declared.place.Place.TheVariants.{Page, Members, Health, Changes, Config, Metrics, Targets}
use Rattle.lg_answers.specs.declared.place.Place.TheVariants.{Leave}

-- the paths but for those with the name of a member
abbrev pub place_path : Place → List ℕ
place_path Page = codes "/"
place_path Members = codes "/v1/members"
place_path Health = codes "/v1/health"
place_path Changes = codes "/v1/changes"
place_path Config = codes "/v1/config"
place_path Metrics = codes "/metrics"
place_path Targets = codes "/v1/prometheus"
place_path Leave = codes "/v1/leave"

abbrev pub places : List Place
places = Page ∷ Members ∷ Health ∷ Changes ∷ Config ∷ Metrics ∷ Targets ∷ Leave ∷ []

-- the place with a path, if there is one
abbrev pub has_path : List ℕ → Place → Bool
has_path path place = bytes_eq path (place_path place)

abbrev pub place_at : List ℕ → Option Place
place_at path = find (has_path path) places

-- what stands before the name of a member in the path of one, and in the path of what its recording tells
abbrev pub members_front : List ℕ
members_front = codes "/v1/members/"

abbrev pub explain_front : List ℕ
explain_front = codes "/v1/explain/"

-- what a path has behind a front, if it begins so
abbrev pub name_behind : List ℕ → List ℕ → Option (List ℕ)
name_behind front path =
    if bytes_eq (take (length front) path) front
    then Some (drop (length front) path)
    else None

abbrev pub member_name : List ℕ → Option (List ℕ)
member_name path = name_behind members_front path

abbrev pub explained_name : List ℕ → Option (List ℕ)
explained_name path = name_behind explain_front path
