-- The pages by which a member that joins learns the table of another (push-pull, anti-entropy).
use Rattle.std.specs.Prelude.{ℕ, Bool, true, ◌&&◌, List, filter, take, Option, Some, None}
use Rattle.std.specs.Ordering.{is_lt}
use Rattle.lg_rules.specs.declared.claim.Claim.{Claim}
use Rattle.lg_rules.specs.declared.version.Version.{Version}
use Rattle.lg_rules.specs.Meaning.Rows.{name_cmp}
use Rattle.lg_rules.specs.Meaning.Version.{most_claims_of, tells}

-- Whether a record comes after a name in the order of names. Each record does if no name is given.
abbrev pub is_behind : Option (List ℕ) → Claim → Bool
is_behind None r = true
is_behind (Some name) r = is_lt (name_cmp name r.name)

-- Whether a record can be on the pages after a name. An address that the version can't tell is passed over.
abbrev pub is_in_page : Version → Option (List ℕ) → Claim → Bool
is_in_page v after r = is_behind after r && tells v r.addr

-- The records of a page: of those of a table after a name, or of all if no name is given, the first six, or the first
-- twelve in version 3. Those whose address the version can't tell don't count.
abbrev pub page_of : Version → Option (List ℕ) → List Claim → List Claim
page_of v after rows = take (most_claims_of v) (filter (is_in_page v after) rows)
