-- What a node says, as lines (this project's choice). The lines of records are those of `lg_lines`.
use Rattle.std.specs.Prelude.{ℕ, Bool, ◌&&◌, not, List, [], ◌∷◌, ◌++◌, codes, decimal, if◌then◌else◌}
use Rattle.std.specs.List.{flat_map}
use Rattle.lg_text.specs.Meaning.Lines.{newline}
use Rattle.lg_lines.specs.Meaning.Records.{blank, table_text}
use Rattle.lg_client.specs.declared.changes.Altered.{Altered}
use Rattle.lg_client.specs.declared.changes.Altered.TheVariants.{Forgotten, Recorded}
use Rattle.lg_client.specs.declared.changes.Change.{Change}
use Rattle.lg_client.specs.declared.health.Health.{Health}
use Rattle.lg_client.specs.Meaning.Changes.{NewsSaid}

-- KEY VALUE
unfoldable pub pair_line : List ℕ → List ℕ → List ℕ
pair_line key value = key ++ blank ++ value ++ newline

abbrev pub number_pair_line : List ℕ → ℕ → List ℕ
number_pair_line key number = pair_line key (decimal number)

abbrev pub truth_shown : Bool → List ℕ
truth_shown truth = if truth then codes "true" else codes "false"

-- A health, a line for each field: the name, the score and the incarnation; how many members are live, and how many are
-- known; whether the node was ousted, and the times.
abbrev pub standing_lines : Health → List ℕ
standing_lines h =
    pair_line (codes "name") h.name
    ++ number_pair_line (codes "score") h.score
    ++ number_pair_line (codes "incarnation") h.incarnation

abbrev pub count_lines : Health → List ℕ
count_lines h = number_pair_line (codes "live") h.live ++ number_pair_line (codes "known") h.known

abbrev pub time_lines : Health → List ℕ
time_lines h =
    pair_line (codes "ousted") (truth_shown h.ousted)
    ++ number_pair_line (codes "uptime_ms") h.uptime_ms
    ++ number_pair_line (codes "stood_still_ms") h.stood_still_ms

unfoldable pub health_lines : Health → List ℕ
health_lines h = standing_lines h ++ count_lines h ++ time_lines h

-- what a change says of a member: the line of its record, or `forgotten NAME`
abbrev pub altered_line : Altered → List ℕ
altered_line (Recorded member) = table_text (member ∷ [])
altered_line (Forgotten name) = pair_line (codes "forgotten") name

-- a change: its moment before this line
abbrev pub change_line : Change → List ℕ
change_line change = decimal change.moment_ms ++ blank ++ altered_line change.altered

-- what stands before changes that stand for others, but not in the first answer
abbrev pub missed_text : Bool → List ℕ
missed_text missed = if missed then codes "missed" ++ newline else []

-- the changes of an answer; of none nothing
abbrev pub change_lines : List ℕ → List Change → List ℕ
change_lines front [] = []
change_lines front (change ∷ changes) = front ++ flat_map change_line (change ∷ changes)

unfoldable pub news_text : Bool → NewsSaid → List ℕ
news_text is_first news = change_lines (missed_text (news.missed && not is_first)) news.changes

-- a body as it came, as a line
abbrev pub body_line : List ℕ → List ℕ
body_line body = body ++ newline
