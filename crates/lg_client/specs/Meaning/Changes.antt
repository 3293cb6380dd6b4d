-- What an answer says of changes (this project's choice).
use Rattle.std.specs.Prelude.{ℕ, Bool, List, Option, Some, codes, option_and_then, option_map, if◌then◌else◌}
use Rattle.std.specs.Str.{bytes_eq}
use Rattle.serde_json.specs.Data.{Data}
use Rattle.lg_text.specs.Meaning.Steps.{◌>>=◌}
use Rattle.lg_client.specs.declared.changes.Altered.{Altered}
use Rattle.lg_client.specs.declared.changes.Altered.TheVariants.{Forgotten, Recorded}
use Rattle.lg_client.specs.declared.changes.Change.{Change}
use Rattle.lg_client.specs.Meaning.Fields.{each_read, name_at_key, natural_at_key, rows_at_key, text_at_key}
use Rattle.lg_client.specs.Meaning.Fields.{truth_at_key}
use Rattle.lg_client.specs.Meaning.Members.{member_said}

-- how many events the node's members are after, whether it no longer has all changes that were asked for, and the
-- changes, the oldest first
pub record NewsSaid : Type 0 where
  pub version : ℕ
  pub missed : Bool
  pub changes : List Change

-- What a change with this status says of a member: that the node forgot it, and then only its name is read; or else its
-- record.
abbrev pub altered_by : List ℕ → Data → Option Altered
altered_by word change =
    if bytes_eq word (codes "forgotten") then option_map Forgotten (name_at_key (codes "name") change)
    else option_map Recorded (member_said change)

abbrev pub altered_said : Data → Option Altered
altered_said change = option_and_then (λ word. altered_by word change) (text_at_key (codes "status") change)

-- a change: its moment, and what it says of a member
unfoldable pub change_said : Data → Option Change
change_said change = do
  moment ← natural_at_key (codes "moment_ms") change
  altered ← altered_said change
  Some record { moment_ms = moment; altered = altered }

-- all of them; nothing if a part isn't what is documented
unfoldable pub news_said : Data → Option NewsSaid
news_said answer = do
  version ← natural_at_key (codes "version") answer
  missed ← truth_at_key (codes "missed") answer
  rows ← rows_at_key (codes "changes") answer
  changes ← each_read change_said rows
  Some record { version = version; missed = missed; changes = changes }
