-- The text that a body tells (this project's choice). It tells none if it isn't what is documented, also if it is
-- wanted as it came.
use Rattle.std.specs.Prelude.{ℕ, Bool, false, List, [], ◌∷◌, Option, Some, if◌then◌else◌}
use Rattle.serde_json.specs.Data.{Data}
use Rattle.lg_lines.specs.Meaning.Records.{table_text}
use Rattle.lg_text.specs.Meaning.Steps.{◌>>=◌}
use Rattle.lg_client.specs.declared.changes.Change.{Change}
use Rattle.lg_client.specs.declared.resource.Resource.{Resource}
use Rattle.lg_client.specs.declared.resource.Resource.TheVariants.{Health, Members}
use Rattle.lg_client.specs.Meaning.Changes.{NewsSaid, news_said}
use Rattle.lg_client.specs.Meaning.Fields.{json_of}
use Rattle.lg_client.specs.Meaning.Health.{health_said}
use Rattle.lg_client.specs.Meaning.Lines.{body_line, health_lines, news_text}
use Rattle.lg_client.specs.Meaning.Members.{members_of_answer}

-- what an answer tells: a text, and whether the node says that it was ousted
pub record AnswerText : Type 0 where
  pub text : List ℕ
  pub ousted : Bool

-- what an answer with changes tells: a text, and how many events the node's members are after
pub record NewsText : Type 0 where
  pub text : List ℕ
  pub version : ℕ

-- the lines that answer a question; members don't say whether the node was ousted
abbrev pub lines_said : Resource → Data → Option AnswerText
lines_said Members answer = do
  members ← members_of_answer answer
  Some record { text = table_text members; ousted = false }
lines_said Health answer = do
  health ← health_said answer
  Some record { text = health_lines health; ousted = health.ousted }

-- the lines, or the body as it came
abbrev pub text_shown : Bool → List ℕ → List ℕ → List ℕ
text_shown json body lines = if json then body_line body else lines

-- what a body tells that answers a question
unfoldable pub question_told : Resource → Bool → List ℕ → Option AnswerText
question_told resource json body = do
  answer ← json_of body
  told ← lines_said resource answer
  Some record { text = text_shown json body told.text; ousted = told.ousted }

-- the body of an answer with changes as it came; nothing if there are none
abbrev pub body_unless_none : List ℕ → List Change → List ℕ
body_unless_none body [] = []
body_unless_none body (change ∷ changes) = body_line body

-- the changes of an answer in lines, or its body
abbrev pub news_as_text : Bool → Bool → List ℕ → NewsSaid → List ℕ
news_as_text json is_first body news =
    if json then body_unless_none body news.changes else news_text is_first news

-- what a body with changes tells, by whether it is that of the first answer
unfoldable pub changes_told : Bool → Bool → List ℕ → Option NewsText
changes_told json is_first body = do
  answer ← json_of body
  news ← news_said answer
  Some record { text = news_as_text json is_first body news; version = news.version }
