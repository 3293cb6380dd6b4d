-- Which bytes are an answer of HTTP/1.1 (RFC 9112, sections 4 to 6). The body's length is that of the one field
-- `content-length`. An answer with a transfer coding, or with no such field or several, is none (this project's
-- choice).
use Rattle.std.specs.Prelude.{◌≡◌, ℕ, ◌+◌, ◌<◌, ◌≤◌, Bool, List, [], ◌∷◌, ◌++◌, length, drop, map, codes}
use Rattle.std.specs.Prelude.{Option, Some, None, true, false, if◌then◌else◌}
use Rattle.std.specs.Str.{str_eq_ignore_ascii_case}
use Rattle.httparse.specs.Grammar.{ReadsResponse, ResponseHead, print_response, status_code}
use Rattle.httparse.specs.Spans.{name_and_value}
use Rattle.lg_text.specs.Meaning.Numbers.{number_of}
use Rattle.lg_client.specs.declared.heard.Heard.{Heard}
use Rattle.lg_client.specs.declared.heard.Heard.TheVariants.{Cut, Other, Whole}
use Rattle.lg_client.specs.declared.heard.Said.{Said}
use Rattle.lg_client.specs.declared.heard.Said.TheVariants.{Length, Nothing, Unclear}
use Rattle.lg_client.specs.Meaning.Questions.{is_code_of}

-- the most bytes of an answer, with its head
abbrev pub most_answer : ℕ
most_answer = 1048576

-- the most fields of its head
abbrev pub most_fields : ℕ
most_fields = 64

-- whether a name is that of a field that says how long the body is, or that it is coded
abbrev pub is_length : List ℕ → Bool
is_length name = str_eq_ignore_ascii_case name (codes "content-length")

abbrev pub is_coding : List ℕ → Bool
is_coding name = str_eq_ignore_ascii_case name (codes "transfer-encoding")

-- a length, if the other fields say nothing
abbrev pub one_length : Option ℕ → Said → Said
one_length (Some n) Nothing = Length n
one_length (Some n) (Length m) = Unclear
one_length (Some n) Unclear = Unclear
one_length None others = Unclear

-- what a field and others say of the length of the body
abbrev pub with_field : List ℕ → List ℕ → Said → Said
with_field name value others =
    if is_coding name then Unclear else if is_length name then one_length (number_of value) others else others

-- what fields say of it, each given by its name and its value
abbrev pub end_said : List (List ℕ × List ℕ) → Said
end_said [] = Nothing
end_said (field ∷ others) = with_field field.0 field.1 (end_said others)

-- where a head ends
abbrev pub end_of_head : ResponseHead → ℕ
end_of_head head = length (print_response head)

-- where a body ends that begins there, if its length is said
abbrev pub end_by : ℕ → Said → Option ℕ
end_by start Nothing = None
end_by start (Length n) = Some (start + n)
end_by start Unclear = None

-- where the body behind a head ends, if the head says so
abbrev pub body_end : ResponseHead → Option ℕ
body_end head = end_by (end_of_head head) (end_said (map name_and_value head.fields))

-- the bytes are a whole answer with this status code and this body, and nothing stands behind it
pub record IsHttpAnswer (bytes : List ℕ) (code : ℕ) (body : List ℕ) : Type 0 where
  pub head : ResponseHead
  pub reads : ReadsResponse bytes head body
  pub few_fields : length head.fields ≤ most_fields
  pub is : code ≡ status_code head
  pub ends : body_end head ≡ Some (length bytes)
  pub few : length bytes ≤ most_answer

-- the bytes are no answer yet, and an answer may have more
pub record IsCutShort (bytes : List ℕ) : Type 0 where
  pub none_yet : (code : ℕ) (body : List ℕ) → ¬ (IsHttpAnswer bytes code body)
  pub room : length bytes < most_answer

-- the bytes are no answer, whatever follows them
abbrev pub IsOther : List ℕ → Type 0
IsOther bytes = (more : List ℕ) (code : ℕ) (body : List ℕ) → ¬ (IsHttpAnswer (bytes ++ more) code body)

-- which of these the bytes are
abbrev pub Hears : List ℕ → Heard → Type 0
Hears bytes (Whole code start) = (start ≤ length bytes) × IsHttpAnswer bytes code (drop start bytes)
Hears bytes Cut = IsCutShort bytes
Hears bytes Other = IsOther bytes

-- some answer with one of these status codes has this body
pub record IsAnswerBody (allowed : List ℕ) (body : List ℕ) : Type 0 where
  pub bytes : List ℕ
  pub code : ℕ
  pub is : IsHttpAnswer bytes code body
  pub allows : is_code_of allowed code ≡ true

-- the bytes are an answer with another status code than these
pub record IsDisallowed (allowed : List ℕ) (bytes : List ℕ) : Type 0 where
  pub code : ℕ
  pub body : List ℕ
  pub is : IsHttpAnswer bytes code body
  pub disallows : is_code_of allowed code ≡ false
