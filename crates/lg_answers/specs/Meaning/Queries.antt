-- What a query asks for (this project's choice).
use Rattle.std.specs.Prelude.{ℕ, ◌==◌, List, length, codes, unwrap_or}
use Rattle.std.specs.Prelude.{Option, Some, None, if◌then◌else◌}
use Rattle.std.specs.Str.{bytes_eq}
use Rattle.lg_http.specs.declared.site.Wait.{Wait}
use Rattle.lg_text.specs.Meaning.Numbers.{number_of, number_within, port_of}
use Rattle.lg_answers.specs.declared.query.Said.{Said}
use Rattle.lg_text.specs.Meaning.Steps.{◌>>=◌}
use Rattle.lg_text.specs.Meaning.Cutting.{before, behind}

-- the longest wait for a change, in milliseconds
abbrev pub most_wait_ms : ℕ
most_wait_ms = 30000

-- the bytes at which a query and a pair are cut: `&` and `=`
abbrev pub ampersand : ℕ
ampersand = 38

abbrev pub equals_sign : ℕ
equals_sign = 61

-- a number, unless one was said before
abbrev pub first_of_two : Option ℕ → Option ℕ → Option ℕ
first_of_two None number = number
first_of_two (Some n) number = None

-- What is said once a key has this value. There are two keys, each may have a value once, and a wait has a limit.
abbrev pub with_after : Said → List ℕ → Option Said
with_after said value = do
  after ← first_of_two said.after (number_of value)
  Some (record said { after = Some after })

abbrev pub with_wait : Said → List ℕ → Option Said
with_wait said value = do
  wait_ms ← first_of_two said.wait_ms (number_within 0 most_wait_ms value)
  Some (record said { wait_ms = Some wait_ms })

unfoldable pub value_said : Said → List ℕ → List ℕ → Option Said
value_said said key value =
    if bytes_eq key (codes "after") then with_after said value
    else if bytes_eq key (codes "wait_ms") then with_wait said value
    else None

-- the same for a pair, cut at its first `=`
unfoldable pub pair_said : Said → List ℕ → Option Said
pair_said said pair = do
  value ← behind equals_sign pair
  value_said said (before equals_sign pair) value

abbrev pub nothing_said : Said
nothing_said = record { after = None; wait_ms = None }

-- What a query says, cut at its first `&` into one pair or two. A third pair would belong to the value of the second,
-- which then is no number.
abbrev pub next_said : Said → Option (List ℕ) → Option Said
next_said said None = Some said
next_said said (Some pair) = pair_said said pair

unfoldable pub two_pairs_said : List ℕ → Option Said
two_pairs_said query = do
  said ← pair_said nothing_said (before ampersand query)
  next_said said (behind ampersand query)

abbrev pub pairs_said : List ℕ → Option Said
pairs_said query = if length query == 0 then Some nothing_said else two_pairs_said query

-- the changes that a query asks for, and how long to wait for one; what isn't said is 0
abbrev pub changes_said : Said → Wait
changes_said said = record { after = unwrap_or said.after 0; wait_ms = unwrap_or said.wait_ms 0 }

unfoldable pub changes_asked : List ℕ → Option Wait
changes_asked query = do
  said ← pairs_said query
  Some (changes_said said)

-- the port that a query asks for: that of a pair whose key is `port`
abbrev pub port_in : Option (List ℕ) → Option ℕ
port_in value = do
  text ← value
  port_of text

unfoldable pub port_asked : List ℕ → Option ℕ
port_asked query =
    if bytes_eq (before equals_sign query) (codes "port") then port_in (behind equals_sign query) else None
