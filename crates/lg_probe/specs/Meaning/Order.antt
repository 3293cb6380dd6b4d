-- The order in which members are probed: cycles, in each of which each member is chosen once (SWIM, section 4.3,
-- which calls a cycle a traversal of the list of members).
use Rattle.std.specs.Prelude.{◌≡◌, ◌≤◌, ◌+◌, ◌-◌, ◌*◌, true, take, drop}
use Rattle.std.specs.Prelude.{ℕ, ◌%◌, Bool, not, List, [], ◌∷◌}
use Rattle.std.specs.Prelude.{◌++◌, length, filter, if◌then◌else◌}
use Rattle.std.specs.Prelude.{Option, Some, None, slice_get}
use Rattle.std.specs.List.{list_all}
use Rattle.std.specs.Option.{option_to_list}
use Rattle.lg_rules.specs.Meaning.Rows.{name_cmp, is_among, put_key, in_order, without_row}

-- these names without one
abbrev pub without : List ℕ → List (List ℕ) → List (List ℕ)
without n names = without_row name_cmp (λ m. m) n names

-- the name that a random word chooses among these: the one whose index, from 0, is the word modulo their number
abbrev pub candidate : ℕ → List (List ℕ) → Option (List ℕ)
candidate word names = slice_get names (word % length names)

-- the candidates: the names that may be chosen, if these were chosen in the cycle already
abbrev pub candidates : List (List ℕ) → List (List ℕ) → List (List ℕ)
candidates names cycle = filter (λ n. not (is_among name_cmp n cycle)) names

-- whether no name may be chosen: each was chosen in the cycle already
abbrev pub is_over : List (List ℕ) → List (List ℕ) → Bool
is_over names cycle = list_all (λ n. is_among name_cmp n cycle) names

-- The cycle of the next choice, as the names that were chosen in it before that choice. If no name may be chosen, a
-- new cycle begins, and only then.
abbrev pub current_cycle : List (List ℕ) → List (List ℕ) → List (List ℕ)
current_cycle names cycle = if is_over names cycle then [] else cycle

-- whom a word chooses, and the cycle once that one is chosen
abbrev pub choice : List (List ℕ) → List (List ℕ) → ℕ → Option (List ℕ)
choice names cycle word = candidate word (candidates names (current_cycle names cycle))

abbrev pub next_cycle : List (List ℕ) → List (List ℕ) → ℕ → List (List ℕ)
next_cycle names cycle word = option_to_list (choice names cycle word) ++ current_cycle names cycle

-- what happens to an order: a member joins or leaves, one is chosen by a word, or one is forgotten
pub data OrderFact : Type 0 where
  Joined : List ℕ → OrderFact
  Left : List ℕ → OrderFact
  Chose : ℕ → OrderFact
  Forgot : List ℕ → OrderFact

-- A past has the latest fact first. These are the names that have joined, and neither left nor were forgotten since, in
-- the order of names.
abbrev pub names_after : List OrderFact → List (List ℕ)
names_after [] = []
names_after (Joined n ∷ past) = put_key name_cmp n (names_after past)
names_after (Left n ∷ past) = without n (names_after past)
names_after (Chose word ∷ past) = names_after past
names_after (Forgot n ∷ past) = without n (names_after past)

-- The names chosen in the current cycle, the latest first. The cycle began with the last choice that found no
-- candidate, and the name that it chose is among them. A name that is forgotten counts as chosen no longer: if it joins
-- again, it is a candidate at once.
abbrev pub cycle_after : List OrderFact → List (List ℕ)
cycle_after [] = []
cycle_after (Joined n ∷ past) = cycle_after past
cycle_after (Left n ∷ past) = cycle_after past
cycle_after (Chose word ∷ past) = next_cycle (names_after past) (cycle_after past) word
cycle_after (Forgot n ∷ past) = without n (cycle_after past)

-- whom a word chooses after a past
abbrev pub choice_after : List OrderFact → ℕ → Option (List ℕ)
choice_after past word = choice (names_after past) (cycle_after past) word

-- whom words choose one after another, after a past
abbrev pub choices_after : List OrderFact → List ℕ → List (List ℕ)
choices_after past [] = []
choices_after past (word ∷ words) =
    option_to_list (choice_after past word) ++ choices_after (Chose word ∷ past) words

-- a past with these names joining after it
abbrev pub then_joined : List (List ℕ) → List OrderFact → List OrderFact
then_joined [] past = past
then_joined (n ∷ names) past = then_joined names (Joined n ∷ past)

-- whom words choose, one after another, of these names
abbrev pub picks : List (List ℕ) → List ℕ → List (List ℕ)
picks names words = choices_after (then_joined names []) words

-- How many choices in a row always choose each of p names, while the names stay the same: 2p - 1.
abbrev pub window : List (List ℕ) → ℕ
window names = 2 * length names - 1

-- from each index on at which a whole window of words is left, the choices of that window have each name
abbrev pub EachInWindows : List (List ℕ) → List ℕ → List (List ℕ) → Type 0
EachInWindows names words chosen =
    (name : List ℕ) (i : ℕ) → is_among name_cmp name names ≡ true → i + window names ≤ length words
    → is_among name_cmp name (take (window names) (drop i chosen)) ≡ true

-- the names that ever joined, and weren't forgotten since, in the order of names
abbrev pub ever_joined : List OrderFact → List (List ℕ)
ever_joined [] = []
ever_joined (Joined n ∷ past) = put_key name_cmp n (ever_joined past)
ever_joined (Left n ∷ past) = ever_joined past
ever_joined (Chose word ∷ past) = ever_joined past
ever_joined (Forgot n ∷ past) = without n (ever_joined past)

-- What an order holds: the names that have joined and not left, and those chosen in the current cycle. Each list is
-- in the order of names.
pub record OrderValue : Type 0 where
  pub names : List (List ℕ)
  pub chosen : List (List ℕ)

abbrev pub order_after : List OrderFact → OrderValue
order_after past = record { names = names_after past; chosen = in_order name_cmp (cycle_after past) }

abbrev pub put_choice : Option (List ℕ) → List (List ℕ) → List (List ℕ)
put_choice None cycle = cycle
put_choice (Some n) cycle = put_key name_cmp n cycle

-- an order after one more fact
abbrev pub order_with : OrderValue → OrderFact → OrderValue
order_with o (Joined n) = record { names = put_key name_cmp n o.names; chosen = o.chosen }
order_with o (Left n) = record { names = without n o.names; chosen = o.chosen }
order_with o (Chose word) =
    let chosen = put_choice (choice o.names o.chosen word) (current_cycle o.names o.chosen) in
    record { names = o.names; chosen = chosen }
order_with o (Forgot n) = record { names = without n o.names; chosen = without n o.chosen }

-- the names that an order knows: those that have joined and not left, and those chosen in the current cycle
abbrev pub known_names : OrderValue → List (List ℕ)
known_names o = in_order name_cmp (o.chosen ++ o.names)
