-- Timers, and the order in which they fire (this project's choice).
use Rattle.std.specs.Prelude.{
  ℕ,
  Bool,
  true,
  false,
  not,
  ◌&&◌,
  List,
  [],
  ◌∷◌,
  filter,
  Option,
  Some,
  None,
  nat_le,
}
use Rattle.std.specs.List.{list_any}
use Rattle.std.specs.declared.cmp.Ordering.{Ordering}
use Rattle.lg_rules.specs.Meaning.Rows.{name_cmp, is_same, put_row}
use Rattle.lg_timers.specs.declared.timer.Timer.{Timer}
use Rattle.lg_timers.specs.declared.timer.TimerId.{TimerId}
use Rattle.lg_timers.specs.declared.timer.TimerId.TheVariants.{
  RoundEnd,
  Suspicion,
  Direct,
  RelayNack,
  RelayEnd,
  RoundStart,
  Forget,
  Gossip,
}

-- the kind of a timer as a number
abbrev pub kind_number : TimerId → ℕ
kind_number RoundEnd = 1
kind_number (Suspicion member) = 2
kind_number Direct = 3
kind_number (RelayNack number) = 4
kind_number (RelayEnd number) = 5
kind_number RoundStart = 6
kind_number (Forget member) = 7
kind_number Gossip = 8

-- whom a timer is about: the bytes of its member's name, or its relay's number; nothing for the timers of a round and
-- for that of gossip
abbrev pub subject_of : TimerId → List ℕ
subject_of RoundEnd = []
subject_of (Suspicion member) = member
subject_of Direct = []
subject_of (RelayNack number) = number ∷ []
subject_of (RelayEnd number) = number ∷ []
subject_of RoundStart = []
subject_of (Forget member) = member
subject_of Gossip = []

-- an id as a list of numbers
abbrev pub id_key : TimerId → List ℕ
id_key id = kind_number id ∷ subject_of id

-- A timer as a list of numbers: its deadline, and then its id. Timers are ordered by these lists, number by number.
abbrev pub timer_key : Timer → List ℕ
timer_key t = t.deadline ∷ id_key t.id

abbrev pub timer_cmp : Timer → Timer → Ordering
timer_cmp s t = name_cmp (timer_key s) (timer_key t)

-- whether a timer has this id
abbrev pub has_id : TimerId → Timer → Bool
has_id id t = is_same name_cmp (id_key t.id) (id_key id)

-- whether a timer with this id is set
abbrev pub is_set : TimerId → List Timer → Bool
is_set id timers = list_any (has_id id) timers

-- whether no two timers have the same id
abbrev pub have_distinct_ids : List Timer → Bool
have_distinct_ids [] = true
have_distinct_ids (t ∷ timers) = not (is_set t.id timers) && have_distinct_ids timers

-- timers in the order in which they fire, with one more at its place in that order
abbrev pub with_timer : Timer → List Timer → List Timer
with_timer t timers = put_row name_cmp timer_key t timers

-- the timers with other ids
abbrev pub without_timer : TimerId → List Timer → List Timer
without_timer id timers = filter (λ t. not (has_id id t)) timers

-- these timers in the order in which they fire
unfoldable pub in_turn : List Timer → List Timer
in_turn [] = []
in_turn (t ∷ timers) = with_timer t (in_turn timers)

-- of timers in the order in which they fire, the first, if there is any
abbrev pub least_of : List Timer → Option Timer
least_of [] = None
least_of (t ∷ timers) = Some t

-- whether a timer is due: its deadline isn't after the moment
abbrev pub is_due : ℕ → Timer → Bool
is_due now t = nat_le t.deadline now

-- the first of the timers that are due, if any is
abbrev pub due_of : ℕ → List Timer → Option Timer
due_of now timers = least_of (filter (is_due now) timers)

-- whether a timer forgets a member; and of timers in the order in which they fire, the first that does, if any is set
abbrev pub is_forget : TimerId → Bool
is_forget (Forget member) = true
is_forget _ = false

abbrev pub first_forget : List Timer → Option Timer
first_forget timers = least_of (filter (λ t. is_forget t.id) timers)

-- the timers that are left once this one was taken out, or all of them if none was
abbrev pub timers_left : Option Timer → List Timer → List Timer
timers_left None timers = timers
timers_left (Some t) timers = without_timer t.id timers
