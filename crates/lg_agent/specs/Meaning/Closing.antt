-- Which fault closing finds, and what is known of an agent that is closed.
use Rattle.std.specs.Prelude.{◌≡◌, ◌⊎◌, ℕ, ◌+◌, ◌<◌, ◌≤◌, ◌==◌, Bool, ◌||◌, not}
use Rattle.std.specs.Prelude.{nat_eq, nat_lt, if◌then◌else◌, ◌++◌, drop, reverse, true}
use Rattle.std.specs.Prelude.{List, [], ◌∷◌, length, Option, Some, None, Result, Ok, Err, option_map, All, Any}
use Rattle.std.specs.List.{count_by, prefix_len, sum_by, list_any, find, range_with_len}
use Rattle.std.specs.Option.{option_or}
use Rattle.std.specs.Cmp.Lexicographic.{pointwise}
use mathlib.Core.List.{IsPrefix}
use Rattle.lg_detector.specs.declared.event.Event.{Event}
use Rattle.lg_detector.specs.Support.State.{State}
use Rattle.lg_rules.specs.Meaning.Rows.{name_cmp, is_among}
use Rattle.lg_probe.specs.Meaning.Order.{window}
use Rattle.lg_detector.specs.Meaning.Log.{Log}
use Rattle.lg_detector.specs.Meaning.Probing.{others}
use Rattle.lg_detector.specs.Meaning.Window.{AreOthers}
use Rattle.lg_detector.specs.Meaning.Step.{is_accepted, log_of}
use Rattle.lg_history.specs.Meaning.History.{Entry, events, positions, Answered, IsLegal}
use Rattle.lg_history.specs.Meaning.Rest.{made_by, of_seat, StandsFor, IsRest}
use Rattle.lg_agent.specs.declared.refusal.CloseFault.{CloseFault}
use Rattle.lg_agent.specs.declared.refusal.CloseFault.TheVariants.{Missing, Foreign, Differs}
use Rattle.lg_agent.specs.Meaning.Values.{KeptValue, PassValue, own_name, all_events, count_of}

-- how many of these passes have this seat
abbrev pub times : List PassValue → ℕ → ℕ
times all place = count_by (λ s. s.seat == place) all

-- A pass doesn't belong here: it has another name, its seat isn't from 1 to `places`, or another pass has it as well.
abbrev pub is_foreign : List ℕ → ℕ → List PassValue → PassValue → Bool
is_foreign name places all s =
    not (pointwise nat_eq s.name name) || ((s.seat == 0) || (nat_lt places s.seat || nat_lt 1 (times all s.seat)))

-- no pass has the seat
abbrev pub is_missing : List PassValue → ℕ → Bool
is_missing all place = times all place == 0

-- the first index, from n on, at which two lists differ; one of them may end there
abbrev pub first_difference : ℕ → List ℕ → List ℕ → Option ℕ
first_difference n [] [] = None
first_difference n [] (y ∷ ys) = Some n
first_difference n (x ∷ xs) [] = Some n
first_difference n (x ∷ xs) (y ∷ ys) = if x == y then first_difference (n + 1) xs ys else Some n

-- how many of a pass's first positions are those of entries that were cut off, which are the first `base` ones
abbrev pub below : ℕ → List ℕ → ℕ
below base mine = prefix_len (λ n. nat_lt n base) mine

-- Where a pass's calls differ from the entries of its seat. Those that were cut off are compared by their number, the
-- others by their positions. The calls are counted from 0. If the numbers differ, it is the lesser of the two.
abbrev pub difference : KeptValue → PassValue → Option CloseFault
difference l s =
    let base = length l.past in
    let cut = of_seat l.cut s.seat in
    let calls = s.gone + below base s.mine in
    if calls == cut
    then option_map (λ i. Differs s.seat i)
    (first_difference calls (drop (below base s.mine) s.mine) (positions s.seat base l.history))
    else Some (Differs s.seat (if nat_lt calls cut then calls else cut))

abbrev pub difference_at : KeptValue → Option PassValue → Option CloseFault
difference_at l None = None
difference_at l (Some s) = difference l s

-- the first such difference, going through these seats
abbrev pub least_difference : KeptValue → List PassValue → List ℕ → Option CloseFault
least_difference l all [] = None
least_difference l all (p ∷ ps) =
    option_or (difference_at l (find (λ s. s.seat == p) all)) (least_difference l all ps)

-- The fault of closing: some pass is foreign; otherwise some seat has none; otherwise the least seat whose calls
-- differ.
abbrev pub close_fault : KeptValue → List PassValue → Option CloseFault
close_fault l all =
    if list_any (is_foreign (own_name (all_events l)) l.places all) all
    then Some Foreign
    else (if list_any (is_missing all) (range_with_len 1 l.places)
    then Some Missing
    else least_difference l all (range_with_len 1 l.places))

-- the fault as an error, if there is one
abbrev pub unless_fault : Option CloseFault → Result (Unit {0}) CloseFault
unless_fault None = Ok tt
unless_fault (Some fault) = Err fault

-- A ledger of a legal history, of which the first entries may have been cut off.
pub record IsLegalLedger (places : ℕ) (l : KeptValue) : Type 0 where
  pub places_are : l.places ≡ places
  pub rest : IsRest places l.past l.cut l.history
  pub base : StandsFor l.summary l.past

-- One of the passes has seen more events than there are. The fault is then a difference after its last call.
pub record SawMore (l : KeptValue) (fault : CloseFault) (s : PassValue) : Type 0 where
  pub more : count_of l < length s.seen
  pub behind : fault ≡ Differs s.seat (s.gone + length s.mine)

-- A closing is refused with this fault. There is a legal history by which it is the fault of closing. Or there is one
-- by which there is no fault, and one of the passes has seen more events than that history has.
pub record IsRefusedClosing (places : ℕ) (all : List PassValue) (fault : CloseFault) : Type 0 where
  pub ledger : KeptValue
  pub legal : IsLegalLedger places ledger
  pub found : (close_fault ledger all ≡ Some fault)
      ⊎ ((close_fault ledger all ≡ None) × Any (SawMore ledger fault) all)

-- whatever the history: some seat has none of the passes
abbrev pub LacksOne : ℕ → List PassValue → Type 0
LacksOne places all = (p : ℕ) × (0 < p) × (p ≤ places) × (times all p ≡ 0)

-- whatever the history: a pass has a seat that isn't from 1 to `places`, or one that another has as well
abbrev pub IsMisplaced : ℕ → List PassValue → PassValue → Type 0
IsMisplaced places all s = (s.seat ≡ 0) ⊎ (places < s.seat) ⊎ (1 < times all s.seat)

-- What is left of an agent: a summary of the entries that were cut off, if any were; how many these are; and the
-- other entries.
pub record ClosedValue : Type 0 where
  pub summary : Option State
  pub base : ℕ
  pub history : List Entry

-- what is left is the end of a list of entries whose events are accepted and whose replies are those of the definitions
pub record IsWell (c : ClosedValue) : Type 0 where
  pub past : List Event
  pub base : length past ≡ c.base
  pub summary : StandsFor c.summary past
  pub accepted : is_accepted (past ++ events c.history) ≡ true
  pub answered : Answered past c.history

-- Whom rounds chose between a list of events and a longer one that it begins (SWIM, section 4.3). If the others that
-- aren't gone are the same p names throughout, any 2p - 1 choices in a row have each of them. If there are none,
-- nobody is chosen.
pub record HasWindows (before whole : List Event) (names : List (List ℕ)) : Type 0 where
  pub each : (stretch : Log) (name : List ℕ) → log_of (reverse whole) ≡ stretch ++ log_of (reverse before)
      → AreOthers (others (log_of (reverse before))) stretch (log_of (reverse before))
      → is_among name_cmp name (others (log_of (reverse before))) ≡ true
      → window (others (log_of (reverse before))) ≤ length names → is_among name_cmp name names ≡ true
  pub none : (stretch : Log) → log_of (reverse whole) ≡ stretch ++ log_of (reverse before)
      → AreOthers [] stretch (log_of (reverse before)) → names ≡ []

-- A pass agrees with a whole history, of which the entries `gone` were cut off. It has the history's name and one of
-- its seats. As many of its calls were cut off as entries of its seat. Its other positions are those of its seat
-- among the entries that are left, and what it has seen begins the events.
pub record Agrees (places : ℕ) (gone h : List Entry) (s : PassValue) : Type 0 where
  pub name : s.name ≡ own_name (events (gone ++ h))
  pub low : 0 < s.seat
  pub high : s.seat ≤ places
  pub cut : s.gone + below (length gone) s.mine ≡ made_by s.seat gone
  pub mine : drop (below (length gone) s.mine) s.mine ≡ positions s.seat (length gone) h
  pub seen : IsPrefix s.seen (events (gone ++ h))

-- An agent is closed. There are entries that were cut off, with which its history is legal and of whose events the
-- summary is. Each seat has exactly one of the passes, and each pass agrees with the history. The entries, with those
-- that were cut off, are the opening's and one for each answered call.
pub record IsClosed (places : ℕ) (c : ClosedValue) (all : List PassValue) : Type 0 where
  pub gone : List Entry
  pub base : length gone ≡ c.base
  pub summary : StandsFor c.summary (events gone)
  pub legal : IsLegal places (gone ++ c.history)
  pub one_each : (p : ℕ) → 0 < p → p ≤ places → times all p ≡ 1
  pub agree : All (Agrees places gone c.history) all
  pub calls : length c.history + c.base ≡ 1 + sum_by (λ s. s.gone + length s.mine) all
