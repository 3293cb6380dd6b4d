-- Which lists of events are accepted, by their length, their first event and one event more.
use Rattle.std.proofs.Common.{◌≡◌, ℕ, ◌+◌, ◌<◌, ◌≤◌, Bool, true, false, not, ◌&&◌, List, [], ◌∷◌, ◌++◌, length, refl, sym, ◌∙◌, arith}
use Rattle.std.specs.Prelude.{nat_le}
use Rattle.std.specs.List.{list_any}
use Rattle.std.proofs.lemmas.Bool.Decides.{nat_tests}
use Rattle.lg_rules.proofs.Tests.{both}
use Rattle.lg_timing.specs.declared.config.Config.{Config}
use Rattle.lg_timing.specs.Meaning.Config.{IsChecked}
use Rattle.lg_detector.specs.declared.detector.TheConstants.{MAX_EVENTS}
use Rattle.lg_detector.specs.declared.event.Event.{Event}
use Rattle.lg_detector.specs.declared.event.Event.TheVariants.{Open, Tick, Heard, Ask, Health, Pull, Leave}
use Rattle.lg_detector.specs.Meaning.Step.{is_open_event, opens_well, is_accepted, most_events}
use Rattle.lg_detector.specs.Support.Step.{state_after, accepts_of}
use Rattle.lg_detector.proofs.Accepting.{accepts-after, events-after}

-- What an accepted list with a first event has.
pub record IsBegun (x : Event) (f : List Event) : Type 0 where
  pub opens : opens_well x ≡ true
  pub shut : list_any is_open_event f ≡ false
  pub few : length f + 1 ≤ MAX_EVENTS

not_any : (b : Bool) → not b ≡ true → b ≡ false
not_any true e = absurd cc
not_any false e = refl

pub begun : (x : Event) (f : List Event) → is_accepted (x ∷ f) ≡ true → IsBegun x f
begun x f accepted =
    let parts = both (opens_well x) (not (list_any is_open_event f) && nat_le (length f + 1) most_events) accepted in
    let rest = both (not (list_any is_open_event f)) (nat_le (length f + 1) most_events) parts.1 in
    record { opens = parts.0; shut = not_any (list_any is_open_event f) rest.0; few = grind (arith, nat_tests, rest.1) }

pub accepted_few : (f : List Event) → is_accepted f ≡ true → length f ≤ MAX_EVENTS
accepted_few [] accepted = omega arith
accepted_few (x ∷ f) accepted = omega (arith, (begun x f accepted).few)

opens_by : (e : Event) → opens_well e ≡ true → is_open_event e ≡ true
opens_by (Open now opening) well = refl
opens_by (Tick now words) well = absurd cc
opens_by (Heard now source packet) well = absurd cc
opens_by (Ask now name) well = absurd cc
opens_by (Health now) well = absurd cc
opens_by (Pull now peer) well = absurd cc
opens_by (Leave now words) well = absurd cc

pub accepted_opens : (x : Event) (f : List Event) → is_accepted (x ∷ f) ≡ true → is_open_event x ≡ true
accepted_opens x f accepted = opens_by x (begun x f accepted).opens

-- An event that is no opening can come next, as long as there is room.
pub accepted_more : (x : Event) (f : List Event) (e : Event) → is_accepted (x ∷ f) ≡ true → is_open_event e ≡ false → length f + 1 < MAX_EVENTS → is_accepted (x ∷ f ++ e ∷ []) ≡ true
accepted_more x f e accepted shut few =
    let count : (state_after (x ∷ f)).events ≡ length f + 1 = omega (arith, events-after (x ∷ f)) in
    let room : accepts_of (state_after (x ∷ f)) e ≡ true = grind (arith, nat_tests) in
    sym (accepts-after (x ∷ f) e accepted) ∙ room

pub accepted_opening : (now : ℕ) (opening : Config) → IsChecked opening → is_accepted (Open now opening ∷ []) ≡ true
accepted_opening now opening checked = rw checked refl
