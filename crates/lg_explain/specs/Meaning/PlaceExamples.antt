-- Worked rows: where the entries of files stand.
use Rattle.std.specs.Prelude.{◌≡◌, ℕ, true, false, [], ◌∷◌, Option, Some, None, refl}
use Rattle.lg_rules.specs.declared.addr.Addr.{Addr}
use Rattle.lg_rules.specs.declared.addr.Ip.TheVariants.{V4}
use Rattle.lg_rules.specs.declared.claim.Status.TheVariants.{Alive, Suspect}
use Rattle.lg_timing.specs.Meaning.Keys.{defaults}
use Rattle.lg_detector.specs.declared.event.Event.TheVariants.{Health}
use Rattle.lg_heads.specs.Meaning.Heads.{BeforeValue, HeadValue}
use Rattle.lg_notes.specs.declared.watch.Watch.{Watch}
use Rattle.lg_explain.specs.Meaning.Places.{FilesRead, begun_from, calm_watch, nothing_read, past_from, wall_of}

abbrev at_7001 : Addr
at_7001 = record { ip = V4 (127 ∷ 0 ∷ 0 ∷ 1 ∷ []); port = 7001 }

-- The member b is suspected by d, and c isn't.
abbrev known_before : BeforeValue
known_before = record {
  standing = record { score = 0; number = 0; ousted = false };
  table =
      record { name = 98 ∷ []; addr = at_7001; status = Suspect (100 ∷ []); incarnation = 1 }
      ∷ record { name = 99 ∷ []; addr = at_7001; status = Alive; incarnation = 1 }
      ∷ [];
}

-- The node a began the file at 1,000,000, when its clock was at 2000.
abbrev head_at : ℕ → Option BeforeValue → HeadValue
head_at first before = record {
  name = 97 ∷ [];
  config = defaults (97 ∷ []) at_7001;
  text = [];
  program = [];
  wall_ms = 1000000;
  now = 2000;
  first = first;
  before = before;
}

-- a moment later than the clock was, an earlier one, and one before 1970
later_wall : wall_of (head_at 0 None) 2500 ≡ 1000500
later_wall = refl

earlier_wall : wall_of (head_at 0 None) 1500 ≡ 999500
earlier_wall = refl

least_wall : wall_of (record (head_at 0 None) { wall_ms = 300 }) 1500 ≡ 0
least_wall = refl

-- five entries of a life were read, and some before them are missing
abbrev five_read : FilesRead
five_read = record { entries = []; number = 5; past = None; begun = None }

abbrev suspected_watch : Watch
suspected_watch = record { is_suspected = true; probe = None }

-- a file whose first entry has the number 5 goes on
goes_on_at_5 : begun_from (98 ∷ []) (head_at 5 (Some known_before)) five_read ≡ None
goes_on_at_5 = refl

-- before one with another number some entries are missing, and the head says whether the member was suspected
gap_at_7 : begun_from (98 ∷ []) (head_at 7 (Some known_before)) five_read ≡ Some suspected_watch
gap_at_7 = refl

gap_of_another : begun_from (99 ∷ []) (head_at 7 (Some known_before)) five_read ≡ Some calm_watch
gap_of_another = refl

-- with the number 0 a life begins, of which all is known
life_begins : begun_from (98 ∷ []) (head_at 0 None) five_read ≡ Some calm_watch
life_begins = refl

life_is_known : past_from 0 None ≡ Some []
life_is_known = refl

-- before the first file nothing is known, unless a life begins with it
first_file : begun_from (98 ∷ []) (head_at 3 (Some known_before)) nothing_read ≡ Some suspected_watch
first_file = refl

first_is_unknown : past_from 3 None ≡ None
first_is_unknown = refl

-- two of three events are known behind a file that breaks off, so the next one doesn't go on with them
two_of_three : past_from 3 (Some (Health 1 ∷ Health 2 ∷ [])) ≡ None
two_of_three = refl

both_known : past_from 2 (Some (Health 1 ∷ Health 2 ∷ [])) ≡ Some (Health 1 ∷ Health 2 ∷ [])
both_known = refl
