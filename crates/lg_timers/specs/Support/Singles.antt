-- The timers about no member and no relay, of which at most one of a kind is set: each as its deadline, beside the
-- others.
use Rattle.std.specs.Prelude.{ℕ, ◌≡◌, Bool, true, false, IsTrue, List, Option, Some, None, is_some, if◌then◌else◌}
use Rattle.std.specs.Ordering.{is_lt}
use Rattle.lg_timers.specs.declared.singles.Single.{Single}
use Rattle.lg_timers.specs.declared.singles.SingleKind.{SingleKind}
use Rattle.lg_timers.specs.declared.singles.SingleKind.TheVariants as kinds
use Rattle.lg_timers.specs.declared.singles.Singles.{Singles}
use Rattle.lg_timers.specs.declared.timer.Timer.{Timer}
use Rattle.lg_timers.specs.declared.timer.TimerId.{TimerId}
use Rattle.lg_timers.specs.declared.timer.TimerId.TheVariants.{RoundEnd, Direct, RoundStart, Gossip}
use Rattle.lg_timers.specs.Meaning.Timers.{timer_cmp, is_set, with_timer}
use Rattle.lg_timers.specs.Support.InTurn.{IsTimerSet}

-- whether an id is that of one of these timers
abbrev pub is_single : TimerId → Bool
is_single RoundEnd = true
is_single Direct = true
is_single RoundStart = true
is_single Gossip = true
is_single _ = false

-- the id of the one timer of a kind
abbrev pub kind_id : SingleKind → TimerId
kind_id kinds.RoundEnd = RoundEnd
kind_id kinds.Direct = Direct
kind_id kinds.RoundStart = RoundStart
kind_id kinds.Gossip = Gossip

-- the timer that is told by its deadline and its kind
abbrev pub single_timer : Single → Timer
single_timer s = record { deadline = s.deadline; id = kind_id s.kind }

-- the timer of an id, where its deadline is there
abbrev pub timer_of : TimerId → Option ℕ → Option Timer
timer_of id None = None
timer_of id (Some d) = Some (record { deadline = d; id = id })

-- the same of a timer that may be missing
abbrev pub some_timer : Option Single → Option Timer
some_timer None = None
some_timer (Some s) = Some (single_timer s)

-- the one that fires first of two timers, each of which may be missing
abbrev pub first_of_both : Option Timer → Option Timer → Option Timer
first_of_both None t = t
first_of_both (Some s) None = Some s
first_of_both (Some s) (Some t) = Some (if is_lt (timer_cmp s t) then s else t)

-- whether a timer fires before the first of others, if there is one
abbrev pub is_before_first : Timer → Option Timer → Bool
is_before_first t None = true
is_before_first t (Some u) = is_lt (timer_cmp t u)

-- none of them is set
abbrev pub no_singles : Singles
no_singles = record { round_end = None; direct = None; round_start = None; gossip = None }

-- the deadlines with another one for an id, if it is one of theirs
abbrev pub with_deadline : TimerId → Option ℕ → Singles → Singles
with_deadline RoundEnd d s = record s { round_end = d }
with_deadline Direct d s = record s { direct = d }
with_deadline RoundStart d s = record s { round_start = d }
with_deadline Gossip d s = record s { gossip = d }
with_deadline _ d s = s

-- whether there is a deadline for an id, if it is one of theirs
abbrev pub has_deadline : TimerId → Singles → Option Bool
has_deadline RoundEnd s = Some (is_some s.round_end)
has_deadline Direct s = Some (is_some s.direct)
has_deadline RoundStart s = Some (is_some s.round_start)
has_deadline Gossip s = Some (is_some s.gossip)
has_deadline _ s = None

-- the first of these timers, if any is set
unfoldable pub first_single : Singles → Option Timer
first_single s =
    let gossip = timer_of Gossip s.gossip in
    let round_start = timer_of RoundStart s.round_start in
    let direct = timer_of Direct s.direct in
    let round_end = timer_of RoundEnd s.round_end in
    first_of_both (first_of_both (first_of_both gossip round_start) direct) round_end

-- timers in the order in which they fire, with one more of an id, if its deadline is there
unfoldable pub with_single : TimerId → Option ℕ → List Timer → List Timer
with_single id None timers = timers
with_single id (Some d) timers = with_timer (record { deadline = d; id = id }) timers

-- the others in the order in which they fire, with these among them
unfoldable pub with_singles : Singles → List Timer → List Timer
with_singles s timers =
    let one = with_single Gossip s.gossip timers in
    let two = with_single RoundStart s.round_start one in
    let three = with_single Direct s.direct two in
    with_single RoundEnd s.round_end three

-- A set of timers, none of which is one of these.
pub record AreMany (timers : List Timer) : Type 0 where
  pub set : IsTimerSet timers
  pub lacks : (id : TimerId) → IsTrue (is_single id) → is_set id timers ≡ false

-- The timers that are set, in two parts, with the first of these.
pub record AreTimers (s : Singles) (single : Option Single) (timers : List Timer) : Type 0 where
  pub first : some_timer single ≡ first_single s
  pub many : AreMany timers
