-- A set of timers, beside which those stand of which at most one is set.
use Rattle.std.proofs.Common.{◌≡◌, ℕ, ◌≤◌, Bool, true, false, not, ◌||◌, List, [], length, Option, Some, None, refl, sym, ◌∙◌, ap, subst, arith}
use Rattle.std.proofs.lemmas.Bool.{false≢true}
use Rattle.std.specs.Prelude.{is_some}
use Rattle.lg_rules.specs.Meaning.Rows.{name_cmp, is_same}
use Rattle.lg_rules.proofs.Cases.{held_once}
use Rattle.lg_rules.proofs.KeyOrder.{names_order, other_key}
use Rattle.lg_timers.specs.declared.singles.Singles.{Singles}
use Rattle.lg_timers.specs.declared.timer.Timer.{Timer}
use Rattle.lg_timers.specs.declared.timer.TimerId.{TimerId}
use Rattle.lg_timers.specs.declared.timer.TimerId.TheVariants.{RoundEnd, Suspicion, Direct, RelayNack, RelayEnd, RoundStart, Forget, Gossip}
use Rattle.lg_timers.specs.Meaning.Timers.{id_key, has_id, is_set, with_timer, without_timer, least_of, first_forget}
use Rattle.lg_timers.specs.Support.InTurn.{IsTimerSet}
use Rattle.lg_timers.specs.Support.Singles.{is_single, timer_of, first_of_both, no_singles, with_deadline, has_deadline, first_single, with_single, with_singles, AreMany, AreTimers}
use Rattle.lg_timers.proofs.CancelLaws.{none_left}
use Rattle.lg_timers.proofs.KeyLaws.{id_is}
use Rattle.lg_timers.proofs.Pending.{any-with}
use Rattle.lg_timers.proofs.SingleLaws.{first_of_both-group, rises-single, set-single, is_set-single, is_set-own, without-single, without-own, with-single, least-single, forget-single, length-single}
use Rattle.lg_timers.proofs.TimerSets.{set-nil, set-with, set-without, is_set-without}

-- an id of theirs is none of the others
other_id : (j id : TimerId) → is_single j ≡ false → is_single id ≡ true → is_same name_cmp (id_key id) (id_key j) ≡ false
other_id j id many single = other_key names_order (id_key id) (id_key j) (λ keys. false≢true (sym many ∙ ap is_single (sym (id_is id j keys)) ∙ single))

pub many-nil : AreMany []
many-nil = record { set = set-nil; lacks = λ id single. refl }

pub many-without : (j : TimerId) {timers : List Timer} → AreMany timers → AreMany (without_timer j timers)
many-without j {timers} m =
    record { set = set-without j timers m.set; lacks = λ id single. none_left (λ t. not (has_id j t)) (has_id id) timers (m.lacks id single) }

-- another of the others is set, in place of the one with its id
pub many-reset : (t : Timer) {timers : List Timer} → is_single t.id ≡ false → AreMany timers → AreMany (with_timer t (without_timer t.id timers))
many-reset t {timers} many m =
    let left = many-without t.id m in
    record {
      set = set-with t (without_timer t.id timers) left.set (is_set-without t.id timers);
      lacks = λ id single. any-with (has_id id) t (without_timer t.id timers) ∙ ap (λ b. b || is_set id (without_timer t.id timers)) (other_key names_order (id_key t.id) (id_key id) (λ keys. false≢true (sym many ∙ ap is_single (id_is t.id id keys) ∙ single))) ∙ left.lacks id single;
    }

module _ (s : Singles) {timers : List Timer} (m : AreMany timers) where
  -- the others with the first of these among them
  abbrev one : List Timer
  one = with_single Gossip s.gossip timers

  abbrev two : List Timer
  two = with_single RoundStart s.round_start one

  abbrev three : List Timer
  three = with_single Direct s.direct two

  set_one : IsTimerSet one
  set_one = set-single Gossip s.gossip timers m.set (m.lacks Gossip refl)

  apart_one : is_set RoundStart one ≡ false
  apart_one = is_set-single RoundStart Gossip s.gossip timers refl ∙ m.lacks RoundStart refl

  set_two : IsTimerSet two
  set_two = set-single RoundStart s.round_start one set_one apart_one

  apart_two : is_set Direct two ≡ false
  apart_two = is_set-single Direct RoundStart s.round_start one refl ∙ is_set-single Direct Gossip s.gossip timers refl ∙ m.lacks Direct refl

  set_three : IsTimerSet three
  set_three = set-single Direct s.direct two set_two apart_two

  apart_three : is_set RoundEnd three ≡ false
  apart_three =
      is_set-single RoundEnd Direct s.direct two refl
      ∙ is_set-single RoundEnd RoundStart s.round_start one refl
      ∙ is_set-single RoundEnd Gossip s.gossip timers refl
      ∙ m.lacks RoundEnd refl

  pub singles-set : IsTimerSet (with_singles s timers)
  unfolding with_singles
  singles-set = set-single RoundEnd s.round_end three set_three apart_three

  pub singles-length : length timers ≤ length (with_singles s timers)
  unfolding with_singles
  singles-length = omega (arith, length-single Gossip s.gossip timers, length-single RoundStart s.round_start one, length-single Direct s.direct two, length-single RoundEnd s.round_end three)

  pub singles-forget : first_forget (with_singles s timers) ≡ first_forget timers
  unfolding with_singles
  singles-forget =
      forget-single RoundEnd s.round_end three refl apart_three
      ∙ forget-single Direct s.direct two refl apart_two
      ∙ forget-single RoundStart s.round_start one refl apart_one
      ∙ forget-single Gossip s.gossip timers refl (m.lacks Gossip refl)

  -- one of the others
  module _ (j : TimerId) (many : is_single j ≡ false) where
    pub is_set-many : is_set j (with_singles s timers) ≡ is_set j timers
    unfolding with_singles
    is_set-many =
        is_set-single j RoundEnd s.round_end three (other_id j RoundEnd many refl)
        ∙ is_set-single j Direct s.direct two (other_id j Direct many refl)
        ∙ is_set-single j RoundStart s.round_start one (other_id j RoundStart many refl)
        ∙ is_set-single j Gossip s.gossip timers (other_id j Gossip many refl)

    pub without-many : without_timer j (with_singles s timers) ≡ with_singles s (without_timer j timers)
    unfolding with_singles
    without-many =
        without-single j RoundEnd s.round_end three (other_id j RoundEnd many refl) set_three apart_three
        ∙ ap (with_single RoundEnd s.round_end) (without-single j Direct s.direct two (other_id j Direct many refl) set_two apart_two
        ∙ ap (with_single Direct s.direct) (without-single j RoundStart s.round_start one (other_id j RoundStart many refl) set_one apart_one
        ∙ ap (with_single RoundStart s.round_start) (without-single j Gossip s.gossip timers (other_id j Gossip many refl) m.set (m.lacks Gossip refl))))

  -- one of these is cancelled
  pub is_set-single_id : (id : TimerId) (was : Bool) → has_deadline id s ≡ Some was → was ≡ is_set id (with_singles s timers)
  unfolding with_singles
  is_set-single_id RoundEnd was e = held_once was (is_some s.round_end) (sym e) ∙ sym (is_set-own RoundEnd s.round_end three apart_three)
  is_set-single_id Direct was e =
      held_once was (is_some s.direct) (sym e) ∙ sym (is_set-single Direct RoundEnd s.round_end three refl ∙ is_set-own Direct s.direct two apart_two)
  is_set-single_id RoundStart was e =
      held_once was (is_some s.round_start) (sym e)
      ∙ sym (is_set-single RoundStart RoundEnd s.round_end three refl ∙ is_set-single RoundStart Direct s.direct two refl ∙ is_set-own RoundStart s.round_start one apart_one)
  is_set-single_id Gossip was e =
      held_once was (is_some s.gossip) (sym e)
      ∙ sym (is_set-single Gossip RoundEnd s.round_end three refl ∙ is_set-single Gossip Direct s.direct two refl ∙ is_set-single Gossip RoundStart s.round_start one refl ∙ is_set-own Gossip s.gossip timers (m.lacks Gossip refl))
  is_set-single_id (Suspicion n) was e = absurd cc
  is_set-single_id (RelayNack n) was e = absurd cc
  is_set-single_id (RelayEnd n) was e = absurd cc
  is_set-single_id (Forget n) was e = absurd cc

  without-single_id : (id : TimerId) → is_single id ≡ true → without_timer id (with_singles s timers) ≡ with_singles (with_deadline id None s) timers
  unfolding with_singles with_single
  without-single_id RoundEnd single = without-own RoundEnd s.round_end three apart_three
  without-single_id Direct single =
      without-single Direct RoundEnd s.round_end three refl set_three apart_three
      ∙ ap (with_single RoundEnd s.round_end) (without-own Direct s.direct two apart_two)
  without-single_id RoundStart single =
      without-single RoundStart RoundEnd s.round_end three refl set_three apart_three
      ∙ ap (with_single RoundEnd s.round_end) (without-single RoundStart Direct s.direct two refl set_two apart_two
      ∙ ap (with_single Direct s.direct) (without-own RoundStart s.round_start one apart_one))
  without-single_id Gossip single =
      without-single Gossip RoundEnd s.round_end three refl set_three apart_three
      ∙ ap (with_single RoundEnd s.round_end) (without-single Gossip Direct s.direct two refl set_two apart_two
      ∙ ap (with_single Direct s.direct) (without-single Gossip RoundStart s.round_start one refl set_one apart_one
      ∙ ap (with_single RoundStart s.round_start) (without-own Gossip s.gossip timers (m.lacks Gossip refl))))
  without-single_id (Suspicion n) single = absurd (false≢true single)
  without-single_id (RelayNack n) single = absurd (false≢true single)
  without-single_id (RelayEnd n) single = absurd (false≢true single)
  without-single_id (Forget n) single = absurd (false≢true single)

  pub singles-cancel : (id : TimerId) (was : Bool) → has_deadline id s ≡ Some was → with_singles (with_deadline id None s) timers ≡ without_timer id (with_singles s timers)
  singles-cancel RoundEnd was e = sym (without-single_id RoundEnd refl)
  singles-cancel Direct was e = sym (without-single_id Direct refl)
  singles-cancel RoundStart was e = sym (without-single_id RoundStart refl)
  singles-cancel Gossip was e = sym (without-single_id Gossip refl)
  singles-cancel (Suspicion n) was e = absurd cc
  singles-cancel (RelayNack n) was e = absurd cc
  singles-cancel (RelayEnd n) was e = absurd cc
  singles-cancel (Forget n) was e = absurd cc

  -- one of these is set
  add-single_id : (d : ℕ) (id : TimerId) → is_single id ≡ true → with_timer (record { deadline = d; id = id }) (with_singles (with_deadline id None s) timers) ≡ with_singles (with_deadline id (Some d) s) timers
  unfolding with_singles with_single
  add-single_id d RoundEnd single = refl
  add-single_id d Direct single = with-single (record { deadline = d; id = Direct }) RoundEnd s.round_end two set_two.rises
  add-single_id d RoundStart single =
      let t : Timer = record { deadline = d; id = RoundStart } in
      with-single t RoundEnd s.round_end (with_single Direct s.direct one) (rises-single Direct s.direct one set_one.rises)
      ∙ ap (with_single RoundEnd s.round_end) (with-single t Direct s.direct one set_one.rises)
  add-single_id d Gossip single =
      let t : Timer = record { deadline = d; id = Gossip } in
      let start : List Timer = with_single RoundStart s.round_start timers in
      let rises = rises-single RoundStart s.round_start timers m.set.rises in
      with-single t RoundEnd s.round_end (with_single Direct s.direct start) (rises-single Direct s.direct start rises)
      ∙ ap (with_single RoundEnd s.round_end) (with-single t Direct s.direct start rises
      ∙ ap (with_single Direct s.direct) (with-single t RoundStart s.round_start timers m.set.rises))
  add-single_id d (Suspicion n) single = absurd (false≢true single)
  add-single_id d (RelayNack n) single = absurd (false≢true single)
  add-single_id d (RelayEnd n) single = absurd (false≢true single)
  add-single_id d (Forget n) single = absurd (false≢true single)

  pub singles-reset : (t : Timer) → is_single t.id ≡ true → with_singles (with_deadline t.id (Some t.deadline) s) timers ≡ with_timer t (without_timer t.id (with_singles s timers))
  singles-reset t single = sym (add-single_id t.deadline t.id single) ∙ ap (with_timer t) (sym (without-single_id t.id single))

  -- one of the others is set among all
  pub with-many : (t : Timer) → with_timer t (with_singles s timers) ≡ with_singles s (with_timer t timers)
  unfolding with_singles
  with-many t =
      with-single t RoundEnd s.round_end three set_three.rises
      ∙ ap (with_single RoundEnd s.round_end) (with-single t Direct s.direct two set_two.rises
      ∙ ap (with_single Direct s.direct) (with-single t RoundStart s.round_start one set_one.rises
      ∙ ap (with_single RoundStart s.round_start) (with-single t Gossip s.gossip timers m.set.rises)))

  -- the first of all
  pub singles-least : least_of (with_singles s timers) ≡ first_of_both (least_of timers) (first_single s)
  unfolding with_singles first_single
  singles-least =
      let end = timer_of RoundEnd s.round_end in
      let ask = timer_of Direct s.direct in
      let start = timer_of RoundStart s.round_start in
      let news = timer_of Gossip s.gossip in
      least-single RoundEnd s.round_end three
      ∙ ap (λ o. first_of_both o end) (least-single Direct s.direct two
      ∙ ap (λ o. first_of_both o ask) (least-single RoundStart s.round_start one
      ∙ ap (λ o. first_of_both o start) (least-single Gossip s.gossip timers)
      ∙ first_of_both-group (least_of timers) news start)
      ∙ first_of_both-group (least_of timers) (first_of_both news start) ask)
      ∙ first_of_both-group (least_of timers) (first_of_both (first_of_both news start) ask) end

-- an id of the others changes no deadline
pub other_deadline : (j : TimerId) (d : Option ℕ) (s : Singles) → is_single j ≡ false → with_deadline j d s ≡ s
other_deadline RoundEnd d s many = absurd (false≢true (sym many))
other_deadline Direct d s many = absurd (false≢true (sym many))
other_deadline RoundStart d s many = absurd (false≢true (sym many))
other_deadline Gossip d s many = absurd (false≢true (sym many))
other_deadline (Suspicion n) d s many = refl
other_deadline (RelayNack n) d s many = refl
other_deadline (RelayEnd n) d s many = refl
other_deadline (Forget n) d s many = refl

pub other_has : (j : TimerId) (s : Singles) → has_deadline j s ≡ None → is_single j ≡ false
other_has RoundEnd s e = absurd cc
other_has Direct s e = absurd cc
other_has RoundStart s e = absurd cc
other_has Gossip s e = absurd cc
other_has (Suspicion n) s e = refl
other_has (RelayNack n) s e = refl
other_has (RelayEnd n) s e = refl
other_has (Forget n) s e = refl

pub timers-nil : (s : Singles) (timers : List Timer) → s ≡ no_singles → timers ≡ [] → AreTimers s None timers
unfolding first_single
timers-nil s timers none empty = record { first = sym (ap first_single none); many = subst (λ (ts : List Timer). AreMany ts) (sym empty) many-nil }

pub singles-nil : with_singles no_singles [] ≡ []
unfolding with_singles with_single
singles-nil = refl
