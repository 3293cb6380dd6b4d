-- The order of probing: its names are the others that aren't gone, and those chosen in the current cycle.
use Rattle.std.proofs.Common.{◌≡◌, ℕ, ◌≤◌, Bool, true, false, not, cond, ◌||◌, List, [], ◌∷◌, ◌++◌, length, Option, Some, None, inl, inr, refl, sym, ◌∙◌, ap, subst, arith}
use Rattle.std.specs.Option.{option_to_list}
use Rattle.std.proofs.lemmas.Bool.{cases_Bool}
use Rattle.lg_rules.specs.declared.claim.Claim.{Claim}
use Rattle.lg_rules.specs.declared.members.TheConstants.{MAX_OTHERS}
use Rattle.lg_rules.specs.Meaning.Rows.{name_cmp, is_same, is_among, put_key, without_key, in_order}
use Rattle.lg_rules.proofs.KeyOrder.{names_order, key_is}
use Rattle.lg_rules.proofs.Rises.{rises-put, rises-in_order, among-put, among-in_order}
use Rattle.lg_rules.proofs.Roster.{among-without}
use Rattle.lg_rules.proofs.Tables.{table-leaves}
use Rattle.lg_rules.proofs.Tests.{both}
use Rattle.lg_probe.specs.Meaning.Order.{OrderValue, Forgot, choice, current_cycle, known_names, next_cycle, order_with, put_choice}
use Rattle.lg_probe.proofs.NameRows.{names_few, among-append}
use Rattle.lg_probe.proofs.OrderLaws.{choice-in_order, current-in_order, put_choice-in_order, without-in_order, candidate_is, in_current, InEither, First, Second, in_either}
use Rattle.lg_membership.specs.declared.applied.Presence.{Presence}
use Rattle.lg_membership.specs.declared.applied.Presence.TheVariants.{Stays, Joins, Leaves}
use Rattle.lg_membership.specs.declared.origin.Origin.TheVariants.{Group}
use Rattle.lg_membership.specs.Meaning.Applied.{is_live, presence_of}
use Rattle.lg_membership.specs.Meaning.Log as group
use Rattle.lg_membership.specs.Support.Changes.{live_after}
use Rattle.lg_membership.proofs.AppliedLaws.{applied-log, live-applied}
use Rattle.lg_membership.proofs.KnownLaws.{others-forgot, others-grow, others-left, length-others}
use Rattle.lg_membership.proofs.LiveOthers.{live_known, live-forgot}
use Rattle.lg_membership.specs.declared.origin.Origin.{Origin}
use Rattle.lg_membership.specs.Support.State as known
use Rattle.lg_membership.specs.Support.State.{group_state_of}
use Rattle.lg_detector.specs.Meaning.Log.{Log, Came, Fired, AckHeard, NackHeard, Relayed, Ended, OfGroup, moment, group_log}
use Rattle.lg_detector.specs.Meaning.Apply as to_log
use Rattle.lg_detector.specs.Meaning.Probing as probing
use Rattle.lg_detector.specs.Meaning.Probing.{others, cycle_names, first_word}
use Rattle.lg_detector.specs.Support.State.{chosen_state, chose_unless}
use Rattle.lg_detector.specs.Support.State.{State, state_of, order_of, reorder}

pub chosen-is : (words : List ℕ) (log : Log) → chosen_state words (state_of log) ≡ probing.chosen words log
chosen-is words log = ap (cond (probing.has_left log) None) (choice-in_order (others log) (cycle_names log) (first_word words))

pub order-chose : (words : List ℕ) (log : Log)
    → chose_unless (probing.has_left log) (first_word words) (order_of log)
    ≡ record {
      names = others log;
      chosen = in_order name_cmp (cond (not (probing.has_left log)) (next_cycle (others log) (cycle_names log) (first_word words)) (cycle_names log));
    }
order-chose words log = step (probing.has_left log)
  where
    step : (left : Bool) → chose_unless left (first_word words) (order_of log)
        ≡ record {
          names = others log;
          chosen = in_order name_cmp (cond (not left) (next_cycle (others log) (cycle_names log) (first_word words)) (cycle_names log));
        }
    step true = refl
    step false =
        let names = others log in
        let cycle = cycle_names log in
        let word = first_word words in
        let chosen : put_choice (choice names (in_order name_cmp cycle) word) (current_cycle names (in_order name_cmp cycle)) ≡ in_order name_cmp (next_cycle names cycle word) =
        (λ i. put_choice (choice-in_order names cycle word i) (current-in_order names cycle i)) ∙ put_choice-in_order (choice names cycle word) (current_cycle names cycle) in
        λ i. record { names = names; chosen = chosen i }

-- a claim is said: its member joins, or leaves, or neither
reorder-is : (m : List ℕ) (p : Presence) (o : OrderValue) → reorder m p o ≡ record { names = live_after p m o.names; chosen = o.chosen }
reorder-is m Stays o = refl
reorder-is m Joins o = refl
reorder-is m Leaves o = refl

pub order-said : (origin : Origin) (c : Claim) (log : Log)
    → reorder c.name (known.applied (moment log) c (group_state_of (group_log log))).presence (order_of log) ≡ order_of (to_log.apply origin c log)
order-said origin c log =
    let g = group_log log in
    let applied = known.applied (moment log) c (group_state_of g) in
    reorder-is c.name applied.presence (order_of log)
    ∙ ap (λ names. record { names = names; chosen = in_order name_cmp (cycle_names log) })
    (sym (live-applied (moment log) origin c g applied (applied-log (moment log) origin c g)))

-- a leave changes none
pub order-left : (log : Log) → order_of log ≡ order_of (OfGroup group.Departed ∷ log)
order-left log =
    let g = group_log log in
    λ i. record {
      names = sym (ap group.live_names (table-leaves (group.forgets g) (group.me g) (group.own_facts g))) i;
      chosen = in_order name_cmp (cycle_names log);
    }

-- one is forgotten
pub order-forgot : (m : List ℕ) (log : Log) → order_with (order_of log) (Forgot m) ≡ order_of (OfGroup (group.Forgot m) ∷ log)
order-forgot m log = λ i. record { names = sym (live-forgot m (group_log log)) i; chosen = without-in_order m (cycle_names log) i }

-- Who is chosen in a cycle is known, and stays so until it is forgotten.
abbrev roster_in : Log → List (List ℕ)
roster_in log = group.known_others (group_log log)

or_right : (a : Bool) {b : Bool} → b ≡ true → (a || b) ≡ true
or_right true e = refl
or_right false e = e

-- who is among names but one that is taken out, is among more names but that one
among_less : (n : List ℕ) (xs ys : List (List ℕ)) (k : List ℕ) → (is_among name_cmp k xs ≡ true → is_among name_cmp k ys ≡ true)
    → is_among name_cmp k (without_key name_cmp n xs) ≡ true → is_among name_cmp k (without_key name_cmp n ys) ≡ true
among_less n xs ys k h a =
    let parts = both (not (is_same name_cmp k n)) (is_among name_cmp k xs) (sym (among-without k n xs) ∙ a) in
    among-without k n ys ∙ rw (parts.0, h parts.1) refl

chosen_known : (log : Log) (w : ℕ) (k : List ℕ) → (is_among name_cmp k (cycle_names log) ≡ true → is_among name_cmp k (roster_in log) ≡ true)
    → (o : Option (List ℕ)) → ((n : List ℕ) → o ≡ Some n → is_among name_cmp n (others log) ≡ true)
    → is_among name_cmp k (option_to_list o ++ current_cycle (others log) (cycle_names log)) ≡ true → is_among name_cmp k (roster_in log) ≡ true
chosen_known log w k before None is a = before (in_current (others log) (cycle_names log) k a)
chosen_known log w k before (Some n) is a = elim (in_either _ _ a) [
  | First s ↦ live_known (group_log log) k (ap (λ j. is_among name_cmp j (others log)) (sym (key_is names_order n k s)) ∙ is n refl)
  | Second r ↦ before (in_current (others log) (cycle_names log) k r)
]

pub cycle-known : (log : Log) (k : List ℕ) → is_among name_cmp k (cycle_names log) ≡ true → is_among name_cmp k (roster_in log) ≡ true
cycle-known [] k a = absurd cc
cycle-known (Came now ∷ log) k a = cycle-known log k a
cycle-known (Fired timer words ∷ log) k a = elim (cases_Bool (probing.chooses timer.id log)) [
  | inl t ↦ (
      let names = others log in
      let cycle = cycle_names log in
      let chose : is_among name_cmp k (next_cycle names cycle (first_word words)) ≡ true = sym (ap (λ b. is_among name_cmp k (cond b (next_cycle names cycle (first_word words)) cycle)) t) ∙ a in
      chosen_known log (first_word words) k (cycle-known log k) (choice names cycle (first_word words)) (λ n e. (candidate_is names (current_cycle names cycle) (first_word words) n e).named) chose)
  | inr f ↦ (
      let names = others log in
      let cycle = cycle_names log in
      cycle-known log k (sym (ap (λ b. is_among name_cmp k (cond b (next_cycle names cycle (first_word words)) cycle)) f) ∙ a))
]
cycle-known (AckHeard j sender ∷ log) k a = cycle-known log k a
cycle-known (NackHeard j sender ∷ log) k a = cycle-known log k a
cycle-known (Relayed target asker ∷ log) k a = cycle-known log k a
cycle-known (Ended ∷ log) k a = cycle-known log k a
cycle-known (OfGroup (group.Opened opening) ∷ log) k a = absurd cc
cycle-known (OfGroup (group.Said now origin c) ∷ log) k a = others-grow now origin (group_log log) c k (cycle-known log k a)
cycle-known (OfGroup (group.Sent taken) ∷ log) k a = cycle-known log k a
cycle-known (OfGroup group.Departed ∷ log) k a = ap (is_among name_cmp k) (others-left (group_log log)) ∙ cycle-known log k a
cycle-known (OfGroup (group.Forgot m) ∷ log) k a =
    ap (is_among name_cmp k) (others-forgot m (group_log log)) ∙ among_less m (cycle_names log) (roster_in log) k (cycle-known log k) a

-- So there is room for a member that joins.
joined_live : (before after : Bool) → presence_of before after ≡ Joins → after ≡ true
joined_live true true e = absurd cc
joined_live false false e = absurd cc
joined_live false true e = refl
joined_live true false e = absurd cc

room : (log : Log) (origin : Origin) (c : Claim) → is_among name_cmp c.name (others (to_log.apply origin c log)) ≡ true → length (put_key name_cmp c.name (known_names (order_of log))) ≤ 255
room log origin c live =
    let after = roster_in (to_log.apply origin c log) in
    let order = order_of log in
    omega (
      arith,
      length-others (group_log (to_log.apply origin c log)),
      names_few (put_key name_cmp c.name (known_names order)) after (rises-put names_order c.name (known_names order) (rises-in_order names_order (order.chosen ++ order.names)))
          (λ k a. each k (in_either _ _ (sym (among-put names_order k c.name (known_names order)) ∙ a))),
    )
  where
    known_one : (k : List ℕ) → InEither (is_among name_cmp k (order_of log).chosen) (is_among name_cmp k (others log)) → is_among name_cmp k (roster_in log) ≡ true
    known_one k (First a) = cycle-known log k (sym (among-in_order names_order k (cycle_names log)) ∙ a)
    known_one k (Second b) = live_known (group_log log) k b

    each : (k : List ℕ) → InEither (is_same name_cmp c.name k) (is_among name_cmp k (known_names (order_of log))) → is_among name_cmp k (roster_in (to_log.apply origin c log)) ≡ true
    each k (First s) = live_known (group_log (to_log.apply origin c log)) k (ap (λ j. is_among name_cmp j (others (to_log.apply origin c log))) (sym (key_is names_order c.name k s)) ∙ live)
    each k (Second a) =
        let order = order_of log in
        others-grow (moment log) origin (group_log log) c k
        (known_one k (in_either _ _ (sym (among-append k order.chosen order.names) ∙ sym (among-in_order names_order k (order.chosen ++ order.names)) ∙ a)))

pub room_joined : (s : State) (log : Log) (c : Claim) → s ≡ state_of log → (known.applied s.moment c s.membership).presence ≡ Joins → length (put_key name_cmp c.name (known_names s.order)) ≤ MAX_OTHERS
room_joined s log c is joins =
    let g = group_log log in
    let at_log : (known.applied (moment log) c (group_state_of g)).presence ≡ Joins =
    sym (ap (λ (t : State). (known.applied t.moment c t.membership).presence) is) ∙ joins in
    let live = joined_live (is_live g c.name) (is_live (group_log (to_log.apply Group c log)) c.name) (sym (applied-log (moment log) Group c g).presence ∙ at_log) in
    subst (λ (t : State). length (put_key name_cmp c.name (known_names t.order)) ≤ MAX_OTHERS) (sym is) (room log Group c live)
