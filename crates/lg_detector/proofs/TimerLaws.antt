-- The timers that are set, in their parts: those of the round with that of the next gossip, of the relays, and of the
-- suspicions with those that forget members.
use Rattle.std.proofs.Common.{◌≡◌, ℕ, ◌+◌, ◌≤◌, Bool, true, false, not, ◌&&◌, ◌||◌, cond, List, [], ◌∷◌, ◌++◌, append-nil, length, length-append, map, Option, Some, None, inl, inr, refl, sym, ◌∙◌, ap, subst, arith}
use Rattle.std.specs.Prelude.{filter}
use Rattle.std.specs.List.{list_any}
use Rattle.std.proofs.lemmas.Bool.{cases_Bool}
use Rattle.std.proofs.lemmas.List.Elements.{filter-append}
use Rattle.lg_rules.specs.Meaning.Rows.{name_cmp, put_row, without_row, Rises}
use Rattle.lg_timers.specs.declared.timer.Timer.{Timer}
use Rattle.lg_timers.specs.declared.timer.TimerId.{TimerId}
use Rattle.lg_timers.specs.declared.timer.TimerId.TheVariants.{RoundEnd, Direct}
use Rattle.lg_timers.specs.declared.timer.TimerId.TheVariants.{Suspicion, RelayNack, RelayEnd, RoundStart, Forget, Gossip}
use Rattle.lg_timers.specs.Meaning.Timers.{has_id, with_timer, without_timer, in_turn}
use Rattle.lg_timers.proofs.Pending.{NoSuspicion, length_with-le, length_without-le}
use Rattle.lg_timers.proofs.Parts.{without-parts, with-first, with-last, without-map, is_set-map_other, parts-put, parts-without, no_suspicion-append, no_suspicion-map, length-parts}
use Rattle.lg_probe.specs.declared.relays.Relay.{Relay}
use Rattle.lg_probe.specs.Meaning.Round.{RoundFact, Asked, Acked, asked_in, is_acked, ack_counts}
use Rattle.lg_membership.specs.Meaning.Suspicions.{SuspectedValue, suspected_name}
use Rattle.lg_membership.specs.Support.Changes.{Change, Nothing, Ending, Putting, IsAbout, suspicions_after}
use Rattle.lg_membership.specs.Support.Changes.{deadline_of_change}
use Rattle.lg_membership.specs.declared.applied.Deadline.{Deadline}
use Rattle.lg_membership.specs.declared.applied.Deadline.TheVariants.{Stays, Ends, Stands}
use Rattle.lg_detector.specs.Meaning.Forget.{Gone}
use Rattle.lg_detector.specs.Meaning.Probing.{Probe, round_at}
use Rattle.lg_detector.specs.Meaning.Timing.{start_timer, end_timer, direct_timer, start_timers, probe_timers, is_asking, is_waiting, gossip_timer, gossip_timers, nack_timer, relay_timer, suspicion_timer, forget_timer, is_first}
use Rattle.lg_detector.specs.Support.State.{follow, with_gossip, with_start, with_probe, without_direct}
use Rattle.lg_detector.proofs.ForgetTimers.{fades, gone_name, NoForget, no_forget-append, as_first, as_last, behind-put, behind-without}

-- timers of four parts, in turn
abbrev pub turned : List Timer → List Timer → List Timer → List Timer → List Timer
turned A B C D = in_turn (A ++ (B ++ (C ++ D)))

-- a deadline that is set, or another one
abbrev pub kept_or : Option ℕ → Option ℕ → Option ℕ
kept_or None next = next
kept_or (Some deadline) next = Some deadline

-- those of relays and of suspicions, by what gives their deadlines
abbrev pub nacks : (ℕ → ℕ) → List Relay → List Timer
nacks at rows = map (λ r. nack_timer (at r.number) r.number) rows

abbrev pub ends : (ℕ → ℕ) → List Relay → List Timer
ends at rows = map (λ r. relay_timer (at r.number) r.number) rows

-- who is suspected, and who is to be forgotten
pub record Waiting : Type 0 where
  pub rows : List SuspectedValue
  pub gone : List Gone

abbrev pub runs : Waiting → List Timer
runs waiting = map suspicion_timer waiting.rows ++ fades waiting.gone

-- what holds of the timers of a round, with those of a gossip behind them
pub record AreRound (rest timers : List Timer) : Type 0 where
  pub cleared : without_timer RoundEnd (without_timer Direct (without_timer RoundStart timers)) ≡ rest
  pub started : without_timer RoundStart (without_timer Direct (without_timer RoundEnd timers)) ≡ rest
  pub apart : NoSuspicion timers
  pub unforgotten : NoForget timers
  pub no_nack : (k : ℕ) → without_timer (RelayNack k) timers ≡ timers
  pub no_end : (k : ℕ) → without_timer (RelayEnd k) timers ≡ timers

-- the timers of a round, by whether helpers are still to be asked
abbrev pub round_parts : ℕ → ℕ → Bool → List Timer
round_parts end direct waiting = end_timer end ∷ cond waiting (direct_timer direct ∷ []) []

are_parts : (end direct : ℕ) (waiting : Bool) (start gossip : Option ℕ) → AreRound (gossip_timers gossip) ((round_parts end direct waiting ++ start_timers start) ++ gossip_timers gossip)
are_parts end direct true None None = record { cleared = refl; started = refl; apart = λ m. refl; unforgotten = λ m. refl; no_nack = λ k. refl; no_end = λ k. refl }
are_parts end direct true None (Some t) = record { cleared = refl; started = refl; apart = λ m. refl; unforgotten = λ m. refl; no_nack = λ k. refl; no_end = λ k. refl }
are_parts end direct true (Some d) None = record { cleared = refl; started = refl; apart = λ m. refl; unforgotten = λ m. refl; no_nack = λ k. refl; no_end = λ k. refl }
are_parts end direct true (Some d) (Some t) = record { cleared = refl; started = refl; apart = λ m. refl; unforgotten = λ m. refl; no_nack = λ k. refl; no_end = λ k. refl }
are_parts end direct false None None = record { cleared = refl; started = refl; apart = λ m. refl; unforgotten = λ m. refl; no_nack = λ k. refl; no_end = λ k. refl }
are_parts end direct false None (Some t) = record { cleared = refl; started = refl; apart = λ m. refl; unforgotten = λ m. refl; no_nack = λ k. refl; no_end = λ k. refl }
are_parts end direct false (Some d) None = record { cleared = refl; started = refl; apart = λ m. refl; unforgotten = λ m. refl; no_nack = λ k. refl; no_end = λ k. refl }
are_parts end direct false (Some d) (Some t) = record { cleared = refl; started = refl; apart = λ m. refl; unforgotten = λ m. refl; no_nack = λ k. refl; no_end = λ k. refl }

pub are_round : (end direct : ℕ) (p : Option Probe) (past : List RoundFact) (start gossip : Option ℕ) → AreRound (gossip_timers gossip) ((probe_timers end direct p past ++ start_timers start) ++ gossip_timers gossip)
are_round end direct None past None None = record { cleared = refl; started = refl; apart = λ m. refl; unforgotten = λ m. refl; no_nack = λ k. refl; no_end = λ k. refl }
are_round end direct None past None (Some t) = record { cleared = refl; started = refl; apart = λ m. refl; unforgotten = λ m. refl; no_nack = λ k. refl; no_end = λ k. refl }
are_round end direct None past (Some d) None = record { cleared = refl; started = refl; apart = λ m. refl; unforgotten = λ m. refl; no_nack = λ k. refl; no_end = λ k. refl }
are_round end direct None past (Some d) (Some t) = record { cleared = refl; started = refl; apart = λ m. refl; unforgotten = λ m. refl; no_nack = λ k. refl; no_end = λ k. refl }
are_round end direct (Some p) past start gossip = are_parts end direct (is_waiting p past) start gossip

pub without-runs : (id : TimerId) (waiting : Waiting) → ((r : SuspectedValue) → has_id id (suspicion_timer r) ≡ false) → ((r : Gone) → has_id id (forget_timer r) ≡ false)
    → without_timer id (runs waiting) ≡ runs waiting
without-runs id waiting run fade =
    filter-append (λ t. not (has_id id t)) (map suspicion_timer waiting.rows) (fades waiting.gone)
    ∙ (λ i. without-map id suspicion_timer waiting.rows run i ++ without-map id forget_timer waiting.gone fade i)

-- The timers of the round are set and cancelled behind those of the others.
module _ (nack_at end_at : ℕ → ℕ) (silent relays : List Relay) (rows : Waiting) where
  without-round : (id : TimerId) (A A2 : List Timer) → without_timer id A ≡ A2
      → ((d k : ℕ) → has_id id (nack_timer d k) ≡ false) → ((d k : ℕ) → has_id id (relay_timer d k) ≡ false) → ((r : SuspectedValue) → has_id id (suspicion_timer r) ≡ false) → ((r : Gone) → has_id id (forget_timer r) ≡ false)
      → without_timer id (turned A (nacks nack_at silent) (ends end_at relays) (runs rows)) ≡ turned A2 (nacks nack_at silent) (ends end_at relays) (runs rows)
  without-round id A A2 a nack end run fade =
      without-parts id A (nacks nack_at silent) (ends end_at relays) (runs rows) A2 (nacks nack_at silent) (ends end_at relays) (runs rows) a
      (without-map id (λ r. nack_timer (nack_at r.number) r.number) silent (λ r. nack (nack_at r.number) r.number))
      (without-map id (λ r. relay_timer (end_at r.number) r.number) relays (λ r. end (end_at r.number) r.number))
      (without-runs id rows run fade)

  pub without-start : (A : List Timer) → without_timer RoundStart (turned A (nacks nack_at silent) (ends end_at relays) (runs rows)) ≡ turned (without_timer RoundStart A) (nacks nack_at silent) (ends end_at relays) (runs rows)
  without-start A = without-round RoundStart A _ refl (λ d k. refl) (λ d k. refl) (λ r. refl) (λ r. refl)

  pub without-end : (A : List Timer) → without_timer RoundEnd (turned A (nacks nack_at silent) (ends end_at relays) (runs rows)) ≡ turned (without_timer RoundEnd A) (nacks nack_at silent) (ends end_at relays) (runs rows)
  without-end A = without-round RoundEnd A _ refl (λ d k. refl) (λ d k. refl) (λ r. refl) (λ r. refl)

  pub without-direct : (A : List Timer) → without_timer Direct (turned A (nacks nack_at silent) (ends end_at relays) (runs rows)) ≡ turned (without_timer Direct A) (nacks nack_at silent) (ends end_at relays) (runs rows)
  without-direct A = without-round Direct A _ refl (λ d k. refl) (λ d k. refl) (λ r. refl) (λ r. refl)

  -- the timer of the next gossip is set behind those of the round, or has fired
  pub gossip-set : (gossip next : Option ℕ) (A : List Timer) → without_timer Gossip A ≡ A
      → with_gossip gossip (kept_or gossip next) (turned (A ++ gossip_timers gossip) (nacks nack_at silent) (ends end_at relays) (runs rows))
      ≡ turned (A ++ gossip_timers (kept_or gossip next)) (nacks nack_at silent) (ends end_at relays) (runs rows)
  gossip-set (Some d) next A none = refl
  gossip-set None None A none = refl
  gossip-set None (Some d) A none =
      let B = nacks nack_at silent in
      let C = ends end_at relays in
      let D = runs rows in
      let whole : A ++ [] ≡ A = append-nil A in
      ap (λ ts. with_timer (gossip_timer d) (without_timer Gossip (turned ts B C D))) whole
      ∙ ap (with_timer (gossip_timer d)) (without-round Gossip A A none (λ d k. refl) (λ d k. refl) (λ r. refl) (λ r. refl))
      ∙ with-last (gossip_timer d) A B C D

  pub gossip-fired : (gossip : Option ℕ) (A : List Timer) → without_timer Gossip A ≡ A
      → without_timer Gossip (turned (A ++ gossip_timers gossip) (nacks nack_at silent) (ends end_at relays) (runs rows))
      ≡ turned (A ++ []) (nacks nack_at silent) (ends end_at relays) (runs rows)
  gossip-fired gossip A none =
      without-round Gossip (A ++ gossip_timers gossip) (A ++ [])
      (filter-append (λ t. not (has_id Gossip t)) A (gossip_timers gossip) ∙ (λ i. none i ++ gone gossip i)) (λ d k. refl) (λ d k. refl) (λ r. refl) (λ r. refl)
    where
      gone : (gossip : Option ℕ) → without_timer Gossip (gossip_timers gossip) ≡ []
      gone None = refl
      gone (Some d) = refl

  -- where an Ack is the first that counts
  pub first-direct : (first : Bool) (A : List Timer)
      → without_direct first (turned A (nacks nack_at silent) (ends end_at relays) (runs rows)) ≡ turned (without_direct first A) (nacks nack_at silent) (ends end_at relays) (runs rows)
  first-direct true A = without-direct A
  first-direct false A = refl

  -- nobody is probed, and the next round starts
  pub start-set : (d : ℕ) (rest A : List Timer) → AreRound rest A → with_start d (turned A (nacks nack_at silent) (ends end_at relays) (runs rows)) ≡ turned (start_timer d ∷ rest) (nacks nack_at silent) (ends end_at relays) (runs rows)
  start-set d rest A are =
      let B = nacks nack_at silent in
      let C = ends end_at relays in
      let D = runs rows in
      ap (with_timer (start_timer d))
      (ap (λ ts. without_timer RoundStart (without_timer Direct ts)) (without-end A)
      ∙ ap (without_timer RoundStart) (without-direct (without_timer RoundEnd A))
      ∙ without-start (without_timer Direct (without_timer RoundEnd A))
      ∙ ap (λ ts. turned ts B C D) are.started)
      ∙ with-first (start_timer d) rest B C D

  -- a probe runs
  pub probe-set : (end direct : ℕ) (rest A : List Timer) → AreRound rest A
      → with_probe end direct (turned A (nacks nack_at silent) (ends end_at relays) (runs rows)) ≡ turned (end_timer end ∷ direct_timer direct ∷ rest) (nacks nack_at silent) (ends end_at relays) (runs rows)
  probe-set end direct rest A are =
      let B = nacks nack_at silent in
      let C = ends end_at relays in
      let D = runs rows in
      let left = without_timer Direct (without_timer RoundStart A) in
      ap (λ ts. with_timer (end_timer end) (without_timer RoundEnd (with_timer (direct_timer direct) ts)))
      (ap (without_timer Direct) (without-start A) ∙ without-direct (without_timer RoundStart A))
      ∙ ap (λ ts. with_timer (end_timer end) (without_timer RoundEnd ts)) (with-first (direct_timer direct) left B C D)
      ∙ ap (with_timer (end_timer end)) (without-end (direct_timer direct ∷ left) ∙ ap (λ ts. turned (direct_timer direct ∷ ts) B C D) are.cleared)
      ∙ with-first (end_timer end) (direct_timer direct ∷ rest) B C D

-- helpers were asked
asked-waiting : (end direct : ℕ) (acked asked : Bool) (start gossip : Option ℕ)
    → without_timer Direct ((round_parts end direct (not acked && not asked) ++ start_timers start) ++ gossip_timers gossip)
    ≡ (round_parts end direct (not acked && false) ++ start_timers start) ++ gossip_timers gossip
asked-waiting end direct true asked None None = refl
asked-waiting end direct true asked None (Some t) = refl
asked-waiting end direct true asked (Some d) None = refl
asked-waiting end direct true asked (Some d) (Some t) = refl
asked-waiting end direct false true None None = refl
asked-waiting end direct false true None (Some t) = refl
asked-waiting end direct false true (Some d) None = refl
asked-waiting end direct false true (Some d) (Some t) = refl
asked-waiting end direct false false None None = refl
asked-waiting end direct false false None (Some t) = refl
asked-waiting end direct false false (Some d) None = refl
asked-waiting end direct false false (Some d) (Some t) = refl

pub asked-timers : (end direct : ℕ) (p : Option Probe) (past : List RoundFact) (helpers : List (List ℕ)) (start gossip : Option ℕ)
    → without_timer Direct ((probe_timers end direct p past ++ start_timers start) ++ gossip_timers gossip)
    ≡ (probe_timers end direct p (Asked helpers ∷ past) ++ start_timers start) ++ gossip_timers gossip
asked-timers end direct None past helpers None None = refl
asked-timers end direct None past helpers None (Some t) = refl
asked-timers end direct None past helpers (Some d) None = refl
asked-timers end direct None past helpers (Some d) (Some t) = refl
asked-timers end direct (Some p) past helpers start gossip =
    asked-waiting end direct (is_acked p.number p.target past) (list_any is_asking past) start gossip

-- an Ack came
acked-waiting : (end direct : ℕ) (acked counts asked : Bool) (start gossip : Option ℕ)
    → without_direct (not acked && counts) ((round_parts end direct (not acked && not asked) ++ start_timers start) ++ gossip_timers gossip)
    ≡ (round_parts end direct (not (counts || acked) && not asked) ++ start_timers start) ++ gossip_timers gossip
acked-waiting end direct true true asked start gossip = refl
acked-waiting end direct true false asked start gossip = refl
acked-waiting end direct false false asked start gossip = refl
acked-waiting end direct false true true None None = refl
acked-waiting end direct false true true None (Some t) = refl
acked-waiting end direct false true true (Some d) None = refl
acked-waiting end direct false true true (Some d) (Some t) = refl
acked-waiting end direct false true false None None = refl
acked-waiting end direct false true false None (Some t) = refl
acked-waiting end direct false true false (Some d) None = refl
acked-waiting end direct false true false (Some d) (Some t) = refl

pub acked-timers : (end direct : ℕ) (p : Option Probe) (past : List RoundFact) (k : ℕ) (sender : List ℕ) (start gossip : Option ℕ)
    → without_direct (is_first k sender (round_at past p)) ((probe_timers end direct p past ++ start_timers start) ++ gossip_timers gossip)
    ≡ (probe_timers end direct p (Acked k sender ∷ past) ++ start_timers start) ++ gossip_timers gossip
acked-timers end direct None past k sender start gossip = refl
acked-timers end direct (Some p) past k sender start gossip =
    acked-waiting end direct (is_acked p.number p.target past) (ack_counts p.number p.target (asked_in past) k sender) (list_any is_asking past) start gossip

-- The timers after a change of the suspicions,
suspected-after : (A B C : List Timer) (m : List ℕ) (change : Change) (rows : List SuspectedValue) → NoSuspicion A → NoSuspicion B → NoSuspicion C → IsAbout m change → Rises name_cmp (map suspected_name rows)
    → follow (Suspicion m) (deadline_of_change change) (turned A B C (map suspicion_timer rows)) ≡ turned A B C (map suspicion_timer (suspicions_after change rows))
suspected-after A B C m Nothing rows a b c about rises = refl
suspected-after A B C m (Ending k) rows a b c about rises =
    subst (λ n. follow (Suspicion n) (deadline_of_change (Ending k)) (turned A B C (map suspicion_timer rows)) ≡ turned A B C (map suspicion_timer (suspicions_after (Ending k) rows))) about
    (sym (parts-without suspected_name suspicion_timer (λ r. refl) k A B C rows a b c))
suspected-after A B C m (Putting r) rows a b c about rises =
    subst (λ n. follow (Suspicion n) (deadline_of_change (Putting r)) (turned A B C (map suspicion_timer rows)) ≡ turned A B C (map suspicion_timer (suspicions_after (Putting r) rows))) about
    (sym (parts-put suspected_name suspicion_timer (λ r. refl) r A B C rows a b c rises))

pub pending-after : (A B C : List Timer) (m : List ℕ) (change : Change) (rows : List SuspectedValue) (gone : List Gone) → NoSuspicion A → NoSuspicion B → NoSuspicion C → IsAbout m change
    → Rises name_cmp (map suspected_name rows)
    → follow (Suspicion m) (deadline_of_change change) (turned A B C (runs (record { rows = rows; gone = gone }))) ≡ turned A B C (runs (record { rows = suspicions_after change rows; gone = gone }))
pending-after A B C m change rows gone a b c about rises =
    let E = fades gone in
    let apart : NoSuspicion (E ++ A) = no_suspicion-append E A (no_suspicion-map forget_timer gone (λ m r. refl)) a in
    ap (follow (Suspicion m) (deadline_of_change change)) (as_first A B C (map suspicion_timer rows) E)
    ∙ suspected-after (E ++ A) B C m change rows apart b c about rises
    ∙ sym (as_first A B C (map suspicion_timer (suspicions_after change rows)) E)

-- and once a member is to be forgotten, or isn't any more.
module _ (A B C : List Timer) (rows : List SuspectedValue) (a : NoForget A) (b : NoForget B) (c : NoForget C) where
  abbrev before : List Timer
  before = A ++ (B ++ (C ++ map suspicion_timer rows))

  unforgotten : NoForget before
  unforgotten = no_forget-append A (B ++ (C ++ map suspicion_timer rows)) a
      (no_forget-append B (C ++ map suspicion_timer rows) b
      (no_forget-append C (map suspicion_timer rows) c (λ m. is_set-map_other (Forget m) suspicion_timer rows (λ r. refl))))

  parted : (gone : List Gone) → turned A B C (runs (record { rows = rows; gone = gone })) ≡ in_turn (before ++ fades gone)
  parted gone = ap in_turn (as_last A B C (map suspicion_timer rows) (fades gone))

  pub forget-put : (r : Gone) (gone : List Gone) → Rises name_cmp (map gone_name gone)
      → follow (Forget r.name) (Stands r.deadline) (turned A B C (runs (record { rows = rows; gone = gone }))) ≡ turned A B C (runs (record { rows = rows; gone = put_row name_cmp gone_name r gone }))
  forget-put r gone rises =
      ap (follow (Forget r.name) (Stands r.deadline)) (parted gone)
      ∙ behind-put r before gone unforgotten rises
      ∙ sym (parted (put_row name_cmp gone_name r gone))

  pub forget-less : (m : List ℕ) (gone : List Gone)
      → follow (Forget m) Ends (turned A B C (runs (record { rows = rows; gone = gone }))) ≡ turned A B C (runs (record { rows = rows; gone = without_row name_cmp gone_name m gone }))
  forget-less m gone =
      ap (follow (Forget m) Ends) (parted gone)
      ∙ behind-without m before gone unforgotten
      ∙ sym (parted (without_row name_cmp gone_name m gone))

pub no_suspicion-nacks : (at : ℕ → ℕ) (rows : List Relay) → NoSuspicion (nacks at rows)
no_suspicion-nacks at rows = no_suspicion-map (λ r. nack_timer (at r.number) r.number) rows (λ m r. refl)

pub no_forget-nacks : (at : ℕ → ℕ) (rows : List Relay) → NoForget (nacks at rows)
no_forget-nacks at rows m = is_set-map_other (Forget m) (λ r. nack_timer (at r.number) r.number) rows (λ r. refl)

pub no_forget-ends : (at : ℕ → ℕ) (rows : List Relay) → NoForget (ends at rows)
no_forget-ends at rows m = is_set-map_other (Forget m) (λ r. relay_timer (at r.number) r.number) rows (λ r. refl)

pub no_suspicion-ends : (at : ℕ → ℕ) (rows : List Relay) → NoSuspicion (ends at rows)
no_suspicion-ends at rows = no_suspicion-map (λ r. relay_timer (at r.number) r.number) rows (λ m r. refl)

-- The timers without suspicions, and none at all.
pub pending-alone : (d : ℕ) → start_timer d ∷ [] ≡ turned (start_timer d ∷ []) [] [] []
unfolding in_turn
pending-alone d = refl

pub pending-nil : [] ≡ turned [] [] [] []
unfolding in_turn
pending-nil = refl

-- How many they are.
length-map : {R : Type 0} (f : R → Timer) (rows : List R) → length (map f rows) ≡ length rows
length-map f [] = refl
length-map f (x ∷ xs) = omega (arith, length-map f xs)

length-parts_of : (end direct : ℕ) (waiting : Bool) (start gossip : Option ℕ) → length ((round_parts end direct waiting ++ start_timers start) ++ gossip_timers gossip) ≤ 4
length-parts_of end direct true None None = omega arith
length-parts_of end direct true None (Some t) = omega arith
length-parts_of end direct true (Some d) None = omega arith
length-parts_of end direct true (Some d) (Some t) = omega arith
length-parts_of end direct false None None = omega arith
length-parts_of end direct false None (Some t) = omega arith
length-parts_of end direct false (Some d) None = omega arith
length-parts_of end direct false (Some d) (Some t) = omega arith

pub length-round : (end direct : ℕ) (p : Option Probe) (past : List RoundFact) (start gossip : Option ℕ) → length ((probe_timers end direct p past ++ start_timers start) ++ gossip_timers gossip) ≤ 4
length-round end direct None past None None = omega arith
length-round end direct None past None (Some t) = omega arith
length-round end direct None past (Some d) None = omega arith
length-round end direct None past (Some d) (Some t) = omega arith
length-round end direct (Some p) past start gossip = length-parts_of end direct (is_waiting p past) start gossip

pub length-filter : {R : Type 0} (p : R → Bool) (rows : List R) → length (filter p rows) ≤ length rows
length-filter p [] = omega arith
length-filter p (x ∷ xs) = elim (cases_Bool (p x)) [
  | inl t ↦ rw t (omega (arith, length-filter p xs))
  | inr f ↦ rw f (omega (arith, length-filter p xs))
]

pub length-followed : (id : TimerId) (deadline : Deadline) (timers : List Timer) → length (follow id deadline timers) ≤ length timers + 1
length-followed id Stays timers = omega arith
length-followed id Ends timers = omega (arith, length_without-le id timers)
length-followed id (Stands d) timers =
    omega (arith, length_with-le (record { deadline = d; id = id }) (without_timer id timers), length_without-le id timers)

pub length-turned : (A : List Timer) (nack_at end_at : ℕ → ℕ) (p : Relay → Bool) (relays : List Relay) (rows : Waiting)
    → length (turned A (nacks nack_at (filter p relays)) (ends end_at relays) (runs rows)) ≤ length A + (length relays + (length relays + (length rows.rows + length rows.gone)))
length-turned A nack_at end_at p relays rows =
    omega (
      arith,
      length-parts A (nacks nack_at (filter p relays)) (ends end_at relays) (runs rows),
      length-map (λ r. nack_timer (nack_at r.number) r.number) (filter p relays),
      length-filter p relays,
      length-map (λ r. relay_timer (end_at r.number) r.number) relays,
      length-append (map suspicion_timer rows.rows) (fades rows.gone),
      length-map suspicion_timer rows.rows,
      length-map forget_timer rows.gone,
    )
