-- The relays of a log: their numbers, and what becomes of their timers.
use Rattle.std.proofs.Common.{◌≡◌, ◌≢◌, ℕ, ◌+◌, Bool, true, false, not, ◌&&◌, eqb, cond, List, [], ◌∷◌, ◌++◌, map, None, inl, inr, refl, sym, ◌∙◌, ap, subst}
use Rattle.std.specs.Prelude.{filter, is_some, ◌==◌}
use Rattle.std.specs.List.{list_any}
use Rattle.std.proofs.lemmas.Bool.{cases_Bool, eq-eqb, eqb-false}
use Rattle.std.proofs.lemmas.Bool.Decides.{eqb_tells}
use Rattle.std.proofs.lemmas.List.Elements.{filter-append}
use mathlib.Core.List.{map-append}
use Rattle.lg_timers.specs.declared.timer.Timer.{Timer}
use Rattle.lg_timers.specs.declared.timer.TimerId.{TimerId}
use Rattle.lg_timers.specs.declared.timer.TimerId.TheVariants.{RoundEnd, Suspicion, Direct}
use Rattle.lg_timers.specs.declared.timer.TimerId.TheVariants.{RelayNack, RelayEnd, RoundStart, Forget, Gossip}
use Rattle.lg_timers.specs.Meaning.Timers.{has_id, with_timer, without_timer}
use Rattle.lg_timers.proofs.Parts.{without-parts, with-second, with-third, without-map, without-nacks, without-ends, filter-swap, filter-both}
use Rattle.lg_probe.specs.declared.relays.Asker.{Asker}
use Rattle.lg_probe.specs.declared.relays.Relay.{Relay}
use Rattle.lg_probe.specs.Meaning.Relays.{Opened, TargetAcked, Closed, AreApart, has_number, is_ended, is_open, asker_at, ended_asker}
use Rattle.lg_probe.proofs.OpenRelays.{relays_after-push}
use Rattle.lg_probe.proofs.RelayLaws.{apart-opened, apart-fewer}
use Rattle.lg_membership.specs.Meaning.Log as group
use Rattle.lg_detector.specs.Meaning.Log.{Log, Came, Fired, AckHeard, NackHeard, Relayed, Ended, OfGroup, moment, group_log}
use Rattle.lg_detector.specs.Meaning.Probing.{number}
use Rattle.lg_detector.specs.Meaning.Relaying.{relay_past, relays, new_relay, opened_at, relay_has_nacked}
use Rattle.lg_detector.specs.Meaning.Timing.{nack_timer, relay_timer, nack_timers, relay_timers, nack_time, relay_time}
use Rattle.lg_detector.specs.Support.State.{without_relay, without_ended, with_relay}
use Rattle.lg_detector.proofs.EndedRelays.{found, missed, ended-none, ended-number}
use Rattle.lg_detector.proofs.TimerLaws.{turned, nacks, ends, runs, Waiting, without-runs, AreRound}

-- the relays that are open after one is opened, after an Ack, and after the end of one
pub relays-opened : (target : List ℕ) (asker : Asker) (log : Log) → relays (Relayed target asker ∷ log) ≡ filter (λ r. not (has_number (number log) r)) (relays log) ++ new_relay (number log) target asker ∷ []
relays-opened target asker log =
    let n = number log in
    relays_after-push (Opened (new_relay n target asker)) (Closed n ∷ relay_past log)
    ∙ ap (λ rs. rs ++ new_relay n target asker ∷ []) (relays_after-push (Closed n) (relay_past log))

pub relays-acked : (k : ℕ) (sender : List ℕ) (log : Log) → relays (AckHeard k sender ∷ log) ≡ filter (λ r. not (is_ended k sender r)) (relays log)
relays-acked k sender log = relays_after-push (TargetAcked k sender) (relay_past log)

pub relays-closed : (d k : ℕ) (words : List ℕ) (log : Log) → relays (Fired (record { deadline = d; id = RelayEnd k }) words ∷ log) ≡ filter (λ r. not (has_number k r)) (relays log)
relays-closed d k words log = relays_after-push (Closed k) (relay_past log)

other_number : (a b : ℕ) → a ≢ b → eqb a b ≡ false
other_number a b other = elim (eqb_tells a b) [ inl same ↦ (let bad = other same.1 in absurd bad) | inr apart ↦ apart.0 ]

-- each relay has another number than one
abbrev pub Others : ℕ → List Relay → Type 0
Others n [] = Unit {0}
Others n (r ∷ rs) = (has_number n r ≡ false) × Others n rs

others-fewer : (n : ℕ) (p : Relay → Bool) (rs : List Relay) → Others n rs → Others n (filter p rs)
others-fewer n p [] o = tt
others-fewer n p (r ∷ rs) o = elim (cases_Bool (p r)) [
  | inl t ↦ rw t (o.0, others-fewer n p rs o.1)
  | inr f ↦ rw f (others-fewer n p rs o.1)
]

-- those that are left once the one with that number is closed
pub others-closed : (n : ℕ) (rs : List Relay) → Others n (filter (λ r. not (has_number n r)) rs)
others-closed n [] = tt
others-closed n (r ∷ rs) = elim (cases_Bool (has_number n r)) [
  | inl t ↦ rw t (others-closed n rs)
  | inr f ↦ rw f (f, others-closed n rs)
]

-- So none has that number.
not_open : (n : ℕ) (rs : List Relay) → Others n rs → is_open n rs ≡ false
not_open n [] o = refl
not_open n (r ∷ rs) o = rw (o.0) (not_open n rs o.1)

pub none_at : (n : ℕ) (rs : List Relay) → Others n rs → asker_at n rs ≡ None
none_at n [] o = refl
none_at n (r ∷ rs) o = rw (o.0) (none_at n rs o.1)

-- Of each log the relays have different numbers.
fired-apart : (d : ℕ) (id : TimerId) (words : List ℕ) (log : Log) → AreApart (relays log) → AreApart (relays (Fired (record { deadline = d; id = id }) words ∷ log))
fired-apart d RoundEnd words log a = a
fired-apart d (Suspicion m) words log a = a
fired-apart d Direct words log a = a
fired-apart d (RelayNack k) words log a = a
fired-apart d (RelayEnd k) words log a =
    subst AreApart (sym (relays-closed d k words log)) (apart-fewer (λ r. not (has_number k r)) (relays log) a)
fired-apart d (Forget m) words log a = a
fired-apart d Gossip words log a = a
fired-apart d RoundStart words log a = a

pub relays_apart : (log : Log) → AreApart (relays log)
relays_apart [] = tt
relays_apart (Came now ∷ log) = relays_apart log
relays_apart (Ended ∷ log) = relays_apart log
relays_apart (Fired timer words ∷ log) = fired-apart timer.deadline timer.id words log (relays_apart log)
relays_apart (AckHeard k sender ∷ log) =
    subst AreApart (sym (relays-acked k sender log)) (apart-fewer (λ r. not (is_ended k sender r)) (relays log) (relays_apart log))
relays_apart (NackHeard k sender ∷ log) = relays_apart log
relays_apart (Relayed target asker ∷ log) =
    let n = number log in
    let left = filter (λ (r : Relay). not (has_number n r)) (relays log) in
    subst AreApart (sym (relays-opened target asker log))
    (apart-opened left (new_relay n target asker) (not_open n left (others-closed n (relays log))) (apart-fewer (λ r. not (has_number n r)) (relays log) (relays_apart log)))
relays_apart (OfGroup (group.Opened opening) ∷ log) = tt
relays_apart (OfGroup (group.Said now origin c) ∷ log) = relays_apart log
relays_apart (OfGroup (group.Sent taken) ∷ log) = relays_apart log
relays_apart (OfGroup (group.Forgot m) ∷ log) = relays_apart log
relays_apart (OfGroup group.Departed ∷ log) = relays_apart log

-- The timers of relays are cancelled and set between those of the round and of the suspicions.
module _ (rest A : List Timer) (are : AreRound rest A) (nack_at end_at : ℕ → ℕ) (rows : Waiting) where
  without-nack : (k : ℕ) (silent relays : List Relay)
      → without_timer (RelayNack k) (turned A (nacks nack_at silent) (ends end_at relays) (runs rows))
      ≡ turned A (nacks nack_at (filter (λ r. not (has_number k r)) silent)) (ends end_at relays) (runs rows)
  without-nack k silent relays =
      without-parts (RelayNack k) A (nacks nack_at silent) (ends end_at relays) (runs rows) A _ (ends end_at relays) (runs rows) (are.no_nack k)
      (without-nacks (λ r. r.number) nack_at k silent)
      (without-map (RelayNack k) (λ r. relay_timer (end_at r.number) r.number) relays (λ r. refl))
      (without-runs (RelayNack k) rows (λ r. refl) (λ r. refl))

  without-relay_end : (k : ℕ) (silent relays : List Relay)
      → without_timer (RelayEnd k) (turned A (nacks nack_at silent) (ends end_at relays) (runs rows))
      ≡ turned A (nacks nack_at silent) (ends end_at (filter (λ r. not (has_number k r)) relays)) (runs rows)
  without-relay_end k silent relays =
      without-parts (RelayEnd k) A (nacks nack_at silent) (ends end_at relays) (runs rows) A (nacks nack_at silent) _ (runs rows) (are.no_end k)
      (without-map (RelayEnd k) (λ r. nack_timer (nack_at r.number) r.number) silent (λ r. refl))
      (without-ends (λ r. r.number) end_at k relays)
      (without-runs (RelayEnd k) rows (λ r. refl) (λ r. refl))

  -- the Nack of a relay was sent
  pub nacked-timers : (k : ℕ) (p q : Relay → Bool) (relays : List Relay) → ((r : Relay) → q r ≡ (not (has_number k r) && p r))
      → without_timer (RelayNack k) (turned A (nacks nack_at (filter p relays)) (ends end_at relays) (runs rows)) ≡ turned A (nacks nack_at (filter q relays)) (ends end_at relays) (runs rows)
  nacked-timers k p q relays both =
      without-nack k (filter p relays) relays
      ∙ ap (λ rs. turned A (nacks nack_at rs) (ends end_at relays) (runs rows)) (filter-both (λ r. not (has_number k r)) p q relays both)

  -- a relay is closed
  pub closed-timers : (k : ℕ) (p : Relay → Bool) (relays : List Relay)
      → without_relay k (turned A (nacks nack_at (filter p relays)) (ends end_at relays) (runs rows))
      ≡ turned A (nacks nack_at (filter p (filter (λ r. not (has_number k r)) relays))) (ends end_at (filter (λ r. not (has_number k r)) relays)) (runs rows)
  closed-timers k p relays =
      let left = filter (λ (r : Relay). not (has_number k r)) relays in
      ap (without_timer (RelayNack k)) (without-relay_end k (filter p relays) relays)
      ∙ without-nack k (filter p relays) left
      ∙ ap (λ rs. turned A (nacks nack_at rs) (ends end_at left) (runs rows)) (filter-swap (λ r. not (has_number k r)) p relays)

  -- an Ack came: it ends the relay of its number, or none
  pub ended-timers : (k : ℕ) (sender : List ℕ) (p : Relay → Bool) (relays : List Relay) → AreApart relays
      → without_ended (is_some (ended_asker k sender relays)) k (turned A (nacks nack_at (filter p relays)) (ends end_at relays) (runs rows))
      ≡ turned A (nacks nack_at (filter p (filter (λ r. not (is_ended k sender r)) relays))) (ends end_at (filter (λ r. not (is_ended k sender r)) relays)) (runs rows)
  ended-timers k sender p relays apart = elim (cases_Bool (list_any (is_ended k sender) relays)) [
    | inl ended ↦ (
        rw (found k sender relays ended)
        (closed-timers k p relays
        ∙ ap (λ rs. turned A (nacks nack_at (filter p rs)) (ends end_at rs) (runs rows)) (sym (ended-number k sender relays apart ended))))
    | inr none ↦ (
        rw (missed k sender relays none)
        (ap (λ rs. turned A (nacks nack_at (filter p rs)) (ends end_at rs) (runs rows)) (sym (ended-none k sender relays none))))
  ]

  -- a relay is opened, and an earlier one with its number is closed
  pub opened-timers : (n nack end : ℕ) (p : Relay → Bool) (relays : List Relay)
      → with_relay nack end n (turned A (nacks nack_at (filter p relays)) (ends end_at relays) (runs rows))
      ≡ turned A (nacks nack_at (filter p (filter (λ r. not (has_number n r)) relays)) ++ nack_timer nack n ∷ []) (ends end_at (filter (λ r. not (has_number n r)) relays) ++ relay_timer end n ∷ []) (runs rows)
  opened-timers n nack end p relays =
      let left = filter (λ (r : Relay). not (has_number n r)) relays in
      let B = nacks nack_at (filter p relays) in
      let E = nacks nack_at (filter p left) in
      let C = ends end_at left in
      let u = relay_timer end n in
      let no_end : without_timer (RelayEnd n) (turned A B (ends end_at relays) (runs rows)) ≡ turned A B C (runs rows) = without-relay_end n (filter p relays) relays in
      let no_nack : without_timer (RelayNack n) B ≡ E =
      without-nacks (λ r. r.number) nack_at n (filter p relays) ∙ ap (nacks nack_at) (filter-swap (λ r. not (has_number n r)) p relays) in
      let ends_stay : without_timer (RelayNack n) (C ++ u ∷ []) ≡ C ++ u ∷ [] =
      filter-append (λ t. not (has_id (RelayNack n) t)) C (u ∷ []) ∙ ap (λ ts. ts ++ u ∷ []) (without-map (RelayNack n) (λ r. relay_timer (end_at r.number) r.number) left (λ r. refl)) in
      ap (λ ts. with_timer (nack_timer nack n) (without_timer (RelayNack n) (with_timer u ts))) no_end
      ∙ ap (λ ts. with_timer (nack_timer nack n) (without_timer (RelayNack n) ts)) (with-third u A B C (runs rows))
      ∙ ap (with_timer (nack_timer nack n))
      (without-parts (RelayNack n) A B (C ++ u ∷ []) (runs rows) A E (C ++ u ∷ []) (runs rows) (are.no_nack n) no_nack ends_stay
      (without-runs (RelayNack n) rows (λ r. refl) (λ r. refl)))
      ∙ with-second (nack_timer nack n) A E (C ++ u ∷ []) (runs rows)

-- what agrees for the numbers other than one
agree-map : {R : Type 0} (f g : Relay → R) (n : ℕ) (rs : List Relay) → ((r : Relay) → has_number n r ≡ false → f r ≡ g r) → Others n rs → map f rs ≡ map g rs
agree-map f g n [] same o = refl
agree-map f g n (r ∷ rs) same o =
    let first = same r o.0 in
    let rest = agree-map f g n rs same o.1 in
    λ i. first i ∷ rest i

agree-filter : (p q : Relay → Bool) (n : ℕ) (rs : List Relay) → ((r : Relay) → has_number n r ≡ false → p r ≡ q r) → Others n rs → filter p rs ≡ filter q rs
agree-filter p q n [] same o = refl
agree-filter p q n (r ∷ rs) same o = rw (same r o.0) (ap (λ xs. cond (q r) (r ∷ xs) xs) (agree-filter p q n rs same o.1))

-- The timers of the relays of a log, with one more.
abbrev is_silent : Log → Relay → Bool
is_silent log r = not (relay_has_nacked log r.number)

one-silent : (n : ℕ) (r : Relay) (p : Relay → Bool) → p r ≡ true → filter p (r ∷ []) ≡ r ∷ []
one-silent n r p t = rw t refl

older : {A : Type 0} (n : ℕ) (new old : A) (k : ℕ) → (k == n) ≡ false → cond (n == k) new old ≡ old
older n new old k other = rw (other_number n k (λ e. eqb-false k n other (sym e))) refl

itself : {A : Type 0} (n : ℕ) (new old : A) → cond (n == n) new old ≡ new
itself n new old = rw (eq-eqb n n refl) refl

-- those that stay when a relay is opened
abbrev staying : Log → List Relay
staying log = filter (λ r. not (has_number (number log) r)) (relays log)

pub nacks-opened : (target : List ℕ) (asker : Asker) (log : Log)
    → map (λ r. nack_timer (opened_at log r.number + nack_time (group.config (group_log log))) r.number) (filter (is_silent log) (staying log)) ++ nack_timer (moment log + nack_time (group.config (group_log log))) (number log) ∷ []
    ≡ nack_timers (Relayed target asker ∷ log)
nacks-opened target asker log =
    let n = number log in
    let later = nack_time (group.config (group_log log)) in
    let after : Log = Relayed target asker ∷ log in
    let r = new_relay n target asker in
    let before : Relay → Timer = λ r. nack_timer (opened_at log r.number + later) r.number in
    let now : Relay → Timer = λ r. nack_timer (opened_at after r.number + later) r.number in
    let others = others-closed n (relays log) in
    let silent : filter (is_silent log) (staying log) ≡ filter (is_silent after) (staying log) =
    agree-filter (is_silent log) (is_silent after) n (staying log) (λ r o. ap not (sym (older n false (relay_has_nacked log r.number) r.number o))) others in
    let mapped : map before (filter (is_silent after) (staying log)) ≡ map now (filter (is_silent after) (staying log)) =
    agree-map before now n (filter (is_silent after) (staying log)) (λ r o. ap (λ d. nack_timer (d + later) r.number) (sym (older n (moment log) (opened_at log r.number) r.number o)))
    (others-fewer n (is_silent after) (staying log) others) in
    let last : nack_timer (moment log + later) n ∷ [] ≡ map now (filter (is_silent after) (r ∷ [])) =
    ap (λ d. nack_timer (d + later) n ∷ []) (sym (itself n (moment log) (opened_at log n)))
    ∙ ap (map now) (sym (one-silent n r (is_silent after) (ap not (itself n false (relay_has_nacked log n))))) in
    (λ i. (ap (map before) silent ∙ mapped) i ++ last i)
    ∙ sym (map-append now (filter (is_silent after) (staying log)) (filter (is_silent after) (r ∷ [])))
    ∙ ap (map now) (sym (filter-append (is_silent after) (staying log) (r ∷ [])))
    ∙ ap (λ rs. map now (filter (is_silent after) rs)) (sym (relays-opened target asker log))

pub ends-opened : (target : List ℕ) (asker : Asker) (log : Log)
    → map (λ r. relay_timer (opened_at log r.number + relay_time (group.config (group_log log))) r.number) (staying log) ++ relay_timer (moment log + relay_time (group.config (group_log log))) (number log) ∷ []
    ≡ relay_timers (Relayed target asker ∷ log)
ends-opened target asker log =
    let n = number log in
    let later = relay_time (group.config (group_log log)) in
    let after : Log = Relayed target asker ∷ log in
    let r = new_relay n target asker in
    let before : Relay → Timer = λ r. relay_timer (opened_at log r.number + later) r.number in
    let now : Relay → Timer = λ r. relay_timer (opened_at after r.number + later) r.number in
    let mapped : map before (staying log) ≡ map now (staying log) =
    agree-map before now n (staying log) (λ r o. ap (λ d. relay_timer (d + later) r.number) (sym (older n (moment log) (opened_at log r.number) r.number o))) (others-closed n (relays log)) in
    let last : relay_timer (moment log + later) n ∷ [] ≡ map now (r ∷ []) = ap (λ d. relay_timer (d + later) n ∷ []) (sym (itself n (moment log) (opened_at log n))) in
    (λ i. mapped i ++ last i) ∙ sym (map-append now (staying log) (r ∷ [])) ∙ ap (map now) (sym (relays-opened target asker log))
