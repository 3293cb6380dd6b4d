-- No number is in use twice. The open relays of any log have different numbers. A probe takes a number that no open
-- relay has, and a relay takes one that the probe that runs hasn't, as long as there are more.
use Rattle.std.proofs.Common.{◌≡◌, ℕ, ◌+◌, ◌<◌, Bool, true, false, not, cond, List, [], ◌∷◌, ◌++◌, reverse, Option, Some, None, sym, subst, arith}
use Rattle.std.specs.Prelude.{filter, nat_eq, ◌==◌}
use Rattle.std.specs.List.{AllByRecursion, IsDistinct, list_any}
use Rattle.std.proofs.lemmas.Bool.{eqb-false, ne_eqb}
use Rattle.lg_rules.proofs.PastLaws.{neither}
use Rattle.lg_gossip.proofs.Each.{all-filter}
use Rattle.lg_timers.specs.declared.timer.TimerId.{TimerId}
use Rattle.lg_timers.specs.declared.timer.TimerId.TheVariants.{RoundEnd, Suspicion, Direct, RelayNack, RelayEnd, RoundStart, Forget, Gossip}
use Rattle.lg_probe.specs.declared.relays.Relay.{Relay}
use Rattle.lg_probe.specs.Meaning.Relays.{AreApart, has_number, is_ended}
use Rattle.lg_membership.specs.Meaning.Log as group
use Rattle.lg_detector.specs.declared.event.Event.{Event}
use Rattle.lg_detector.specs.Meaning.Log.{Log, Came, Fired, AckHeard, NackHeard, Relayed, Ended, OfGroup}
use Rattle.lg_detector.specs.Meaning.Probing.{Probe, chosen, highest_number, new_probe, number, probe, starts}
use Rattle.lg_detector.specs.Meaning.Relaying.{new_relay, numbers_in_use, relays}
use Rattle.lg_detector.specs.Meaning.Step.{is_accepted, log_of}
use Rattle.lg_detector.proofs.RelayLaws.{relays-acked, relays-closed, relays-opened, relays_apart}
use Rattle.lg_detector.proofs.Numbers.{HasMore, free, has_more, number_of, numbers, starts-more, taken_count}

-- no relay has this number
abbrev HaveOthers : ℕ → List Relay → Type 0
HaveOthers n rs = AllByRecursion (λ r. (n == r.number) ≡ false) rs

-- no relay has the number of the probe, if there is one
abbrev IsApart : Option Probe → List Relay → Type 0
IsApart None rs = Unit {0}
IsApart (Some p) rs = HaveOthers p.number rs

apart-fewer : (o : Option Probe) (p : Relay → Bool) (rs : List Relay) → IsApart o rs → IsApart o (filter p rs)
apart-fewer None p rs a = tt
apart-fewer (Some q) p rs a = all-filter (λ (r : Relay). (q.number == r.number) ≡ false) p rs a

others-one_more : (n : ℕ) (rs : List Relay) (r : Relay) → HaveOthers n rs → (n == r.number) ≡ false → HaveOthers n (rs ++ r ∷ [])
others-one_more n [] r a other = (other, tt)
others-one_more n (x ∷ rs) r a other = (a.0, others-one_more n rs r a.1 other)

turned : (a b : ℕ) → (a == b) ≡ false → (b == a) ≡ false
turned a b other = ne_eqb b a (λ same. eqb-false a b other (sym same))

-- A number that isn't in use is that of no relay, and not that of the probe.
abbrev in_use : Option Probe → List Relay → List ℕ
in_use o rs = number_of o ++ numbers rs

abbrev is_used : ℕ → List ℕ → Bool
is_used n ks = list_any (λ k. k == n) ks

no_relay : (n : ℕ) (rs : List Relay) → is_used n (numbers rs) ≡ false → HaveOthers n rs
no_relay n [] unused = tt
no_relay n (r ∷ rs) unused =
    let parts = neither (r.number == n) (is_used n (numbers rs)) unused in
    (turned r.number n parts.0, no_relay n rs parts.1)

no_relay-beside : (n : ℕ) (o : Option Probe) (rs : List Relay) → is_used n (in_use o rs) ≡ false → HaveOthers n rs
no_relay-beside n None rs unused = no_relay n rs unused
no_relay-beside n (Some p) rs unused = no_relay n rs (neither (p.number == n) (is_used n (numbers rs)) unused).1

-- a relay that takes such a number
apart-opened : (o : Option Probe) (rs : List Relay) (p : Relay → Bool) (r : Relay) → is_used r.number (in_use o rs) ≡ false → IsApart o rs → IsApart o (filter p rs ++ r ∷ [])
apart-opened None rs p r unused a = tt
apart-opened (Some q) rs p r unused a =
    others-one_more q.number (filter p rs) r (apart-fewer (Some q) p rs a)
    (neither (q.number == r.number) (is_used r.number (numbers rs)) unused).0

-- a probe that takes it
apart-begun : (n : ℕ) (chosen : Option (List ℕ)) (o : Option Probe) (rs : List Relay) → is_used n (in_use o rs) ≡ false → IsApart (new_probe n chosen) rs
apart-begun n None o rs unused = tt
apart-begun n (Some m) o rs unused = no_relay-beside n o rs unused

-- So no open relay has the number of the probe that runs.
abbrev IsProbeApart : Log → Type 0
IsProbeApart log = IsApart (probe log) (relays log)

more-before : (id : TimerId) (words : List ℕ) (log : Log) → cond (starts id words log) (taken_count log + 1) (taken_count log) < highest_number → taken_count log < highest_number
more-before id words log few = omega (arith, starts-more (starts id words log) (taken_count log), few)

fired-apart : (d : ℕ) (id : TimerId) (words : List ℕ) (log : Log) → HasMore log → IsProbeApart log → IsProbeApart (Fired (record { deadline = d; id = id }) words ∷ log)
fired-apart d RoundEnd words log more a = tt
fired-apart d (Suspicion m) words log more a = a
fired-apart d Direct words log more a = a
fired-apart d (RelayNack k) words log more a = a
fired-apart d (RelayEnd k) words log more a =
    subst (IsApart (probe log)) (sym (relays-closed d k words log)) (apart-fewer (probe log) (λ r. not (has_number k r)) (relays log) a)
fired-apart d (Forget m) words log more a = a
fired-apart d Gossip words log more a = a
fired-apart d RoundStart words log more a = apart-begun (number log) (chosen words log) (probe log) (relays log) (free log more.0 more.1)

probe_apart : (log : Log) → HasMore log → IsProbeApart log
probe_apart [] more = tt
probe_apart (Came now ∷ log) more = probe_apart log more
probe_apart (Ended ∷ log) more = probe_apart log more
probe_apart (Fired timer words ∷ log) more =
    let before : HasMore log = (more.0, more-before timer.id words log more.1) in
    fired-apart timer.deadline timer.id words log before (probe_apart log before)
probe_apart (AckHeard k sender ∷ log) more =
    subst (IsApart (probe log)) (sym (relays-acked k sender log))
    (apart-fewer (probe log) (λ r. not (is_ended k sender r)) (relays log) (probe_apart log more))
probe_apart (NackHeard k sender ∷ log) more = probe_apart log more
probe_apart (Relayed target asker ∷ log) more =
    let before : HasMore log = (more.0, omega (arith, more.1)) in
    subst (IsApart (probe log)) (sym (relays-opened target asker log))
    (apart-opened (probe log) (relays log) (λ r. not (has_number (number log) r)) (new_relay (number log) target asker) (free log before.0 before.1) (probe_apart log before))
probe_apart (OfGroup (group.Opened opening) ∷ log) more = tt
probe_apart (OfGroup (group.Said now origin c) ∷ log) more = probe_apart log more
probe_apart (OfGroup (group.Sent taken) ∷ log) more = probe_apart log more
probe_apart (OfGroup (group.Forgot m) ∷ log) more = probe_apart log more
probe_apart (OfGroup group.Departed ∷ log) more = tt

-- in the words of std
others-numbers : (n : ℕ) (rs : List Relay) → HaveOthers n rs → AllByRecursion (λ k. nat_eq n k ≡ false) (numbers rs)
others-numbers n [] a = tt
others-numbers n (r ∷ rs) a = (a.0, others-numbers n rs a.1)

relays-distinct : (rs : List Relay) → AreApart rs → IsDistinct nat_eq (numbers rs)
unfolding IsDistinct
relays-distinct [] a = tt
relays-distinct (r ∷ rs) a = (others-numbers r.number rs a.0, relays-distinct rs a.1)

all-distinct : (o : Option Probe) (rs : List Relay) → IsApart o rs → AreApart rs → IsDistinct nat_eq (in_use o rs)
unfolding IsDistinct
all-distinct None rs a apart = relays-distinct rs apart
all-distinct (Some p) rs a apart = (others-numbers p.number rs a, relays-distinct rs apart)

-- After an accepted list of events no number is in use twice.
pub none_twice : (f : List Event) → is_accepted f ≡ true → IsDistinct nat_eq (numbers_in_use (log_of (reverse f)))
unfolding IsDistinct
none_twice [] accepted = tt
none_twice (x ∷ f) accepted =
    let log : Log = log_of (reverse (x ∷ f)) in
    all-distinct (probe log) (relays log) (probe_apart log (has_more x f accepted)) (relays_apart log)
