-- The sequence numbers since an opening: each is the first one, so many numbers later. An event takes one at most, and
-- fewer events come than there are numbers. So the next number differs from each that is in use.
use Rattle.std.proofs.Common.{◌≡◌, ℕ, zero, suc, ◌+◌, ◌<◌, ◌≤◌, Bool, true, false, not, cond, List, [], ◌∷◌, ◌++◌, length, map, reverse, Option, Some, None, inl, inr, refl, sym, ◌∙◌, ap, subst, arith}
use Rattle.std.specs.Prelude.{◌⊎◌, filter, is_some, ◌==◌}
use Rattle.std.specs.List.{list_any}
use Rattle.std.specs.Option.{option_to_list}
use Rattle.std.proofs.lemmas.Bool.{cases_Bool, eqb-true, eqb-false}
use Rattle.std.proofs.lemmas.List.{length-reverse, reverse-append}
use Rattle.std.proofs.lemmas.List.Folds.{list_any-append}
use Rattle.lg_rules.specs.declared.addr.Addr.{Addr}
use Rattle.lg_rules.specs.declared.claim.Claim.{Claim}
use Rattle.lg_rules.proofs.PastLaws.{neither}
use Rattle.lg_timing.specs.declared.config.Config.{Config}
use Rattle.lg_timing.specs.Meaning.Config.{check_of}
use Rattle.lg_timing.proofs.ConfigLemmas.{ranges}
use Rattle.lg_timers.specs.declared.timer.Timer.{Timer}
use Rattle.lg_timers.specs.declared.timer.TimerId.{TimerId}
use Rattle.lg_timers.specs.declared.timer.TimerId.TheVariants.{RoundEnd, Suspicion, Direct, RelayNack, RelayEnd, RoundStart, Forget}
use Rattle.lg_timers.specs.declared.timer.TimerId.TheVariants as ids
use Rattle.lg_timers.specs.Meaning.Timers.{first_forget}
use Rattle.lg_packet.specs.declared.packet.Body.{Body}
use Rattle.lg_packet.specs.declared.packet.Body.TheVariants.{Ping, PingReq, Ack, Nack, Pull, Page, Gossip}
use Rattle.lg_probe.specs.declared.relays.Asker.{Asker}
use Rattle.lg_probe.specs.declared.relays.Relay.{Relay}
use Rattle.lg_probe.specs.Meaning.Relays.{has_number, is_ended}
use Rattle.lg_membership.specs.declared.origin.Origin.{Origin}
use Rattle.lg_membership.specs.declared.origin.Origin.TheVariants.{Seed, Group}
use Rattle.lg_membership.specs.Meaning.Gossip.{version_sent}
use Rattle.lg_membership.specs.Meaning.Log as group
use Rattle.lg_membership.specs.Meaning.Log.{needs_room}
use Rattle.lg_detector.specs.declared.event.Event.{Event}
use Rattle.lg_detector.specs.declared.event.Event.TheVariants.{Open, Tick, Heard, Ask, Health, Leave, Pull as Pulls}
use Rattle.lg_detector.specs.declared.message.Message.{Message}
use Rattle.lg_detector.specs.Meaning.Log.{Log, Came, Fired, AckHeard, NackHeard, Relayed, Ended, OfGroup, group_log}
use Rattle.lg_detector.specs.Meaning.Probing.{Probe, chosen, highest_number, lowest_number, new_probe, next_number, number, probe, probe_by, starts}
use Rattle.lg_detector.specs.Meaning.Relaying.{is_next_in_use, new_relay, numbers_in_use, relays}
use Rattle.lg_detector.specs.Meaning.Apply.{apply, apply_all, fire, forget_by, forget_first, hear_each, hear_one}
use Rattle.lg_detector.specs.Meaning.Send.{send, send_all}
use Rattle.lg_detector.specs.Meaning.Timing.{due, pending}
use Rattle.lg_detector.specs.Meaning.Open.{seed_claims}
use Rattle.lg_detector.specs.Meaning.Hear.{asker_from, body_meant, claims_heard, hear_claims, is_relayed, my_group, note, response, table_teller}
use Rattle.lg_detector.specs.Meaning.Tick.{claims_said, expire, messages}
use Rattle.lg_detector.specs.Meaning.Step.{is_accepted, is_open_event, log_of, opens_well, step}
use Rattle.lg_detector.proofs.Accepting.{checked}
use Rattle.lg_detector.proofs.AcceptedLists.{begun}
use Rattle.lg_detector.proofs.Deadlines.{configuration, configuration_untouched, configuration-expire}
use Rattle.lg_detector.proofs.RelayLaws.{relays-acked, relays-closed, relays-opened}
use Rattle.lg_detector.proofs.Untouched.{untouched-hear, untouched-open}

-- the number behind so many others
abbrev pub number_at : ℕ → ℕ → ℕ
number_at first zero = first
number_at first (suc j) = next_number (number_at first j)

-- It is their sum, or that less the greatest number.
abbrev pub IsAt : ℕ → ℕ → ℕ → Type 0
IsAt first j k = ((k ≡ first + j) × (k ≤ highest_number)) ⊎ ((k + highest_number ≡ first + j) × (1 ≤ k))

at-next : (first j k : ℕ) → first ≤ highest_number → suc j < highest_number → IsAt first j k → IsAt first (suc j) (next_number k)
at-next first j k good few (inl before) = elim (cases_Bool (k == highest_number)) [
  | inl t ↦ rw t (inr (omega (arith, eqb-true k highest_number t, before.0), omega arith))
  | inr f ↦ (
      let other : k ≡ highest_number → ⊥ = eqb-false k highest_number f in
      rw f (inl (omega (arith, before.0), omega (arith, before.1, other))))
]
at-next first j k good few (inr behind) = elim (cases_Bool (k == highest_number)) [
  | inl t ↦ absurd (omega (arith, eqb-true k highest_number t, good, few, behind.0))
  | inr f ↦ rw f (inr (omega (arith, behind.0), omega arith))
]

is_at : (first j : ℕ) → first ≤ highest_number → j < highest_number → IsAt first j (number_at first j)
is_at first zero good few = inl (omega arith, good)
is_at first (suc j) good few = at-next first j (number_at first j) good few (is_at first j good (omega (arith, few)))

-- So two of them are equal only if as many others are before both.
apart : (first i n k : ℕ) → i < n → n < highest_number → IsAt first i k → IsAt first n k → ⊥
apart first i n k less few (inl one) (inl other) = omega (arith, less, one.0, other.0)
apart first i n k less few (inl one) (inr other) = omega (arith, less, few, one.0, other.0)
apart first i n k less few (inr one) (inl other) = omega (arith, less, few, one.0, other.0)
apart first i n k less few (inr one) (inr other) = omega (arith, less, one.0, other.0)

-- how many numbers were taken since the opening
abbrev pub taken_count : Log → ℕ
taken_count [] = 0
taken_count (OfGroup (group.Opened opening) ∷ log) = 0
taken_count (Fired timer words ∷ log) = cond (starts timer.id words log) (taken_count log + 1) (taken_count log)
taken_count (Relayed target asker ∷ log) = taken_count log + 1
taken_count (_ ∷ log) = taken_count log

abbrev pub first_in : Option Config → ℕ
first_in None = lowest_number
first_in (Some opening) = opening.first

abbrev first_of : Log → ℕ
first_of log = first_in (configuration log)

at-more : (first n : ℕ) → next_number (number_at first n) ≡ number_at first (n + 1)
at-more first n = ap (number_at first) (one_more n)
  where
    one_more : (n : ℕ) → suc n ≡ n + 1
    one_more n = omega arith

at-taken : (first n : ℕ) (b : Bool) → cond b (next_number (number_at first n)) (number_at first n) ≡ number_at first (cond b (n + 1) n)
at-taken first n true = at-more first n
at-taken first n false = refl

pub number-is : (log : Log) → number log ≡ number_at (first_of log) (taken_count log)
number-is [] = refl
number-is (Came now ∷ log) = number-is log
number-is (Ended ∷ log) = number-is log
number-is (Fired timer words ∷ log) =
    ap (λ k. cond (starts timer.id words log) (next_number k) k) (number-is log) ∙ at-taken (first_of log) (taken_count log) (starts timer.id words log)
number-is (AckHeard k sender ∷ log) = number-is log
number-is (NackHeard k sender ∷ log) = number-is log
number-is (Relayed target asker ∷ log) = ap next_number (number-is log) ∙ at-more (first_of log) (taken_count log)
number-is (OfGroup (group.Opened opening) ∷ log) = refl
number-is (OfGroup (group.Said now origin c) ∷ log) = number-is log
number-is (OfGroup (group.Sent taken) ∷ log) = number-is log
number-is (OfGroup (group.Forgot m) ∷ log) = number-is log
number-is (OfGroup group.Departed ∷ log) = number-is log

-- a number that was taken
pub record IsTaken (first n k : ℕ) : Type 0 where
  pub place : ℕ
  pub before : place < n
  pub is : k ≡ number_at first place

abbrev pub AllTaken : ℕ → ℕ → List ℕ → Type 0
AllTaken first n [] = Unit {0}
AllTaken first n (k ∷ ks) = IsTaken first n k × AllTaken first n ks

taken-more : (first n m k : ℕ) → n ≤ m → IsTaken first n k → IsTaken first m k
taken-more first n m k le t = record { place = t.place; before = omega (arith, le, t.before); is = t.is }

all-more : (first n m : ℕ) (ks : List ℕ) → n ≤ m → AllTaken first n ks → AllTaken first m ks
all-more first n m [] le a = tt
all-more first n m (k ∷ ks) le a = (taken-more first n m k le a.0, all-more first n m ks le a.1)

abbrev pub numbers : List Relay → List ℕ
numbers rs = map (λ r. r.number) rs

all-fewer : (first n : ℕ) (p : Relay → Bool) (rs : List Relay) → AllTaken first n (numbers rs) → AllTaken first n (numbers (filter p rs))
all-fewer first n p [] a = tt
all-fewer first n p (r ∷ rs) a = elim (cases_Bool (p r)) [
  | inl t ↦ rw t (a.0, all-fewer first n p rs a.1)
  | inr f ↦ rw f (all-fewer first n p rs a.1)
]

all-one_more : (first n : ℕ) (rs : List Relay) (r : Relay) → AllTaken first n (numbers rs) → IsTaken first n r.number → AllTaken first n (numbers (rs ++ r ∷ []))
all-one_more first n [] r a t = (t, tt)
all-one_more first n (x ∷ rs) r a t = (a.0, all-one_more first n rs r a.1 t)

-- The numbers of the open relays, and of the probe that runs, were taken.
pub starts-more : (b : Bool) (n : ℕ) → n ≤ cond b (n + 1) n
starts-more true n = omega arith
starts-more false n = omega arith

abbrev HasTaken : Log → Type 0
HasTaken log = AllTaken (first_of log) (taken_count log) (numbers (relays log))

fired-more : (timer : TimerId) (words : List ℕ) (log : Log) (ks : List ℕ) → AllTaken (first_of log) (taken_count log) ks → AllTaken (first_of log) (cond (starts timer words log) (taken_count log + 1) (taken_count log)) ks
fired-more timer words log ks a = all-more (first_of log) _ _ ks (starts-more (starts timer words log) (taken_count log)) a

fired-taken : (d : ℕ) (id : TimerId) (words : List ℕ) (log : Log) → HasTaken log → HasTaken (Fired (record { deadline = d; id = id }) words ∷ log)
fired-taken d RoundEnd words log a = fired-more RoundEnd words log _ a
fired-taken d (Suspicion m) words log a = fired-more (Suspicion m) words log _ a
fired-taken d Direct words log a = fired-more Direct words log _ a
fired-taken d (RelayNack k) words log a = fired-more (RelayNack k) words log _ a
fired-taken d (RelayEnd k) words log a =
    let p : Relay → Bool = λ r. not (has_number k r) in
    let n = cond (starts (RelayEnd k) words log) (taken_count log + 1) (taken_count log) in
    subst (λ (rs : List Relay). AllTaken (first_of log) n (numbers rs)) (sym (relays-closed d k words log))
    (fired-more (RelayEnd k) words log _ (all-fewer _ _ p (relays log) a))
fired-taken d (Forget m) words log a = fired-more (Forget m) words log _ a
fired-taken d ids.Gossip words log a = fired-more ids.Gossip words log _ a
fired-taken d RoundStart words log a = fired-more RoundStart words log _ a

taken_last : (log : Log) → IsTaken (first_of log) (taken_count log + 1) (number log)
taken_last log = record { place = taken_count log; before = omega arith; is = number-is log }

pub relays-taken : (log : Log) → HasTaken log
relays-taken [] = tt
relays-taken (Came now ∷ log) = relays-taken log
relays-taken (Ended ∷ log) = relays-taken log
relays-taken (Fired timer words ∷ log) = fired-taken timer.deadline timer.id words log (relays-taken log)
relays-taken (AckHeard k sender ∷ log) =
    subst (λ (rs : List Relay). AllTaken (first_of log) (taken_count log) (numbers rs)) (sym (relays-acked k sender log))
    (all-fewer _ _ (λ r. not (is_ended k sender r)) (relays log) (relays-taken log))
relays-taken (NackHeard k sender ∷ log) = relays-taken log
relays-taken (Relayed target asker ∷ log) =
    let n = taken_count log in
    let left : Relay → Bool = λ r. not (has_number (number log) r) in
    let older = all-more (first_of log) n (n + 1) _ (omega arith) (all-fewer (first_of log) n left (relays log) (relays-taken log)) in
    subst (λ (rs : List Relay). AllTaken (first_of log) (n + 1) (numbers rs)) (sym (relays-opened target asker log))
    (all-one_more (first_of log) (n + 1) (filter left (relays log)) (new_relay (number log) target asker) older (taken_last log))
relays-taken (OfGroup (group.Opened opening) ∷ log) = tt
relays-taken (OfGroup (group.Said now origin c) ∷ log) = relays-taken log
relays-taken (OfGroup (group.Sent taken) ∷ log) = relays-taken log
relays-taken (OfGroup (group.Forgot m) ∷ log) = relays-taken log
relays-taken (OfGroup group.Departed ∷ log) = relays-taken log

abbrev pub number_of : Option Probe → List ℕ
number_of p = map (λ p. p.number) (option_to_list p)

new-taken : (log : Log) (o : Option (List ℕ)) → AllTaken (first_of log) (cond (is_some o) (taken_count log + 1) (taken_count log)) (number_of (new_probe (number log) o))
new-taken log None = tt
new-taken log (Some m) = (taken_last log, tt)

probe-by : (id : TimerId) (words : List ℕ) (log : Log) → AllTaken (first_of log) (taken_count log) (number_of (probe log))
    → AllTaken (first_of log) (cond (starts id words log) (taken_count log + 1) (taken_count log)) (number_of (probe_by id words log (probe log)))
probe-by RoundEnd words log a = tt
probe-by (Suspicion m) words log a = a
probe-by Direct words log a = a
probe-by (RelayNack k) words log a = a
probe-by (RelayEnd k) words log a = a
probe-by (Forget m) words log a = a
probe-by ids.Gossip words log a = a
probe-by RoundStart words log a = new-taken log (chosen words log)

pub probe-taken : (log : Log) → AllTaken (first_of log) (taken_count log) (number_of (probe log))
probe-taken [] = tt
probe-taken (Came now ∷ log) = probe-taken log
probe-taken (Ended ∷ log) = probe-taken log
probe-taken (Fired timer words ∷ log) = probe-by timer.id words log (probe-taken log)
probe-taken (AckHeard k sender ∷ log) = probe-taken log
probe-taken (NackHeard k sender ∷ log) = probe-taken log
probe-taken (Relayed target asker ∷ log) = all-more (first_of log) _ _ _ (omega arith) (probe-taken log)
probe-taken (OfGroup (group.Opened opening) ∷ log) = tt
probe-taken (OfGroup (group.Said now origin c) ∷ log) = probe-taken log
probe-taken (OfGroup (group.Sent taken) ∷ log) = probe-taken log
probe-taken (OfGroup (group.Forgot m) ∷ log) = probe-taken log
probe-taken (OfGroup group.Departed ∷ log) = tt

all-both : (first n : ℕ) (ks ls : List ℕ) → AllTaken first n ks → AllTaken first n ls → AllTaken first n (ks ++ ls)
all-both first n [] ls a b = b
all-both first n (k ∷ ks) ls a b = (a.0, all-both first n ks ls a.1 b)

-- So none of them is the next one, as long as fewer were taken than there are.
none_next : (first n : ℕ) (ks : List ℕ) → first ≤ highest_number → n < highest_number → AllTaken first n ks → list_any (λ k. k == number_at first n) ks ≡ false
none_next first n [] good few a = refl
none_next first n (k ∷ ks) good few a = elim (cases_Bool (k == number_at first n)) [
  | inl t ↦ (
      let same : number_at first a.0.place ≡ number_at first n = sym a.0.is ∙ eqb-true k (number_at first n) t in
      let one : IsAt first a.0.place (number_at first n) = subst (IsAt first a.0.place) same (is_at first a.0.place good (omega (arith, few, a.0.before))) in
      absurd (apart first a.0.place n (number_at first n) a.0.before few one (is_at first n good few)))
  | inr f ↦ rw f (none_next first n ks good few a.1)
]

pub free : (log : Log) → first_of log ≤ highest_number → taken_count log < highest_number → is_next_in_use log ≡ false
free log good few =
    let all = all-both (first_of log) (taken_count log) (number_of (probe log)) (numbers (relays log)) (probe-taken log) (relays-taken log) in
    ap (λ n. list_any (λ k. k == n) (numbers_in_use log)) (number-is log) ∙ none_next (first_of log) (taken_count log) (numbers_in_use log) good few all

-- An event takes one number at most.
count-apply_all : (origin : Origin) (cs : List Claim) (log : Log) → taken_count (apply_all origin cs log) ≡ taken_count log
count-apply_all origin [] log = refl
count-apply_all origin (c ∷ cs) log = count-apply_all origin cs (apply origin c log)

count-send : (body : Body) (log : Log) → taken_count (send body log) ≡ taken_count log
count-send (Ping k target) log = refl
count-send (PingReq k target addr) log = refl
count-send (Ack k receiver) log = refl
count-send (Nack k receiver) log = refl
count-send (Pull after) log = refl
count-send Page log = refl
count-send Gossip log = refl

count-send_all : (ms : List Message) (log : Log) → taken_count (send_all ms log) ≡ taken_count log
count-send_all [] log = refl
count-send_all (m ∷ ms) log = count-send_all ms (send m.body log) ∙ count-send m.body log

count-forget_by : (id : TimerId) (log : Log) → taken_count (forget_by id log) ≡ taken_count log
count-forget_by RoundEnd log = refl
count-forget_by (Suspicion m) log = refl
count-forget_by Direct log = refl
count-forget_by (RelayNack k) log = refl
count-forget_by (RelayEnd k) log = refl
count-forget_by RoundStart log = refl
count-forget_by (Forget m) log = refl
count-forget_by ids.Gossip log = refl

count-room : (b : Bool) (o : Option Timer) (log : Log) → taken_count (cond b (forget_first o log) log) ≡ taken_count log
count-room true None log = refl
count-room true (Some timer) log = count-forget_by timer.id log
count-room false o log = refl

count-hear_each : (teller : Option (List ℕ)) (cs : List Claim) (log : Log) → taken_count (hear_each teller cs log) ≡ taken_count log
count-hear_each teller [] log = refl
count-hear_each teller (c ∷ cs) log = count-hear_each teller cs (hear_one teller c log) ∙ count-room (needs_room (group_log log) c) (first_forget (pending log)) log

one_at_most : (b : Bool) (n : ℕ) → cond b (n + 1) n ≤ n + 1
one_at_most true n = omega arith
one_at_most false n = omega arith

count-relayed : (b : Bool) (target : List ℕ) (asker : Asker) (log : Log) → taken_count (cond b (Relayed target asker ∷ log) log) ≤ taken_count log + 1
count-relayed true target asker log = omega arith
count-relayed false target asker log = omega arith

count-note : (source : Addr) (sender : List ℕ) (body : Body) (log : Log) → taken_count (note source sender body log) ≤ taken_count log + 1
count-note source sender (Ping k target) log = omega arith
count-note source sender (PingReq k target addr) log =
    count-relayed (is_relayed (group.me (group_log log)) (relays log) target) target (asker_from sender source k) log
count-note source sender (Ack k receiver) log = omega arith
count-note source sender (Nack k receiver) log = omega arith
count-note source sender (Pull after) log = omega arith
count-note source sender Page log = omega arith
count-note source sender Gossip log = omega arith

count-expire : (o : Option Timer) (words : List ℕ) (log : Log) → taken_count (expire o words log) ≤ taken_count log + 1
count-expire None words log = omega arith
count-expire (Some timer) words log =
    let claims = claims_said timer.id log in
    let fired = fire timer words log in
    omega (
      arith,
      count-send_all (messages timer.id words log) (apply_all Group claims fired) ∙ count-apply_all Group claims fired ∙ count-forget_by timer.id (Fired timer words ∷ log),
      one_at_most (starts timer.id words log) (taken_count log),
    )

count-step : (e : Event) (log : Log) → taken_count (step e log) ≤ taken_count log + 1
count-step (Open now opening) log =
    omega (arith, count-apply_all Seed (seed_claims opening) (OfGroup (group.Opened opening) ∷ Came now ∷ log))
count-step (Heard now source packet) log =
    let heard = hear_claims now packet log in
    let body = body_meant packet heard in
    omega (
      arith,
      count-send_all (response source packet.sender body heard) (note source packet.sender body heard),
      count-note source packet.sender body heard,
      count-hear_each (table_teller (version_sent (group.config (group_log log))) packet) (claims_heard (my_group log) packet) (Came now ∷ log),
    )
count-step (Tick now words) log = count-expire (due (Came now ∷ log)) words (Came now ∷ log)
count-step (Ask now name) log = omega arith
count-step (Health now) log = omega arith
count-step (Pulls now peer) log = omega arith
count-step (Leave now words) log = omega arith

count-log_of : (past : List Event) → taken_count (log_of past) ≤ length past
count-log_of [] = omega arith
count-log_of (e ∷ past) = omega (arith, count-step e (log_of past), count-log_of past)

-- The configuration is that of the opening.
configuration-next : (e : Event) (log : Log) → is_open_event e ≡ false → configuration (step e log) ≡ configuration log
configuration-next (Open now opening) log shut = absurd cc
configuration-next (Heard now source packet) log shut = untouched-hear configuration configuration_untouched (λ m log. refl) now source packet log
configuration-next (Tick now words) log shut = configuration-expire (due (Came now ∷ log)) words (Came now ∷ log)
configuration-next (Ask now name) log shut = refl
configuration-next (Health now) log shut = refl
configuration-next (Pulls now peer) log shut = refl
configuration-next (Leave now words) log shut = refl

configuration-past : (past : List Event) (x : Event) → list_any is_open_event past ≡ false → configuration (log_of (past ++ x ∷ [])) ≡ configuration (step x [])
configuration-past [] x shut = refl
configuration-past (e ∷ past) x shut =
    let parts = neither (is_open_event e) (list_any is_open_event past) shut in
    configuration-next e (log_of (past ++ x ∷ [])) parts.0 ∙ configuration-past past x parts.1

none-reverse : (f : List Event) → list_any is_open_event f ≡ false → list_any is_open_event (reverse f) ≡ false
none-reverse [] shut = refl
none-reverse (e ∷ f) shut =
    let parts = neither (is_open_event e) (list_any is_open_event f) shut in
    ap (list_any is_open_event) (reverse-append (e ∷ []) f) ∙ list_any-append is_open_event (reverse f) (e ∷ []) ∙ rw (none-reverse f parts.1, parts.0) refl

good-opened : (x : Event) → opens_well x ≡ true → first_in (configuration (step x [])) ≤ highest_number
good-opened (Open now opening) well =
    subst (λ (o : Option Config). first_in o ≤ highest_number) (sym (untouched-open configuration configuration_untouched now opening []))
    ((ranges opening (checked (check_of opening) well)).first_most)
good-opened (Heard now source packet) well = absurd cc
good-opened (Tick now words) well = absurd cc
good-opened (Ask now name) well = absurd cc
good-opened (Health now) well = absurd cc
good-opened (Pulls now peer) well = absurd cc
good-opened (Leave now words) well = absurd cc

-- An accepted list leaves numbers that weren't taken.
abbrev pub HasMore : Log → Type 0
HasMore log = (first_of log ≤ highest_number) × (taken_count log < highest_number)

pub has_more : (x : Event) (f : List Event) → is_accepted (x ∷ f) ≡ true → HasMore (log_of (reverse (x ∷ f)))
has_more x f accepted =
    let b = begun x f accepted in
    let log : Log = log_of (reverse (x ∷ f)) in
    let opened : configuration log ≡ configuration (step x []) =
    ap (λ (past : List Event). configuration (log_of past)) (reverse-append (x ∷ []) f) ∙ configuration-past (reverse f) x (none-reverse f b.shut) in (
      subst (λ (o : Option Config). first_in o ≤ highest_number) (sym opened) (good-opened x b.opens),
      omega (arith, count-log_of (reverse (x ∷ f)), length-reverse (x ∷ f), b.few),
    )

-- After an accepted list of events the next number isn't in use.
pub next_is_free : (f : List Event) → is_accepted f ≡ true → is_next_in_use (log_of (reverse f)) ≡ false
next_is_free [] accepted = refl
next_is_free (x ∷ f) accepted = let more = has_more x f accepted in free (log_of (reverse (x ∷ f))) more.0 more.1
