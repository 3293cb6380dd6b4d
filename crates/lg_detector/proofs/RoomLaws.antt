-- Room is made by the member that is the first to be forgotten of those that are gone.
use Rattle.std.proofs.Common.{◌≡◌, ◌≢◌, ℕ, ◌+◌, ◌≤◌, Bool, true, false, not, ◌&&◌, ◌||◌, cond, leb, List, [], ◌∷◌, ◌++◌, length, map, Option, Some, None, inl, inr, refl, sym, ◌∙◌, ap, subst, arith}
use Rattle.std.specs.Prelude.{filter, nat_lt, ◌==◌}
use Rattle.std.specs.List.{AllByRecursion, Contains, list_any}
use Rattle.std.specs.Ordering.{is_lt, ordering_then}
use Rattle.std.specs.declared.cmp.Ordering.{Ordering}
use Rattle.std.specs.declared.cmp.Ordering.TheVariants.{Less, Equal, Greater}
use Rattle.std.proofs.lemmas.Bool.{cases_Bool}
use Rattle.std.proofs.lemmas.Bool.Decides.{nat_tests}
use Rattle.std.proofs.lemmas.List.Elements.{All-contains, All-from_recursion, Contains-append_right, filter-append}
use Rattle.lg_rules.specs.declared.claim.Claim.{Claim}
use Rattle.lg_rules.specs.Meaning.Claim.{is_gone, name_of}
use Rattle.lg_rules.specs.Meaning.Rows.{name_cmp, is_among, row_at, without_key}
use Rattle.lg_rules.specs.Meaning.Table.{record_of}
use Rattle.lg_rules.proofs.Cases.{Below, Tied, Above, compared}
use Rattle.lg_rules.proofs.KeyOrder.{names_order, less_apart, turned}
use Rattle.lg_rules.proofs.Roster.{length-roster, length-without, rises-roster, roster-forgot}
use Rattle.lg_rules.proofs.RowsFound.{rows_found}
use Rattle.lg_rules.proofs.Tables.{rises-table, row_at-table}
use Rattle.lg_rules.proofs.Tests.{both}
use Rattle.lg_timers.specs.declared.timer.Timer.{Timer}
use Rattle.lg_timers.specs.Meaning.Timers.{timer_key, timer_cmp, in_turn, least_of, first_forget}
use Rattle.lg_timers.specs.Support.InTurn.{earlier}
use Rattle.lg_timers.proofs.Forgetting.{forgets, forgets-in_turn}
use Rattle.lg_timers.proofs.TurnLaws.{least-with_timer}
use Rattle.lg_probe.specs.Meaning.Round.{RoundFact}
use Rattle.lg_membership.specs.Meaning.Log as group
use Rattle.lg_membership.specs.Meaning.Log.{GroupLog, Forgot, known_others, needs_room, own_facts, table}
use Rattle.lg_membership.specs.Meaning.Suspicions.{suspicions}
use Rattle.lg_membership.proofs.Forgetting.{room-no_need}
use Rattle.lg_detector.specs.Meaning.Apply.{forget, forget_first, make_room}
use Rattle.lg_detector.specs.Meaning.Forget.{Gone, gone_by, gone_records, gone}
use Rattle.lg_detector.specs.Meaning.Log.{Log, group_log}
use Rattle.lg_detector.specs.Meaning.Probing.{Probe, probe, since_start}
use Rattle.lg_detector.specs.Meaning.Relaying.{relays, relay_has_nacked, opened_at}
use Rattle.lg_detector.specs.Meaning.Room.{somebody_is_gone, is_forgotten_before, IsFirstGone}
use Rattle.lg_detector.specs.Meaning.Timing.{start_timers, probe_timers, is_waiting, gossip_timers, round_timers, nack_time, nack_timer, nack_timers, relay_time, relay_timer, relay_timers, suspicion_timer, suspicion_timers, forget_timer, forget_timers, end_at, direct_at, round_start, gossip_at, pending}
use Rattle.lg_detector.proofs.ForgetTimers.{fades}

-- WHICH TIMERS FORGET A MEMBER
-- those of gone members, and no others
none-map : {R : Type 0} (f : R → Timer) (rows : List R) → ((r : R) → forgets (f r) ≡ false) → filter forgets (map f rows) ≡ []
none-map f [] none = refl
none-map f (r ∷ rows) none = rw (none r) (none-map f rows none)

all-fades : (rows : List Gone) → filter forgets (fades rows) ≡ fades rows
all-fades [] = refl
all-fades (r ∷ rows) = ap (λ ts. forget_timer r ∷ ts) (all-fades rows)

none-probe : (end direct : ℕ) (p : Option Probe) (past : List RoundFact) → filter forgets (probe_timers end direct p past) ≡ []
none-probe end direct None past = refl
none-probe end direct (Some p) past = elim (cases_Bool (is_waiting p past)) [
  | inl t ↦ rw t refl
  | inr f ↦ rw f refl
]

none-start : (o : Option ℕ) → filter forgets (start_timers o) ≡ []
none-start None = refl
none-start (Some d) = refl

none-gossip : (o : Option ℕ) → filter forgets (gossip_timers o) ≡ []
none-gossip None = refl
none-gossip (Some d) = refl

none-both : (xs ys : List Timer) → filter forgets xs ≡ [] → filter forgets ys ≡ [] → filter forgets (xs ++ ys) ≡ []
none-both xs ys x y = filter-append forgets xs ys ∙ (λ i. x i ++ y i)

none-round : (log : Log) → filter forgets (round_timers log ++ gossip_timers (gossip_at log)) ≡ []
none-round log =
    none-both (round_timers log) (gossip_timers (gossip_at log))
    (none-both (probe_timers (end_at log) (direct_at log) (probe log) (since_start log)) (start_timers (round_start log))
    (none-probe (end_at log) (direct_at log) (probe log) (since_start log)) (none-start (round_start log)))
    (none-gossip (gossip_at log))

none-nacks : (log : Log) → filter forgets (nack_timers log) ≡ []
none-nacks log =
    let later = nack_time (group.config (group_log log)) in
    none-map (λ r. nack_timer (opened_at log r.number + later) r.number) (filter (λ r. not (relay_has_nacked log r.number)) (relays log)) (λ r. refl)

none-relays : (log : Log) → filter forgets (relay_timers log) ≡ []
none-relays log =
    let later = relay_time (group.config (group_log log)) in
    none-map (λ r. relay_timer (opened_at log r.number + later) r.number) (relays log) (λ r. refl)

none-suspicions : (log : Log) → filter forgets (suspicion_timers log) ≡ []
none-suspicions log = none-map suspicion_timer (suspicions (group_log log)) (λ r. refl)

behind : (xs ys zs : List Timer) → filter forgets xs ≡ [] → filter forgets ys ≡ zs → filter forgets (xs ++ ys) ≡ zs
behind xs ys zs x y = filter-append forgets xs ys ∙ (λ i. x i ++ y i)

-- so the first of them is the first of those alone
first_of-gone : (log : Log) → first_forget (pending log) ≡ least_of (in_turn (fades (gone (group_log log))))
first_of-gone log =
    let rest = suspicion_timers log ++ forget_timers log in
    let first = round_timers log ++ gossip_timers (gossip_at log) in
    ap least_of (forgets-in_turn (first ++ (nack_timers log ++ (relay_timers log ++ rest))))
    ∙ ap (λ ts. least_of (in_turn ts))
    (behind first (nack_timers log ++ (relay_timers log ++ rest)) (forget_timers log) (none-round log)
    (behind (nack_timers log) (relay_timers log ++ rest) (forget_timers log) (none-nacks log)
    (behind (relay_timers log) rest (forget_timers log) (none-relays log)
    (behind (suspicion_timers log) (forget_timers log) (forget_timers log) (none-suspicions log) (all-fades (gone (group_log log)))))))

-- WHICH OF THEM IS THE FIRST
abbrev IsNotBefore : Timer → Timer → Type 0
IsNotBefore s t = timer_cmp s t ≢ Less

-- A gone member leads some if it is one of them and none of their timers is before its own.
record Leads (r : Gone) (rows : List Gone) : Type 0 where
  among : Contains rows r
  before : AllByRecursion (λ s. IsNotBefore (forget_timer s) (forget_timer r)) rows

itself : (t : Timer) → IsNotBefore t t
itself t l = less_apart names_order (timer_key t) (timer_key t) l refl

later : (s t u : Timer) → IsNotBefore s t → IsNotBefore t u → IsNotBefore s u
later s t u a b l = elim (compared (timer_cmp t u)) [
  | Below m ↦ absurd (b m)
  | Tied e ↦ absurd (a (ap (name_cmp (timer_key s)) (names_order.exact (timer_key t) (timer_key u) e) ∙ l))
  | Above g ↦ absurd (a (names_order.total.trans (timer_key s) (timer_key u) (timer_key t) l (turned names_order (timer_key t) (timer_key u) Greater g)))
]

all_later : (e r : Gone) (rows : List Gone) → IsNotBefore (forget_timer e) (forget_timer r)
    → AllByRecursion (λ s. IsNotBefore (forget_timer s) (forget_timer e)) rows → AllByRecursion (λ s. IsNotBefore (forget_timer s) (forget_timer r)) rows
all_later e r [] b all = tt
all_later e r (s ∷ rows) b all = (later (forget_timer s) (forget_timer e) (forget_timer r) all.0 b, all_later e r rows b all.1)

abbrev HasLeader : List Gone → Type 0
HasLeader rows = (r : Gone) × (least_of (in_turn (fades rows)) ≡ Some (forget_timer r)) × Leads r rows

at_head : (r : Gone) (rows : List Gone) → Contains (r ∷ rows) r
at_head r rows = (0, omega arith, refl)

one_more : (r e : Gone) (rows : List Gone) → least_of (in_turn (fades rows)) ≡ Some (forget_timer e) → Leads e rows → HasLeader (r ∷ rows)
unfolding in_turn
one_more r e rows is leads =
    let s = forget_timer e in
    let t = forget_timer r in
    let one : least_of (in_turn (fades (r ∷ rows))) ≡ Some (earlier (Some s) t) =
    least-with_timer t (in_turn (fades rows)) ∙ ap (λ o. Some (earlier o t)) is in
    elim (compared (timer_cmp s t)) [
      | Below l ↦ (
          let first : earlier (Some s) t ≡ s = rw l refl in
          let back : IsNotBefore t s = λ m. itself t (names_order.total.trans (timer_key t) (timer_key s) (timer_key t) m l) in
          (e, one ∙ ap Some first, record { among = Contains-append_right (r ∷ []) rows e leads.among; before = (back, leads.before) }))
      | Tied q ↦ (
          let first : earlier (Some s) t ≡ t = rw q refl in
          let on : IsNotBefore s t = λ m. less_apart names_order (timer_key s) (timer_key t) m (names_order.exact (timer_key s) (timer_key t) q) in
          (r, one ∙ ap Some first, record { among = at_head r rows; before = (itself t, all_later e r rows on leads.before) }))
      | Above g ↦ (
          let first : earlier (Some s) t ≡ t = rw g refl in
          let on : IsNotBefore s t = λ m. itself s (names_order.total.trans (timer_key s) (timer_key t) (timer_key s) m (turned names_order (timer_key s) (timer_key t) Greater g)) in
          (r, one ∙ ap Some first, record { among = at_head r rows; before = (itself t, all_later e r rows on leads.before) }))
    ]

leader : (r : Gone) (rows : List Gone) → HasLeader (r ∷ rows)
unfolding in_turn
leader r [] = (r, refl, record { among = at_head r []; before = (itself (forget_timer r), tt) })
leader r (x ∷ rows) = let rest = leader x rows in one_more r rest.0 (x ∷ rows) rest.1 rest.2

-- said of deadlines and names
by_parts : (less same : Bool) (o : Ordering) → (less || (same && is_lt o)) ≡ is_lt (ordering_then (cond less Less (cond same Equal Greater)) o)
by_parts true same o = refl
by_parts false true o = refl
by_parts false false o = refl

not_lt : (o : Ordering) → o ≢ Less → is_lt o ≡ false
not_lt Less other = absurd (other refl)
not_lt Equal other = refl
not_lt Greater other = refl

none_before : (r : Gone) (rows : List Gone) → AllByRecursion (λ s. IsNotBefore (forget_timer s) (forget_timer r)) rows → list_any (λ s. is_forgotten_before s r) rows ≡ false
none_before r [] all = refl
none_before r (s ∷ rows) all =
    let is : is_forgotten_before s r ≡ false =
    by_parts (nat_lt s.deadline r.deadline) (s.deadline == r.deadline) (name_cmp s.name r.name)
    ∙ not_lt (timer_cmp (forget_timer s) (forget_timer r)) all.0 in
    rw is (none_before r rows all.1)

leads_first : (log : GroupLog) (r : Gone) → Leads r (gone log) → IsFirstGone log r
leads_first log r leads = record { among = leads.among; first = none_before r (gone log) leads.before }

-- WHETHER THERE IS ONE
some_record : (rows : List Claim) → list_any (λ r. is_gone r.status) rows ≡ true → (r : Claim) × (rest : List Claim) × (gone_records rows ≡ r ∷ rest)
some_record [] any = absurd cc
some_record (r ∷ rows) any = elim (cases_Bool (is_gone r.status)) [
  | inl t ↦ (r, gone_records rows, rw t refl)
  | inr f ↦ (let more = some_record rows (rw f at any) in (more.0, more.1, rw f more.2))
]

no_record : (rows : List Claim) → list_any (λ r. is_gone r.status) rows ≡ false → gone_records rows ≡ []
no_record [] any = refl
no_record (r ∷ rows) any = elim (cases_Bool (is_gone r.status)) [
  | inl t ↦ (let bad : true ≡ false = rw t at any in absurd cc)
  | inr f ↦ rw f (no_record rows (rw f at any))
]

none_gone : (log : GroupLog) → somebody_is_gone log ≡ false → gone log ≡ []
none_gone log none = ap (λ rows. cond (group.forgets log) (map (gone_by log) rows) []) (no_record (table log) none) ∙ either (group.forgets log)
  where
    nothing : List Gone
    nothing = []

    either : (b : Bool) → cond b nothing nothing ≡ nothing
    either true = refl
    either false = refl

-- THE LAW
abbrev IsMade : Claim → Log → Type 0
IsMade c log = (r : Gone) × IsFirstGone (group_log log) r × (make_room c log ≡ forget r.name log)

roomy : (log : Log) (c : Claim) → needs_room (group_log log) c ≡ true → make_room c log ≡ forget_first (least_of (in_turn (fades (gone (group_log log))))) log
roomy log c needs =
    ap (λ b. cond b (forget_first (first_forget (pending log)) log) log) needs
    ∙ ap (λ o. forget_first o log) (first_of-gone log)

made_by : (log : Log) (c : Claim) → needs_room (group_log log) c ≡ true → HasLeader (gone (group_log log)) → IsMade c log
made_by log c needs has =
    (has.0, leads_first (group_log log) has.0 has.2, roomy log c needs ∙ ap (λ o. forget_first o log) has.1)

pub room-some : (log : Log) (c : Claim) → needs_room (group_log log) c ≡ true → somebody_is_gone (group_log log) ≡ true → IsMade c log
room-some log c needs any =
    let g = group_log log in
    let forgetting = (both (group.forgets g) _ needs).0 in
    let found = some_record (table g) any in
    let is : gone_by g found.0 ∷ map (gone_by g) found.1 ≡ gone g =
    sym (ap (λ b. cond b (map (gone_by g) (gone_records (table g))) []) forgetting ∙ ap (map (gone_by g)) found.2) in
    made_by log c needs (subst HasLeader is (leader (gone_by g found.0) (map (gone_by g) found.1)))

pub room-unneeded : (log : Log) (c : Claim) → needs_room (group_log log) c ≡ false → make_room c log ≡ log
room-unneeded log c none = ap (λ b. cond b (forget_first (first_forget (pending log)) log) log) none

pub room-none : (log : Log) (c : Claim) → somebody_is_gone (group_log log) ≡ false → make_room c log ≡ log
unfolding in_turn
room-none log c none = elim (cases_Bool (needs_room (group_log log) c)) [
  | inl t ↦ roomy log c t ∙ ap (λ rows. forget_first (least_of (in_turn (fades rows))) log) (none_gone (group_log log) none)
  | inr f ↦ room-unneeded log c f
]

-- THERE IS ROOM THEN
-- A member that is gone is known,
abbrev IsKnown : GroupLog → Gone → Type 0
IsKnown log r = is_among name_cmp r.name (known_others log) ≡ true

known_row : (log : GroupLog) (r : Claim) → row_at name_cmp name_of r.name (table log) ≡ Some r → is_among name_cmp r.name (known_others log) ≡ true
known_row log r is = elim (cases_Bool (is_among name_cmp r.name (known_others log))) [
  | inl t ↦ t
  | inr f ↦ (
      let bad : Some r ≡ None =
      sym is
      ∙ row_at-table (group.forgets log) (group.me log) (own_facts log) r.name
      ∙ ap (λ b. cond b (record_of (group.forgets log) (group.me log) (own_facts log) r.name) None) f in
      absurd cc)
]

known_rows : (log : GroupLog) (rows : List Claim) → AllByRecursion (λ r. row_at name_cmp name_of r.name (table log) ≡ Some r) rows → AllByRecursion (IsKnown log) (map (gone_by log) (gone_records rows))
known_rows log [] all = tt
known_rows log (r ∷ rows) all = elim (cases_Bool (is_gone r.status)) [
  | inl t ↦ rw t (known_row log r all.0, known_rows log rows all.1)
  | inr f ↦ rw f (known_rows log rows all.1)
]

known_gone : (log : GroupLog) → AllByRecursion (IsKnown log) (gone log)
known_gone log = either (group.forgets log)
  where
    rows : AllByRecursion (IsKnown log) (map (gone_by log) (gone_records (table log)))
    rows = known_rows log (table log) (rows_found names_order name_of (table log) (rises-table (group.forgets log) (group.me log) (own_facts log)))

    either : (b : Bool) → AllByRecursion (IsKnown log) (cond b (map (gone_by log) (gone_records (table log))) [])
    either true = rows
    either false = tt

-- and without it at most 254 others are.
room_for_one : (b : Bool) (n : ℕ) → n + 1 ≤ 255 → (not b || leb (n + 1) 255) ≡ true
room_for_one true n few = grind (arith, nat_tests, few)
room_for_one false n few = refl

roomy-forgot : (log : GroupLog) (m : List ℕ) (c : Claim) → is_among name_cmp m (known_others log) ≡ true → needs_room (Forgot m ∷ log) c ≡ false
roomy-forgot log m c known =
    let F = group.forgets log in
    let less = length-without m (known_others log) (rises-roster F (group.me log) (own_facts log)) known in
    let few = length-roster F (group.me log) (own_facts log) in
    let is : length (known_others (Forgot m ∷ log)) ≡ length (without_key name_cmp m (known_others log)) = ap length (roster-forgot F (group.me log) m (own_facts log)) in
    room-no_need (Forgot m ∷ log) 1 c (omega arith) (room_for_one F (length (known_others (Forgot m ∷ log))) (omega (arith, is, less, few)))

pub room-then : (log : Log) (c : Claim) → somebody_is_gone (group_log log) ≡ true → needs_room (group_log (make_room c log)) c ≡ false
room-then log c any = elim (cases_Bool (needs_room (group_log log) c)) [
  | inl t ↦ (
      let made = room-some log c t any in
      let known : IsKnown (group_log log) made.0 =
      All-contains (IsKnown (group_log log)) (gone (group_log log)) made.0 (All-from_recursion (IsKnown (group_log log)) (gone (group_log log)) (known_gone (group_log log))) made.1.among in
      ap (λ l. needs_room (group_log l) c) made.2 ∙ roomy-forgot (group_log log) made.0.name c known)
  | inr f ↦ ap (λ l. needs_room (group_log l) c) (room-unneeded log c f) ∙ f
]
