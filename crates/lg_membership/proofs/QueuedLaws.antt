-- What is queued about one name, when a claim is said.
use Rattle.std.proofs.Common.{◌≡◌, ◌≢◌, ℕ, Bool, true, false, not, ◌&&◌, ◌||◌, cond, List, [], ◌∷◌, Option, Some, None, inl, inr, refl, sym, ◌∙◌, ap}
use Rattle.std.specs.Prelude.{option_map}
use Rattle.std.proofs.lemmas.Bool.{cases_Bool}
use Rattle.lg_rules.specs.Meaning.Claim.{accuser_of, is_gone, name_of}
use Rattle.lg_rules.specs.declared.claim.Claim.{Claim}
use Rattle.lg_rules.specs.declared.claim.Status.{Status}
use Rattle.lg_rules.specs.declared.own.OwnHeard.{OwnHeard}
use Rattle.lg_rules.specs.declared.own.OwnHeard.TheVariants.{Refuted, Raised, Ousted, Ignored}
use Rattle.lg_rules.specs.declared.version.Version.{Version}
use Rattle.lg_rules.specs.declared.members.Heard.TheVariants.{Ignored as Unheeded, NoRoom}
use Rattle.lg_rules.specs.Meaning.Own.{OwnValue, own_hearing, own_heard, own_left, own_of, own_record}
use Rattle.lg_rules.specs.Meaning.Rows.{name_cmp, is_same, is_among, put_key, row_at}
use Rattle.lg_rules.specs.Meaning.Table.{takes, roster}
use Rattle.lg_rules.proofs.Cases.{Missing, Holding, held, held_once}
use Rattle.lg_rules.proofs.KeyOrder.{names_order, cases_key, same_key, other_key, key_is}
use Rattle.lg_rules.proofs.OwnLaws.{own_heard_name, own_of_name}
use Rattle.lg_rules.proofs.Rises.{among-put_same, put-there}
use Rattle.lg_rules.proofs.RowLaws.{Keyed, AgreeBut}
use Rattle.lg_rules.proofs.Tables.{Taken, Unbeaten, Out, heard_cases, row_at-table}
use Rattle.lg_rules.specs.Meaning.Table.{record_of}
use Rattle.lg_timing.specs.declared.config.Config.{Config}
use Rattle.lg_timing.specs.Meaning.Config.{version_of}
use Rattle.lg_gossip.specs.declared.queued.Queued.{Queued}
use Rattle.lg_gossip.specs.Meaning.Queue.{fresh, is_suspect, queued_name, sent_once}
use Rattle.lg_membership.specs.declared.origin.Origin.{Origin}
use Rattle.lg_membership.specs.declared.origin.Origin.TheVariants.{Seed, Group}
use Rattle.lg_membership.specs.Meaning.Log.{GroupLog, Opened, Said, Sent, Departed, Forgot, config, me, own_facts, own, forgets, table, known, loses}
use Rattle.lg_membership.specs.Meaning.Suspicions.{SuspectedValue, suspicions, suspected_name, is_accusation, counts_in, confirms}
use Rattle.lg_membership.specs.Meaning.Gossip.{tells_news, answers_doubt, own_arrival, put_of_own, put_if_answered, put_of_oneself}
use Rattle.lg_membership.specs.Meaning.Gossip.{put_if, counted_or, is_left, record_if, leave_to_repeat}
use Rattle.lg_membership.specs.Meaning.Gossip.{put_of_other, put_by, put_if_leaves, put_of_leave, queued_by, version_sent, queued, waits}
use Rattle.lg_membership.proofs.Chosen.{found_key}
use Rattle.lg_membership.proofs.KnownLaws.{rises-known, own_known, known-own, known-taken, known-passed, known-grows, known-left, known-kept, roster_known}

-- What a claim puts into the queue, if it is said after a log: about oneself or another.
abbrev pub put_after : Origin → GroupLog → Claim → Option Claim
put_after origin log c = put_by origin (waits log c.name) log c

abbrev pub put_about_own : GroupLog → Claim → Option Claim
put_about_own log c = put_of_oneself (version_sent (config log)) (waits log (me log)) (own log) c

abbrev pub put_about_other : Origin → GroupLog → Claim → Option Claim
put_about_other origin log c = put_of_other (version_sent (config log)) (waits log c.name) origin (forgets log) (table log) (suspicions log) c

pub put_by-own : (origin : Origin) (log : GroupLog) (c : Claim) → c.name ≡ me log → put_after origin log c ≡ put_about_own log c
unfolding put_by
put_by-own origin log c same =
    ap (λ b. cond b (put_of_oneself (version_sent (config log)) (waits log c.name) (own log) c) (put_about_other origin log c)) (same_key names_order c.name (me log) same)
    ∙ ap (λ n. put_of_oneself (version_sent (config log)) (waits log n) (own log) c) same

pub put_by-other : (origin : Origin) (log : GroupLog) (c : Claim) → c.name ≢ me log → put_after origin log c ≡ put_about_other origin log c
unfolding put_by
put_by-other origin log c other =
    ap (λ b. cond b (put_of_oneself (version_sent (config log)) (waits log c.name) (own log) c) (put_about_other origin log c)) (other_key names_order c.name (me log) other)

put_own_name : (o : OwnHeard) (oneself : OwnValue) (p : Claim) → put_of_own o oneself ≡ Some p → p.name ≡ oneself.name
put_own_name Refuted oneself p e = ap (λ (r : Claim). r.name) (sym (held_once (own_record oneself) p e))
put_own_name Raised oneself p e = ap (λ (r : Claim). r.name) (sym (held_once (own_record oneself) p e))
put_own_name Ousted oneself p e = absurd cc
put_own_name Ignored oneself p e = absurd cc

put_answered_name : (b : Bool) (o : OwnHeard) (oneself : OwnValue) (p : Claim) → put_if_answered b o oneself ≡ Some p → p.name ≡ oneself.name
put_answered_name true o oneself p e = ap (λ (r : Claim). r.name) (sym (held_once (own_record oneself) p e))
put_answered_name false o oneself p e = put_own_name o oneself p e

-- what a claim about oneself puts is about oneself
pub own_put_name : (log : GroupLog) (c p : Claim) → put_about_own log c ≡ Some p → p.name ≡ me log
own_put_name log c p e =
    put_answered_name (answers_doubt (version_sent (config log)) (waits log (me log)) (own log) c) (own_hearing (own log) c) (own_heard (own log) c) p e
    ∙ own_heard_name (own log) c
    ∙ own_of_name (me log) _ (own_facts log)

-- and so is what the opening puts
if_arrived : (b : Bool) (oneself : OwnValue) (p : Claim) → cond b (Some (own_record oneself)) None ≡ Some p → p.name ≡ oneself.name
if_arrived true oneself p e = ap (λ (r : Claim). r.name) (sym (held_once (own_record oneself) p e))
if_arrived false oneself p e = absurd cc

pub arrival_name : (opening : Config) (p : Claim) → own_arrival (version_of opening) (own_of opening.name opening.addr []) ≡ Some p → p.name ≡ opening.name
arrival_name opening p e =
    if_arrived (tells_news (version_of opening)) (own_of opening.name opening.addr []) p e ∙ own_of_name opening.name opening.addr []

-- and what a leave puts
if_leaves_name : (b : Bool) (oneself : OwnValue) (p : Claim) → put_if_leaves b oneself ≡ Some p → p.name ≡ oneself.name
if_leaves_name true oneself p e = absurd cc
if_leaves_name false oneself p e = ap (λ (r : Claim). r.name) (sym (held_once (own_record oneself) p e))

pub leave_name : (log : GroupLog) (p : Claim) → put_of_leave (own log) ≡ Some p → p.name ≡ me log
leave_name log p e = if_leaves_name (own log).left (own_left (own log)) p e ∙ own_of_name (me log) _ (own_facts log)

-- What is queued about a name is about it.
queued_by_name : (v : Version) (o : Option Claim) (before : Option Queued) (m : List ℕ) (q : Queued) → (before ≡ Some q → queued_name q ≡ m)
    → queued_by v o m before ≡ Some q → queued_name q ≡ m
queued_by_name v None before m q rest e = rest e
queued_by_name v (Some c) before m q rest e = elim (cases_Bool (is_same name_cmp c.name m)) [
  | inl t ↦ ap queued_name (sym (held_once (fresh v c) q (rw t at e))) ∙ key_is names_order c.name m t
  | inr f ↦ rest (rw f at e)
]

sent_name : (taken : List Claim) (o : Option Queued) (m : List ℕ) (q : Queued) → ((r : Queued) → o ≡ Some r → queued_name r ≡ m)
    → option_map (sent_once taken) o ≡ Some q → queued_name q ≡ m
sent_name taken None m q rest e = absurd cc
sent_name taken (Some r) m q rest e = ap queued_name (sym (held_once (sent_once taken r) q e)) ∙ rest r refl

no_row : (q : Queued) (A : Type 0) → None ≡ Some q → A
no_row q A e = absurd cc

pub queued_keyed : (log : GroupLog) → Keyed queued_name (queued log)
unfolding queued
queued_keyed [] m r e = absurd cc
queued_keyed (Opened opening ∷ log) m r e =
    queued_by_name (version_of opening) (own_arrival (version_of opening) (own_of opening.name opening.addr [])) None m r (no_row r (queued_name r ≡ m)) e
queued_keyed (Said now origin c ∷ log) m r e =
    queued_by_name (version_sent (config log)) (put_after origin log c) (queued log m) m r (queued_keyed log m r) e
queued_keyed (Sent taken ∷ log) m r e = sent_name taken (queued log m) m r (queued_keyed log m) e
queued_keyed (Departed ∷ log) m r e =
    queued_by_name (version_sent (config log)) (put_of_leave (own log)) (queued log m) m r (queued_keyed log m r) e
queued_keyed (Forgot n ∷ log) m r e = elim (cases_Bool (loses log n m)) [
  | inl t ↦ no_row r (queued_name r ≡ m) (rw t at e)
  | inr f ↦ queued_keyed log m r (rw f at e)
]

-- What a claim about another puts is about the claim's member: it is the claim, or the member's record.
no_claim : (p : Claim) (A : Type 0) → None ≡ Some p → A
no_claim p A e = absurd cc

if_is : (origin : Origin) (o : Option Claim) (p : Claim) → put_if origin o ≡ Some p → o ≡ Some p
if_is Seed o p e = absurd cc
if_is Group o p e = e

counted_name : (b : Bool) (c : Claim) (o : Option Claim) (p : Claim) → (o ≡ Some p → c.name ≡ p.name) → counted_or b c o ≡ Some p → c.name ≡ p.name
counted_name true c o p rest e = ap name_of (held_once c p e)
counted_name false c o p rest e = rest e

record_is : (test : Status → Bool) (o : Option Claim) (p : Claim) → record_if test o ≡ Some p → o ≡ Some p
record_is test None p e = absurd cc
record_is test (Some r) p e = elim (cases_Bool (test r.status)) [
  | inl t ↦ rw t at e
  | inr f ↦ no_claim p (Some r ≡ Some p) (rw f at e)
]

repeated_is : (b : Bool) (o : Option Claim) (p : Claim) → cond b o None ≡ Some p → o ≡ Some p
repeated_is true o p e = e
repeated_is false o p e = no_claim p (o ≡ Some p) e

repeated_name : (v : Version) (w : Bool) (rows : List Claim) (c p : Claim) → leave_to_repeat v w rows c ≡ Some p → c.name ≡ p.name
repeated_name v w rows c p e =
    let found = row_at name_cmp name_of c.name rows in
    sym (found_key names_order name_of c.name rows p
    (record_is is_left found p (repeated_is (tells_news v && (is_suspect c.status && not w)) (record_if is_left found) p e)))

pub put_name : (v : Version) (w : Bool) (origin : Origin) (forgetting : Bool) (rows : List Claim) (suspects : List SuspectedValue) (c p : Claim)
    → put_of_other v w origin forgetting rows suspects c ≡ Some p → c.name ≡ p.name
put_name v w origin forgetting rows suspects c p e =
    let repeated = leave_to_repeat v w rows c in
    let counts = takes forgetting rows c || confirms forgetting rows suspects c in
    counted_name counts c repeated p (repeated_name v w rows c p) (if_is origin (counted_or counts c repeated) p e)

if_not : (origin : Origin) → put_if origin None ≡ None
if_not Seed = refl
if_not Group = refl

either_none : (b : Bool) (o : Option Claim) → o ≡ None → cond b o None ≡ None
either_none true o e = e
either_none false o e = refl

repeated_none : (v : Version) (w : Bool) (rows : List Claim) (c : Claim) → row_at name_cmp name_of c.name rows ≡ None → leave_to_repeat v w rows c ≡ None
repeated_none v w rows c missing =
    either_none (tells_news v && (is_suspect c.status && not w)) (record_if is_left (row_at name_cmp name_of c.name rows)) (ap (record_if is_left) missing)

put_none : (v : Version) (w : Bool) (origin : Origin) (forgetting : Bool) (rows : List Claim) (suspects : List SuspectedValue) (c : Claim) → (takes forgetting rows c || confirms forgetting rows suspects c) ≡ false
    → row_at name_cmp name_of c.name rows ≡ None → put_of_other v w origin forgetting rows suspects c ≡ None
put_none v w origin forgetting rows suspects c test missing =
    ap (λ b. put_if origin (counted_or b c (leave_to_repeat v w rows c))) test
    ∙ ap (put_if origin) (repeated_none v w rows c missing)
    ∙ if_not origin

-- A claim about a name that isn't let in puts nothing.
no_accusation : (b d : Bool) → (is_accusation (cond b Unheeded NoRoom) && d) ≡ false
no_accusation true d = refl
no_accusation false d = refl

out_none : (v : Version) (w : Bool) (origin : Origin) (forgetting : Bool) (rows : List Claim) (suspects : List SuspectedValue) (c : Claim) → takes forgetting rows c ≡ false → row_at name_cmp name_of c.name rows ≡ None
    → put_of_other v w origin forgetting rows suspects c ≡ None
out_none v w origin forgetting rows suspects c test missing =
    put_none v w origin forgetting rows suspects c
    (rw (test, missing) (no_accusation (forgetting && is_gone c.status) (counts_in (accuser_of c.status) (row_at name_cmp suspected_name c.name suspects))))
    missing

pub row_out : (log : GroupLog) (m : List ℕ) → is_among name_cmp m (roster (forgets log) (me log) (own_facts log)) ≡ false → row_at name_cmp name_of m (table log) ≡ None
row_out log m out = row_at-table (forgets log) (me log) (own_facts log) m ∙ ap (λ b. cond b (record_of (forgets log) (me log) (own_facts log) m) None) out

-- What is put is about oneself or about the claim's member: the names that are known then are those before and this one.
put_other_name : (now : ℕ) (origin : Origin) (log : GroupLog) (c p : Claim) → put_about_other origin log c ≡ Some p → c.name ≢ me log
    → known (Said now origin c ∷ log) ≡ put_key name_cmp p.name (known log)
put_other_name now origin log c p e other =
    let name = ap (λ n. put_key name_cmp n (known log)) (put_name (version_sent (config log)) (waits log c.name) origin (forgets log) (table log) (suspicions log) c p e) in
    elim (heard_cases (forgets log) (me log) c (own_facts log) other) [
      | Taken t ↦ known-taken now origin log c t ∙ name
      | Unbeaten k ↦ known-passed now origin log c k.names ∙ sym (put-there names_order c.name (known log) (rises-known log) (roster_known log c.name k.among)) ∙ name
      | Out o ↦ (
          let bad : None ≡ Some p = sym (out_none (version_sent (config log)) (waits log c.name) origin (forgets log) (table log) (suspicions log) c o.taken (row_out log c.name o.out)) ∙ e in
          absurd cc)
    ]

pub put_by-grows : (now : ℕ) (origin : Origin) (log : GroupLog) (c p : Claim) → put_after origin log c ≡ Some p → known (Said now origin c ∷ log) ≡ put_key name_cmp p.name (known log)
put_by-grows now origin log c p e = elim (cases_key names_order c.name (me log)) [
  | inl same ↦ (
      let name = own_put_name log c p (sym (put_by-own origin log c same) ∙ e) in
      let there = put-there names_order (me log) (known log) (rises-known log) (own_known log) in
      known-own now origin log c same ∙ sym (ap (λ n. put_key name_cmp n (known log)) name ∙ there))
  | inr other ↦ put_other_name now origin log c p (sym (put_by-other origin log c other) ∙ e) other
]

-- What is queued is known.
put_by_known : (now : ℕ) (origin : Origin) (log : GroupLog) (c p : Claim) → put_after origin log c ≡ Some p → is_among name_cmp p.name (known (Said now origin c ∷ log)) ≡ true
put_by_known now origin log c p e = ap (is_among name_cmp p.name) (put_by-grows now origin log c p e) ∙ among-put_same names_order p.name (known log)

queued_by_known : (v : Version) (o : Option Claim) (before : Option Queued) (m : List ℕ) (q : Queued) (names : List (List ℕ))
    → ((p : Claim) → o ≡ Some p → is_among name_cmp p.name names ≡ true) → (before ≡ Some q → is_among name_cmp m names ≡ true)
    → queued_by v o m before ≡ Some q → is_among name_cmp m names ≡ true
queued_by_known v None before m q names put rest e = rest e
queued_by_known v (Some c) before m q names put rest e = elim (cases_Bool (is_same name_cmp c.name m)) [
  | inl t ↦ ap (λ n. is_among name_cmp n names) (sym (key_is names_order c.name m t)) ∙ put c refl
  | inr f ↦ rest (rw f at e)
]

sent_known : (taken : List Claim) (o : Option Queued) (A : Type 0) (q : Queued) → ((r : Queued) → o ≡ Some r → A) → option_map (sent_once taken) o ≡ Some q → A
sent_known taken None A q rest e = absurd cc
sent_known taken (Some r) A q rest e = rest r refl

queued_known : (log : GroupLog) (m : List ℕ) (q : Queued) → queued log m ≡ Some q → is_among name_cmp m (known log) ≡ true
unfolding queued
queued_known [] m q e = absurd cc
queued_known (Opened opening ∷ log) m q e =
    let names = known (Opened opening ∷ log) in
    queued_by_known (version_of opening) (own_arrival (version_of opening) (own_of opening.name opening.addr [])) None m q names
    (λ p is. ap (λ n. is_among name_cmp n names) (arrival_name opening p is) ∙ own_known (Opened opening ∷ log))
    (no_row q (is_among name_cmp m names ≡ true)) e
queued_known (Said now origin c ∷ log) m q e =
    queued_by_known (version_sent (config log)) (put_after origin log c) (queued log m) m q (known (Said now origin c ∷ log))
    (put_by_known now origin log c) (λ before. known-grows now origin log c m (queued_known log m q before)) e
queued_known (Sent taken ∷ log) m q e = sent_known taken (queued log m) (is_among name_cmp m (known log) ≡ true) q (queued_known log m) e
queued_known (Departed ∷ log) m q e =
    ap (is_among name_cmp m) (known-left log)
    ∙ queued_by_known (version_sent (config log)) (put_of_leave (own log)) (queued log m) m q (known log)
    (λ p is. ap (λ n. is_among name_cmp n (known log)) (leave_name log p is) ∙ own_known log) (queued_known log m q) e
queued_known (Forgot n ∷ log) m q e = elim (cases_Bool (loses log n m)) [
  | inl t ↦ no_row q (is_among name_cmp m (known (Forgot n ∷ log)) ≡ true) (rw t at e)
  | inr f ↦ known-kept n log m f (queued_known log m q (rw f at e))
]

-- so nothing is queued about a name that isn't known
pub queued_unknown : (log : GroupLog) (m : List ℕ) → is_among name_cmp m (known log) ≡ false → queued log m ≡ None
queued_unknown log m out = elim (held (queued log m)) [
  | Missing gap ↦ gap
  | Holding q is ↦ (let bad : false ≡ true = sym out ∙ queued_known log m q is in absurd cc)
]

-- A claim that is put is queued afresh; about other names nothing changes.
pub by-put : (v : Version) (c : Claim) (before : Option Queued) → queued_by v (Some c) c.name before ≡ Some (fresh v c)
by-put v c before = ap (λ b. cond b (Some (fresh v c)) before) (same_key names_order c.name c.name refl)

pub by-put_other : (v : Version) (c : Claim) (n : List ℕ) (before : Option Queued) → n ≢ c.name → queued_by v (Some c) n before ≡ before
by-put_other v c n before other = ap (λ b. cond b (Some (fresh v c)) before) (other_key names_order c.name n (λ same. other (sym same)))

queued-by : (now : ℕ) (origin : Origin) (log : GroupLog) (c : Claim) (o : Option Claim) (n : List ℕ) → put_after origin log c ≡ o
    → queued (Said now origin c ∷ log) n ≡ queued_by (version_sent (config log)) o n (queued log n)
unfolding queued
queued-by now origin log c o n e = ap (λ put. queued_by (version_sent (config log)) put n (queued log n)) e

pub queued-put : (now : ℕ) (origin : Origin) (log : GroupLog) (c p : Claim) → put_after origin log c ≡ Some p → queued (Said now origin c ∷ log) p.name ≡ Some (fresh (version_sent (config log)) p)
queued-put now origin log c p e = queued-by now origin log c (Some p) p.name e ∙ by-put (version_sent (config log)) p (queued log p.name)

pub queued-put_other : (now : ℕ) (origin : Origin) (log : GroupLog) (c p : Claim) → put_after origin log c ≡ Some p → AgreeBut p.name (queued log) (queued (Said now origin c ∷ log))
queued-put_other now origin log c p e n other = queued-by now origin log c (Some p) n e ∙ by-put_other (version_sent (config log)) p n (queued log n) other

pub queued-no_put : (now : ℕ) (origin : Origin) (log : GroupLog) (c : Claim) → put_after origin log c ≡ None → (n : List ℕ) → queued (Said now origin c ∷ log) n ≡ queued log n
queued-no_put now origin log c e n = queued-by now origin log c None n e

-- A packet that holds what is queued about a name counts once.
pub queued-sent : (log : GroupLog) (taken : List Claim) (m : List ℕ) → queued (Sent taken ∷ log) m ≡ option_map (sent_once taken) (queued log m)
unfolding queued
queued-sent log taken m = refl

-- A leave puts this member's own record, or nothing.
pub queued-left : (log : GroupLog) (o : Option Claim) (n : List ℕ) → put_of_leave (own log) ≡ o → queued (Departed ∷ log) n ≡ queued_by (version_sent (config log)) o n (queued log n)
unfolding queued
queued-left log o n e = ap (λ put. queued_by (version_sent (config log)) put n (queued log n)) e

-- Once a name is forgotten, nothing is queued about it; about all others, and about oneself, nothing changes.
pub queued-forgotten : (n : List ℕ) (log : GroupLog) → n ≢ me log → queued (Forgot n ∷ log) n ≡ None
unfolding queued
queued-forgotten n log d = λ i. cond (same_key names_order n n refl i && not (other_key names_order n (me log) d i)) None (queued log n)

pub queued-kept : (n : List ℕ) (log : GroupLog) (m : List ℕ) → n ≢ m → queued (Forgot n ∷ log) m ≡ queued log m
unfolding queued
queued-kept n log m d = ap (λ b. cond (b && not (is_same name_cmp n (me log))) None (queued log m)) (other_key names_order n m d)

pub queued-own_kept : (n : List ℕ) (log : GroupLog) (m : List ℕ) → n ≡ me log → queued (Forgot n ∷ log) m ≡ queued log m
unfolding queued
queued-own_kept n log m e =
    ap (λ b. cond (is_same name_cmp n m && not b) None (queued log m)) (same_key names_order n (me log) e)
    ∙ ap (λ b. cond b None (queued log m)) (never (is_same name_cmp n m))
  where
    never : (b : Bool) → (b && false) ≡ false
    never true = refl
    never false = refl
