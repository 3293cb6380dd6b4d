-- The suspicion of one member, when a claim is said.
use Rattle.std.proofs.Common.{◌≡◌, ◌≢◌, ℕ, true, false, ◌&&◌, cond, List, [], ◌∷◌, Option, Some, None, inl, inr, refl, sym, ◌∙◌, ap}
use Rattle.lg_rules.specs.declared.claim.Claim.{Claim}
use Rattle.lg_rules.specs.declared.claim.Status.TheVariants.{Suspect}
use Rattle.lg_rules.specs.Meaning.Beats.{beats_of}
use Rattle.lg_rules.specs.Meaning.Past.{or_else}
use Rattle.lg_rules.specs.Meaning.Table.{record_of}
use Rattle.lg_rules.proofs.Cases.{Missing, Holding, held, held_once}
use Rattle.lg_rules.proofs.KeyOrder.{names_order, same_key}
use Rattle.lg_rules.proofs.RowLaws.{Keyed}
use Rattle.lg_rules.proofs.Stories.{record_of-other, record_of-forgotten, record_of-kept, record_of-leaves, record_known}
use Rattle.lg_timing.specs.declared.config.Config.{Config}
use Rattle.lg_timing.specs.Meaning.Timeouts.{range_of}
use Rattle.lg_suspicion.specs.Meaning.Accusers.{suspicion_after, accused}
use Rattle.lg_suspicion.proofs.AccuserLaws.{counted-one, accused-after}
use Rattle.std.proofs.lemmas.Bool.{cases_Bool, eq-eqb}
use Rattle.lg_gossip.specs.Meaning.Queue.{is_suspect}
use Rattle.lg_membership.specs.declared.origin.Origin.{Origin}
use Rattle.lg_membership.specs.Meaning.Log.{GroupLog, Said, Departed, Forgot, config, me, own_facts, forgets, said, live}
use Rattle.lg_membership.specs.Meaning.Suspicions.{SuspectedValue, accuses, accusers_in, counts_after, raise_of, said_at, suspicion_since, suspected_by, suspected_in, suspected, suspected_name}
use Rattle.lg_membership.proofs.AccusedLaws.{accuses-other, none_accuse, none_raises, one_raises, record_accused, not_accused, raise-quiet, raise-told, raise-kept}
use Rattle.lg_membership.proofs.AccusedLaws.{Counts, Passes, said_cases, said-counts, said-kept, said-left}

-- the record of another member after a log
abbrev pub record_after : GroupLog → List ℕ → Option Claim
record_after log m = record_of (forgets log) (me log) (own_facts log) m

-- Where two logs were opened alike, and what counts of a member is the same, it is suspected alike.
pub suspected-alike : (log later : GroupLog) (m : List ℕ) → config later ≡ config log → record_after later m ≡ record_after log m → said later m ≡ said log m
    → ((i : ℕ) → raise_of m i later ≡ raise_of m i log) → suspected later m ≡ suspected log m
unfolding suspected
suspected-alike log later m opened stands claims raise =
    ap (λ o. suspected_in o later m) opened ∙ by_config (config log)
  where
    by_record : (opening : Config) (r : Option Claim) → suspected_by opening later m r ≡ suspected_by opening log m r
    by_record opening None = refl
    by_record opening (Some r) = λ i. cond (is_suspect r.status) (suspicion_since opening m (accusers_in m r.incarnation (claims i)) (raise r.incarnation i)) None

    by_config : (o : Option Config) → suspected_in o later m ≡ suspected_in o log m
    by_config None = refl
    by_config (Some opening) = ap (suspected_by opening later m) stands ∙ by_record opening (record_after log m)

-- A claim that doesn't accuse the member at the incarnation of its record changes nothing of its suspicion, where the record stays.
accusers-quiet : (now : ℕ) (origin : Origin) (m : List ℕ) (i : ℕ) (c : Claim) (log : GroupLog) → accuses m i c ≡ false → accusers_in m i (said (Said now origin c ∷ log) m) ≡ accusers_in m i (said log m)
accusers-quiet now origin m i c log e = elim (said_cases now origin c log m) [
  | Counts is a ↦ (
      let none : accusers_in m i (c ∷ said log m) ≡ accusers_in m i (said log m) = rw e refl in
      ap (accusers_in m i) (said-counts now origin c log m is a) ∙ none)
  | Passes same raise ↦ ap (accusers_in m i) same
]

quiet_record : (opening : Config) (now : ℕ) (origin : Origin) (log : GroupLog) (c : Claim) (m : List ℕ) (r : Claim) → (is_suspect r.status ≡ true → accuses m r.incarnation c ≡ false)
    → suspected_by opening (Said now origin c ∷ log) m (Some r) ≡ suspected_by opening log m (Some r)
quiet_record opening now origin log c m r quiet = elim (cases_Bool (is_suspect r.status)) [
  | inl t ↦ rw t (λ j. suspicion_since opening m (accusers-quiet now origin m r.incarnation c log (quiet t) j) (raise-quiet m r.incarnation now origin c log (quiet t) j))
  | inr f ↦ rw f refl
]

pub suspected-quiet : (now : ℕ) (origin : Origin) (log : GroupLog) (c : Claim) (m : List ℕ) → record_after (Said now origin c ∷ log) m ≡ record_after log m
    → ((r : Claim) → record_after log m ≡ Some r → is_suspect r.status ≡ true → accuses m r.incarnation c ≡ false)
    → suspected (Said now origin c ∷ log) m ≡ suspected log m
unfolding suspected
suspected-quiet now origin log c m same quiet = by_config (config log)
  where
    by_record : (opening : Config) → suspected_by opening (Said now origin c ∷ log) m (record_after log m) ≡ suspected_by opening log m (record_after log m)
    by_record opening = elim (held (record_after log m)) [
      | Missing none ↦ rw none refl
      | Holding r is ↦ rw is (quiet_record opening now origin log c m r (quiet r is))
    ]

    by_config : (o : Option Config) → suspected_in o (Said now origin c ∷ log) m ≡ suspected_in o log m
    by_config None = refl
    by_config (Some opening) = ap (suspected_by opening (Said now origin c ∷ log) m) same ∙ by_record opening

-- a claim about another member
pub suspected-other : (now : ℕ) (origin : Origin) (log : GroupLog) (c : Claim) (m : List ℕ) → c.name ≢ m → suspected (Said now origin c ∷ log) m ≡ suspected log m
suspected-other now origin log c m other =
    suspected-quiet now origin log c m (record_of-other (forgets log) (me log) c (own_facts log) m other) (λ r is suspect. accuses-other m r.incarnation c other)

-- a leave, and a name that is forgotten: it is suspected no more, and all others as before
pub suspected-left : (log : GroupLog) (m : List ℕ) → suspected (Departed ∷ log) m ≡ suspected log m
suspected-left log m = suspected-alike log (Departed ∷ log) m refl (record_of-leaves (forgets log) (me log) (own_facts log) m) (said-left log m) (λ i. refl)

pub suspected-kept : (n : List ℕ) (log : GroupLog) (m : List ℕ) → n ≢ m → suspected (Forgot n ∷ log) m ≡ suspected log m
suspected-kept n log m d =
    suspected-alike log (Forgot n ∷ log) m refl (record_of-kept (forgets log) (me log) n (own_facts log) m d) (said-kept n log m d) (λ i. raise-kept m i n log d)

-- who is unknown isn't suspected
pub suspected_unknown : (log : GroupLog) (m : List ℕ) → record_after log m ≡ None → suspected log m ≡ None
unfolding suspected
suspected_unknown log m none = by_config (config log)
  where
    by_config : (o : Option Config) → suspected_in o log m ≡ None
    by_config None = refl
    by_config (Some opening) = ap (suspected_by opening log m) none

pub suspected-forgotten : (n : List ℕ) (log : GroupLog) → suspected (Forgot n ∷ log) n ≡ None
suspected-forgotten n log = suspected_unknown (Forgot n ∷ log) n (record_of-forgotten (forgets log) (me log) n (own_facts log) n refl)

-- before the opening nobody is suspected
pub suspected-unopened : (log : GroupLog) (m : List ℕ) → config log ≡ None → suspected log m ≡ None
unfolding suspected
suspected-unopened log m e = ap (λ o. suspected_in o log m) e

-- A claim that stands and doesn't suspect ends the suspicion.
pub suspected-ended : (log : GroupLog) (m : List ℕ) (c : Claim) → record_after log m ≡ Some c → is_suspect c.status ≡ false → suspected log m ≡ None
unfolding suspected
suspected-ended log m c stands calm = by_config (config log)
  where
    by_config : (o : Option Config) → suspected_in o log m ≡ None
    by_config None = refl
    by_config (Some opening) = rw (stands, calm) refl

-- One that suspects raises one anew.
abbrev pub raised_at : Config → GroupLog → List ℕ → List ℕ → SuspectedValue
raised_at opening log m accuser = record { name = m; suspicion = record { raised = said_at log; timeout = range_of (live log) opening; accusers = accuser ∷ [] } }

accuses_itself : (c : Claim) → is_suspect c.status ≡ true → accuses c.name c.incarnation c ≡ true
accuses_itself c suspect = rw (same_key names_order c.name c.name refl, suspect, eq-eqb c.incarnation c.incarnation refl) refl

accusers-raised : (c : Claim) (accuser : List ℕ) (past : List Claim) → c.status ≡ Suspect accuser → is_suspect c.status ≡ true → accusers_in c.name c.incarnation past ≡ []
    → accusers_in c.name c.incarnation (c ∷ past) ≡ accuser ∷ []
accusers-raised c accuser past is suspect none = rw (accuses_itself c suspect, is) (ap (λ others. accuser ∷ others) none)

raise-raised : (now : ℕ) (origin : Origin) (c : Claim) (log : GroupLog) → is_suspect c.status ≡ true → counts_after (Said now origin c ∷ log) c.name ≡ true → raise_of c.name c.incarnation log ≡ None
    → raise_of c.name c.incarnation (Said now origin c ∷ log) ≡ Some (Said now origin c ∷ log)
raise-raised now origin c log suspect known none =
    raise-told c.name c.incarnation now origin c log (accuses_itself c suspect) known
    ∙ ap (λ (o : Option GroupLog). or_else o (Some (Said now origin c ∷ log))) none

pub suspected-raised : (now : ℕ) (origin : Origin) (log : GroupLog) (c : Claim) (accuser : List ℕ) (opening : Config) → config log ≡ Some opening → c.status ≡ Suspect accuser
    → record_after (Said now origin c ∷ log) c.name ≡ Some c → ((r : Claim) → record_after log c.name ≡ Some r → beats_of c r ≡ true)
    → suspected (Said now origin c ∷ log) c.name ≡ Some (raised_at opening (Said now origin c ∷ log) c.name accuser)
unfolding suspected
suspected-raised now origin log c accuser opening opened is stands beaten =
    let later = Said now origin c ∷ log in
    let suspect : is_suspect c.status ≡ true = ap is_suspect is in
    let known : counts_after later c.name ≡ true = record_known (forgets log) (me log) (own_facts later) c.name c stands in
    let quiet = not_accused log c suspect beaten in
    let accusers : accusers_in c.name c.incarnation (said later c.name) ≡ accuser ∷ [] =
    ap (accusers_in c.name c.incarnation) (said-counts now origin c log c.name refl known)
    ∙ accusers-raised c accuser (said log c.name) is suspect (none_accuse c.name c.incarnation (said log c.name) quiet) in
    let front = raise-raised now origin c log suspect known (none_raises c.name c.incarnation log quiet) in
    ap (λ o. suspected_in o later c.name) opened
    ∙ ap (suspected_by opening later c.name) stands
    ∙ ap (λ b. cond b (suspicion_since opening c.name (accusers_in c.name c.incarnation (said later c.name)) (raise_of c.name c.incarnation later)) None) suspect
    ∙ (λ j. suspicion_since opening c.name (accusers j) (front j))
    ∙ ap (λ names. Some record { name = c.name; suspicion = record { raised = said_at later; timeout = range_of (live later) opening; accusers = names } }) (counted-one (range_of (live later) opening).confirmations accuser)

-- One more accusation at the incarnation of the record adds its accuser.
pub record HasAccuser (now : ℕ) (origin : Origin) (log : GroupLog) (c : Claim) (accuser : List ℕ) : Type 0 where
  pub row : SuspectedValue
  pub before : suspected log c.name ≡ Some row
  pub named : row.name ≡ c.name
  pub after : suspected (Said now origin c ∷ log) c.name ≡ Some record { name = row.name; suspicion = accused row.suspicion accuser }

pub suspected-accused : (now : ℕ) (origin : Origin) (log : GroupLog) (c r : Claim) (accuser : List ℕ) (opening : Config) → config log ≡ Some opening → c.status ≡ Suspect accuser
    → record_after log c.name ≡ Some r → record_after (Said now origin c ∷ log) c.name ≡ Some r → is_suspect r.status ≡ true → c.incarnation ≡ r.incarnation
    → HasAccuser now origin log c accuser
unfolding suspected
suspected-accused now origin log c r accuser opening opened is before after suspected same =
    elim (held (raise_of c.name r.incarnation log)) [
      | Missing none ↦ absurd (one_raises c.name r.incarnation log (record_accused log c.name r before suspected) none)
      | Holding front raise ↦ (
          let m = c.name in
          let later = Said now origin c ∷ log in
          let past = accusers_in m r.incarnation (said log m) in
          let known : counts_after later m ≡ true = record_known (forgets log) (me log) (own_facts later) m r after in
          let range = range_of (live front) opening in
          let hit : accuses m r.incarnation c ≡ true = ap (λ i. accuses m i c) (sym same) ∙ accuses_itself c (ap is_suspect is) in
          let more : accusers_in m r.incarnation (c ∷ said log m) ≡ accuser ∷ past = rw (hit, is) refl in
          let accusers : accusers_in m r.incarnation (said later m) ≡ accuser ∷ past = ap (accusers_in m r.incarnation) (said-counts now origin c log m refl known) ∙ more in
          let again : raise_of m r.incarnation later ≡ Some front = ap (λ o. or_else o (cond (accuses m r.incarnation c && counts_after later m) (Some later) None)) raise in
          record {
            row = record { name = m; suspicion = suspicion_after (said_at front) range past };
            before =
                ap (λ o. suspected_in o log m) opened
                ∙ ap (suspected_by opening log m) before
                ∙ ap (λ b. cond b (suspicion_since opening m past (raise_of m r.incarnation log)) None) suspected
                ∙ ap (suspicion_since opening m past) raise;
            named = refl;
            after =
                ap (λ o. suspected_in o later m) opened
                ∙ ap (suspected_by opening later m) after
                ∙ ap (λ b. cond b (suspicion_since opening m (accusers_in m r.incarnation (said later m)) (raise_of m r.incarnation later)) None) suspected
                ∙ (λ j. suspicion_since opening m (accusers j) (again j))
                ∙ ap (λ s. Some record { name = m; suspicion = s }) (sym (accused-after (said_at front) range accuser past));
          })
    ]

-- What is suspected under a name has that name.
since_keyed : (opening : Config) (m : List ℕ) (accusers : List (List ℕ)) (front : Option GroupLog) (row : SuspectedValue) → suspicion_since opening m accusers front ≡ Some row → row.name ≡ m
since_keyed opening m accusers None row e = absurd cc
since_keyed opening m accusers (Some front) row e = ap suspected_name (sym (held_once _ row e))

pub suspected_keyed : (log : GroupLog) → Keyed suspected_name (suspected log)
unfolding suspected
suspected_keyed log m row e = by_config (config log) e
  where
    by_record : (opening : Config) (r : Option Claim) → suspected_by opening log m r ≡ Some row → row.name ≡ m
    by_record opening None e = absurd cc
    by_record opening (Some r) e = elim (cases_Bool (is_suspect r.status)) [
      | inl t ↦ since_keyed opening m (accusers_in m r.incarnation (said log m)) (raise_of m r.incarnation log) row (rw t at e)
      | inr f ↦ (let bad : None ≡ Some row = rw f at e in absurd cc)
    ]

    by_config : (o : Option Config) → suspected_in o log m ≡ Some row → row.name ≡ m
    by_config None e = absurd cc
    by_config (Some opening) e = by_record opening (record_after log m) e
