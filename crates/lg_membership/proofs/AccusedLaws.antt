-- Which claims accuse a member, and the log up to the first of them.
use Rattle.std.proofs.Common.{◌≡◌, ◌≢◌, ℕ, Bool, true, false, ◌&&◌, ◌||◌, cond, eqb, List, [], ◌∷◌, Option, Some, None, ◌⊎◌, inl, inr, refl, sym, ◌∙◌, ap}
use Rattle.std.specs.List.{list_any}
use Rattle.std.proofs.lemmas.Bool.{cases_Bool, eq-eqb, eqb-true, not-true}
use Rattle.lg_rules.specs.declared.claim.Claim.{Claim}
use Rattle.lg_rules.specs.declared.claim.Status.{Status}
use Rattle.lg_rules.specs.declared.claim.Status.TheVariants.{Alive, Suspect, Failed, Left}
use Rattle.lg_rules.specs.Meaning.Beats.{overrides, beats_of}
use Rattle.lg_rules.specs.Meaning.Past.{or_else, earliest, is_unbeaten}
use Rattle.lg_rules.specs.Meaning.Own.{OwnFact, Told, Forgets, TakesLeave}
use Rattle.lg_rules.specs.Meaning.Rows.{name_cmp, is_same, is_among}
use Rattle.lg_rules.specs.Meaning.Table.{roster, story, record_of}
use Rattle.lg_rules.proofs.Cases.{Missing, Holding, held, held_once}
use Rattle.lg_rules.proofs.KeyOrder.{names_order, same_key, other_key, cases_key}
use Rattle.lg_rules.proofs.PastLaws.{earliest_passes, unbeaten_some}
use Rattle.lg_rules.proofs.Ranks.{ranked}
use Rattle.lg_rules.proofs.Stories.{story-nil, story-counts, story-other, story-out, story-forgotten, story-kept, story-leaves, record_of-story}
use Rattle.lg_gossip.specs.Meaning.Queue.{is_suspect}
use Rattle.lg_membership.specs.declared.origin.Origin.{Origin}
use Rattle.lg_membership.specs.Meaning.Log.{GroupLog, Opened, Said, Sent, Departed, Forgot, me, own_facts, forgets, said}
use Rattle.lg_membership.specs.Meaning.Suspicions.{accuses, accusers_in, counts_after, raise_of}

-- whether some claim of a past accuses a member at an incarnation
abbrev pub is_accused : List ℕ → ℕ → List Claim → Bool
is_accused m i past = list_any (accuses m i) past

-- a claim about another member accuses nobody of this name
pub accuses-other : (m : List ℕ) (i : ℕ) (c : Claim) → c.name ≢ m → accuses m i c ≡ false
accuses-other m i c other = rw (other_key names_order c.name m other) refl

-- where none accuses, there is no accuser, and no log up to the first
pub none_accuse : (m : List ℕ) (i : ℕ) (past : List Claim) → is_accused m i past ≡ false → accusers_in m i past ≡ []
none_accuse m i [] e = refl
none_accuse m i (c ∷ past) e = elim (cases_Bool (accuses m i c)) [
  | inl t ↦ (let bad : true ≡ false = rw t at e in absurd cc)
  | inr f ↦ (let rest : is_accused m i past ≡ false = rw f at e in rw f (none_accuse m i past rest))
]

or_nothing : {A : Type 0} (o : Option A) → or_else o None ≡ o
or_nothing None = refl
or_nothing (Some x) = refl

never : (b : Bool) → (b && false) ≡ false
never true = refl
never false = refl

-- The log up to the first accusation stays if a claim doesn't accuse the member at that incarnation, or doesn't count.
pub raise-quiet : (m : List ℕ) (i : ℕ) (now : ℕ) (origin : Origin) (c : Claim) (log : GroupLog) → accuses m i c ≡ false → raise_of m i (Said now origin c ∷ log) ≡ raise_of m i log
raise-quiet m i now origin c log e =
    ap (λ b. or_else (raise_of m i log) (cond (b && counts_after (Said now origin c ∷ log) m) (Some (Said now origin c ∷ log)) None)) e
    ∙ or_nothing (raise_of m i log)

raise-out : (m : List ℕ) (i : ℕ) (now : ℕ) (origin : Origin) (c : Claim) (log : GroupLog) → counts_after (Said now origin c ∷ log) m ≡ false → raise_of m i (Said now origin c ∷ log) ≡ raise_of m i log
raise-out m i now origin c log f =
    ap (λ b. or_else (raise_of m i log) (cond (accuses m i c && b) (Some (Said now origin c ∷ log)) None)) f
    ∙ ap (λ b. or_else (raise_of m i log) (cond b (Some (Said now origin c ∷ log)) None)) (never (accuses m i c))
    ∙ or_nothing (raise_of m i log)

pub raise-told : (m : List ℕ) (i : ℕ) (now : ℕ) (origin : Origin) (c : Claim) (log : GroupLog) → accuses m i c ≡ true → counts_after (Said now origin c ∷ log) m ≡ true
    → raise_of m i (Said now origin c ∷ log) ≡ or_else (raise_of m i log) (Some (Said now origin c ∷ log))
raise-told m i now origin c log t a = λ k. or_else (raise_of m i log) (cond (t k && a k) (Some (Said now origin c ∷ log)) None)

raise-forgot : (m : List ℕ) (i : ℕ) (n : List ℕ) (log : GroupLog) → n ≡ m → raise_of m i (Forgot n ∷ log) ≡ None
raise-forgot m i n log e = ap (λ b. cond b None (raise_of m i log)) (same_key names_order n m e)

pub raise-kept : (m : List ℕ) (i : ℕ) (n : List ℕ) (log : GroupLog) → n ≢ m → raise_of m i (Forgot n ∷ log) ≡ raise_of m i log
raise-kept m i n log d = ap (λ b. cond b None (raise_of m i log)) (other_key names_order n m d)

-- what was said of a member that counts, once a claim is said and once a name is forgotten
pub said-counts : (now : ℕ) (origin : Origin) (c : Claim) (log : GroupLog) (m : List ℕ) → c.name ≡ m → counts_after (Said now origin c ∷ log) m ≡ true → said (Said now origin c ∷ log) m ≡ c ∷ said log m
said-counts now origin c log m e a = story-counts (forgets log) (me log) c (own_facts log) m e a

pub said-other : (now : ℕ) (origin : Origin) (c : Claim) (log : GroupLog) (m : List ℕ) → c.name ≢ m → said (Said now origin c ∷ log) m ≡ said log m
said-other now origin c log m d = story-other (forgets log) (me log) c (own_facts log) m d

said-out : (now : ℕ) (origin : Origin) (c : Claim) (log : GroupLog) (m : List ℕ) → counts_after (Said now origin c ∷ log) m ≡ false → said (Said now origin c ∷ log) m ≡ said log m
said-out now origin c log m f = story-out (forgets log) (me log) c (own_facts log) m f

said-forgot : (n : List ℕ) (log : GroupLog) (m : List ℕ) → n ≡ m → said (Forgot n ∷ log) m ≡ []
said-forgot n log m e = story-forgotten (forgets log) (me log) n (own_facts log) m e

pub said-kept : (n : List ℕ) (log : GroupLog) (m : List ℕ) → n ≢ m → said (Forgot n ∷ log) m ≡ said log m
said-kept n log m d = story-kept (forgets log) (me log) n (own_facts log) m d

pub said-left : (log : GroupLog) (m : List ℕ) → said (Departed ∷ log) m ≡ said log m
said-left log m = story-leaves (forgets log) (me log) (own_facts log) m

-- A claim that is said counts for its member, if that is known then; or it changes nothing of what counts for a member.
pub data SaidOf (now : ℕ) (origin : Origin) (c : Claim) (log : GroupLog) (m : List ℕ) : Type 0 where
  Counts : c.name ≡ m → counts_after (Said now origin c ∷ log) m ≡ true → SaidOf now origin c log m
  Passes : said (Said now origin c ∷ log) m ≡ said log m → ((i : ℕ) → raise_of m i (Said now origin c ∷ log) ≡ raise_of m i log) → SaidOf now origin c log m

pub said_cases : (now : ℕ) (origin : Origin) (c : Claim) (log : GroupLog) (m : List ℕ) → SaidOf now origin c log m
said_cases now origin c log m = elim (cases_key names_order c.name m) [
  | inr d ↦ Passes (said-other now origin c log m d) (λ i. raise-quiet m i now origin c log (accuses-other m i c d))
  | inl e ↦ elim (cases_Bool (counts_after (Said now origin c ∷ log) m)) [
    | inl a ↦ Counts e a
    | inr f ↦ Passes (said-out now origin c log m f) (λ i. raise-out m i now origin c log f)
  ]
]

said-nil : (m : List ℕ) → said [] m ≡ []
said-nil m = story-nil (forgets []) (me []) m

pub none_raises : (m : List ℕ) (i : ℕ) (log : GroupLog) → is_accused m i (said log m) ≡ false → raise_of m i log ≡ None
none_raises m i [] e = refl
none_raises m i (Opened opening ∷ log) e = refl
none_raises m i (Said now origin c ∷ log) e = elim (said_cases now origin c log m) [
  | Passes same raise ↦ raise i ∙ none_raises m i log (sym (ap (is_accused m i) same) ∙ e)
  | Counts is a ↦ (
      let all : (accuses m i c || is_accused m i (said log m)) ≡ false = sym (ap (is_accused m i) (said-counts now origin c log m is a)) ∙ e in
      elim (cases_Bool (accuses m i c)) [
        | inl t ↦ (let bad : true ≡ false = rw t at all in absurd cc)
        | inr f ↦ (let rest : is_accused m i (said log m) ≡ false = rw f at all in raise-quiet m i now origin c log f ∙ none_raises m i log rest)
      ])
]
none_raises m i (Sent taken ∷ log) e = none_raises m i log e
none_raises m i (Departed ∷ log) e = none_raises m i log (sym (ap (is_accused m i) (said-left log m)) ∙ e)
none_raises m i (Forgot n ∷ log) e = elim (cases_key names_order n m) [
  | inl is ↦ raise-forgot m i n log is
  | inr d ↦ raise-kept m i n log d ∙ none_raises m i log (sym (ap (is_accused m i) (said-kept n log m d)) ∙ e)
]

-- where one accuses, there is such a log
or_there : {A : Type 0} (o : Option A) (x : A) → or_else o (Some x) ≢ None
or_there None x e = absurd cc
or_there (Some y) x e = absurd cc

pub one_raises : (m : List ℕ) (i : ℕ) (log : GroupLog) → is_accused m i (said log m) ≡ true → raise_of m i log ≢ None
one_raises m i [] e none = (let bad : false ≡ true = sym (ap (is_accused m i) (said-nil m)) ∙ e in absurd cc)
one_raises m i (Opened opening ∷ log) e none =
    (let bad : false ≡ true = sym (ap (is_accused m i) (story-nil (forgets (Opened opening ∷ log)) (me (Opened opening ∷ log)) m)) ∙ e in absurd cc)
one_raises m i (Said now origin c ∷ log) e none = elim (said_cases now origin c log m) [
  | Passes same raise ↦ one_raises m i log (sym (ap (is_accused m i) same) ∙ e) (sym (raise i) ∙ none)
  | Counts is a ↦ (
      let some : (accuses m i c || is_accused m i (said log m)) ≡ true = sym (ap (is_accused m i) (said-counts now origin c log m is a)) ∙ e in
      elim (cases_Bool (accuses m i c)) [
        | inl t ↦ or_there (raise_of m i log) (Said now origin c ∷ log) (sym (raise-told m i now origin c log t a) ∙ none)
        | inr f ↦ (
            let rest : is_accused m i (said log m) ≡ true = rw f at some in
            one_raises m i log rest (sym (raise-quiet m i now origin c log f) ∙ none))
      ])
]
one_raises m i (Sent taken ∷ log) e none = one_raises m i log e none
one_raises m i (Departed ∷ log) e none = one_raises m i log (sym (ap (is_accused m i) (said-left log m)) ∙ e) none
one_raises m i (Forgot n ∷ log) e none = elim (cases_key names_order n m) [
  | inl is ↦ (let bad : false ≡ true = sym (ap (is_accused m i) (said-forgot n log m is)) ∙ e in absurd cc)
  | inr d ↦ one_raises m i log (sym (ap (is_accused m i) (said-kept n log m d)) ∙ e) (sym (raise-kept m i n log d) ∙ none)
]

-- the earliest of some claims is one of them
or_of : {A : Type 0} (o p : Option A) (r : A) → or_else o p ≡ Some r → (o ≡ Some r) ⊎ (p ≡ Some r)
or_of None p r e = inr e
or_of (Some x) p r e = inl e

earliest_any : {A : Type 0} (p q : A → Bool) (past : List A) (r : A) → earliest p past ≡ Some r → q r ≡ true → list_any q past ≡ true
earliest_any p q [] r e t = absurd cc
earliest_any p q (x ∷ past) r e t = elim (or_of (earliest p past) (cond (p x) (Some x) None) r e) [
  | inl before ↦ later (q x) (earliest_any p q past r before t)
  | inr this ↦ elim (cases_Bool (p x)) [
    | inl passes ↦ (let same : x ≡ r = held_once x r (rw passes at this) in let hit : q x ≡ true = ap q same ∙ t in rw hit refl)
    | inr fails ↦ (let bad : None ≡ Some r = rw fails at this in absurd cc)
  ]
]
  where
    later : (b : Bool) {c : Bool} → c ≡ true → (b || c) ≡ true
    later true e = refl
    later false e = e

-- each claim that counts for a member is about it
same_any : (q : Claim → Bool) (m : List ℕ) (before after : List Claim) → after ≡ before
    → list_any q before ≡ list_any (λ c. is_same name_cmp c.name m && q c) before
    → list_any q after ≡ list_any (λ c. is_same name_cmp c.name m && q c) after
same_any q m before after e rest = ap (list_any q) e ∙ rest ∙ sym (ap (list_any (λ c. is_same name_cmp c.name m && q c)) e)

any-story : (forgetting : Bool) (own : List ℕ) (q : Claim → Bool) (m : List ℕ) (past : List OwnFact)
    → list_any q (story forgetting own past m) ≡ list_any (λ c. is_same name_cmp c.name m && q c) (story forgetting own past m)
any-story forgetting own q m [] = same_any q m [] (story forgetting own [] m) (story-nil forgetting own m) refl
any-story forgetting own q m (Told c ∷ past) = elim (cases_key names_order c.name m) [
  | inr d ↦ same_any q m _ _ (story-other forgetting own c past m d) (any-story forgetting own q m past)
  | inl e ↦ elim (cases_Bool (is_among name_cmp m (roster forgetting own (Told c ∷ past)))) [
    | inl a ↦ same_any q m (c ∷ story forgetting own past m) _ (story-counts forgetting own c past m e a)
        (rw (same_key names_order c.name m e) (ap (λ b. q c || b) (any-story forgetting own q m past)))
    | inr f ↦ same_any q m _ _ (story-out forgetting own c past m f) (any-story forgetting own q m past)
  ]
]
any-story forgetting own q m (Forgets n ∷ past) = elim (cases_key names_order n m) [
  | inl e ↦ same_any q m [] _ (story-forgotten forgetting own n past m e) refl
  | inr d ↦ same_any q m _ _ (story-kept forgetting own n past m d) (any-story forgetting own q m past)
]
any-story forgetting own q m (TakesLeave ∷ past) = same_any q m _ _ (story-leaves forgetting own past m) (any-story forgetting own q m past)

-- a record that is Suspect was said: some claim accuses its member at its incarnation
abbrev suspects_at : ℕ → Claim → Bool
suspects_at i c = is_suspect c.status && eqb c.incarnation i

pub record_accused : (log : GroupLog) (m : List ℕ) (r : Claim) → record_of (forgets log) (me log) (own_facts log) m ≡ Some r → is_suspect r.status ≡ true
    → is_accused m r.incarnation (said log m) ≡ true
record_accused log m r e suspect =
    let hit : suspects_at r.incarnation r ≡ true = rw (suspect, eq-eqb r.incarnation r.incarnation refl) refl in
    sym (any-story (forgets log) (me log) (suspects_at r.incarnation) m (own_facts log))
    ∙ earliest_any (is_unbeaten beats_of (said log m)) (suspects_at r.incarnation) (said log m) r (sym (record_of-story (forgets log) (me log) (own_facts log) m) ∙ e) hit

-- Two claims that suspect at one incarnation beat the same records.
alike : (s t u : Status) (i j : ℕ) → is_suspect s ≡ true → is_suspect t ≡ true → overrides s i u j ≡ overrides t i u j
alike Alive t u i j p q = absurd cc
alike Failed t u i j p q = absurd cc
alike Left t u i j p q = absurd cc
alike (Suspect a) Alive u i j p q = absurd cc
alike (Suspect a) Failed u i j p q = absurd cc
alike (Suspect a) Left u i j p q = absurd cc
alike (Suspect a) (Suspect b) Alive i j p q = refl
alike (Suspect a) (Suspect b) (Suspect d) i j p q = refl
alike (Suspect a) (Suspect b) Failed i j p q = refl
alike (Suspect a) (Suspect b) Left i j p q = refl

both_hold : (a b : Bool) → (a && b) ≡ true → (a ≡ true) × (b ≡ true)
both_hold true b e = (refl, e)
both_hold false b e = absurd cc

beats_too : (c r y : Claim) → is_suspect c.status ≡ true → beats_of c r ≡ true → suspects_at c.incarnation y ≡ true → beats_of y r ≡ true
beats_too c r y suspect beats hit =
    let parts = both_hold (is_suspect y.status) (eqb y.incarnation c.incarnation) hit in
    ap (λ i. overrides y.status i r.status r.incarnation) (eqb-true y.incarnation c.incarnation parts.1)
    ∙ alike y.status c.status r.status c.incarnation r.incarnation parts.0 suspect
    ∙ beats

none_of : {A : Type 0} (p q : A → Bool) (xs : List A) → ((x : A) → q x ≡ true → p x ≡ true) → list_any p xs ≡ false → list_any q xs ≡ false
none_of p q [] h e = refl
none_of p q (x ∷ xs) h e = elim (cases_Bool (p x)) [
  | inl t ↦ (let bad : true ≡ false = rw t at e in absurd cc)
  | inr f ↦ (
      let rest : list_any p xs ≡ false = rw f at e in
      elim (cases_Bool (q x)) [
        | inl hit ↦ (let bad : false ≡ true = sym f ∙ h x hit in absurd cc)
        | inr miss ↦ rw miss (none_of p q xs h rest)
      ])
]

-- Where a claim that suspects beats the record of its member, or there is none, no earlier one accuses the member at its incarnation.
pub not_accused : (log : GroupLog) (c : Claim) → is_suspect c.status ≡ true → ((r : Claim) → record_of (forgets log) (me log) (own_facts log) c.name ≡ Some r → beats_of c r ≡ true)
    → is_accused c.name c.incarnation (said log c.name) ≡ false
not_accused log c suspect beaten =
    let m = c.name in
    let q = suspects_at c.incarnation in
    let is = record_of-story (forgets log) (me log) (own_facts log) m in
    sym (any-story (forgets log) (me log) q m (own_facts log))
    ∙ elim (held (record_of (forgets log) (me log) (own_facts log) m)) [
      | Missing none ↦ ap (list_any q) (unbeaten_some ranked (said log m) (sym is ∙ none))
      | Holding r stands ↦ (
          let top : list_any (λ y. beats_of y r) (said log m) ≡ false = not-true _ (earliest_passes (is_unbeaten beats_of (said log m)) (said log m) r (sym is ∙ stands)) in
          none_of (λ y. beats_of y r) q (said log m) (λ y hit. beats_too c r y suspect (beaten r stands) hit) top)
    ]
