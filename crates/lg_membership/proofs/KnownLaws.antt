-- The names that are known, when a claim is said.
use Rattle.std.proofs.Common.{◌≡◌, ◌≢◌, ℕ, ◌≤◌, Bool, true, false, not, ◌&&◌, ◌||◌, List, ◌∷◌, length, inl, inr, refl, sym, ◌∙◌, ap, subst, arith}
use Rattle.lg_rules.specs.declared.claim.Claim.{Claim}
use Rattle.lg_rules.specs.Meaning.Own.{Told}
use Rattle.lg_rules.specs.Meaning.Rows.{name_cmp, is_same, is_among, put_key, without_key, Rises}
use Rattle.lg_rules.specs.Meaning.Table.{roster}
use Rattle.lg_rules.proofs.KeyOrder.{names_order, same_key, other_key, key_is, cases_key}
use Rattle.lg_rules.proofs.Rises.{rises-put, rises-filter, among-put, among-put_same, same_members, length-put}
use Rattle.lg_rules.proofs.Roster.{rises-roster, roster-own, roster-forgot, roster-leaves, length-roster, own_unknown, among-without, among-without_other, without-out}
use Rattle.lg_rules.proofs.Tables.{IsTaken, Taken, Unbeaten, Out, heard_cases}
use Rattle.lg_timing.specs.declared.config.Config.{Config}
use Rattle.lg_membership.specs.declared.origin.Origin.{Origin}
use Rattle.lg_membership.specs.Meaning.Log.{GroupFact, GroupLog, Opened, Said, Sent, Departed, Forgot, me, own_facts, forgets, known_others, known, loses}

pub rises-known : (log : GroupLog) → Rises name_cmp (known log)
rises-known log = rises-put names_order (me log) (roster (forgets log) (me log) (own_facts log)) (rises-roster (forgets log) (me log) (own_facts log))

pub length-known : (log : GroupLog) → length (known log) ≤ 256
length-known log =
    omega (arith, length-put names_order (me log) (roster (forgets log) (me log) (own_facts log)) (own_unknown (forgets log) (me log) (own_facts log)), length-roster (forgets log) (me log) (own_facts log))

-- oneself is known
pub own_known : (log : GroupLog) → is_among name_cmp (me log) (known log) ≡ true
own_known log = among-put_same names_order (me log) (roster (forgets log) (me log) (own_facts log))

or_swap : (a b c : Bool) → (a || (b || c)) ≡ (b || (a || c))
or_swap true true c = refl
or_swap true false c = refl
or_swap false b c = refl

-- two names are put in either order
put-twice : (m n : List ℕ) (ns : List (List ℕ)) → Rises name_cmp ns → put_key name_cmp m (put_key name_cmp n ns) ≡ put_key name_cmp n (put_key name_cmp m ns)
put-twice m n ns rise =
    same_members names_order (put_key name_cmp m (put_key name_cmp n ns)) (put_key name_cmp n (put_key name_cmp m ns))
    (rises-put names_order m (put_key name_cmp n ns) (rises-put names_order n ns rise))
    (rises-put names_order n (put_key name_cmp m ns) (rises-put names_order m ns rise))
    (λ k.
    among-put names_order k m (put_key name_cmp n ns)
    ∙ ap (λ b. is_same name_cmp m k || b) (among-put names_order k n ns)
    ∙ or_swap (is_same name_cmp m k) (is_same name_cmp n k) (is_among name_cmp k ns)
    ∙ ap (λ b. is_same name_cmp n k || b) (sym (among-put names_order k m ns))
    ∙ sym (among-put names_order k n (put_key name_cmp m ns)))

-- A claim about oneself makes no name known; one that is taken makes its name known, and one that isn't none.
pub known-own : (now : ℕ) (origin : Origin) (log : GroupLog) (c : Claim) → c.name ≡ me log → known (Said now origin c ∷ log) ≡ known log
known-own now origin log c same = ap (put_key name_cmp (me log)) (roster-own (forgets log) (me log) c (own_facts log) same)

pub known-taken : (now : ℕ) (origin : Origin) (log : GroupLog) (c : Claim) → IsTaken (forgets log) (me log) c (own_facts log) → known (Said now origin c ∷ log) ≡ put_key name_cmp c.name (known log)
known-taken now origin log c taken =
    ap (put_key name_cmp (me log)) taken.names ∙ put-twice (me log) c.name (roster (forgets log) (me log) (own_facts log)) (rises-roster (forgets log) (me log) (own_facts log))

pub known-passed : (now : ℕ) (origin : Origin) (log : GroupLog) (c : Claim) → roster (forgets log) (me log) (Told c ∷ own_facts log) ≡ roster (forgets log) (me log) (own_facts log) → known (Said now origin c ∷ log) ≡ known log
known-passed now origin log c names = ap (put_key name_cmp (me log)) names

or_right : (a : Bool) {b : Bool} → b ≡ true → (a || b) ≡ true
or_right true e = refl
or_right false e = e

-- a leave changes none
pub others-left : (log : GroupLog) → known_others (Departed ∷ log) ≡ known_others log
others-left log = roster-leaves (forgets log) (me log) (own_facts log)

pub known-left : (log : GroupLog) → known (Departed ∷ log) ≡ known log
known-left log = ap (put_key name_cmp (me log)) (others-left log)

-- the others that have records are known
pub roster_known : (log : GroupLog) (m : List ℕ) → is_among name_cmp m (roster (forgets log) (me log) (own_facts log)) ≡ true → is_among name_cmp m (known log) ≡ true
roster_known log m among = among-put names_order m (me log) (roster (forgets log) (me log) (own_facts log)) ∙ or_right (is_same name_cmp (me log) m) among

-- what is known stays known
pub known-grows : (now : ℕ) (origin : Origin) (log : GroupLog) (c : Claim) (m : List ℕ) → is_among name_cmp m (known log) ≡ true → is_among name_cmp m (known (Said now origin c ∷ log)) ≡ true
known-grows now origin log c m among = elim (cases_key names_order c.name (me log)) [
  | inl same ↦ ap (is_among name_cmp m) (known-own now origin log c same) ∙ among
  | inr other ↦ elim (heard_cases (forgets log) (me log) c (own_facts log) other) [
    | Taken t ↦ ap (is_among name_cmp m) (known-taken now origin log c t) ∙ among-put names_order m c.name (known log) ∙ or_right (is_same name_cmp c.name m) among
    | Unbeaten k ↦ ap (is_among name_cmp m) (known-passed now origin log c k.names) ∙ among
    | Out o ↦ ap (is_among name_cmp m) (known-passed now origin log c o.names) ∙ among
  ]
]

-- So do the others that are known, of whom there are at most 255.
pub others-grow : (now : ℕ) (origin : Origin) (log : GroupLog) (c : Claim) (m : List ℕ) → is_among name_cmp m (roster (forgets log) (me log) (own_facts log)) ≡ true
    → is_among name_cmp m (roster (forgets log) (me log) (Told c ∷ own_facts log)) ≡ true
others-grow now origin log c m among = elim (cases_key names_order c.name (me log)) [
  | inl same ↦ ap (is_among name_cmp m) (roster-own (forgets log) (me log) c (own_facts log) same) ∙ among
  | inr other ↦ elim (heard_cases (forgets log) (me log) c (own_facts log) other) [
    | Taken t ↦ (
        ap (is_among name_cmp m) t.names
        ∙ among-put names_order m c.name (roster (forgets log) (me log) (own_facts log))
        ∙ or_right (is_same name_cmp c.name m) among)
    | Unbeaten k ↦ ap (is_among name_cmp m) k.names ∙ among
    | Out o ↦ ap (is_among name_cmp m) o.names ∙ among
  ]
]

pub length-others : (log : GroupLog) → length (roster (forgets log) (me log) (own_facts log)) ≤ 255
length-others log = length-roster (forgets log) (me log) (own_facts log)

-- Who is known once a name is forgotten: all but that name, which has to be another's.
pub others-forgot : (n : List ℕ) (log : GroupLog) → known_others (Forgot n ∷ log) ≡ without_key name_cmp n (known_others log)
others-forgot n log = roster-forgot (forgets log) (me log) n (own_facts log)

pub others-forgot_own : (n : List ℕ) (log : GroupLog) → n ≡ me log → known_others (Forgot n ∷ log) ≡ known_others log
others-forgot_own n log e =
    others-forgot n log ∙ without-out n (known_others log) (subst (λ k. is_among name_cmp k (known_others log) ≡ false) (sym e) (own_unknown (forgets log) (me log) (own_facts log)))

pub known-forgot_own : (n : List ℕ) (log : GroupLog) → n ≡ me log → known (Forgot n ∷ log) ≡ known log
known-forgot_own n log e = ap (put_key name_cmp (me log)) (others-forgot_own n log e)

and_or : (a b c : Bool) → (b ≡ true → a ≡ true) → (b || (a && c)) ≡ (a && (b || c))
and_or true b c h = refl
and_or false true c h = (let bad : false ≡ true = h refl in absurd cc)
and_or false false c h = refl

pub known-forgot : (n : List ℕ) (log : GroupLog) → n ≢ me log → known (Forgot n ∷ log) ≡ without_key name_cmp n (known log)
known-forgot n log d =
    let ns = known_others log in
    ap (put_key name_cmp (me log)) (others-forgot n log)
    ∙ same_members names_order (put_key name_cmp (me log) (without_key name_cmp n ns)) (without_key name_cmp n (put_key name_cmp (me log) ns))
    (rises-put names_order (me log) (without_key name_cmp n ns) (rises-filter names_order (λ k. not (is_same name_cmp k n)) ns (rises-roster (forgets log) (me log) (own_facts log))))
    (rises-filter names_order (λ k. not (is_same name_cmp k n)) (put_key name_cmp (me log) ns) (rises-put names_order (me log) ns (rises-roster (forgets log) (me log) (own_facts log))))
    (λ k.
    among-put names_order k (me log) (without_key name_cmp n ns)
    ∙ ap (λ b. is_same name_cmp (me log) k || b) (among-without k n ns)
    ∙ and_or (not (is_same name_cmp k n)) (is_same name_cmp (me log) k) (is_among name_cmp k ns) (mine k)
    ∙ ap (λ b. not (is_same name_cmp k n) && b) (sym (among-put names_order k (me log) ns))
    ∙ sym (among-without k n (put_key name_cmp (me log) ns)))
  where
    mine : (k : List ℕ) → is_same name_cmp (me log) k ≡ true → not (is_same name_cmp k n) ≡ true
    mine k e = ap not (other_key names_order k n (λ is. d (sym is ∙ sym (key_is names_order (me log) k e))))

-- so who isn't dropped stays known
other_dropped : (n : List ℕ) (log : GroupLog) (m : List ℕ) → n ≢ me log → loses log n m ≡ false → n ≢ m
other_dropped n log m d f e =
    let bad : true ≡ false = sym (λ i. same_key names_order n m e i && not (other_key names_order n (me log) d i)) ∙ f in
    cc

pub known-kept : (n : List ℕ) (log : GroupLog) (m : List ℕ) → loses log n m ≡ false → is_among name_cmp m (known log) ≡ true → is_among name_cmp m (known (Forgot n ∷ log)) ≡ true
known-kept n log m f among = elim (cases_key names_order n (me log)) [
  | inl e ↦ ap (is_among name_cmp m) (known-forgot_own n log e) ∙ among
  | inr d ↦ (
      ap (is_among name_cmp m) (known-forgot n log d)
      ∙ among-without_other m n (known log) (λ e. other_dropped n log m d f (sym e)) ∙ among)
]

-- Whatever happens but an opening, who is known and isn't forgotten stays known.
pub others-stay : (fact : GroupFact) (log : GroupLog) (m : List ℕ) → ((opening : Config) → fact ≢ Opened opening) → ((n : List ℕ) → fact ≡ Forgot n → n ≢ m)
    → is_among name_cmp m (known_others log) ≡ true → is_among name_cmp m (known_others (fact ∷ log)) ≡ true
others-stay (Opened opening) log m unopened kept among = absurd (unopened opening refl)
others-stay (Said now origin c) log m unopened kept among = others-grow now origin log c m among
others-stay (Sent taken) log m unopened kept among = among
others-stay Departed log m unopened kept among = ap (is_among name_cmp m) (roster-leaves (forgets log) (me log) (own_facts log)) ∙ among
others-stay (Forgot n) log m unopened kept among =
    ap (is_among name_cmp m) (others-forgot n log) ∙ among-without_other m n (known_others log) (λ e. kept n refl (sym e)) ∙ among

pub known-stays : (fact : GroupFact) (log : GroupLog) (m : List ℕ) → ((opening : Config) → fact ≢ Opened opening) → ((n : List ℕ) → fact ≡ Forgot n → n ≢ m)
    → is_among name_cmp m (known log) ≡ true → is_among name_cmp m (known (fact ∷ log)) ≡ true
known-stays (Opened opening) log m unopened kept among = absurd (unopened opening refl)
known-stays (Said now origin c) log m unopened kept among = known-grows now origin log c m among
known-stays (Sent taken) log m unopened kept among = among
known-stays Departed log m unopened kept among = ap (is_among name_cmp m) (known-left log) ∙ among
known-stays (Forgot n) log m unopened kept among =
    known-kept n log m (ap (λ b. b && not (is_same name_cmp n (me log))) (other_key names_order n m (kept n refl))) among
