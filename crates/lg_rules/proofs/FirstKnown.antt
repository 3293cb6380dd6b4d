-- The first names of claims about others, once one more claim is said.
use Rattle.std.proofs.Common.{◌≡◌, ◌≢◌, ℕ, ◌<◌, ◌≤◌, Bool, true, false, List, [], ◌∷◌, length, ◌⊎◌, inl, inr, refl, sym, ◌∙◌, ap, subst, arith}
use Rattle.std.proofs.lemmas.Bool.{cases_Bool, cases_lt, false≢true}
use Rattle.lg_rules.specs.declared.claim.Claim.{Claim}
use Rattle.lg_rules.specs.Meaning.Past.{oldest}
use Rattle.lg_rules.specs.Meaning.Rows.{name_cmp, put_key, in_order, distinct}
use Rattle.lg_rules.specs.Meaning.Unforgotten.{names_said, first_known}
use Rattle.lg_rules.proofs.KeyOrder.{names_order, same_key, other_key, cases_key}
use Rattle.lg_rules.proofs.PastLaws.{oldest-all, oldest-more}
use Rattle.lg_rules.proofs.Roster.{is_known}
use Rattle.lg_rules.proofs.Rises.{among-put_same, among-put_other, among-cons_same, among-cons_other, among-later, length-put}

-- the names said of others
pub names-own : (own : List ℕ) (c : Claim) (past : List Claim) → c.name ≡ own → names_said own (c ∷ past) ≡ names_said own past
names-own own c past e = rw (same_key names_order c.name own e)

pub names-other : (own : List ℕ) (c : Claim) (past : List Claim) → c.name ≢ own → names_said own (c ∷ past) ≡ c.name ∷ names_said own past
names-other own c past d = rw (other_key names_order c.name own d)

pub first_known-nil : (own : List ℕ) → first_known own [] ≡ []
unfolding first_known
first_known-nil own = refl

-- What a claim does to the names that are known. It is about oneself,
pub first_known-own : (own : List ℕ) (c : Claim) (past : List Claim) → c.name ≡ own → first_known own (c ∷ past) ≡ first_known own past
unfolding first_known
first_known-own own c past e = ap (λ ns. in_order name_cmp (oldest 255 (distinct name_cmp ns))) (names-own own c past e)

-- or about a name that was said before,
abbrev pub different : List ℕ → List Claim → List (List ℕ)
different own past = distinct name_cmp (names_said own past)

pub different-said : (own : List ℕ) (c : Claim) (past : List Claim) → c.name ≢ own → is_known c.name (names_said own past) ≡ true → different own (c ∷ past) ≡ different own past
different-said own c past d a = ap (distinct name_cmp) (names-other own c past d) ∙ rw a

pub different-new : (own : List ℕ) (c : Claim) (past : List Claim) → c.name ≢ own → is_known c.name (names_said own past) ≡ false → different own (c ∷ past) ≡ c.name ∷ different own past
different-new own c past d f = ap (distinct name_cmp) (names-other own c past d) ∙ rw f

first_known-said : (own : List ℕ) (c : Claim) (past : List Claim) → c.name ≢ own → is_known c.name (names_said own past) ≡ true → first_known own (c ∷ past) ≡ first_known own past
unfolding first_known
first_known-said own c past d a = ap (λ ns. in_order name_cmp (oldest 255 ns)) (different-said own c past d a)

-- or about a new name, with room for it,
first_known-new : (own : List ℕ) (c : Claim) (past : List Claim) → c.name ≢ own → is_known c.name (names_said own past) ≡ false → length (different own past) < 255
    → first_known own (c ∷ past) ≡ put_key name_cmp c.name (first_known own past)
unfolding first_known
first_known-new own c past d f few =
    let before = oldest-all 255 (different own past) (omega arith) in
    let now = oldest-all 255 (c.name ∷ different own past) (omega arith) in
    ap (λ ns. in_order name_cmp (oldest 255 ns)) (different-new own c past d f)
    ∙ ap (in_order name_cmp) now
    ∙ ap (λ ns. put_key name_cmp c.name (in_order name_cmp ns)) (sym before)

-- or without.
first_known-full : (own : List ℕ) (c : Claim) (past : List Claim) → c.name ≢ own → is_known c.name (names_said own past) ≡ false → 255 ≤ length (different own past) → first_known own (c ∷ past) ≡ first_known own past
unfolding first_known
first_known-full own c past d f many =
    ap (λ ns. in_order name_cmp (oldest 255 ns)) (different-new own c past d f)
    ∙ ap (in_order name_cmp) (oldest-more 255 c.name (different own past) many)

-- The names that are known were said; they are all, until there are 255.
record IsFirst (own : List ℕ) (past : List Claim) : Type 0 where
  said : (m : List ℕ) → is_known m (first_known own past) ≡ true → is_known m (names_said own past) ≡ true
  all : length (different own past) < 255 → length (first_known own past) ≡ length (different own past)
  full : 255 ≤ length (different own past) → length (first_known own past) ≡ 255
  missed : (m : List ℕ) → is_known m (names_said own past) ≡ true → is_known m (first_known own past) ≡ false → 255 ≤ length (different own past)

-- the same names are known, and no other is said
first_stays : (own : List ℕ) (c : Claim) (past : List Claim) → first_known own (c ∷ past) ≡ first_known own past → ((m : List ℕ) → is_known m (names_said own (c ∷ past)) ≡ is_known m (names_said own past)) → different own (c ∷ past) ≡ different own past → IsFirst own past → IsFirst own (c ∷ past)
first_stays own c past same said ds before = record {
  said = λ m a. said m ∙ before.said m (ap (is_known m) (sym same) ∙ a);
  all = rw (same, ds) before.all;
  full = rw (same, ds) before.full;
  missed = λ m a b. rw ds (before.missed m (sym (said m) ∙ a) (ap (is_known m) (sym same) ∙ b));
}

not_true : (b : Bool) → (b ≡ true → ⊥) → b ≡ false
not_true true h = absurd (h refl)
not_true false h = refl

first_grows : (own : List ℕ) (c : Claim) (past : List Claim) → c.name ≢ own → is_known c.name (names_said own past) ≡ false → length (different own past) < 255 → IsFirst own past → IsFirst own (c ∷ past)
first_grows own c past d f few before =
    let ns = names_said own past in
    let names = names-other own c past d in
    let put = first_known-new own c past d f few in
    let ds = ap length (different-new own c past d f) in
    let fresh : is_known c.name (first_known own past) ≡ false = not_true (is_known c.name (first_known own past)) (λ t. false≢true (sym f ∙ before.said c.name t)) in
    let len = ap length put ∙ length-put names_order c.name (first_known own past) fresh in
    let counted = before.all few in
    record {
      said = λ m a. ap (is_known m) names ∙ known m (cases_key names_order c.name m) (ap (is_known m) (sym put) ∙ a);
      all = λ l. omega (arith, len, ds, counted);
      full = λ l. omega (arith, len, ds, counted);
      missed = λ m a b. absurd (lost m (cases_key names_order c.name m) (ap (is_known m) (sym names) ∙ a) (ap (is_known m) (sym put) ∙ b));
    }
  where
    known : (m : List ℕ) → (c.name ≡ m) ⊎ (c.name ≢ m) → is_known m (put_key name_cmp c.name (first_known own past)) ≡ true → is_known m (c.name ∷ names_said own past) ≡ true
    known m (inl e) a = among-cons_same names_order m c.name (names_said own past) e
    known m (inr u) a = among-later names_order m c.name (names_said own past) (before.said m (sym (among-put_other names_order m c.name (first_known own past) u) ∙ a))

    lost : (m : List ℕ) → (c.name ≡ m) ⊎ (c.name ≢ m) → is_known m (c.name ∷ names_said own past) ≡ true → is_known m (put_key name_cmp c.name (first_known own past)) ≡ false → ⊥
    lost m (inl e) a b = false≢true (sym b ∙ subst (λ k. is_known k (put_key name_cmp c.name (first_known own past)) ≡ true) e (among-put_same names_order c.name (first_known own past)))
    lost m (inr u) a b =
        let many = before.missed m (sym (among-cons_other names_order m c.name (names_said own past) u) ∙ a) (sym (among-put_other names_order m c.name (first_known own past) u) ∙ b) in
        omega (arith, few, many)

first_closed : (own : List ℕ) (c : Claim) (past : List Claim) → c.name ≢ own → is_known c.name (names_said own past) ≡ false → 255 ≤ length (different own past) → IsFirst own past → IsFirst own (c ∷ past)
first_closed own c past d f many before =
    let names = names-other own c past d in
    let same = first_known-full own c past d f many in
    let ds = ap length (different-new own c past d f) in
    record {
      said = λ m a. ap (is_known m) names ∙ among-later names_order m c.name (names_said own past) (before.said m (ap (is_known m) (sym same) ∙ a));
      all = λ l. absurd (omega (arith, ds, l, many));
      full = λ l. ap length same ∙ before.full many;
      missed = λ m a b. omega (arith, ds, many);
    }

is_first : (own : List ℕ) (past : List Claim) → IsFirst own past
is_first own [] = record {
  said = λ m a. absurd (false≢true (ap (is_known m) (sym (first_known-nil own)) ∙ a));
  all = λ l. ap length (first_known-nil own);
  full = λ l. absurd (omega arith);
  missed = λ m a b. absurd (false≢true a);
}
is_first own (c ∷ past) =
    let before = is_first own past in
    elim (cases_key names_order c.name own) [
      | inl e ↦ first_stays own c past (first_known-own own c past e) (λ m. ap (is_known m) (names-own own c past e)) (ap (distinct name_cmp) (names-own own c past e)) before
      | inr d ↦ elim (cases_Bool (is_known c.name (names_said own past))) [
        | inl a ↦ first_stays own c past (first_known-said own c past d a) (λ m. ap (is_known m) (names-other own c past d) ∙ said_before m a) (different-said own c past d a) before
        | inr f ↦ elim (cases_lt (length (different own past)) 255) [
          | inl few ↦ first_grows own c past d f few before
          | inr many ↦ first_closed own c past d f many before
        ]
      ]
    ]
  where
    said_before : (m : List ℕ) → is_known c.name (names_said own past) ≡ true → is_known m (c.name ∷ names_said own past) ≡ is_known m (names_said own past)
    said_before m a = elim (cases_key names_order c.name m) [
      | inl e ↦ among-cons_same names_order m c.name (names_said own past) e ∙ sym (subst (λ k. is_known k (names_said own past) ≡ true) e a)
      | inr u ↦ among-cons_other names_order m c.name (names_said own past) u
    ]

-- a known name was said
pub known_said : (own : List ℕ) (past : List Claim) (m : List ℕ) → is_known m (first_known own past) ≡ true → is_known m (names_said own past) ≡ true
known_said own past m a = (is_first own past).said m a

-- What a claim about another does to the known names: its name is known, or joins them, or there is no room for it.
pub data Joined (own : List ℕ) (c : Claim) (past : List Claim) : Type 0 where
  Knew : is_known c.name (first_known own past) ≡ true → first_known own (c ∷ past) ≡ first_known own past → Joined own c past
  Joins : is_known c.name (names_said own past) ≡ false → is_known c.name (first_known own past) ≡ false → length (first_known own past) < 255 → first_known own (c ∷ past) ≡ put_key name_cmp c.name (first_known own past) → Joined own c past
  Refused : is_known c.name (first_known own past) ≡ false → 255 ≤ length (first_known own past) → first_known own (c ∷ past) ≡ first_known own past → Joined own c past

pub joined : (own : List ℕ) (c : Claim) (past : List Claim) → c.name ≢ own → Joined own c past
joined own c past d =
    let is = is_first own past in
    elim (cases_Bool (is_known c.name (first_known own past))) [
      | inl a ↦ Knew a (first_known-said own c past d (is.said c.name a))
      | inr b ↦ elim (cases_Bool (is_known c.name (names_said own past))) [
        | inl s ↦ (let full = is.full (is.missed c.name s b) in Refused b (omega (arith, full)) (first_known-said own c past d s))
        | inr f ↦ elim (cases_lt (length (different own past)) 255) [
          | inl few ↦ (let e = is.all few in Joins f b (omega (arith, e, few)) (first_known-new own c past d f few))
          | inr many ↦ (let e = is.full many in Refused b (omega (arith, e)) (first_known-full own c past d f many))
        ]
      ]
    ]

-- as many different names as are known, until there are 255
pub length-different : (own : List ℕ) (past : List Claim) → length (first_known own past) < 255 → length (different own past) < 255
length-different own past few = elim (cases_lt (length (different own past)) 255) [
  | inl less ↦ less
  | inr many ↦ absurd (let is = (is_first own past).full many in omega (arith, is, few))
]

pub many_different : (own : List ℕ) (past : List Claim) → 255 ≤ length (first_known own past) → 255 ≤ length (different own past)
many_different own past full = elim (cases_lt (length (different own past)) 255) [
  | inl less ↦ absurd (let is = (is_first own past).all less in omega (arith, is, less, full))
  | inr many ↦ many
]
