-- While the names stay the same, so many choices in a row choose each of them.
use Rattle.std.proofs.Common.{◌≡◌, ◌≢◌, ℕ, zero, suc, ◌+◌, ◌-◌, ◌*◌, ◌%◌, ◌≤◌, ◌<◌, Bool, true, false, not, cond, ◌||◌, ◌&&◌, List, [], ◌∷◌, ◌++◌, length, take, drop, get_or, length-take-le, length-drop, Some, inl, inr, refl, sym, ◌∙◌, ap, subst, arith}
use Rattle.std.specs.Prelude.{filter}
use Rattle.std.proofs.Math.Nat.{mod-lt}
use Rattle.std.specs.Option.{option_to_list}
use Rattle.std.proofs.lemmas.Bool.{cases_Bool, cases_lt, false≢true}
use Rattle.std.proofs.lemmas.Option.{slice_get-get_or}
use Rattle.lg_rules.specs.Meaning.Rows.{name_cmp, is_same, is_among}
use Rattle.lg_rules.proofs.KeyOrder.{names_order, cases_key}
use Rattle.lg_rules.proofs.Rises.{among-put, among-filter, among-cons_same, among-cons_other}
use Rattle.lg_rules.proofs.RowLaws.{length_put_row-le}
use Rattle.lg_probe.specs.Meaning.Order.{OrderFact, Joined, Chose, candidate, candidates, is_over, current_cycle, choice, next_cycle, names_after, cycle_after, choice_after, choices_after, then_joined, picks}
use Rattle.lg_probe.proofs.OrderLaws.{IsCandidate, candidate_is, first_of}

-- a filter keeps no more, and fewer where it keeps out one that is there
filter-le : {A : Type 0} (p q : A → Bool) (xs : List A) → ((x : A) → p x ≡ true → q x ≡ true) → length (filter p xs) ≤ length (filter q xs)
filter-le p q [] h = omega arith
filter-le p q (x ∷ xs) h = elim (cases_Bool (p x)) [
  | inl t ↦ rw (t, h x t) (omega (arith, filter-le p q xs h))
  | inr f ↦ elim (cases_Bool (q x)) [
    | inl u ↦ rw (f, u) (omega (arith, filter-le p q xs h))
    | inr v ↦ rw (f, v) (filter-le p q xs h)
  ]
]

filter-less : (p q : List ℕ → Bool) (n : List ℕ) (xs : List (List ℕ)) → ((x : List ℕ) → p x ≡ true → q x ≡ true) → is_among name_cmp n xs ≡ true → p n ≡ false → q n ≡ true → length (filter p xs) < length (filter q xs)
filter-less p q n [] h a out kept = absurd (false≢true a)
filter-less p q n (x ∷ xs) h a out kept = elim (cases_key names_order x n) [
  | inl e ↦ (
      let no : p x ≡ false = ap p e ∙ out in
      let still : q x ≡ true = ap q e ∙ kept in
      rw (no, still) (omega (arith, filter-le p q xs h)))
  | inr d ↦ (
      let rest = filter-less p q n xs h (sym (among-cons_other names_order n x xs d) ∙ a) out kept in
      elim (cases_Bool (p x)) [
        | inl t ↦ rw (t, h x t) (omega (arith, rest))
        | inr f ↦ elim (cases_Bool (q x)) [
          | inl u ↦ rw (f, u) (omega (arith, rest))
          | inr v ↦ rw (f, v) rest
        ]
      ])
]

-- how many candidates are left in a cycle
abbrev left : List (List ℕ) → List (List ℕ) → ℕ
left names cycle = length (candidates names cycle)

-- whether a name is a candidate
may_choose : (names cycle : List (List ℕ)) (n : List ℕ) → is_among name_cmp n names ≡ true → is_among name_cmp n cycle ≡ false → is_among name_cmp n (candidates names cycle) ≡ true
may_choose names cycle n named fresh = among-filter names_order (λ m. not (is_among name_cmp m cycle)) n names ∙ rw (fresh, named)

fewer : (n : List ℕ) (cycle : List (List ℕ)) (x : List ℕ) → not (is_among name_cmp x (n ∷ cycle)) ≡ true → not (is_among name_cmp x cycle) ≡ true
fewer n cycle x e = step (is_same name_cmp n x) (is_among name_cmp x cycle) e
  where
    step : (a b : Bool) → not (a || b) ≡ true → not b ≡ true
    step true b e = absurd (false≢true e)
    step false b e = e

-- a choice leaves one candidate fewer
left-chosen : (names cycle : List (List ℕ)) (n : List ℕ) → IsCandidate names cycle n → left names (n ∷ cycle) < left names cycle
left-chosen names cycle n is =
    filter-less (λ m. not (is_among name_cmp m (n ∷ cycle))) (λ m. not (is_among name_cmp m cycle)) n names (fewer n cycle) is.named
    (ap not (among-cons_same names_order n n cycle refl)) (ap not is.fresh)

-- there are no more candidates than names, and fewer where a name is chosen
left-le : (names cycle : List (List ℕ)) → left names cycle ≤ length names
left-le [] cycle = omega arith
left-le (x ∷ xs) cycle = elim (cases_Bool (is_among name_cmp x cycle)) [
  | inl t ↦ rw t (omega (arith, left-le xs cycle))
  | inr f ↦ rw f (omega (arith, left-le xs cycle))
]

left-less : (names cycle : List (List ℕ)) (n : List ℕ) → is_among name_cmp n names ≡ true → is_among name_cmp n cycle ≡ true → left names cycle < length names
left-less [] cycle n named chosen = absurd (false≢true named)
left-less (x ∷ xs) cycle n named chosen = elim (cases_Bool (is_among name_cmp x cycle)) [
  | inl t ↦ rw t (omega (arith, left-le xs cycle))
  | inr f ↦ (
      let d : x ≢ n = λ e. false≢true (sym f ∙ ap (λ m. is_among name_cmp m cycle) e ∙ chosen) in
      rw f (omega (arith, left-less xs cycle n (sym (among-cons_other names_order n x xs d) ∙ named) chosen)))
]

-- a cycle is over where nobody is left
over-none : (names cycle : List (List ℕ)) → left names cycle ≡ 0 → is_over names cycle ≡ true
over-none [] cycle e = refl
over-none (x ∷ xs) cycle e = elim (cases_Bool (is_among name_cmp x cycle)) [
  | inl t ↦ (let e' : left xs cycle ≡ 0 = rw t at e in rw t (over-none xs cycle e'))
  | inr f ↦ (let e' : suc (left xs cycle) ≡ 0 = rw f at e in absurd (omega (arith, e')))
]

over-some : (names cycle : List (List ℕ)) (n : List ℕ) → is_among name_cmp n names ≡ true → is_among name_cmp n cycle ≡ false → is_over names cycle ≡ false
over-some [] cycle n named fresh = absurd (false≢true named)
over-some (x ∷ xs) cycle n named fresh = elim (cases_key names_order x n) [
  | inl e ↦ (let no : is_among name_cmp x cycle ≡ false = ap (λ m. is_among name_cmp m cycle) e ∙ fresh in rw no refl)
  | inr d ↦ (let rest = over-some xs cycle n (sym (among-cons_other names_order n x xs d) ∙ named) fresh in rw rest (never (is_among name_cmp x cycle)))
]
  where
    never : (b : Bool) → (b && false) ≡ false
    never true = refl
    never false = refl

-- of some names a word chooses one
chooses : (word : ℕ) (names : List (List ℕ)) → 0 < length names → (n : List ℕ) × (candidate word names ≡ Some n)
chooses word [] l = absurd (omega arith)
chooses word (x ∷ xs) l = (get_or (x ∷ xs) (word % length (x ∷ xs)) x, slice_get-get_or (x ∷ xs) (word % length (x ∷ xs)) x (mod-lt word l))

-- the same names, and the state of the cycle
unfoldable pub choices : List (List ℕ) → List (List ℕ) → List ℕ → List (List ℕ)
choices names cycle [] = []
choices names cycle (word ∷ words) = option_to_list (choice names cycle word) ++ choices names (next_cycle names cycle word) words

choices-are : (past : List OrderFact) (words : List ℕ) → choices_after past words ≡ choices (names_after past) (cycle_after past) words
unfolding choices
choices-are past [] = refl
choices-are past (word ∷ words) = ap (λ ns. option_to_list (choice_after past word) ++ ns) (choices-are (Chose word ∷ past) words)

pub choices-none : (cycle : List (List ℕ)) (words : List ℕ) → choices [] cycle words ≡ []
unfolding choices
choices-none cycle [] = refl
choices-none cycle (word ∷ words) = choices-none [] words

-- who is chosen next, while there are names
record IsNext (names cycle : List (List ℕ)) (word : ℕ) : Type 0 where
  pub n : List ℕ
  pub is : choice names cycle word ≡ Some n
  pub candidate_of : IsCandidate names (current_cycle names cycle) n

left-some : (names cycle : List (List ℕ)) → is_over names cycle ≡ false → 0 < left names cycle
left-some names cycle e = elim (cases_lt 0 (left names cycle)) [
  | inl l ↦ l
  | inr z ↦ absurd (false≢true (sym e ∙ over-none names cycle (omega (arith, z))))
]

among-some : (n : List ℕ) (ns : List (List ℕ)) → is_among name_cmp n ns ≡ true → 0 < length ns
among-some n [] a = absurd (false≢true a)
among-some n (x ∷ xs) a = omega arith

current-some : (names cycle : List (List ℕ)) (m : List ℕ) → is_among name_cmp m names ≡ true → 0 < length (candidates names (current_cycle names cycle))
current-some names cycle m named = step (is_over names cycle) refl
  where
    step : (b : Bool) → is_over names cycle ≡ b → 0 < length (candidates names (cond b [] cycle))
    step true e = among-some m (candidates names []) (may_choose names [] m named refl)
    step false e = left-some names cycle e

next_of : (names cycle : List (List ℕ)) (word : ℕ) (m : List ℕ) → is_among name_cmp m names ≡ true → IsNext names cycle word
next_of names cycle word m named =
    let (n, is) = chooses word (candidates names (current_cycle names cycle)) (current-some names cycle m named) in
    record { n = n; is = is; candidate_of = candidate_is names (current_cycle names cycle) word n is }

choices-next : (names cycle : List (List ℕ)) (word : ℕ) (words : List ℕ) (next : IsNext names cycle word) → choices names cycle (word ∷ words) ≡ next.n ∷ choices names (next.n ∷ current_cycle names cycle) words
unfolding choices
choices-next names cycle word words next = ap (λ o. option_to_list o ++ choices names (option_to_list o ++ current_cycle names cycle) words) next.is

-- a cycle that isn't over goes on, and another begins anew
going_on : (names cycle : List (List ℕ)) → is_over names cycle ≡ false → current_cycle names cycle ≡ cycle
going_on names cycle e = ap (λ b. cond b [] cycle) e

beginning : (names cycle : List (List ℕ)) → is_over names cycle ≡ true → current_cycle names cycle ≡ []
beginning names cycle e = ap (λ b. cond b [] cycle) e

-- the rest of a cycle chooses each candidate
rest_of_cycle : (names cycle : List (List ℕ)) (words : List ℕ) (m : List ℕ) → is_among name_cmp m names ≡ true → is_among name_cmp m cycle ≡ false → left names cycle ≤ length words → is_among name_cmp m (choices names cycle words) ≡ true
rest_of_cycle names cycle [] m named fresh few = absurd (omega (arith, few, among-some m (candidates names cycle) (may_choose names cycle m named fresh)))
rest_of_cycle names cycle (word ∷ words) m named fresh few =
    let next = next_of names cycle word m named in
    let on = going_on names cycle (over-some names cycle m named fresh) in
    let is = subst (λ r. IsCandidate names r next.n) on next.candidate_of in
    let now : choices names cycle (word ∷ words) ≡ next.n ∷ choices names (next.n ∷ cycle) words = choices-next names cycle word words next ∙ ap (λ r. next.n ∷ choices names (next.n ∷ r) words) on in
    ap (is_among name_cmp m) now
    ∙ elim (cases_key names_order next.n m) [
      | inl e ↦ among-cons_same names_order m next.n (choices names (next.n ∷ cycle) words) e
      | inr d ↦ among-cons_other names_order m next.n (choices names (next.n ∷ cycle) words) d
          ∙ rest_of_cycle names (next.n ∷ cycle) words m named (among-cons_other names_order m next.n cycle d ∙ fresh) (omega (arith, few, left-chosen names cycle next.n is))
    ]

-- a whole cycle chooses each name
whole_cycle : (names cycle : List (List ℕ)) (words : List ℕ) (m : List ℕ) → is_among name_cmp m names ≡ true → is_over names cycle ≡ true → length names ≤ length words → is_among name_cmp m (choices names cycle words) ≡ true
whole_cycle names cycle [] m named over few = absurd (omega (arith, few, among-some m names named))
whole_cycle names cycle (word ∷ words) m named over few =
    let next = next_of names cycle word m named in
    let anew = beginning names cycle over in
    let is = subst (λ r. IsCandidate names r next.n) anew next.candidate_of in
    let now : choices names cycle (word ∷ words) ≡ next.n ∷ choices names (next.n ∷ []) words = choices-next names cycle word words next ∙ ap (λ r. next.n ∷ choices names (next.n ∷ r) words) anew in
    ap (is_among name_cmp m) now
    ∙ elim (cases_key names_order next.n m) [
      | inl e ↦ among-cons_same names_order m next.n (choices names (next.n ∷ []) words) e
      | inr d ↦ among-cons_other names_order m next.n (choices names (next.n ∷ []) words) d
          ∙ rest_of_cycle names (next.n ∷ []) words m named (among-cons_other names_order m next.n [] d) (omega (arith, few, left-chosen names [] next.n is, left-le names []))
    ]

-- the rest of a cycle and a whole one choose each name
two_cycles : (names cycle : List (List ℕ)) (words : List ℕ) (m : List ℕ) → is_among name_cmp m names ≡ true → left names cycle + length names ≤ length words → is_among name_cmp m (choices names cycle words) ≡ true
two_cycles names cycle [] m named few = absurd (omega (arith, few, among-some m names named))
two_cycles names cycle (word ∷ words) m named few = elim (cases_Bool (is_over names cycle)) [
  | inl over ↦ whole_cycle names cycle (word ∷ words) m named over (omega (arith, few))
  | inr more ↦ (
      let next = next_of names cycle word m named in
      let on = going_on names cycle more in
      let is = subst (λ r. IsCandidate names r next.n) on next.candidate_of in
      let now : choices names cycle (word ∷ words) ≡ next.n ∷ choices names (next.n ∷ cycle) words = choices-next names cycle word words next ∙ ap (λ r. next.n ∷ choices names (next.n ∷ r) words) on in
      ap (is_among name_cmp m) now
      ∙ elim (cases_key names_order next.n m) [
        | inl e ↦ among-cons_same names_order m next.n (choices names (next.n ∷ cycle) words) e
        | inr d ↦ among-cons_other names_order m next.n (choices names (next.n ∷ cycle) words) d
            ∙ two_cycles names (next.n ∷ cycle) words m named (omega (arith, few, left-chosen names cycle next.n is))
      ])
]

-- from any state of the cycle
pub in_window : (names cycle : List (List ℕ)) (words : List ℕ) (m : List ℕ) → is_among name_cmp m names ≡ true → 2 * length names ≤ length words + 1 → is_among name_cmp m (choices names cycle words) ≡ true
in_window names cycle words m named many = elim (cases_Bool (is_among name_cmp m cycle)) [
  | inl chosen ↦ two_cycles names cycle words m named (omega (arith, many, left-less names cycle m named chosen))
  | inr fresh ↦ rest_of_cycle names cycle words m named fresh (omega (arith, many, left-le names cycle, among-some m names named))
]

pub window_after : (past : List OrderFact) (words : List ℕ) (m : List ℕ) → is_among name_cmp m (names_after past) ≡ true → 2 * length (names_after past) ≤ length words + 1 → is_among name_cmp m (choices_after past words) ≡ true
window_after past words m named many = ap (is_among name_cmp m) (choices-are past words) ∙ in_window (names_after past) (cycle_after past) words m named many

pub nobody_after : (past : List OrderFact) (words : List ℕ) → names_after past ≡ [] → choices_after past words ≡ []
nobody_after past words none = choices-are past words ∙ ap (λ ns. choices ns (cycle_after past) words) none ∙ choices-none (cycle_after past) words

pub nobody_picked : (names : List (List ℕ)) (words : List ℕ) → names ≡ [] → picks names words ≡ []
nobody_picked names words none = ap (λ ns. picks ns words) none ∙ nobody_after [] words refl

-- later choices, and the first of some, are choices by the words at their places
drop-choices : (names cycle : List (List ℕ)) (i : ℕ) (words : List ℕ) (m : List ℕ) → is_among name_cmp m names ≡ true → (r : List (List ℕ)) × (drop i (choices names cycle words) ≡ choices names r (drop i words))
unfolding choices
drop-choices names cycle zero words m named = (cycle, refl)
drop-choices names cycle (suc i) [] m named = (cycle, refl)
drop-choices names cycle (suc i) (word ∷ words) m named =
    let next = next_of names cycle word m named in
    let (r, e) = drop-choices names (next.n ∷ current_cycle names cycle) i words m named in
    (r, ap (drop (suc i)) (choices-next names cycle word words next) ∙ e)

take-choices : (names cycle : List (List ℕ)) (k : ℕ) (words : List ℕ) (m : List ℕ) → is_among name_cmp m names ≡ true → take k (choices names cycle words) ≡ choices names cycle (take k words)
unfolding choices
take-choices names cycle zero words m named = refl
take-choices names cycle (suc k) [] m named = refl
take-choices names cycle (suc k) (word ∷ words) m named =
    let next = next_of names cycle word m named in
    ap (take (suc k)) (choices-next names cycle word words next)
    ∙ ap (λ ns. next.n ∷ ns) (take-choices names (next.n ∷ current_cycle names cycle) k words m named)
    ∙ sym (choices-next names cycle word (take k words) next)

-- of the names that joined each is there, and no more are
joined-among : (ns : List (List ℕ)) (past : List OrderFact) (m : List ℕ) → (is_among name_cmp m ns || is_among name_cmp m (names_after past)) ≡ true → is_among name_cmp m (names_after (then_joined ns past)) ≡ true
joined-among [] past m a = a
joined-among (n ∷ ns) past m a =
    joined-among ns (Joined n ∷ past) m (ap (λ b. is_among name_cmp m ns || b) (among-put names_order m n (names_after past)) ∙ swap (is_same name_cmp n m) (is_among name_cmp m ns) (is_among name_cmp m (names_after past)) a)
  where
    swap : (p q r : Bool) → ((p || q) || r) ≡ true → (q || (p || r)) ≡ true
    swap true true r e = refl
    swap true false r e = refl
    swap false q r e = e

joined-few : (ns : List (List ℕ)) (past : List OrderFact) → length (names_after (then_joined ns past)) ≤ length ns + length (names_after past)
joined-few [] past = omega arith
joined-few (n ∷ ns) past = omega (arith, joined-few ns (Joined n ∷ past), length_put_row-le names_order (λ k. k) n (names_after past))

pub window_picked : (names : List (List ℕ)) (words : List ℕ) (m : List ℕ) (i : ℕ) → is_among name_cmp m names ≡ true → i + (2 * length names - 1) ≤ length words → is_among name_cmp m (take (2 * length names - 1) (drop i (picks names words))) ≡ true
window_picked names words m i named within =
    let past = then_joined names [] in
    let ns = names_after past in
    let k = 2 * length names - 1 in
    let there : is_among name_cmp m ns ≡ true = joined-among names [] m (first_of _ false named) in
    let (r, later) = drop-choices ns (cycle_after past) i words m there in
    let taken : take k (drop i (picks names words)) ≡ choices ns r (take k (drop i words)) = ap (λ cs. take k (drop i cs)) (choices-are past words) ∙ ap (take k) later ∙ take-choices ns r k (drop i words) m there in
    let many : length (take k (drop i words)) ≡ k = length-take-le k (drop i words) (omega (arith, within, length-drop i words)) in
    ap (is_among name_cmp m) taken ∙ in_window ns r (take k (drop i words)) m there (omega (arith, many, joined-few names [], among-some m names named))
