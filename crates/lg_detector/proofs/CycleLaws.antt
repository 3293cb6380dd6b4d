-- Cycles that have the same of some names: whom a word chooses, and the next cycle, depend on nothing else.
use Rattle.std.proofs.Common.{◌≡◌, ℕ, Bool, true, false, not, cond, ◌&&◌, ◌||◌, List, [], ◌∷◌, refl, sym, ◌∙◌, ap}
use Rattle.std.specs.Prelude.{filter}
use Rattle.std.specs.List.{list_all}
use Rattle.std.specs.Option.{option_to_list}
use Rattle.lg_rules.specs.Meaning.Rows.{name_cmp, is_among}
use Rattle.lg_rules.proofs.KeyOrder.{names_order}
use Rattle.lg_rules.proofs.Rises.{among-cons_same, among-later}
use Rattle.lg_probe.specs.Meaning.Order.{candidate, is_over, current_cycle, choice, next_cycle}
use Rattle.lg_probe.proofs.NameRows.{among-append}

abbrev pub AreAlike : List (List ℕ) → List (List ℕ) → List (List ℕ) → Type 0
AreAlike names cycle other = (n : List ℕ) → is_among name_cmp n names ≡ true → is_among name_cmp n cycle ≡ is_among name_cmp n other

-- tests that agree on the names
filter-members : (p q : List ℕ → Bool) (ns : List (List ℕ)) → ((n : List ℕ) → is_among name_cmp n ns ≡ true → p n ≡ q n) → filter p ns ≡ filter q ns
filter-members p q [] h = refl
filter-members p q (n ∷ ns) h =
    let rest = filter-members p q ns (λ m a. h m (among-later names_order m n ns a)) in
    ap (λ b. cond b (n ∷ filter p ns) (filter p ns)) (h n (among-cons_same names_order n n ns refl))
    ∙ ap (λ ms. cond (q n) (n ∷ ms) ms) rest

all-members : (p q : List ℕ → Bool) (ns : List (List ℕ)) → ((n : List ℕ) → is_among name_cmp n ns ≡ true → p n ≡ q n) → list_all p ns ≡ list_all q ns
all-members p q [] h = refl
all-members p q (n ∷ ns) h =
    let first = h n (among-cons_same names_order n n ns refl) in
    let rest = all-members p q ns (λ m a. h m (among-later names_order m n ns a)) in
    λ i. first i && rest i

module _ (names cycle other : List (List ℕ)) (alike : AreAlike names cycle other) where
  current-alike : AreAlike names (current_cycle names cycle) (current_cycle names other)
  current-alike n among =
      ap (λ b. is_among name_cmp n (cond b [] cycle)) (all-members (λ m. is_among name_cmp m cycle) (λ m. is_among name_cmp m other) names alike)
      ∙ either (is_over names other)
    where
      either : (b : Bool) → is_among name_cmp n (cond b [] cycle) ≡ is_among name_cmp n (cond b [] other)
      either true = refl
      either false = alike n among

  pub choice-alike : (word : ℕ) → choice names cycle word ≡ choice names other word
  choice-alike word =
      ap (candidate word)
      (filter-members (λ n. not (is_among name_cmp n (current_cycle names cycle))) (λ n. not (is_among name_cmp n (current_cycle names other))) names
      (λ n a. ap not (current-alike n a)))

  pub next-alike : (word : ℕ) → AreAlike names (next_cycle names cycle word) (next_cycle names other word)
  next-alike word n among =
      among-append n (option_to_list (choice names cycle word)) (current_cycle names cycle)
      ∙ (λ i. is_among name_cmp n (option_to_list (choice-alike word i)) || current-alike n among i)
      ∙ sym (among-append n (option_to_list (choice names other word)) (current_cycle names other))
