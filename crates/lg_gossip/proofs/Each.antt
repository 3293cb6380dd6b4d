-- What holds of each of some rows.
use Rattle.std.proofs.Common.{
  ◌≡◌,
  ℕ,
  suc,
  zero,
  ◌<◌,
  Bool,
  true,
  List,
  [],
  ◌∷◌,
  ◌++◌,
  take,
  length,
  get_or,
  inl,
  inr,
  arith,
}
use Rattle.std.specs.Prelude.{filter, insert}
use Rattle.std.specs.List.{AllByRecursion}
use Rattle.std.proofs.lemmas.Bool.{cases_Bool}
use Rattle.lg_gossip.specs.declared.queued.Queued.{Queued}
use Rattle.lg_gossip.specs.Meaning.Queue.{is_sooner, put_by_sends, by_sends}

-- What holds of each of some rows holds of the one at an index,
pub holds_at : {A : Type 0} (P : A → Type 0) (k : ℕ) (d : A) (rows : List A) → k < length rows → AllByRecursion P rows → P (get_or rows k d)
holds_at P k d [] l w = absurd (omega arith)
holds_at P zero d (q ∷ qs) l w = w.0
holds_at P (suc k) d (q ∷ qs) l w = holds_at P k d qs (omega arith) w.1

-- of those that pass a test,
pub all-filter : {A : Type 0} (P : A → Type 0) (p : A → Bool) (rows : List A) → AllByRecursion P rows → AllByRecursion P (filter p rows)
all-filter P p [] a = tt
all-filter P p (x ∷ xs) a = elim (cases_Bool (p x)) [
  | inl t ↦ rw t (a.0, all-filter P p xs a.1)
  | inr f ↦ rw f (all-filter P p xs a.1)
]

-- by their sends,
pub all-put_by_sends : (P : Queued → Type 0) (q : Queued) (rows : List Queued) → P q → AllByRecursion P rows → AllByRecursion P (put_by_sends q rows)
all-put_by_sends P q [] h a = (h, tt)
all-put_by_sends P q (x ∷ xs) h a = elim (cases_Bool (is_sooner q x)) [
  | inl t ↦ rw t (h, a)
  | inr f ↦ rw f (a.0, all-put_by_sends P q xs h a.1)
]

pub all-by_sends : (P : Queued → Type 0) (rows : List Queued) → AllByRecursion P rows → AllByRecursion P (by_sends rows)
all-by_sends P [] a = tt
all-by_sends P (x ∷ xs) a = all-put_by_sends P x (by_sends xs) a.0 (all-by_sends P xs a.1)

-- and of the first so many of these.
pub all-take : {A : Type 0} (P : A → Type 0) (k : ℕ) (rows : List A) → AllByRecursion P rows → AllByRecursion P (take k rows)
all-take P zero rows a = tt
all-take P (suc k) [] a = tt
all-take P (suc k) (x ∷ xs) a = (a.0, all-take P k xs a.1)

-- of these and others behind them
pub all-append : {A : Type 0} (P : A → Type 0) (xs ys : List A) → AllByRecursion P xs → AllByRecursion P ys
    → AllByRecursion P (xs ++ ys)
all-append P [] ys a b = b
all-append P (x ∷ xs) ys a b = (a.0, all-append P xs ys a.1 b)

-- of these and one more at an index
pub all-insert : {A : Type 0} (P : A → Type 0) (k : ℕ) (x : A) (rows : List A) → P x → AllByRecursion P rows → AllByRecursion P (insert rows k x)
all-insert P zero x rows h a = (h, a)
all-insert P (suc k) x [] h a = (h, tt)
all-insert P (suc k) x (y ∷ ys) h a = (a.0, all-insert P k x ys h a.1)

-- two facts make a third
pub all-both : {A : Type 0} (P Q R : A → Type 0) (rows : List A) → ((q : A) → P q → Q q → R q) → AllByRecursion P rows → AllByRecursion Q rows → AllByRecursion R rows
all-both P Q R [] h a b = tt
all-both P Q R (x ∷ xs) h a b = (h x a.0 b.0, all-both P Q R xs h a.1 b.1)

-- those that pass a test
pub passed : {A : Type 0} (p : A → Bool) (rows : List A) → AllByRecursion (λ q. p q ≡ true) (filter p rows)
passed p [] = tt
passed p (x ∷ xs) = elim (cases_Bool (p x)) [
  | inl t ↦ rw t (t, passed p xs)
  | inr f ↦ rw f (passed p xs)
]
