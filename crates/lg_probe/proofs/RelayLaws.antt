-- Open relays have numbers of their own.
use Rattle.std.proofs.Common.{◌≡◌, ℕ, suc, ◌+◌, ◌<◌, ◌≤◌, Bool, true, false, not, cond, List, [], ◌∷◌, ◌++◌, length, Some, None, inl, inr, refl, sym, ◌∙◌, ap, arith}
use Rattle.std.specs.Prelude.{filter, find, position, remove, slice_get, nat_lt, ◌==◌}
use Rattle.std.specs.List.{AllByRecursion, list_any, position_or_len}
use Rattle.std.proofs.lemmas.Bool.{cases_Bool, false≢true, eq-eqb, eqb-true, ltb-true, ltb-false}
use Rattle.std.proofs.lemmas.List.Folds.{find_at}
use Rattle.std.proofs.lemmas.Option.{cond_some, slice_get_past}
use Rattle.lg_rules.proofs.PastLaws.{neither}
use Rattle.lg_rules.proofs.RowsFound.{filter-none}
use Rattle.lg_rules.proofs.Tests.{both}
use Rattle.lg_rules.specs.Meaning.Rows.{name_cmp, is_same}
use Rattle.lg_probe.specs.declared.relays.Relay.{Relay}
use Rattle.lg_probe.specs.Meaning.Relays.{AreApart, asker_of, asker_at, has_number, is_ended, is_open}

-- where none is found, none passes
pub none_open : (number : ℕ) (relays : List Relay) → asker_at number relays ≡ None → is_open number relays ≡ false
none_open number [] e = refl
none_open number (r ∷ rs) e = elim (cases_Bool (has_number number r)) [
  | inl t ↦ (let e' : Some (asker_of r) ≡ None = rw t at e in absurd cc)
  | inr f ↦ (let e' : asker_at number rs ≡ None = rw f at e in rw f (none_open number rs e'))
]

all-more : {A : Type 0} (P : A → Type 0) (xs : List A) (y : A) → AllByRecursion P xs → P y → AllByRecursion P (xs ++ y ∷ [])
all-more P [] y a p = (p, tt)
all-more P (x ∷ xs) y a p = (a.0, all-more P xs y a.1 p)

all-fewer : {A : Type 0} (P : A → Type 0) (p : A → Bool) (xs : List A) → AllByRecursion P xs → AllByRecursion P (filter p xs)
all-fewer P p [] a = a
all-fewer P p (x ∷ xs) a = elim (cases_Bool (p x)) [
  | inl t ↦ rw t (a.0, all-fewer P p xs a.1)
  | inr f ↦ rw f (all-fewer P p xs a.1)
]

pub apart-opened : (relays : List Relay) (r : Relay) → is_open r.number relays ≡ false → AreApart relays → AreApart (relays ++ r ∷ [])
apart-opened [] r e a = (tt, tt)
apart-opened (x ∷ xs) r e a =
    let parts = neither (has_number r.number x) (is_open r.number xs) e in
    (all-more (λ (s : Relay). (x.number == s.number) ≡ false) xs r a.0 parts.0, apart-opened xs r parts.1 a.1)

pub apart-fewer : (p : Relay → Bool) (relays : List Relay) → AreApart relays → AreApart (filter p relays)
apart-fewer p [] a = a
apart-fewer p (x ∷ xs) a = elim (cases_Bool (p x)) [
  | inl t ↦ rw t (all-fewer (λ (s : Relay). (x.number == s.number) ≡ false) p xs a.0, apart-fewer p xs a.1)
  | inr f ↦ rw f (apart-fewer p xs a.1)
]

one_more : (n : ℕ) → 1 + n ≡ suc n
one_more n = omega arith

-- where the first that passes stands behind all, none passes
none_passes : {A : Type 0} (p : A → Bool) (xs : List A) → length xs ≤ position_or_len p xs → list_any p xs ≡ false
none_passes p [] l = refl
none_passes p (x ∷ xs) l = elim (cases_Bool (p x)) [
  | inl t ↦ absurd (let l' : suc (length xs) ≤ 0 = rw t at l in omega (arith, l'))
  | inr f ↦ (let l' : suc (length xs) ≤ 1 + position_or_len p xs = rw f at l in rw f (none_passes p xs (omega (arith, l'))))
]

one_passes : {A : Type 0} (p : A → Bool) (xs : List A) → position_or_len p xs < length xs → list_any p xs ≡ true
one_passes p [] l = absurd (omega (arith, l))
one_passes p (x ∷ xs) l = elim (cases_Bool (p x)) [
  | inl t ↦ rw t
  | inr f ↦ (let l' : 1 + position_or_len p xs < suc (length xs) = rw f at l in rw f (one_passes p xs (omega (arith, l'))))
]

-- no test that asks for a number passes behind the relay of that number
none_behind : (p : Relay → Bool) (number k : ℕ) (relays : List Relay) → k ≡ number → ((r : Relay) → p r ≡ true → has_number number r ≡ true) → AllByRecursion (λ s. (k == s.number) ≡ false) relays → list_any p relays ≡ false
none_behind p number k [] e h a = refl
none_behind p number k (r ∷ rs) e h a = elim (cases_Bool (p r)) [
  | inl t ↦ absurd (false≢true (sym a.0 ∙ eq-eqb k r.number (e ∙ sym (eqb-true r.number number (h r t)))))
  | inr f ↦ rw f (none_behind p number k rs e h a.1)
]

-- so all the others are left where the first that passes is taken out
first_removed : (p : Relay → Bool) (number : ℕ) (relays : List Relay) → ((r : Relay) → p r ≡ true → has_number number r ≡ true) → AreApart relays → filter (λ r. not (p r)) relays ≡ remove relays (position_or_len p relays)
first_removed p number [] h a = refl
first_removed p number (r ∷ rs) h a = elim (cases_Bool (p r)) [
  | inl t ↦ rw t (filter-none p rs (none_behind p number r.number rs (eqb-true r.number number (h r t)) h a.0))
  | inr f ↦ rw (f, one_more (position_or_len p rs)) (ap (λ xs. r ∷ xs) (first_removed p number rs h a.1))
]

-- of the place that a search found, and of one that found none
pub record HasOne (p : Relay → Bool) (relays : List Relay) (place : ℕ) : Type 0 where
  pub within : place < length relays
  pub found : find p relays ≡ slice_get relays place
  pub passes : list_any p relays ≡ true
  pub others : filter (λ r. not (p r)) relays ≡ remove relays place

pub has_one : (p : Relay → Bool) (number : ℕ) (relays : List Relay) (place : ℕ) → ((r : Relay) → p r ≡ true → has_number number r ≡ true) → AreApart relays → position p relays ≡ Some place → HasOne p relays place
has_one p number relays place h a e =
    let parts = cond_some (nat_lt (position_or_len p relays) (length relays)) (position_or_len p relays) place e in
    let within = ltb-true (position_or_len p relays) (length relays) parts.0 in
    record {
      within = omega (arith, within, parts.1);
      found = find_at p relays ∙ ap (slice_get relays) parts.1;
      passes = one_passes p relays within;
      others = first_removed p number relays h a ∙ ap (remove relays) parts.1;
    }

pub record HasNone (p : Relay → Bool) (relays : List Relay) : Type 0 where
  pub found : find p relays ≡ None
  pub passes : list_any p relays ≡ false
  pub others : filter (λ r. not (p r)) relays ≡ relays

pub has_none : (p : Relay → Bool) (relays : List Relay) → position p relays ≡ None → HasNone p relays
has_none p relays e =
    let behind : length relays ≤ position_or_len p relays = past (nat_lt (position_or_len p relays) (length relays)) (position_or_len p relays) refl e in
    record {
      found = find_at p relays ∙ slice_get_past relays (position_or_len p relays) behind;
      passes = none_passes p relays behind;
      others = filter-none p relays (none_passes p relays behind);
    }
  where
    past : (b : Bool) (k : ℕ) → nat_lt (position_or_len p relays) (length relays) ≡ b → cond b (Some k) None ≡ None → length relays ≤ position_or_len p relays
    past true k is e = absurd cc
    past false k is e = ltb-false (position_or_len p relays) (length relays) is

-- an ack ends relays of its number alone
pub ended_number : (number : ℕ) (sender : List ℕ) (r : Relay) → is_ended number sender r ≡ true → has_number number r ≡ true
ended_number number sender r e = (both (has_number number r) (is_same name_cmp r.target sender) e).0
