-- The rows of suspicions by the names of the slots: what is found and changed among the rows that are kept is found and
-- changed there.
use Rattle.std.proofs.Common.{◌≡◌, ℕ, Bool, zero, suc, ◌<◌, List, [], ◌∷◌, length, map, get_or}
use Rattle.std.proofs.Common.{Option, refl, sym, ◌∙◌, ap, subst, inl, inr, arith}
use Rattle.std.specs.Prelude.{option_map}
use Rattle.std.proofs.lemmas.Bool.{cases_Bool}
use Rattle.std.proofs.lemmas.List.{length-map}
use Rattle.lg_rules.specs.Meaning.Rows.{name_cmp, is_same, put_row, row_at, without_row, Rises}
use Rattle.lg_rules.specs.declared.claim.Claim.{Claim}
use Rattle.lg_rules.specs.declared.members.Heard.{Heard}
use Rattle.lg_rules.specs.Meaning.Table.{hearing_of, takes, heard, names_heard, live_in}
use Rattle.lg_timing.specs.declared.config.Config.{Config}
use Rattle.lg_rules.proofs.Cases.{Below, Tied, Above, compared}
use Rattle.lg_suspicion.specs.Meaning.Parts.{suspicion_by, IsKnownTo}
use Rattle.lg_suspicion.proofs.Hearing.{known-heard as known_one-heard, suspicion-heard}
use Rattle.lg_membership.specs.declared.suspected.Suspected.{Suspected}
use Rattle.lg_membership.specs.Meaning.Suspicions.{suspected_name}
use Rattle.lg_membership.specs.Support.Changes.{change_by, change_of, row_about}
use Rattle.lg_membership.specs.Support.Room.{HasSeat}
use Rattle.lg_membership.specs.Support.Rows.{kept_name, row_by, rows_by, AreKnownTo}

module _ (names : List (Option (List ℕ))) where
  pub names-by : (rows : List Suspected) → map suspected_name (rows_by names rows) ≡ map kept_name rows
  names-by [] = refl
  names-by (x ∷ xs) = ap (λ ns. x.name ∷ ns) (names-by xs)

  pub row_at-by : (m : List ℕ) (rows : List Suspected)
      → row_at name_cmp suspected_name m (rows_by names rows)
      ≡ option_map (row_by names) (row_at name_cmp kept_name m rows)
  row_at-by m [] = refl
  row_at-by m (x ∷ xs) = elim (compared (name_cmp m x.name)) [
    | Below e ↦ rw e
    | Tied e ↦ rw e
    | Above e ↦ rw (e, row_at-by m xs)
  ]

  pub put-by : (r : Suspected) (rows : List Suspected)
      → rows_by names (put_row name_cmp kept_name r rows)
      ≡ put_row name_cmp suspected_name (row_by names r) (rows_by names rows)
  put-by r [] = refl
  put-by r (x ∷ xs) = elim (compared (name_cmp r.name x.name)) [
    | Below e ↦ rw e
    | Tied e ↦ rw e
    | Above e ↦ rw (e, put-by r xs)
  ]

  pub without-by : (m : List ℕ) (rows : List Suspected)
      → rows_by names (without_row name_cmp kept_name m rows)
      ≡ without_row name_cmp suspected_name m (rows_by names rows)
  without-by m [] = refl
  without-by m (x ∷ xs) = elim (cases_Bool (is_same name_cmp x.name m)) [
    | inl t ↦ rw (t, without-by m xs)
    | inr f ↦ rw (f, without-by m xs)
  ]

  -- what is kept has the order of what is meant, and as many rows
  pub rises-kept : (rows : List Suspected) → Rises name_cmp (map suspected_name (rows_by names rows))
      → Rises name_cmp (map kept_name rows)
  rises-kept rows rise = subst (Rises name_cmp) (names-by rows) rise

  pub seat-kept : (m : List ℕ) (rows : List Suspected) → HasSeat suspected_name m (rows_by names rows)
      → HasSeat kept_name m rows
  seat-kept m rows seat gap =
      let few = seat (row_at-by m rows ∙ ap (option_map (row_by names)) gap) in
      omega (arith, few, length-map rows (row_by names))

  -- Each accuser stays known.
  pub known-at : (rows : List Suspected) (at : ℕ) (d : Suspected) → AreKnownTo names rows → at < length rows
      → IsKnownTo names (get_or rows at d).suspicion
  known-at [] at d known within = absurd (omega arith)
  known-at (x ∷ xs) zero d known within = known.0
  known-at (x ∷ xs) (suc at) d known within = known-at xs at d known.1 (omega arith)

  pub known-put : (r : Suspected) (rows : List Suspected) → IsKnownTo names r.suspicion → AreKnownTo names rows
      → AreKnownTo names (put_row name_cmp kept_name r rows)
  known-put r [] one known = (one, known)
  known-put r (x ∷ xs) one known = elim (compared (name_cmp r.name x.name)) [
    | Below e ↦ rw e (one, known)
    | Tied e ↦ rw e (one, known.1)
    | Above e ↦ rw e (known.0, known-put r xs one known.1)
  ]

  pub known-without : (m : List ℕ) (rows : List Suspected) → AreKnownTo names rows
      → AreKnownTo names (without_row name_cmp kept_name m rows)
  known-without m [] known = known
  known-without m (x ∷ xs) known = elim (cases_Bool (is_same name_cmp x.name m)) [
    | inl t ↦ rw t (known-without m xs known.1)
    | inr f ↦ rw f (known.0, known-without m xs known.1)
  ]

-- The names that are heard leave what is kept.
pub known-heard : {after : List (Option (List ℕ))} (taken : Bool) (names : List (Option (List ℕ))) (c : Claim) (rows : List Suspected)
    → after ≡ names_heard taken names c → AreKnownTo names rows → AreKnownTo after rows
known-heard taken names c [] is known = known
known-heard taken names c (x ∷ xs) is known = (
  subst (λ ns. IsKnownTo ns x.suspicion) (sym is) (known_one-heard taken names c x.suspicion known.0),
  known-heard taken names c xs is known.1,
)

pub rows-heard : {after : List (Option (List ℕ))} (taken : Bool) (names : List (Option (List ℕ))) (c : Claim) (rows : List Suspected)
    → after ≡ names_heard taken names c → AreKnownTo names rows → rows_by after rows ≡ rows_by names rows
rows-heard taken names c [] is known = refl
rows-heard taken names c (x ∷ xs) is known =
    let one = ap (λ ns. suspicion_by ns x.suspicion) is ∙ suspicion-heard taken names c x.suspicion known.0 in
    λ i. record { name = x.name; suspicion = one i } ∷ rows-heard taken names c xs is known.1 i

-- so what a claim changes is the same by the names before it and by those after it
pub change-heard : {h : Heard} {heard-table : List Claim} {after : List (Option (List ℕ))} (forgetting : Bool) (opened : Option Config) (now : ℕ)
    (c : Claim) (table : List Claim) (names : List (Option (List ℕ))) (rows : List Suspected) → h ≡ hearing_of forgetting table c
    → heard-table ≡ heard forgetting table c → after ≡ names_heard (takes forgetting table c) names c → AreKnownTo names rows
    → change_by h opened now (live_in heard-table) (row_about c (rows_by after rows)) c
    ≡ change_of forgetting opened now table (rows_by names rows) c
change-heard forgetting opened now c table names rows hearing changed is known = λ i.
    change_by (hearing i) opened now (live_in (changed i)) (row_about c (rows-heard (takes forgetting table c) names c rows is known i)) c
