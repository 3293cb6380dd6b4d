-- A suspicion takes one more accuser: what that changes of the rows by the names of the slots.
use Rattle.std.proofs.Common.{Option, ◌≡◌, ℕ, Bool, List, length, drop, get_or, set, length-set, arith, Some}
use Rattle.std.proofs.Common.{inl, inr, sym, ◌∙◌, ap, subst}
use Rattle.std.specs.Prelude.{option_map}
use Rattle.std.specs.List.{refill}
use Rattle.std.proofs.lemmas.Bool.{cases_Bool}
use Rattle.std.proofs.lemmas.List.{set-get_or, take-append-le, take_all}
use Rattle.lg_rules.specs.Meaning.Rows.{name_cmp, put_row, row_at}
use Rattle.lg_rules.specs.Support.Places.{HasRow}
use Rattle.lg_suspicion.specs.Meaning.Accusers.{accuser_counts}
use Rattle.lg_suspicion.specs.Meaning.Parts.{IsKnownTo}
use Rattle.lg_membership.specs.declared.applied.Deadline.{Deadline}
use Rattle.lg_membership.specs.declared.suspected.Suspected.{Suspected}
use Rattle.lg_membership.specs.Meaning.Suspicions.{suspected_name}
use Rattle.lg_membership.specs.Support.Changes.{joined, accusing, suspicions_after, deadline_of_change}
use Rattle.lg_membership.specs.Support.Rows.{kept_name, row_by, rows_by, AreKnownTo, IsWithin, AreAccusersIn}
use Rattle.lg_membership.proofs.RowsByNames.{row_at-by, put-by, known-at, known-put}
use Rattle.lg_membership.proofs.Within.{within-at, within-put, within-more}

-- what is written over a whole row of places is all that is there
pub refill_same : {X : Type 0} (xs ws : List X) → length ws ≡ length xs → refill (length xs) xs ws ≡ ws
refill_same xs ws same =
    take-append-le (length xs) ws (drop (length ws) xs) (omega (arith, same))
    ∙ take_all (length xs) ws (omega (arith, same))

module _ (names : List (Option (List ℕ))) (m a : List ℕ) (rows : List Suspected) (at : ℕ) (d : Suspected)
    (has : HasRow name_cmp kept_name m rows at) where
  -- the row that was found
  pub found-by : row_at name_cmp suspected_name m (rows_by names rows) ≡ Some (row_by names (get_or rows at d))
  found-by = row_at-by names m rows ∙ ap (option_map (row_by names)) (has.found d)

  put_again : put_row name_cmp suspected_name (row_by names (get_or rows at d)) (rows_by names rows)
      ≡ rows_by names rows
  put_again =
      sym (put-by names (get_or rows at d) rows)
      ∙ ap (rows_by names) (sym (has.set (get_or rows at d) (has.named d)))
      ∙ ap (rows_by names) (set-get_or rows at d)

  put_joined : put_row name_cmp suspected_name (joined a (row_by names (get_or rows at d))) (rows_by names rows)
      ≡ suspicions_after (accusing (Some a) (Some (row_by names (get_or rows at d)))) (rows_by names rows)
  put_joined = elim (cases_Bool (accuser_counts (row_by names (get_or rows at d)).suspicion a)) [
    | inl t ↦ rw t
    | inr f ↦ rw f put_again
  ]

-- A row is found among those read, and is lent from those that are written: they are all the same rows.
pub record IsLent (m : List ℕ) (rows read lent : List Suspected) (at : ℕ) : Type 0 where
  pub same_read : read ≡ rows
  pub same_lent : lent ≡ rows
  pub has : HasRow name_cmp kept_name m read at

module _ (names : List (Option (List ℕ))) (m a : List ℕ) (rows read lent : List Suspected) (at : ℕ) (d : Suspected)
    (is : IsLent m rows read lent at) where
  found : HasRow name_cmp kept_name m rows at
  found = subst (λ xs. HasRow name_cmp kept_name m xs at) is.same_read is.has

  old-is : get_or lent at d ≡ get_or rows at d
  old-is = ap (λ xs. get_or xs at d) is.same_lent

  written : (new : Suspected) → refill (length rows) rows (set lent at new) ≡ set rows at new
  written new =
      ap (λ xs. refill (length rows) rows (set xs at new)) is.same_lent
      ∙ refill_same rows (set rows at new) (length-set rows at new)

  put : (new : Suspected) → new.name ≡ (get_or lent at d).name
      → set rows at new ≡ put_row name_cmp kept_name new rows
  put new named = found.set new (named ∙ ap kept_name old-is ∙ found.named d)

  pub known-lent : AreKnownTo names rows → IsKnownTo names (get_or lent at d).suspicion
  known-lent known =
      subst (λ r. IsKnownTo names r.suspicion) (sym old-is) (known-at names rows at d known found.within)

  -- the rows once the one that was lent took one more accuser
  pub rows-joined : (new : Suspected) → new.name ≡ (get_or lent at d).name
      → row_by names new ≡ joined a (row_by names (get_or lent at d))
      → rows_by names (refill (length rows) rows (set lent at new))
      ≡ suspicions_after (accusing (Some a) (row_at name_cmp suspected_name m (rows_by names rows)))
      (rows_by names rows)
  rows-joined new named row =
      ap (rows_by names) (written new ∙ put new named)
      ∙ put-by names new rows
      ∙ ap (λ r. put_row name_cmp suspected_name r (rows_by names rows))
      (row ∙ ap (λ r. joined a (row_by names r)) old-is)
      ∙ put_joined names m a rows at d found
      ∙ ap (λ o. suspicions_after (accusing (Some a) o) (rows_by names rows)) (sym (found-by names m a rows at d found))

  pub known-joined : (new : Suspected) → new.name ≡ (get_or lent at d).name → IsKnownTo names new.suspicion
      → AreKnownTo names rows → AreKnownTo names (refill (length rows) rows (set lent at new))
  known-joined new named one known =
      subst (AreKnownTo names) (sym (written new ∙ put new named)) (known-put names new rows one known)

  -- the slots of the accusers stay in the set, once that has those of the suspicion with one more accuser
  pub within-lent : (all : List Bool) → AreAccusersIn all rows → IsWithin all (get_or lent at d).suspicion.members
  within-lent all within =
      subst (λ r. IsWithin all r.suspicion.members) (sym old-is) (within-at all rows at d within found.within)

  pub within-joined : (all more : List Bool) → IsWithin more all → (new : Suspected)
      → new.name ≡ (get_or lent at d).name → IsWithin more new.suspicion.members → AreAccusersIn all rows
      → AreAccusersIn more (refill (length rows) rows (set lent at new))
  within-joined all more grown new named one within =
      subst (AreAccusersIn more) (sym (written new ∙ put new named))
      (within-put more new rows one (within-more more all rows grown within))

  pub deadline-joined : {deadline : Deadline}
      → deadline ≡ deadline_of_change (accusing (Some a) (Some (row_by names (get_or lent at d))))
      → deadline ≡ deadline_of_change (accusing (Some a) (row_at name_cmp suspected_name m (rows_by names rows)))
  deadline-joined is_deadline =
      is_deadline
      ∙ ap (λ r. deadline_of_change (accusing (Some a) (Some (row_by names r)))) old-is
      ∙ ap (λ o. deadline_of_change (accusing (Some a) o)) (sym (found-by names m a rows at d found))
