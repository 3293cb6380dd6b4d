-- What a leave changes of this member's own record.
use Rattle.std.proofs.Common.{◌≡◌, ◌≢◌, ℕ, Bool, true, false, not, ◌||◌, cond, List, [], ◌∷◌, map, Option, Some, None, inl, inr, refl, sym, ap, ◌∙◌, subst}
use Rattle.std.proofs.lemmas.Bool.{cases_Bool}
use Rattle.lg_rules.specs.declared.claim.Claim.{Claim}
use Rattle.lg_rules.specs.declared.claim.Status.TheVariants.{Alive, Left}
use Rattle.lg_rules.specs.Meaning.Claim.{name_of}
use Rattle.lg_rules.specs.Meaning.Own.{OwnValue, own_left, own_record}
use Rattle.lg_rules.specs.Meaning.Rows.{name_cmp, is_same, is_among, put_row, row_at, Rises}
use Rattle.lg_rules.specs.Meaning.View.{changed, is_row, is_same_claim, view_of}
use Rattle.lg_rules.proofs.Cases.{held_once}
use Rattle.lg_rules.proofs.KeyOrder.{names_order, same_key}
use Rattle.lg_rules.proofs.OwnLaws.{own-leaves}
use Rattle.lg_rules.proofs.RowLaws.{row_at-put}
use Rattle.lg_rules.proofs.RowsFound.{filter_same, rises-put_row, rows_found}
use Rattle.lg_rules.proofs.Changes.{claim_itself, same_claim}
use Rattle.lg_rules.proofs.Tables.{table-leaves}
use Rattle.lg_timing.specs.declared.config.Config.{Config}
use Rattle.lg_membership.specs.Meaning.Log.{GroupLog, Departed, config, me, own_facts, own, forgets, table, opening_addr, view_in, group_view}
use Rattle.lg_membership.specs.Meaning.Gossip.{put_if_leaves}
use Rattle.lg_membership.specs.Meaning.Applied.{IsRecordChange, IsLeave}
use Rattle.lg_membership.specs.Support.State.{GroupState, group_state_of, shown, with_found, if_open, leave_group, changed_by_leave}
use Rattle.lg_membership.proofs.FactLaws.{own_name}
use Rattle.lg_membership.specs.Support.Reached.{IsGroupReached}
use Rattle.lg_membership.proofs.Chosen.{chosen-none, chosen-put}
use Rattle.lg_membership.proofs.Putting.{put_over}
use Rattle.lg_membership.proofs.Rooms.{reached-ordered}
use Rattle.lg_membership.proofs.Shown.{rises-shown}

-- a further leave changes nothing
left_already : (oneself : OwnValue) → oneself.left ≡ true → own_left oneself ≡ oneself
left_already oneself e = λ i. record oneself { left = sym e i }

-- the own record, as it is found
found_own : (oneself : OwnValue) (rows : List Claim) → row_at name_cmp name_of oneself.name (view_of (own_record oneself) rows) ≡ Some (own_record oneself)
found_own oneself rows =
    row_at-put names_order name_of oneself.name (own_record oneself) rows
    ∙ ap (λ b. cond b (Some (own_record oneself)) (row_at name_cmp name_of oneself.name rows)) (same_key names_order oneself.name oneself.name refl)

-- the own record is another one once this member leaves
not_alive : (oneself : OwnValue) → oneself.left ≡ false → own_record (own_left oneself) ≢ own_record oneself
not_alive oneself e same =
    let bad : Left ≡ Alive = ap (λ (r : Claim). r.status) same ∙ ap (λ b. cond b Left Alive) e in
    absurd cc

left_record : (o : Option Config) (oneself : OwnValue) (rows : List Claim) (b : Bool) → oneself.left ≡ b
    → IsRecordChange (row_at name_cmp name_of oneself.name (view_in o oneself rows)) (row_at name_cmp name_of oneself.name (view_in o (own_left oneself) rows))
    (if_open o (put_if_leaves b (own_left oneself)))
left_record None oneself rows b e = refl
left_record (Some opening) oneself rows true e =
    ap (λ (later : OwnValue). row_at name_cmp name_of oneself.name (view_of (own_record later) rows)) (left_already oneself e)
left_record (Some opening) oneself rows false e = (
  found_own (own_left oneself) rows,
  λ same. not_alive oneself e (held_once _ _ (sym (found_own (own_left oneself) rows) ∙ same ∙ found_own oneself rows)),
)

pub leave-log : (log : GroupLog) → IsLeave log (changed_by_leave (group_state_of log))
leave-log log =
    let at : List ℕ → List Claim → Option Claim = λ m rows. row_at name_cmp name_of m rows in
    let changed = changed_by_leave (group_state_of log) in
    subst (λ (m : List ℕ). IsRecordChange (at m (group_view log)) (at m (group_view (Departed ∷ log))) changed) (own_name log)
    (subst (λ (later : OwnValue). IsRecordChange (at (own log).name (group_view log)) (at (own log).name (view_in (config log) later (table (Departed ∷ log)))) changed)
    (sym (own-leaves (me log) (opening_addr (config log)) (own_facts log)))
    (subst (λ (rows : List Claim). IsRecordChange (at (own log).name (group_view log)) (at (own log).name (view_in (config log) (own_left (own log)) rows)) changed)
    (sym (table-leaves (forgets log) (me log) (own_facts log)))
    (left_record (config log) (own log) (table log) (own log).left refl)))

-- What is shown once this member left: its own record, if that changed, among what was shown.
left_shown : (o : Option Config) (oneself : OwnValue) (rows : List Claim) (b : Bool) → oneself.left ≡ b → Rises name_cmp (map name_of rows)
    → view_in o (own_left oneself) rows ≡ with_found (if_open o (put_if_leaves b (own_left oneself))) (view_in o oneself rows)
left_shown None oneself rows b e rise = refl
left_shown (Some opening) oneself rows true e rise = ap (λ (later : OwnValue). view_of (own_record later) rows) (left_already oneself e)
left_shown (Some opening) oneself rows false e rise = sym (put_over names_order name_of (own_record (own_left oneself)) (own_record oneself) rows refl rise)

pub shown-left : (s : GroupState) → Rises name_cmp (map name_of s.members.table) → shown (leave_group s) ≡ with_found (changed_by_leave s) (shown s)
shown-left s rise = left_shown s.config s.own s.members.table s.own.left refl rise

-- WHICH RECORDS DIFFER
-- A record that isn't among rows is the only one that differs once it is put there,
alike : (r : Claim) (rows : List Claim) → is_row r (row_at name_cmp name_of r.name rows) ≡ false → (x : Claim)
    → row_at name_cmp name_of x.name (put_row name_cmp name_of r rows) ≡ Some x
    → is_among name_cmp x.name (r.name ∷ []) ≡ not (is_row x (row_at name_cmp name_of x.name rows))
alike r rows new x found =
    let put = sym (row_at-put names_order name_of x.name r rows) ∙ found in
    elim (cases_Bool (is_same name_cmp r.name x.name)) [
      | inl same ↦ (
          let is : r ≡ x = held_once r x (sym (ap (λ b. cond b (Some r) (row_at name_cmp name_of x.name rows)) same) ∙ put) in
          ap (λ b. b || false) same ∙ sym (ap not (subst (λ (y : Claim). is_row y (row_at name_cmp name_of y.name rows) ≡ false) is new)))
      | inr other ↦ (
          let is : row_at name_cmp name_of x.name rows ≡ Some x =
          sym (ap (λ b. cond b (Some r) (row_at name_cmp name_of x.name rows)) other) ∙ put in
          ap (λ b. b || false) other ∙ sym (ap (λ o. not (is_row x o)) is ∙ ap not (claim_itself x)))
    ]

one_differs : (r : Claim) (rows : List Claim) → Rises name_cmp (map name_of rows) → is_row r (row_at name_cmp name_of r.name rows) ≡ false
    → r ∷ [] ≡ changed rows (put_row name_cmp name_of r rows)
one_differs r rows rise new =
    let after = put_row name_cmp name_of r rows in
    let found : row_at name_cmp name_of r.name after ≡ Some r =
    row_at-put names_order name_of r.name r rows
    ∙ ap (λ b. cond b (Some r) (row_at name_cmp name_of r.name rows)) (same_key names_order r.name r.name refl) in
    let up = rises-put_row names_order name_of r rows rise in
    ap (put_row name_cmp name_of r) (sym (chosen-none names_order name_of after))
    ∙ chosen-put names_order name_of r.name [] after r up found refl
    ∙ filter_same (λ x. is_among name_cmp x.name (r.name ∷ [])) (λ x. not (is_row x (row_at name_cmp name_of x.name rows)))
    (λ x. row_at name_cmp name_of x.name after ≡ Some x) after (alike r rows new) (rows_found names_order name_of after up)

-- and of the same rows none does.
none_differ : (rows : List Claim) → Rises name_cmp (map name_of rows) → [] ≡ changed rows rows
none_differ rows rise =
    sym (chosen-none names_order name_of rows)
    ∙ filter_same (λ x. false) (λ x. not (is_row x (row_at name_cmp name_of x.name rows))) (λ x. row_at name_cmp name_of x.name rows ≡ Some x) rows
    (λ x found. sym (ap (λ o. not (is_row x o)) found ∙ ap not (claim_itself x))) (rows_found names_order name_of rows rise)

own_is_new : (oneself : OwnValue) (rows : List Claim) → oneself.left ≡ false
    → is_row (own_record (own_left oneself)) (row_at name_cmp name_of oneself.name (view_of (own_record oneself) rows)) ≡ false
own_is_new oneself rows e =
    ap (is_row (own_record (own_left oneself))) (found_own oneself rows)
    ∙ elim (cases_Bool (is_same_claim (own_record oneself) (own_record (own_left oneself)))) [
      | inl same ↦ absurd (not_alive oneself e (sym (same_claim (own_record oneself) (own_record (own_left oneself)) same)))
      | inr other ↦ other
    ]

left_differs : (o : Option Config) (oneself : OwnValue) (rows : List Claim) (b : Bool) → oneself.left ≡ b → Rises name_cmp (map name_of rows)
    → Rises name_cmp (map name_of (view_in o oneself rows))
    → with_found (if_open o (put_if_leaves b (own_left oneself))) [] ≡ changed (view_in o oneself rows) (view_in o (own_left oneself) rows)
left_differs None oneself rows b e rise up = refl
left_differs (Some opening) oneself rows true e rise up =
    none_differ (view_of (own_record oneself) rows) up
    ∙ ap (λ (later : OwnValue). changed (view_of (own_record oneself) rows) (view_of (own_record later) rows)) (sym (left_already oneself e))
left_differs (Some opening) oneself rows false e rise up =
    let r = own_record (own_left oneself) in
    let before = view_of (own_record oneself) rows in
    one_differs r before up (own_is_new oneself rows e) ∙ ap (changed before) (put_over names_order name_of r (own_record oneself) rows refl rise)

-- The records that differ once this member left.
pub left-differing : (s : GroupState) → IsGroupReached s → with_found (changed_by_leave s) [] ≡ changed (shown s) (shown (leave_group s))
left-differing s r = left_differs s.config s.own s.members.table s.own.left refl (reached-ordered s r).rises (rises-shown s r)
