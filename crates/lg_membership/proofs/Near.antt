-- A row that has a name at an index is the one that a search for the name finds.
use Rattle.std.proofs.Common.{◌≡◌, ℕ, zero, suc, true, cond, List, [], ◌∷◌, map, Some, None, inl, inr, sym, ap, ◌∙◌}
use Rattle.std.specs.Prelude.{is_some, slice_get, unwrap_or}
use Rattle.std.specs.declared.cmp.Ordering.TheVariants.{Less, Equal, Greater}
use Rattle.std.proofs.lemmas.Bool.{cases_Bool}
use Rattle.lg_rules.specs.declared.claim.Claim.{Claim}
use Rattle.lg_rules.specs.Meaning.Claim.{name_of}
use Rattle.lg_rules.specs.Meaning.Own.{own_record}
use Rattle.lg_rules.specs.Meaning.Rows.{name_cmp, is_same, row_at, AreAbove, Rises}
use Rattle.lg_rules.proofs.KeyOrder.{names_order, turned, tied, key_is}
use Rattle.lg_membership.specs.Support.Reached.{IsGroupReached}
use Rattle.lg_membership.specs.Support.State.{GroupState, shown}
use Rattle.lg_membership.proofs.Rooms.{reached-ordered}
use Rattle.lg_membership.proofs.Shown.{found-opened}

-- a row behind those whose names are greater than one
above_name : (m : List ℕ) (rows : List Claim) (i : ℕ) (r : Claim) → AreAbove name_cmp m (map name_of rows) → slice_get rows i ≡ Some r → name_cmp m r.name ≡ Less
above_name m [] i r above at = absurd cc
above_name m (x ∷ rows) zero r above at =
    let is : x ≡ r = ap (λ o. unwrap_or o x) at in
    ap (λ (y : Claim). name_cmp m y.name) (sym is) ∙ above.0
above_name m (x ∷ rows) (suc i) r above at = above_name m rows i r above.1 at

pub row_at-near : (rows : List Claim) (i : ℕ) (r : Claim) (m : List ℕ) → Rises name_cmp (map name_of rows) → slice_get rows i ≡ Some r → r.name ≡ m → row_at name_cmp name_of m rows ≡ Some r
row_at-near [] i r m rise at same = absurd cc
row_at-near (x ∷ rows) zero r m rise at same =
    let is : x ≡ r = ap (λ o. unwrap_or o x) at in
    let level : name_cmp m x.name ≡ Equal = tied names_order m x.name (sym same ∙ ap (λ (y : Claim). y.name) (sym is)) in
    rw level at
row_at-near (x ∷ rows) (suc i) r m rise at same =
    let less : name_cmp x.name m ≡ Less = ap (name_cmp x.name) (sym same) ∙ above_name x.name rows i r rise.0 at in
    let back : name_cmp m x.name ≡ Greater = turned names_order x.name m Less less in
    rw back (row_at-near rows i r m rise.1 at same)

-- such a row is that of another member, so it is shown
pub shown-near : (s : GroupState) (i : ℕ) (r : Claim) (m : List ℕ) → IsGroupReached s → is_some s.config ≡ true
    → slice_get s.members.table i ≡ Some r → is_same name_cmp r.name m ≡ true
    → row_at name_cmp name_of m (shown s) ≡ Some r
shown-near s i r m reached opened at same =
    let ordered = reached-ordered s reached in
    let name : r.name ≡ m = key_is names_order r.name m same in
    let here = row_at-near s.members.table i r m ordered.rises at name in
    found-opened s.config s.own s.members.table m opened
    ∙ elim (cases_Bool (is_same name_cmp s.own.name m)) [
      | inl own ↦ absurd (let no : None ≡ Some r = sym ordered.others ∙ ap (λ n. row_at name_cmp name_of n s.members.table) (key_is names_order s.own.name m own) ∙ here in cc)
      | inr other ↦ ap (λ b. cond b (Some (own_record s.own)) (row_at name_cmp name_of m s.members.table)) other ∙ here
    ]
