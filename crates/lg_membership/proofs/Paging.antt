-- A page of the others with oneself is a page of all.
use Rattle.std.proofs.Common.{◌≡◌, true, List, map, take, Option, None, inl, inr, sym, ◌∙◌, ap, arith}
use Rattle.std.specs.Prelude.{is_some, filter, if◌then◌else◌, ℕ}
use Rattle.std.proofs.lemmas.Bool.{cases_Bool}
use Rattle.lg_rules.specs.declared.claim.Claim.{Claim}
use Rattle.lg_rules.specs.declared.version.Version.{Version}
use Rattle.lg_rules.specs.Meaning.Claim.{name_of}
use Rattle.lg_rules.specs.Meaning.Own.{own_record}
use Rattle.lg_rules.specs.Meaning.Rows.{name_cmp, put_row, row_at, Rises}
use Rattle.lg_rules.specs.Meaning.Version.{most_claims_of}
use Rattle.lg_rules.proofs.KeyOrder.{names_order}
use Rattle.lg_membership.specs.Meaning.Pages.{is_in_page, page_of}
use Rattle.lg_membership.specs.Support.Reached.{IsGroupReached}
use Rattle.lg_membership.specs.Support.State.{GroupState, shown, with_paged}
use Rattle.lg_membership.proofs.PageLaws.{take-fewer, take-put, filter-put, filter-put_other, rises-take, rises-passed}
use Rattle.lg_membership.proofs.Rooms.{reached-ordered}
use Rattle.lg_membership.proofs.Shown.{view-opened}

pub rises-page : (v : Version) (after : Option (List ℕ)) (rows : List Claim) → Rises name_cmp (map name_of rows)
    → Rises name_cmp (map name_of (page_of v after rows))
rises-page v after rows rise =
    let passes = is_in_page v after in
    rises-take names_order name_of (most_claims_of v) (filter passes rows) (rises-passed names_order name_of passes rows rise)

-- A page with one record more, if that one can be on it and no other has its name.
pub page-put : (v : Version) (after : Option (List ℕ)) (own : Claim) (rows : List Claim) → Rises name_cmp (map name_of rows)
    → row_at name_cmp name_of own.name rows ≡ None
    → take (most_claims_of v) (with_paged v after own (page_of v after rows)) ≡ page_of v after (put_row name_cmp name_of own rows)
page-put v after own rows rise missing =
    let most = most_claims_of v in
    let passes = is_in_page v after in
    let page = page_of v after rows in
    elim (cases_Bool (passes own)) [
      | inl t ↦ (
          let among = filter-put names_order name_of passes own rows rise missing t in
          ap (λ b. take most (if b then put_row name_cmp name_of own page else page)) t
          ∙ take-put names_order name_of most own (filter passes rows)
          ∙ ap (take most) (sym among))
      | inr f ↦ (
          let left = filter-put_other names_order name_of passes own rows missing f in
          ap (λ b. take most (if b then put_row name_cmp name_of own page else page)) f
          ∙ take-fewer most most (filter passes rows) (omega arith)
          ∙ ap (take most) (sym left))
    ]

-- the page of a state that is open
pub page-shown : (v : Version) (after : Option (List ℕ)) (s : GroupState) → IsGroupReached s → is_some s.config ≡ true
    → take (most_claims_of v) (with_paged v after (own_record s.own) (page_of v after s.members.table)) ≡ page_of v after (shown s)
page-shown v after s r known =
    let ordered = reached-ordered s r in
    page-put v after (own_record s.own) s.members.table ordered.rises ordered.others
    ∙ ap (page_of v after) (sym (view-opened s.config s.own s.members.table known))
