use Rattle.std.proofs.Common.{◌≡◌, ◌++◌, ◌∷◌, ◌<◌, [], List, length, take, ap, sym, ◌∙◌, arith, length-append}
use Rattle.std.specs.Prelude.{filter, option_copied, ℕ}
use Rattle.arrayvec.specs.ArrayVec.{ArrayVec as Row}
use Rattle.lg_rules.specs.declared.claim.Claim.{Claim}
use Rattle.lg_rules.specs.Meaning.Version.{most_claims_of}
use Rattle.lg_membership.specs.Meaning.Pages.{is_in_page}
use Rattle.lg_membership.proofs.Listing.{filter-passed, filter-read, read-none}
use Rattle.lg_membership.proofs.PageLaws.{enough-found}
use Rattle.lg_membership.proofs.membership.pages.put_others.Goals as goal
use Rattle.lg_membership.proofs.membership.pages.put_others.Goals.{in-Some+then-is_in_page, in-Some+else-is_in_page, in-None}

pub returns-then-len-most : goal.returns-then-len-most
returns-then-len-most c =
    let passes = is_in_page c.args.version (option_copied c.args.after) in
    let i = c.loop-index.index in
    let rows = c.args.members.now.table in
    let full : length (filter passes (take i rows)) ≡ most_claims_of c.args.version =
    sym (ap length c.loop-index.invariant.are) ∙ sym c.len.ensures.value ∙ c.if-len-most.true ∙ c.most_claims-most.ensures.count in
    c.loop-index.invariant.are ∙ sym (enough-found passes i rows) ∙ ap (λ (k : ℕ). take k (filter passes rows)) full

pub loop-index-preserved : goal.loop-index-preserved
loop-index-preserved c =
    let passes = is_in_page c.args.version (option_copied c.args.after) in
    let table = c.args.members.now.table in
    let i = c.loop-index.index in
    let within : i < length table = omega (arith, c.loop-index-test.true, c.count-index-end.ensures.count) in
    elim c.match-at.branch [
      | in-Some+then-is_in_page w ↦ (
          let other = w.in-Some.other.now in
          let pushed = ap (λ (r : Row Claim). r.items) w.row-is ∙ w.push.ensures.items in
          let found = filter-read passes table i other (sym w.in-Some.ensures) (sym w.is_in_page.ensures ∙ w.if-is_in_page.true) in
          record {
            few = omega (arith, ap length pushed, length-append c.loop-index.row.items (other ∷ []), c.loop-index.invariant.few, c.if-len-most.false, c.len.ensures.value);
            are = pushed ∙ ap (λ (rows : List Claim). rows ++ other ∷ []) c.loop-index.invariant.are ∙ sym found;
          })
      | in-Some+else-is_in_page w ↦ (
          let other = w.in-Some.other.now in
          let found = filter-passed passes table i other (sym w.in-Some.ensures) (sym w.is_in_page.ensures ∙ w.if-is_in_page.false) in
          record {
            few = omega (arith, ap (λ (r : Row Claim). length r.items) w.row-is, c.loop-index.invariant.few);
            are = ap (λ (r : Row Claim). r.items) w.row-is ∙ c.loop-index.invariant.are ∙ sym found;
          })
      | in-None w ↦ absurd (read-none table i within (sym w.in-None.ensures))
    ]
