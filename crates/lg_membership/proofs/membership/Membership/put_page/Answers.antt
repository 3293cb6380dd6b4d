use Rattle.std.proofs.Common.{rules, ◌≡◌, take, ap, sym, ◌∙◌, List, map, subst}
use Rattle.std.specs.Prelude.{option_copied}
use Rattle.lg_rules.specs.declared.claim.Claim.{Claim}
use Rattle.lg_rules.specs.Meaning.Claim.{name_of}
use Rattle.lg_rules.specs.Meaning.Rows.{name_cmp, Rises}
use Rattle.lg_rules.specs.declared.version.Version.{Version}
use Rattle.lg_membership.specs.Meaning.Gossip.{version_sent}
use Rattle.lg_membership.specs.Meaning.Pages.{page_of}
use Rattle.lg_membership.specs.Support.State.{GroupState, shown, with_paged}
use Rattle.lg_membership.proofs.Paging.{rises-page, page-shown}
use Rattle.lg_membership.proofs.Rooms.{reached-ordered}
use Rattle.lg_membership.proofs.membership.Membership.put_page.Goals as goal

pub put_own-requires-clause-rises : goal.put_own-requires-clause-rises
put_own-requires-clause-rises c =
    subst (λ (rows : List Claim). Rises name_cmp (map name_of rows)) (sym c.put_others.ensures)
    (rises-page c.version-version.result (option_copied c.args.after) c.self.inside.members.table
    (reached-ordered _ c.self.invariant.reached).rises)

pub returns-then-is_some-clause-state : goal.returns-then-is_some-clause-state
returns-then-is_some-clause-state c =
    let after = option_copied c.args.after in
    let inside = c.self.inside in
    let copied : c.try_extend_from_slice-copied.new.self.items ≡ c.as_slice.result.now = search rules in
    let version = c.version-version.result in
    let others = c.put_others.ensures in
    let gathered = c.put_own.ensures ∙ (λ i. with_paged version after (c.record.ensures i) (others i)) in
    let cut = c.as_slice.ensures.value ∙ c.truncate.ensures.items ∙ (λ i. take (c.most_claims.ensures.count i) (gathered i)) in
    copied ∙ cut
    ∙ page-shown version after _ c.self.invariant.reached (sym c.is_some.ensures ∙ c.if-is_some.true)
    ∙ ap (λ (s : GroupState). page_of version after (shown s)) c.self.view_is
    ∙ ap (λ (v : Version). page_of v after (shown c.args.self.now)) c.version-version.ensures

pub returns-then-is_some-clause-log : goal.returns-then-is_some-clause-log
returns-then-is_some-clause-log c = λ log is.
    returns-then-is_some-clause-state c
    ∙ ap (λ (s : GroupState). page_of (version_sent s.config) (option_copied c.args.after) (shown s)) is
