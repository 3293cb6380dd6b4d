-- The records that differ once claims are applied.
use Rattle.std.proofs.Common.{◌≡◌, ℕ, Bool, true, false, List, [], inl, inr, sym, ap, ◌∙◌}
use Rattle.std.specs.Prelude.{filter, is_some}
use Rattle.std.proofs.lemmas.Bool.{cases_Bool}
use Rattle.lg_rules.specs.declared.claim.Claim.{Claim}
use Rattle.lg_rules.specs.Meaning.Rows.{name_cmp, is_among}
use Rattle.lg_rules.specs.Meaning.View.{changed}
use Rattle.lg_rules.specs.Support.Standing.{standing_view, changed_names}
use Rattle.lg_rules.proofs.Changes.{changed-heard}
use Rattle.lg_membership.specs.declared.origin.Origin.{Origin}
use Rattle.lg_membership.specs.Meaning.Log.{config, me, own_facts, forgets, opening_addr}
use Rattle.lg_membership.specs.Support.Reached.{IsGroupReached}
use Rattle.lg_membership.specs.Support.State.{GroupState, apply_all_to_group, standing, shown}
use Rattle.lg_membership.proofs.Applying.{standing-apply_all}
use Rattle.lg_membership.proofs.Reaching.{config-apply_all}
use Rattle.lg_membership.proofs.Shown.{view-opened, view-unopened}

-- what is shown after the opening, and before it
shown-view : (s : GroupState) → is_some s.config ≡ true → shown s ≡ standing_view (standing s)
shown-view s opened = view-opened s.config s.own s.members.table opened

shown-none : (s : GroupState) → is_some s.config ≡ false → shown s ≡ []
shown-none s unopened = view-unopened s.config s.own s.members.table unopened

abbrev among : List (List ℕ) → Claim → Bool
among names r = is_among name_cmp r.name names

differing-opened : (now : ℕ) (origin : Origin) (cs : List Claim) (s : GroupState) → IsGroupReached s → is_some s.config ≡ true
    → filter (among (changed_names (standing s) cs)) (shown (apply_all_to_group now origin cs s)) ≡ changed (shown s) (shown (apply_all_to_group now origin cs s))
differing-opened now origin cs s r opened =
    let after = apply_all_to_group now origin cs s in
    let still : is_some after.config ≡ true = ap is_some (config-apply_all now origin cs s) ∙ opened in
    let is = standing-apply_all now origin cs s in
    let differ = changed-heard (forgets r.log) (me r.log) (opening_addr (config r.log)) (own_facts r.log) cs (standing s) (ap standing r.is) in
    ap (filter (among (changed_names (standing s) cs))) (shown-view after still ∙ ap standing_view is)
    ∙ sym differ
    ∙ (λ i. changed (sym (shown-view s opened) i) (sym (shown-view after still ∙ ap standing_view is) i))

-- The records of the names whose records claims changed are those that differ.
pub shown-differing : (now : ℕ) (origin : Origin) (cs : List Claim) (s : GroupState) → IsGroupReached s
    → filter (among (changed_names (standing s) cs)) (shown (apply_all_to_group now origin cs s)) ≡ changed (shown s) (shown (apply_all_to_group now origin cs s))
shown-differing now origin cs s r = elim (cases_Bool (is_some s.config)) [
  | inl opened ↦ differing-opened now origin cs s r opened
  | inr unopened ↦ (
      let after = apply_all_to_group now origin cs s in
      let none : shown after ≡ [] = shown-none after (ap is_some (config-apply_all now origin cs s) ∙ unopened) in
      ap (filter (among (changed_names (standing s) cs))) none ∙ sym (ap (changed (shown s)) none))
]
