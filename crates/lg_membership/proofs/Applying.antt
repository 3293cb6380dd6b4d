-- What is shown of the members, once claims are applied.
use Rattle.std.proofs.Common.{◌≡◌, ◌≢◌, ℕ, Bool, true, false, cond, List, [], ◌∷◌, refl, ap, ◌∙◌}
use Rattle.lg_rules.specs.declared.claim.Claim.{Claim}
use Rattle.lg_rules.specs.Meaning.Own.{own_heard}
use Rattle.lg_rules.specs.Meaning.Rows.{name_cmp, is_same}
use Rattle.lg_rules.specs.Meaning.Table.{heard}
use Rattle.lg_rules.specs.Support.Standing.{hear_claim, standing_after}
use Rattle.lg_rules.proofs.KeyOrder.{names_order, same_key, other_key}
use Rattle.lg_membership.specs.declared.origin.Origin.{Origin}
use Rattle.lg_membership.specs.Support.State.{GroupState, standing, apply_own, apply_other, apply_to_group}
use Rattle.lg_membership.specs.Support.State.{apply_all_to_group, applied_own, applied_other, applied}

pub standing-apply : (now : ℕ) (origin : Origin) (c : Claim) (s : GroupState) → standing (apply_to_group now origin c s) ≡ hear_claim (standing s) c
unfolding apply_to_group hear_claim
standing-apply now origin c s = either (is_same name_cmp c.name s.own.name)
  where
    either : (b : Bool) → standing (cond b (apply_own c s) (apply_other now origin c s)) ≡ cond b (record (standing s) { own = own_heard s.own c }) (record (standing s) { table = heard s.members.forgets s.members.table c })
    either true = refl
    either false = refl

pub standing-apply_all : (now : ℕ) (origin : Origin) (cs : List Claim) (s : GroupState) → standing (apply_all_to_group now origin cs s) ≡ standing_after (standing s) cs
standing-apply_all now origin [] s = refl
standing-apply_all now origin (c ∷ cs) s = standing-apply_all now origin cs (apply_to_group now origin c s) ∙ ap (λ m. standing_after m cs) (standing-apply now origin c s)

-- What applying a claim says, of oneself and of another.
applied-is : (now : ℕ) (c : Claim) (s : GroupState) (b : Bool) → is_same name_cmp c.name s.own.name ≡ b → applied now c s ≡ cond b (applied_own c s) (applied_other now c s)
unfolding applied
applied-is now c s b e = ap (λ x. cond x (applied_own c s) (applied_other now c s)) e

pub applied-own : (now : ℕ) (c : Claim) (s : GroupState) → c.name ≡ s.own.name → applied now c s ≡ applied_own c s
applied-own now c s same = applied-is now c s true (same_key names_order c.name s.own.name same)

pub applied-other : (now : ℕ) (c : Claim) (s : GroupState) → c.name ≢ s.own.name → applied now c s ≡ applied_other now c s
applied-other now c s other = applied-is now c s false (other_key names_order c.name s.own.name other)
