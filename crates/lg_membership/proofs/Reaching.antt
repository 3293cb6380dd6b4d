-- What each fact makes of a state that some log has is such a state again.
use Rattle.std.proofs.Common.{◌≡◌, ◌≢◌, ℕ, Bool, true, false, cond, List, [], ◌∷◌, inl, inr, refl, sym, ◌∙◌, ap, subst}
use Rattle.std.proofs.lemmas.Bool.{cases_Bool}
use Rattle.lg_rules.specs.declared.claim.Claim.{Claim}
use Rattle.lg_rules.specs.Meaning.Rows.{name_cmp, is_same}
use Rattle.lg_rules.proofs.KeyOrder.{names_order, same_key, other_key}
use Rattle.lg_timing.specs.declared.config.Config.{Config}
use Rattle.lg_timing.specs.Meaning.Config.{IsChecked}
use Rattle.lg_membership.specs.declared.origin.Origin.{Origin}
use Rattle.lg_membership.specs.declared.origin.Origin.TheVariants.{Group}
use Rattle.lg_membership.specs.Meaning.Log.{Opened, Said, Sent, Departed, Forgot}
use Rattle.lg_membership.specs.Support.State.{GroupState, open_group, apply_own, apply_other, apply_to_group}
use Rattle.lg_membership.specs.Support.State.{apply_all_to_group, leave_group, forget_from_group, send_from_group}
use Rattle.lg_membership.specs.Support.Reached.{IsGood, IsGroupReached}
use Rattle.lg_membership.proofs.FactLaws.{open-state, apply-state, send-state, leave-state, forget-state}

pub config-apply : (now : ℕ) (origin : Origin) (c : Claim) (s : GroupState) → (apply_to_group now origin c s).config ≡ s.config
unfolding apply_to_group
config-apply now origin c s = either (is_same name_cmp c.name s.own.name)
  where
    either : (b : Bool) → (cond b (apply_own c s) (apply_other now origin c s)).config ≡ s.config
    either true = refl
    either false = refl

pub config-apply_all : (now : ℕ) (origin : Origin) (cs : List Claim) (s : GroupState) → (apply_all_to_group now origin cs s).config ≡ s.config
config-apply_all now origin [] s = refl
config-apply_all now origin (c ∷ cs) s = config-apply_all now origin cs (apply_to_group now origin c s) ∙ config-apply now origin c s

good_still : (s after : GroupState) → after.config ≡ s.config → IsGood s.config → IsGood after.config
good_still s after e good = subst IsGood (sym e) good

pub reached-open : (s after : GroupState) (opening : Config) → after ≡ open_group opening s → IsChecked opening → IsGroupReached s → IsGroupReached after
reached-open s after opening e checked r = record {
  log = Opened opening ∷ r.log;
  is = e ∙ ap (open_group opening) r.is ∙ open-state opening r.log;
  good = subst (λ (t : GroupState). IsGood t.config) (sym e) checked;
}

pub reached-apply : (s after : GroupState) (now : ℕ) (origin : Origin) (c : Claim) → after ≡ apply_to_group now origin c s → IsGroupReached s → IsGroupReached after
reached-apply s after now origin c e r = record {
  log = Said now origin c ∷ r.log;
  is = e ∙ ap (apply_to_group now origin c) r.is ∙ apply-state now origin c r.log;
  good = good_still s after (ap (λ (t : GroupState). t.config) e ∙ config-apply now origin c s) r.good;
}

-- a claim about oneself, and one about another
pub apply-own : (now : ℕ) (origin : Origin) (c : Claim) (s : GroupState) → c.name ≡ s.own.name → apply_to_group now origin c s ≡ apply_own c s
unfolding apply_to_group
apply-own now origin c s same = rw (same_key names_order c.name s.own.name same) refl

pub apply-other : (now : ℕ) (origin : Origin) (c : Claim) (s : GroupState) → c.name ≢ s.own.name → apply_to_group now origin c s ≡ apply_other now origin c s
unfolding apply_to_group
apply-other now origin c s other = rw (other_key names_order c.name s.own.name other) refl

pub reached-own : (s after : GroupState) (c : Claim) → c.name ≡ s.own.name → after ≡ apply_own c s → IsGroupReached s → IsGroupReached after
reached-own s after c same e r = reached-apply s after 0 Group c (e ∙ sym (apply-own 0 Group c s same)) r

pub reached-other : (s after : GroupState) (now : ℕ) (origin : Origin) (c : Claim) → c.name ≢ s.own.name → after ≡ apply_other now origin c s → IsGroupReached s → IsGroupReached after
reached-other s after now origin c other e r = reached-apply s after now origin c (e ∙ sym (apply-other now origin c s other)) r

pub reached-send : (s after : GroupState) (taken : GroupState → List Claim) → after ≡ send_from_group (taken s) s → IsGroupReached s → IsGroupReached after
reached-send s after taken e r = record {
  log = Sent _ ∷ r.log;
  is = e ∙ ap (λ t. send_from_group (taken t) t) r.is ∙ send-state _ r.log;
  good = good_still s after (ap (λ (t : GroupState). t.config) e) r.good;
}

pub reached-leave : (s after : GroupState) → after ≡ leave_group s → IsGroupReached s → IsGroupReached after
reached-leave s after e r = record {
  log = Departed ∷ r.log;
  is = e ∙ ap leave_group r.is ∙ leave-state r.log;
  good = good_still s after (ap (λ (t : GroupState). t.config) e) r.good;
}

config-forget : (n : List ℕ) (s : GroupState) → (forget_from_group n s).config ≡ s.config
config-forget n s = elim (cases_Bool (is_same name_cmp n s.members.own)) [
  | inl t ↦ rw t refl
  | inr f ↦ rw f refl
]

pub reached-forget : (n : List ℕ) (s after : GroupState) → after ≡ forget_from_group n s → IsGroupReached s → IsGroupReached after
reached-forget n s after e r = record {
  log = Forgot n ∷ r.log;
  is = e ∙ ap (forget_from_group n) r.is ∙ forget-state n r.log;
  good = good_still s after (ap (λ (t : GroupState). t.config) e ∙ config-forget n s) r.good;
}
