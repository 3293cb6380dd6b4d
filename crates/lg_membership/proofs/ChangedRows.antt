-- The records that claims changed, one claim after another.
use Rattle.std.proofs.Common.{◌≡◌, ℕ, Bool, true, false, List, [], ◌∷◌, ◌++◌, Option, Some, None, inl, inr, refl, sym, ap, ◌∙◌}
use Rattle.std.specs.Prelude.{is_some}
use Rattle.std.proofs.lemmas.Bool.{cases_Bool}
use Rattle.lg_rules.specs.declared.claim.Claim.{Claim}
use Rattle.lg_rules.specs.declared.own.OwnHeard.{OwnHeard}
use Rattle.lg_rules.specs.declared.own.OwnHeard.TheVariants.{Refuted, Raised, Ousted, Ignored}
use Rattle.lg_rules.specs.Meaning.Claim.{name_of}
use Rattle.lg_rules.specs.Meaning.Own.{OwnValue, own_hearing, oneself_changed}
use Rattle.lg_rules.specs.Meaning.Table.{takes}
use Rattle.lg_rules.specs.Support.Standing.{is_rise, changes_record}
use Rattle.lg_rules.proofs.Cases.{Missing, Holding, held, held_once}
use Rattle.lg_rules.proofs.KeyOrder.{names_order, cases_key}
use Rattle.lg_rules.proofs.Views.{changes_record-own, changes_record-other}
use Rattle.lg_timing.specs.declared.config.Config.{Config}
use Rattle.lg_membership.specs.declared.applied.Applied.{Applied}
use Rattle.lg_membership.specs.declared.origin.Origin.{Origin}
use Rattle.lg_membership.specs.Meaning.Gossip.{put_of_own}
use Rattle.lg_membership.specs.Support.Reached.{IsGroupReached}
use Rattle.lg_membership.specs.Support.State.{GroupState, standing, shown, with_found, if_open, taken_if, apply_to_group, applied}
use Rattle.lg_membership.proofs.Applying.{applied-own, applied-other}
use Rattle.lg_membership.proofs.Chosen.{with_keys}
use Rattle.lg_membership.proofs.Putting.{chosen-more}
use Rattle.lg_membership.proofs.Rooms.{reached-ordered}
use Rattle.lg_membership.proofs.Shown.{view-unopened, rises-shown, shown-applied}

-- What is known of a record that a claim changed: the member was opened, and it is the record of the claim's member.
pub record IsChanged (c : Claim) (o : Option Config) (b : Bool) (r : Claim) : Type 0 where
  pub named : r.name ≡ c.name
  pub opened : is_some o ≡ true
  pub changes : b ≡ true

own_changed : (c : Claim) (o : Option Config) (h : OwnHeard) (i : ℕ) (me : OwnValue) (r : Claim) → c.name ≡ me.name
    → if_open o (put_of_own h (oneself_changed h i me)) ≡ Some r → IsChanged c o (is_rise h) r
own_changed c None h i me r same is = absurd cc
own_changed c (Some opening) Refuted i me r same is =
    record { named = ap name_of (sym (held_once _ r is)) ∙ sym same; opened = refl; changes = refl }
own_changed c (Some opening) Raised i me r same is =
    record { named = ap name_of (sym (held_once _ r is)) ∙ sym same; opened = refl; changes = refl }
own_changed c (Some opening) Ousted i me r same is = absurd cc
own_changed c (Some opening) Ignored i me r same is = absurd cc

other_changed : (c : Claim) (o : Option Config) (b : Bool) (r : Claim) → if_open o (taken_if b c) ≡ Some r → IsChanged c o b r
other_changed c None b r is = absurd cc
other_changed c (Some opening) true r is = record { named = ap name_of (sym (held_once c r is)); opened = refl; changes = refl }
other_changed c (Some opening) false r is = absurd cc

-- A claim that changes nothing after the opening changes no record.
own_unchanged : (o : Option Config) (h : OwnHeard) (i : ℕ) (me : OwnValue) → is_some o ≡ true
    → if_open o (put_of_own h (oneself_changed h i me)) ≡ None → is_rise h ≡ false
own_unchanged None h i me opened none = absurd cc
own_unchanged (Some opening) Refuted i me opened none = absurd cc
own_unchanged (Some opening) Raised i me opened none = absurd cc
own_unchanged (Some opening) Ousted i me opened none = refl
own_unchanged (Some opening) Ignored i me opened none = refl

other_unchanged : (c : Claim) (o : Option Config) (b : Bool) → is_some o ≡ true → if_open o (taken_if b c) ≡ None → b ≡ false
other_unchanged c None b opened none = absurd cc
other_unchanged c (Some opening) true opened none = absurd cc
other_unchanged c (Some opening) false opened none = refl

pub changed_record : (now : ℕ) (c : Claim) (s : GroupState) (r : Claim) → (applied now c s).changed ≡ Some r
    → IsChanged c s.config (changes_record (standing s) c) r
changed_record now c s r is = elim (cases_key names_order c.name s.own.name) [
  | inl same ↦ (
      let own = own_changed c s.config (own_hearing s.own c) c.incarnation s.own r same (sym (ap (λ (a : Applied). a.changed) (applied-own now c s same)) ∙ is) in
      record { named = own.named; opened = own.opened; changes = changes_record-own (standing s) c same ∙ own.changes })
  | inr other ↦ (
      let taken = other_changed c s.config (takes s.members.forgets s.members.table c) r (sym (ap (λ (a : Applied). a.changed) (applied-other now c s other)) ∙ is) in
      record { named = taken.named; opened = taken.opened; changes = changes_record-other (standing s) c other ∙ taken.changes })
]

unchanged_record : (now : ℕ) (c : Claim) (s : GroupState) → is_some s.config ≡ true → (applied now c s).changed ≡ None
    → changes_record (standing s) c ≡ false
unchanged_record now c s opened none = elim (cases_key names_order c.name s.own.name) [
  | inl same ↦ (
      changes_record-own (standing s) c same
      ∙ own_unchanged s.config (own_hearing s.own c) c.incarnation s.own opened (sym (ap (λ (a : Applied). a.changed) (applied-own now c s same)) ∙ none))
  | inr other ↦ (
      changes_record-other (standing s) c other
      ∙ other_unchanged c s.config (takes s.members.forgets s.members.table c) opened (sym (ap (λ (a : Applied). a.changed) (applied-other now c s other)) ∙ none))
]

-- the names with one more, where its record changed
abbrev pub with_name : Bool → List (List ℕ) → Claim → List (List ℕ)
with_name true names c = names ++ c.name ∷ []
with_name false names c = names

-- The records of the names whose records changed, once a further claim is applied.
pub chosen-applied : (now : ℕ) (origin : Origin) (c : Claim) (s : GroupState) (names : List (List ℕ)) → IsGroupReached s
    → with_found (applied now c s).changed (with_keys names_order name_of names (shown s))
    ≡ with_keys names_order name_of (with_name (changes_record (standing s) c) names c) (shown (apply_to_group now origin c s))
chosen-applied now origin c s names reached = elim (held (applied now c s).changed) [
  | Holding r is ↦ (
      let change = changed_record now c s r is in
      let after = shown-applied now origin c s (reached-ordered s reached).rises ∙ ap (λ o. with_found o (shown s)) is in
      ap (λ o. with_found o (with_keys names_order name_of names (shown s))) is
      ∙ chosen-more names_order name_of r names (shown s) (rises-shown s reached)
      ∙ (λ i. with_keys names_order name_of (names ++ change.named i ∷ []) (sym after i))
      ∙ ap (λ b. with_keys names_order name_of (with_name b names c) (shown (apply_to_group now origin c s))) (sym change.changes))
  | Missing none ↦ (
      let after = shown-applied now origin c s (reached-ordered s reached).rises ∙ ap (λ o. with_found o (shown s)) none in
      ap (λ o. with_found o (with_keys names_order name_of names (shown s))) none
      ∙ still none
      ∙ ap (with_keys names_order name_of (with_name (changes_record (standing s) c) names c)) (sym after))
]
  where
    nobody : (rows : List Claim) (ns ms : List (List ℕ)) → rows ≡ [] → with_keys names_order name_of ns rows ≡ with_keys names_order name_of ms rows
    nobody rows ns ms e = ap (with_keys names_order name_of ns) e ∙ sym (ap (with_keys names_order name_of ms) e)

    still : (applied now c s).changed ≡ None
        → with_keys names_order name_of names (shown s) ≡ with_keys names_order name_of (with_name (changes_record (standing s) c) names c) (shown s)
    still none = elim (cases_Bool (is_some s.config)) [
      | inl opened ↦ ap (λ b. with_keys names_order name_of (with_name b names c) (shown s)) (sym (unchanged_record now c s opened none))
      | inr unopened ↦ nobody (shown s) names (with_name (changes_record (standing s) c) names c) (view-unopened s.config s.own s.members.table unopened)
    ]
