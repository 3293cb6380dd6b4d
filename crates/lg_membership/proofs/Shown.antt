-- What is shown of the members.
use Rattle.std.proofs.Common.{◌≡◌, ◌≢◌, ℕ, Bool, true, false, cond, List, [], map, Option, Some, None, inl, inr, refl, sym, ap, ◌∙◌}
use Rattle.std.specs.Prelude.{is_some}
use Rattle.std.proofs.lemmas.Bool.{cases_Bool}
use Rattle.lg_rules.specs.declared.claim.Claim.{Claim}
use Rattle.lg_rules.specs.declared.own.OwnHeard.{OwnHeard}
use Rattle.lg_rules.specs.declared.own.OwnHeard.TheVariants.{Refuted, Raised, Ousted, Ignored}
use Rattle.lg_rules.specs.Meaning.Claim.{name_of}
use Rattle.lg_rules.specs.Meaning.Own.{OwnValue, own_record, own_hearing, own_heard, oneself_changed}
use Rattle.lg_rules.specs.Meaning.Rows.{name_cmp, is_same, put_row, row_at, Rises}
use Rattle.lg_rules.specs.Meaning.Table.{takes, heard}
use Rattle.lg_rules.proofs.KeyOrder.{names_order, cases_key}
use Rattle.lg_rules.proofs.RowLaws.{row_at-put}
use Rattle.lg_rules.proofs.RowsFound.{rises-put_row}
use Rattle.lg_rules.proofs.Tables.{heard_taken, heard_passed}
use Rattle.lg_timing.specs.declared.config.Config.{Config}
use Rattle.lg_membership.specs.declared.applied.Applied.{Applied}
use Rattle.lg_membership.specs.declared.origin.Origin.{Origin}
use Rattle.lg_membership.specs.Meaning.Gossip.{put_of_own}
use Rattle.lg_membership.specs.Meaning.Log.{view_in}
use Rattle.lg_membership.specs.Support.Reached.{IsGroupReached}
use Rattle.lg_membership.specs.Support.State.{GroupState, shown, with_found, if_open, taken_if, apply_to_group}
use Rattle.lg_membership.specs.Support.State.{applied}
use Rattle.lg_membership.proofs.Applying.{applied-own, applied-other}
use Rattle.lg_membership.proofs.Putting.{put_over, put_swapped}
use Rattle.lg_membership.proofs.Reaching.{apply-own, apply-other}
use Rattle.lg_membership.proofs.Rooms.{reached-ordered}

-- after the opening oneself is shown among the others
pub view-opened : (o : Option Config) (oneself : OwnValue) (rows : List Claim) → is_some o ≡ true → view_in o oneself rows ≡ put_row name_cmp name_of (own_record oneself) rows
view-opened None oneself rows e = absurd cc
view-opened (Some opening) oneself rows e = refl

pub view-unopened : (o : Option Config) (oneself : OwnValue) (rows : List Claim) → is_some o ≡ false → view_in o oneself rows ≡ []
view-unopened None oneself rows e = refl
view-unopened (Some opening) oneself rows e = absurd cc

-- the record that is found for a name
pub found-opened : (o : Option Config) (oneself : OwnValue) (rows : List Claim) (m : List ℕ) → is_some o ≡ true
    → row_at name_cmp name_of m (view_in o oneself rows) ≡ cond (is_same name_cmp oneself.name m) (Some (own_record oneself)) (row_at name_cmp name_of m rows)
found-opened o oneself rows m e = ap (row_at name_cmp name_of m) (view-opened o oneself rows e) ∙ row_at-put names_order name_of m (own_record oneself) rows

-- what is shown is in the order of names
rises-view : (o : Option Config) (oneself : OwnValue) (rows : List Claim) → Rises name_cmp (map name_of rows) → Rises name_cmp (map name_of (view_in o oneself rows))
rises-view None oneself rows rise = tt
rises-view (Some opening) oneself rows rise = rises-put_row names_order name_of (own_record oneself) rows rise

pub rises-shown : (s : GroupState) → IsGroupReached s → Rises name_cmp (map name_of (shown s))
rises-shown s r = rises-view s.config s.own s.members.table (reached-ordered s r).rises

-- What is shown once a claim about this member is heard: its record, where that changed, among what was shown.
own_shown : (o : Option Config) (me : OwnValue) (c : Claim) (rows : List Claim) → Rises name_cmp (map name_of rows)
    → view_in o (own_heard me c) rows ≡ with_found (if_open o (put_of_own (own_hearing me c) (own_heard me c))) (view_in o me rows)
own_shown None me c rows rise = refl
own_shown (Some opening) me c rows rise = step (own_hearing me c) c.incarnation
  where
    step : (h : OwnHeard) (i : ℕ) → put_row name_cmp name_of (own_record (oneself_changed h i me)) rows
        ≡ with_found (put_of_own h (oneself_changed h i me)) (put_row name_cmp name_of (own_record me) rows)
    step Refuted i = sym (put_over names_order name_of (own_record (oneself_changed Refuted i me)) (own_record me) rows refl rise)
    step Raised i = sym (put_over names_order name_of (own_record (oneself_changed Raised i me)) (own_record me) rows refl rise)
    step Ousted i = refl
    step Ignored i = refl

-- The same of a claim about another.
other_shown : (forgetting : Bool) (o : Option Config) (me : OwnValue) (c : Claim) (rows : List Claim) → c.name ≢ me.name → Rises name_cmp (map name_of rows)
    → view_in o me (heard forgetting rows c) ≡ with_found (if_open o (taken_if (takes forgetting rows c) c)) (view_in o me rows)
other_shown forgetting None me c rows other rise = refl
other_shown forgetting (Some opening) me c rows other rise = elim (cases_Bool (takes forgetting rows c)) [
  | inl t ↦ (
      ap (put_row name_cmp name_of (own_record me)) (heard_taken forgetting rows c t)
      ∙ put_swapped names_order name_of (own_record me) c rows (λ same. other (sym same)) rise
      ∙ sym (ap (λ b. with_found (taken_if b c) (put_row name_cmp name_of (own_record me) rows)) t))
  | inr f ↦ (
      ap (put_row name_cmp name_of (own_record me)) (heard_passed forgetting rows c f)
      ∙ sym (ap (λ b. with_found (taken_if b c) (put_row name_cmp name_of (own_record me) rows)) f))
]

-- What is shown once a claim is applied: the record that it changed, among what was shown.
pub shown-applied : (now : ℕ) (origin : Origin) (c : Claim) (s : GroupState) → Rises name_cmp (map name_of s.members.table)
    → shown (apply_to_group now origin c s) ≡ with_found (applied now c s).changed (shown s)
shown-applied now origin c s rise =
    elim (cases_key names_order c.name s.own.name) [
      | inl same ↦ (
          ap shown (apply-own now origin c s same)
          ∙ own_shown s.config s.own c s.members.table rise
          ∙ sym (ap (λ (a : Applied). with_found a.changed (shown s)) (applied-own now c s same)))
      | inr other ↦ (
          ap shown (apply-other now origin c s other)
          ∙ other_shown s.members.forgets s.config s.own c s.members.table other rise
          ∙ sym (ap (λ (a : Applied). with_found a.changed (shown s)) (applied-other now c s other)))
    ]
