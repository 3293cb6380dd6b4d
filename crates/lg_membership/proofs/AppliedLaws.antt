-- What applying a claim says of the record and the suspicion of the claim's member, and of those that aren't gone.
use Rattle.std.proofs.Common.{◌≡◌, ◌≢◌, ℕ, true, cond, List, ◌∷◌, Option, Some, None, inl, inr, refl, sym, ◌∙◌, ap, subst}
use Rattle.std.proofs.lemmas.Bool.{cases_Bool, false≢true}
use Rattle.std.specs.Prelude.{⊤, option_map, is_some}
use Rattle.lg_rules.specs.declared.claim.Claim.{Claim}
use Rattle.lg_rules.specs.declared.claim.Status.{Status}
use Rattle.lg_rules.specs.declared.claim.Status.TheVariants.{Alive, Suspect, Failed, Left}
use Rattle.lg_rules.specs.declared.members.Heard.{Heard}
use Rattle.lg_rules.specs.declared.members.Heard.TheVariants.{Overrode, Accused, Same, Ignored, NoRoom}
use Rattle.lg_rules.specs.Meaning.Claim.{accuser_of, name_of}
use Rattle.lg_rules.specs.Meaning.Rows.{name_cmp, row_at, without_row}
use Rattle.lg_rules.specs.Meaning.Own.{own_record}
use Rattle.lg_rules.specs.Meaning.Table.{hearing_of, heard, live_in}
use Rattle.lg_rules.specs.Meaning.View.{view_of}
use Rattle.lg_rules.proofs.Cases.{Missing, Holding, held}
use Rattle.lg_rules.specs.Support.Standing.{changes_record}
use Rattle.lg_rules.proofs.KeyOrder.{names_order, cases_key, same_key}
use Rattle.lg_rules.proofs.OwnLaws.{own_hearing-other}
use Rattle.lg_rules.proofs.Ranks.{ranked}
use Rattle.lg_rules.proofs.RowLaws.{row_at-put}
use Rattle.lg_rules.proofs.Tables.{rises-table}
use Rattle.lg_rules.proofs.Views.{Follows, Changes, Leaves, view_hearing}
use Rattle.lg_timing.specs.declared.config.Config.{Config}
use Rattle.lg_suspicion.specs.Meaning.Accusers.{accuser_counts, deadline_of}
use Rattle.lg_membership.specs.declared.applied.Applied.{Applied}
use Rattle.lg_membership.specs.declared.applied.Deadline.{Deadline}
use Rattle.lg_membership.specs.declared.origin.Origin.{Origin}
use Rattle.lg_membership.specs.Meaning.Log.{GroupLog, Said, config, me, own_facts, own, forgets, table, group_view, live_others, opening_addr}
use Rattle.lg_membership.specs.Meaning.Suspicions.{SuspectedValue, suspicions, suspected_name}
use Rattle.lg_membership.specs.Meaning.Applied.{record_in, suspicion_in, is_refuted, IsRecordChange, IsDeadlineChange, IsApplied}
use Rattle.lg_membership.specs.Support.Changes.{Change, Nothing, Ending, Putting, raised, ended, overriding, accusing}
use Rattle.lg_membership.specs.Support.Changes.{change_by, change_of, row_about, suspicions_after, deadline_of_change}
use Rattle.lg_membership.specs.Support.Changes.{live_after}
use Rattle.lg_membership.specs.Support.State.{GroupState, group_state_of, standing, live_others_in, apply_to_group}
use Rattle.lg_membership.specs.Support.State.{applied_other, applied, shown, with_found}
use Rattle.lg_membership.specs.Support.Reached.{IsGroupReached}
use Rattle.lg_membership.proofs.Applying.{applied-own, applied-other}
use Rattle.lg_membership.proofs.ChangedRows.{changed_record}
use Rattle.lg_membership.proofs.Shown.{shown-applied, view-opened}
use Rattle.lg_membership.proofs.Chosen.{found_key}
use Rattle.lg_membership.proofs.FactLaws.{own_name, apply-state}
use Rattle.lg_membership.proofs.LiveOthers.{presence-own, presence-other, live-said}
use Rattle.lg_rules.proofs.Removing.{row_at-without}
use Rattle.lg_membership.proofs.SuspicionLaws.{suspicions-own, suspicions-other}

-- The record: it changes to one that overrides it, so to another.
follows_another : (r : Claim) (before : Option Claim) → Follows r before → before ≢ Some r
follows_another r None follows e = absurd cc
follows_another r (Some b) follows e = absurd (false≢true (sym (ranked.not_itself r) ∙ subst (Follows r) e follows))

-- Whether it differs, by the view after the opening.
abbrev view_record : GroupLog → List ℕ → Option Claim
view_record log m = row_at name_cmp name_of m (view_of (own_record (own log)) (table log))

differs : (now : ℕ) (origin : Origin) (c : Claim) (log : GroupLog) → changes_record (standing (group_state_of log)) c ≡ true
    → view_record (Said now origin c ∷ log) c.name ≢ view_record log c.name
differs now origin c log t = elim (view_hearing (forgets log) (me log) (opening_addr (config log)) c (own_facts log)) [
  | Changes change ↦ λ same. follows_another change.r (view_record log c.name) change.follows (sym same ∙ change.row)
  | Leaves none same ↦ absurd (false≢true (sym none ∙ t))
]

opened_record : (log : GroupLog) (m : List ℕ) → is_some (config log) ≡ true → record_in log m ≡ view_record log m
opened_record log m opened = ap (row_at name_cmp name_of m) (view-opened (config log) (own log) (table log) opened)

changed-log : (now : ℕ) (origin : Origin) (c : Claim) (log : GroupLog)
    → IsRecordChange (record_in log c.name) (record_in (Said now origin c ∷ log) c.name) (applied now c (group_state_of log)).changed
changed-log now origin c log = elim (held (applied now c s).changed) [
  | Missing none ↦ (
      subst (λ (o : Option Claim). IsRecordChange before after o) (sym none)
      (ap (row_at name_cmp name_of c.name) (shown-said ∙ ap (λ o. with_found o (shown s)) none)))
  | Holding r is ↦ (
      let change = changed_record now c s r is in
      subst (λ (o : Option Claim). IsRecordChange before after o) (sym is) (
        ap (row_at name_cmp name_of c.name) (shown-said ∙ ap (λ o. with_found o (shown s)) is)
            ∙ row_at-put names_order name_of c.name r (shown s)
            ∙ ap (λ b. cond b (Some r) before) (same_key names_order r.name c.name change.named),
        λ same. differs now origin c log change.changes
            (sym (opened_record (Said now origin c ∷ log) c.name change.opened) ∙ same ∙ opened_record log c.name change.opened),
      ))
]
  where
    s : GroupState
    s = group_state_of log

    before : Option Claim
    before = record_in log c.name

    after : Option Claim
    after = record_in (Said now origin c ∷ log) c.name

    shown-said : group_view (Said now origin c ∷ log) ≡ with_found (applied now c s).changed (shown s)
    shown-said = sym (ap shown (apply-state now origin c log)) ∙ shown-applied now origin c s (rises-table (forgets log) (me log) (own_facts log))

-- The deadline: what a claim changes of the suspicions is about its member.
abbrev IsAbout : List ℕ → List SuspectedValue → Change → Type 0
IsAbout n rows Nothing = ⊤
IsAbout n rows (Ending m) = (m ≡ n) × (row_at name_cmp suspected_name n rows ≢ None)
IsAbout n rows (Putting r) = r.name ≡ n

about-raised : (o : Option Config) (now n : ℕ) (m accuser : List ℕ) (rows : List SuspectedValue) → IsAbout m rows (raised o now n m accuser)
about-raised None now n m accuser rows = tt
about-raised (Some opening) now n m accuser rows = refl

about-ended : (m : List ℕ) (rows : List SuspectedValue) (o : Option SuspectedValue) → row_at name_cmp suspected_name m rows ≡ o → IsAbout m rows (ended m o)
about-ended m rows None is = tt
about-ended m rows (Some row) is = (refl, λ none. (let bad : Some row ≡ None = sym is ∙ none in absurd cc))

about-overriding : (o : Option Config) (now n : ℕ) (m : List ℕ) (rows : List SuspectedValue) (s : Status)
    → IsAbout m rows (overriding o now n m (row_at name_cmp suspected_name m rows) s)
about-overriding o now n m rows Alive = about-ended m rows (row_at name_cmp suspected_name m rows) refl
about-overriding o now n m rows (Suspect accuser) = about-raised o now n m accuser rows
about-overriding o now n m rows Failed = about-ended m rows (row_at name_cmp suspected_name m rows) refl
about-overriding o now n m rows Left = about-ended m rows (row_at name_cmp suspected_name m rows) refl

about-accused : (m : List ℕ) (rows : List SuspectedValue) (accuser : Option (List ℕ)) (o : Option SuspectedValue) → row_at name_cmp suspected_name m rows ≡ o
    → IsAbout m rows (accusing accuser o)
about-accused m rows None o is = tt
about-accused m rows (Some accuser) None is = tt
about-accused m rows (Some accuser) (Some row) is = elim (cases_Bool (accuser_counts row.suspicion accuser)) [
  | inl t ↦ rw t (found_key names_order suspected_name m rows row is)
  | inr f ↦ rw f tt
]

about-change : (h : Heard) (o : Option Config) (now n : ℕ) (c : Claim) (rows : List SuspectedValue) → IsAbout c.name rows (change_by h o now n (row_about c rows) c)
about-change Overrode o now n c rows = about-overriding o now n c.name rows c.status
about-change Accused o now n c rows = about-accused c.name rows (accuser_of c.status) (row_about c rows) refl
about-change Same o now n c rows = tt
about-change Ignored o now n c rows = tt
about-change NoRoom o now n c rows = tt

-- so it is what becomes of the member's suspicion and its deadline
deadline-change : (n : List ℕ) (rows : List SuspectedValue) (ch : Change) → IsAbout n rows ch
    → IsDeadlineChange (row_at name_cmp suspected_name n rows) (row_at name_cmp suspected_name n (suspicions_after ch rows)) (deadline_of_change ch)
deadline-change n rows Nothing is = refl
deadline-change n rows (Ending m) is =
    (is.1, ap (λ k. row_at name_cmp suspected_name n (without_row name_cmp suspected_name k rows)) is.0 ∙ row_at-without names_order suspected_name n rows)
deadline-change n rows (Putting r) is =
    ap (option_map (λ (q : SuspectedValue). deadline_of q.suspicion))
    (row_at-put names_order suspected_name n r rows
    ∙ ap (λ b. cond b (Some r) (row_at name_cmp suspected_name n rows)) (same_key names_order r.name n is))

deadline-other : (now : ℕ) (origin : Origin) (c : Claim) (log : GroupLog) → c.name ≢ me log
    → IsDeadlineChange (suspicion_in log c.name) (suspicion_in (Said now origin c ∷ log) c.name) (applied_other now c (group_state_of log)).deadline
deadline-other now origin c log other =
    let rows = suspicions log in
    let ch = change_of (forgets log) (config log) now (table log) rows c in
    let is = about-change (hearing_of (forgets log) (table log) c) (config log) now (live_in (heard (forgets log) (table log) c)) c rows in
    subst (λ (after : List SuspectedValue). IsDeadlineChange (suspicion_in log c.name) (row_at name_cmp suspected_name c.name after) (deadline_of_change ch))
    (suspicions-other now origin log c other) (deadline-change c.name rows ch is)

pub applied-log : (now : ℕ) (origin : Origin) (c : Claim) (log : GroupLog) → IsApplied now origin c log (applied now c (group_state_of log))
applied-log now origin c log = elim (cases_key names_order c.name (me log)) [
  | inl same ↦ (
      let is = applied-own now c (group_state_of log) (same ∙ sym (own_name log)) in
      record {
        changed = changed-log now origin c log;
        refuted = ap (λ (a : Applied). a.refuted) is;
        deadline =
            subst (λ (d : Deadline). IsDeadlineChange (suspicion_in log c.name) (suspicion_in (Said now origin c ∷ log) c.name) d) (sym (ap (λ (a : Applied). a.deadline) is))
            (ap (row_at name_cmp suspected_name c.name) (sym (suspicions-own now origin log c same)));
        presence = ap (λ (a : Applied). a.presence) is ∙ presence-own now origin c log same;
      })
  | inr other ↦ (
      let apart : c.name ≢ (own log).name = λ e. other (e ∙ own_name log) in
      let is = applied-other now c (group_state_of log) apart in
      record {
        changed = changed-log now origin c log;
        refuted = ap (λ (a : Applied). a.refuted) is ∙ sym (ap is_refuted (own_hearing-other (own log) c apart));
        deadline =
            subst (λ (d : Deadline). IsDeadlineChange (suspicion_in log c.name) (suspicion_in (Said now origin c ∷ log) c.name) d) (sym (ap (λ (a : Applied). a.deadline) is))
            (deadline-other now origin c log other);
        presence = ap (λ (a : Applied). a.presence) is ∙ presence-other now origin c log other;
      })
]

-- Which others aren't gone once a claim is said, by what applying it says: those before where its member stays, those
-- and it where it joins, and those without it where it leaves.
pub live-applied : (now : ℕ) (origin : Origin) (c : Claim) (log : GroupLog) (applied : Applied) → IsApplied now origin c log applied
    → live_others (Said now origin c ∷ log) ≡ live_after applied.presence c.name (live_others log)
live-applied now origin c log applied is =
    live-said now origin c log ∙ ap (λ p. live_after p c.name (live_others log)) (sym is.presence)

-- the same by the state
pub live-apply : (now : ℕ) (origin : Origin) (c : Claim) (s : GroupState) → IsGroupReached s
    → live_others_in (apply_to_group now origin c s) ≡ live_after (applied now c s).presence c.name (live_others_in s)
live-apply now origin c s r =
    let law : (t : GroupState) → Type 0 = λ t. live_others_in (apply_to_group now origin c t) ≡ live_after (applied now c t).presence c.name (live_others_in t) in
    subst law (sym r.is)
    (ap live_others_in (apply-state now origin c r.log) ∙ live-applied now origin c r.log (applied now c (group_state_of r.log)) (applied-log now origin c r.log))
