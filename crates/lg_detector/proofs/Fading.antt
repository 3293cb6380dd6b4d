-- The timer that forgets a member, once a claim about it is said.
use Rattle.std.proofs.Common.{◌≡◌, ◌≢◌, ℕ, ◌+◌, Bool, true, false, ◌&&◌, cond, List, [], ◌∷◌, map, Option, Some, None, inl, inr, refl, sym, ◌∙◌, ap}
use Rattle.std.proofs.lemmas.Bool.{cases_Bool}
use Rattle.lg_rules.specs.declared.claim.Claim.{Claim}
use Rattle.lg_rules.specs.Meaning.Claim.{is_gone}
use Rattle.lg_rules.proofs.KeyOrder.{names_order, same_key, other_key}
use Rattle.lg_timing.specs.declared.config.Config.{Config}
use Rattle.lg_timers.specs.declared.timer.Timer.{Timer}
use Rattle.lg_timers.specs.declared.timer.TimerId.TheVariants.{Forget}
use Rattle.lg_membership.specs.declared.applied.Deadline.{Deadline}
use Rattle.lg_membership.specs.declared.applied.Deadline.TheVariants.{Stays}
use Rattle.lg_membership.specs.declared.origin.Origin.{Origin}
use Rattle.lg_membership.specs.Meaning.Log as group
use Rattle.lg_membership.specs.Meaning.Log.{GroupLog, Said, me, forgets, forgets_in}
use Rattle.lg_membership.specs.Meaning.Suspicions.{SuspectedValue}
use Rattle.lg_membership.specs.Support.State as known
use Rattle.lg_membership.specs.Support.State.{group_state_of, apply_to_group, if_open, taken_if}
use Rattle.lg_membership.proofs.ChangedRows.{changed_record}
use Rattle.lg_membership.proofs.FactLaws.{apply-state, own_name}
use Rattle.lg_detector.specs.Meaning.Forget.{Gone, forget_time, is_taken, gone, gone_by, gone_records}
use Rattle.lg_detector.specs.Support.State.{follow, forget_after, forget_deadline, until_forgotten}
use Rattle.lg_detector.proofs.ForgetTimers.{NoForget}
use Rattle.lg_detector.proofs.GoneLaws.{rises-gone, gone-passed, gone-put, gone-less}
use Rattle.lg_detector.proofs.TimerLaws.{turned, runs, forget-put, forget-less}

never : (b : Bool) (d : Deadline) → cond (b && false) d Stays ≡ Stays
never true d = refl
never false d = refl

-- A member that isn't another one is never to be forgotten, and nor is any by one that forgets nobody.
until-me : (o : Option Config) (mine : List ℕ) (now : ℕ) (changed : Option Claim) → ((r : Claim) → changed ≡ Some r → r.name ≡ mine) → forget_after o mine now changed ≡ Stays
until-me o mine now None is = refl
until-me o mine now (Some r) is = rw (same_key names_order r.name mine (is r refl)) (never (forgets_in o) (until_forgotten (is_gone r.status) (now + forget_time o)))

until-none : (o : Option Config) (mine : List ℕ) (now : ℕ) (changed : Option Claim) → forgets_in o ≡ false → forget_after o mine now changed ≡ Stays
until-none o mine now None f = refl
until-none o mine now (Some r) f = rw f refl

module _ (now : ℕ) (origin : Origin) (c : Claim) (log : GroupLog) where
  -- the configuration and the name are those of the log
  until-log : (changed : Option Claim) → forget_deadline now changed (apply_to_group now origin c (group_state_of log)) ≡ forget_after (group.config log) (me log) now changed
  until-log changed =
      ap (forget_deadline now changed) (apply-state now origin c log)
      ∙ ap (λ mine. forget_after (group.config log) mine now changed) (own_name (Said now origin c ∷ log))

  pub until-own : c.name ≡ me log
      → forget_deadline now (known.applied now c (group_state_of log)).changed (apply_to_group now origin c (group_state_of log)) ≡ Stays
  until-own same =
      let changed = (known.applied now c (group_state_of log)).changed in
      until-log changed
      ∙ until-me (group.config log) (me log) now changed (λ r e. (changed_record now c (group_state_of log) r e).named ∙ same)

  -- what a claim about another changes
  abbrev other_changed : Option Claim
  other_changed = if_open (group.config log) (taken_if (is_taken c log) c)

  pub until-other : (changed : Option Claim) → changed ≡ other_changed
      → forget_deadline now changed (apply_to_group now origin c (group_state_of log)) ≡ forget_after (group.config log) (me log) now other_changed
  until-other changed is = until-log changed ∙ ap (forget_after (group.config log) (me log) now) is

  nothing : (o : Option Config) → if_open o None ≡ None
  nothing None = refl
  nothing (Some opening) = refl

  something : (o : Option Config) → forgets_in o ≡ true → if_open o (Some c) ≡ Some c
  something None f = absurd cc
  something (Some opening) f = refl

  -- So the timer that forgets its member is the one that its record wants.
  module _ (A B C : List Timer) (rows : List SuspectedValue) (a : NoForget A) (b : NoForget B) (d : NoForget C) (other : c.name ≢ me log) where
    abbrev set : List Gone → List Timer
    set gs = turned A B C (runs (record { rows = rows; gone = gs }))

    passed : is_taken c log ≡ false → forget_after (group.config log) (me log) now other_changed ≡ Stays
    passed f = ap (forget_after (group.config log) (me log) now) (ap (λ t. if_open (group.config log) (taken_if t c)) f ∙ nothing (group.config log))

    taken : is_taken c log ≡ true → forgets log ≡ true → forget_after (group.config log) (me log) now other_changed ≡ until_forgotten (is_gone c.status) (now + forget_time (group.config log))
    taken t f =
        ap (forget_after (group.config log) (me log) now) (ap (λ x. if_open (group.config log) (taken_if x c)) t ∙ something (group.config log) f)
        ∙ both
      where
        both : forget_after (group.config log) (me log) now (Some c) ≡ until_forgotten (is_gone c.status) (now + forget_time (group.config log))
        both = rw (f, other_key names_order c.name (me log) other) refl

    nobody : forgets log ≡ false → gone log ≡ gone (Said now origin c ∷ log)
    nobody f =
        ap (λ x. cond x (map (gone_by log) (gone_records (group.table log))) []) f
        ∙ sym (ap (λ x. cond x (map (gone_by (Said now origin c ∷ log)) (gone_records (group.table (Said now origin c ∷ log)))) []) f)

    pub faded : follow (Forget c.name) (forget_after (group.config log) (me log) now other_changed) (set (gone log)) ≡ set (gone (Said now origin c ∷ log))
    faded = elim (cases_Bool (is_taken c log)) [
      | inr f ↦ ap (λ x. follow (Forget c.name) x (set (gone log))) (passed f) ∙ ap set (gone-passed now origin c log other f)
      | inl t ↦ elim (cases_Bool (forgets log)) [
        | inr f ↦ (
            ap (λ x. follow (Forget c.name) x (set (gone log))) (until-none (group.config log) (me log) now other_changed f)
            ∙ ap set (nobody f))
        | inl f ↦ elim (cases_Bool (is_gone c.status)) [
          | inl out ↦ (
              ap (λ x. follow (Forget c.name) x (set (gone log))) (taken t f ∙ ap (λ x. until_forgotten x (now + forget_time (group.config log))) out)
              ∙ forget-put A B C rows a b d (record { name = c.name; deadline = now + forget_time (group.config log) }) (gone log) (rises-gone log)
              ∙ ap set (gone-put now origin c log f other t out))
          | inr live ↦ (
              ap (λ x. follow (Forget c.name) x (set (gone log))) (taken t f ∙ ap (λ x. until_forgotten x (now + forget_time (group.config log))) live)
              ∙ forget-less A B C rows a b d c.name (gone log)
              ∙ ap set (gone-less now origin c log other t live))
        ]
      ]
    ]
