-- What applying a claim does, by the log before the claim and the log after it; and what a leave does.
use Rattle.std.specs.Prelude.{ℕ, ◌≡◌, ◌≢◌, Bool, true, false}
use Rattle.std.specs.Prelude.{List, ◌∷◌, Option, Some, None, option_map}
use Rattle.lg_rules.specs.declared.claim.Claim.{Claim}
use Rattle.lg_rules.specs.declared.own.OwnHeard.{OwnHeard}
use Rattle.lg_rules.specs.declared.own.OwnHeard.TheVariants.{Refuted, Raised, Ousted, Ignored}
use Rattle.lg_rules.specs.Meaning.Claim.{name_of}
use Rattle.lg_rules.specs.Meaning.Own.{own_hearing}
use Rattle.lg_rules.specs.Meaning.Rows.{name_cmp, is_among, row_at}
use Rattle.lg_suspicion.specs.Meaning.Accusers.{deadline_of}
use Rattle.lg_membership.specs.declared.applied.Applied.{Applied}
use Rattle.lg_membership.specs.declared.applied.Deadline.{Deadline}
use Rattle.lg_membership.specs.declared.applied.Deadline.TheVariants.{Stays, Ends, Stands}
use Rattle.lg_membership.specs.declared.applied.Presence.{Presence}
use Rattle.lg_membership.specs.declared.applied.Presence.TheVariants.{Stays as Remains, Joins, Leaves}
use Rattle.lg_membership.specs.declared.origin.Origin.{Origin}
use Rattle.lg_membership.specs.Meaning.Log.{GroupLog, Said, Departed, me, own, group_view, live_others}
use Rattle.lg_membership.specs.Meaning.Suspicions.{SuspectedValue, suspicions, suspected_name}

-- The record of a member, which may be this member itself. Before the opening nobody has one.
abbrev pub record_in : GroupLog → List ℕ → Option Claim
record_in log m = row_at name_cmp name_of m (group_view log)

-- the suspicion of another member
abbrev pub suspicion_in : GroupLog → List ℕ → Option SuspectedValue
suspicion_in log m = row_at name_cmp suspected_name m (suspicions log)

-- whether a claim about this member is a suspicion that this member refutes
abbrev pub is_refuted : OwnHeard → Bool
is_refuted Refuted = true
is_refuted Raised = false
is_refuted Ousted = false
is_refuted Ignored = false

-- A record is as before; or it changed, and is now this one.
abbrev pub IsRecordChange : Option Claim → Option Claim → Option Claim → Type 0
IsRecordChange before after None = after ≡ before
IsRecordChange before after (Some r) = (after ≡ Some r) × (after ≢ before)

-- A suspicion is as before; or there was one, and there is none; or there is one, with this deadline.
abbrev pub IsDeadlineChange : Option SuspectedValue → Option SuspectedValue → Deadline → Type 0
IsDeadlineChange before after Stays = after ≡ before
IsDeadlineChange before after Ends = (before ≢ None) × (after ≡ None)
IsDeadlineChange before after (Stands deadline) = option_map (λ r. deadline_of r.suspicion) after ≡ Some deadline

-- whether a member is among the others that aren't gone
abbrev pub is_live : GroupLog → List ℕ → Bool
is_live log m = is_among name_cmp m (live_others log)

-- A member is among them or not, as before; or it is and wasn't; or it was and isn't.
abbrev pub presence_of : Bool → Bool → Presence
presence_of true true = Remains
presence_of false false = Remains
presence_of false true = Joins
presence_of true false = Leaves

-- What applying a claim returns, if the claim is said after this log:
--     changed     the record of its member, if it changes that
--     refuted     whether it is a suspicion of this member, and this member refutes it
--     deadline    what becomes of the deadline of its member's suspicion
--     presence    whether its member joins the others that aren't gone, or leaves them
pub record IsApplied (now : ℕ) (origin : Origin) (c : Claim) (log : GroupLog) (applied : Applied) : Type 0 where
  pub changed : (let after = Said now origin c ∷ log in
      IsRecordChange (record_in log c.name) (record_in after c.name) applied.changed)
  pub refuted : applied.refuted ≡ is_refuted (own_hearing (own log) c)
  pub deadline : (let after = Said now origin c ∷ log in
      IsDeadlineChange (suspicion_in log c.name) (suspicion_in after c.name) applied.deadline)
  pub presence : (let after = Said now origin c ∷ log in
      applied.presence ≡ presence_of (is_live log c.name) (is_live after c.name))

-- What a leave returns, if it comes after this log: this member's own record, if the leave changes that.
abbrev pub IsLeave : GroupLog → Option Claim → Type 0
IsLeave log changed = IsRecordChange (record_in log (me log)) (record_in (Departed ∷ log) (me log)) changed
