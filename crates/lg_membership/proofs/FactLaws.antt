-- Each fact changes the state as its definitions do.
use Rattle.std.proofs.Common.{◌≡◌, ◌≢◌, ℕ, Bool, cond, List, [], ◌∷◌, Some, inl, inr, sym, ◌∙◌, ap}
use Rattle.lg_rules.specs.declared.claim.Claim.{Claim}
use Rattle.lg_rules.specs.Meaning.Own.{own_of}
use Rattle.lg_rules.specs.Meaning.Claim.{name_of}
use Rattle.lg_rules.specs.Meaning.Rows.{name_cmp, is_same, row_at, without_row}
use Rattle.lg_rules.specs.Meaning.Slots.{freed}
use Rattle.lg_rules.specs.Meaning.Table.{known_of, members_forgot}
use Rattle.lg_rules.proofs.KeyOrder.{names_order, cases_key, same_key, other_key}
use Rattle.lg_rules.proofs.OwnLaws.{own-same, own-other, own-forgot, own-leaves, own_of_name}
use Rattle.lg_rules.proofs.Naming.{heard-past, heard-oneself, known-leaves, forgot-past}
use Rattle.lg_timing.specs.declared.config.Config.{Config}
use Rattle.lg_timing.specs.Meaning.Config.{does_forget}
use Rattle.lg_membership.specs.declared.origin.Origin.{Origin}
use Rattle.lg_membership.specs.Meaning.Log.{GroupLog, Opened, Said, Sent, Departed, Forgot, config, me, own_facts, own, forgets, table, opening_addr}
use Rattle.lg_rules.proofs.Removing.{without-missing}
use Rattle.lg_membership.specs.Meaning.Suspicions.{suspicions, suspected_name}
use Rattle.lg_membership.specs.Meaning.Gossip.{lambda_in, version_sent, put_of_oneself, put_of_other, queue}
use Rattle.lg_membership.specs.Support.State.{group_state_of, open_group, apply_own, apply_other, apply_to_group}
use Rattle.lg_membership.specs.Support.State.{leave_group, without_name, forget_from_group, send_from_group, queue_with}
use Rattle.lg_membership.proofs.QueueLaws.{own-waits, waits-log, queue-own, queue-other, queue-sent, queue-left, queue-opened, rows-forgot, rows-forgot_own}
use Rattle.lg_membership.proofs.SuspicionLaws.{suspicions-sent, suspicions-left, suspicions-forgot, row_at-suspicions_own, rises-suspicions, suspicions-opened, suspicions-own, suspicions-other}

pub open-state : (opening : Config) (log : GroupLog) → open_group opening (group_state_of log) ≡ group_state_of (Opened opening ∷ log)
open-state opening log = λ i. record {
  config = Some opening;
  own = own_of opening.name opening.addr [];
  members = known_of (does_forget opening) opening.name [];
  suspicions = sym (suspicions-opened opening log) i;
  queue = queue-opened opening log i;
}

-- what a claim puts, by the state
own-put : (now : ℕ) (origin : Origin) (c : Claim) (log : GroupLog) → c.name ≡ me log → (apply_own c (group_state_of log)).queue ≡ queue (Said now origin c ∷ log)
own-put now origin c log same =
    ap (λ w. queue_with (put_of_oneself (version_sent (config log)) w (own log) c) (queue log)) (own-waits log)
    ∙ queue-own now origin log c same

own-applied : (now : ℕ) (origin : Origin) (c : Claim) (log : GroupLog) → c.name ≡ me log → apply_own c (group_state_of log) ≡ group_state_of (Said now origin c ∷ log)
own-applied now origin c log same = λ i. record {
  config = config log;
  own = sym (own-same (me log) (opening_addr (config log)) c (own_facts log) same) i;
  members = sym (heard-oneself (forgets log) (me log) (own_facts log) c same) i;
  suspicions = suspicions-own now origin log c same i;
  queue = own-put now origin c log same i;
}

other-put : (now : ℕ) (origin : Origin) (c : Claim) (log : GroupLog) → c.name ≢ me log → (apply_other now origin c (group_state_of log)).queue ≡ queue (Said now origin c ∷ log)
other-put now origin c log other =
    ap (λ w. queue_with (put_of_other (version_sent (config log)) w origin (forgets log) (table log) (suspicions log) c) (queue log)) (waits-log log c.name)
    ∙ queue-other now origin log c other

other-applied : (now : ℕ) (origin : Origin) (c : Claim) (log : GroupLog) → c.name ≢ me log → apply_other now origin c (group_state_of log) ≡ group_state_of (Said now origin c ∷ log)
other-applied now origin c log other = λ i. record {
  config = config log;
  own = sym (own-other (me log) (opening_addr (config log)) c (own_facts log) other) i;
  members = heard-past (forgets log) (me log) c (own_facts log) other i;
  suspicions = suspicions-other now origin log c other i;
  queue = other-put now origin c log other i;
}

-- oneself has the own name
pub own_name : (log : GroupLog) → (own log).name ≡ me log
own_name log = own_of_name (me log) (opening_addr (config log)) (own_facts log)

pub apply-state : (now : ℕ) (origin : Origin) (c : Claim) (log : GroupLog) → apply_to_group now origin c (group_state_of log) ≡ group_state_of (Said now origin c ∷ log)
unfolding apply_to_group
apply-state now origin c log = elim (cases_key names_order c.name (me log)) [
  | inl same ↦ either (same_key names_order c.name (own log).name (same ∙ sym (own_name log))) ∙ own-applied now origin c log same
  | inr other ↦ either (other_key names_order c.name (own log).name (λ e. other (e ∙ own_name log))) ∙ other-applied now origin c log other
]
  where
    either : {b : Bool} → is_same name_cmp c.name (own log).name ≡ b
        → cond (is_same name_cmp c.name (own log).name) (apply_own c (group_state_of log)) (apply_other now origin c (group_state_of log))
        ≡ cond b (apply_own c (group_state_of log)) (apply_other now origin c (group_state_of log))
    either e = ap (λ b. cond b (apply_own c (group_state_of log)) (apply_other now origin c (group_state_of log))) e

pub send-state : (taken : List Claim) (log : GroupLog) → send_from_group taken (group_state_of log) ≡ group_state_of (Sent taken ∷ log)
send-state taken log = λ i. record {
  config = config log;
  own = own log;
  members = known_of (forgets log) (me log) (own_facts log);
  suspicions = suspicions-sent taken log i;
  queue = record { lambda = lambda_in (config log); version = version_sent (config log); rows = queue-sent log taken i };
}

pub leave-state : (log : GroupLog) → leave_group (group_state_of log) ≡ group_state_of (Departed ∷ log)
leave-state log = λ i. record {
  config = config log;
  own = sym (own-leaves (me log) (opening_addr (config log)) (own_facts log)) i;
  members = sym (known-leaves (forgets log) (me log) (own_facts log)) i;
  suspicions = suspicions-left log i;
  queue = queue-left log i;
}

-- A name is forgotten: it is this member's own, and nothing changes,
forget-own : (n : List ℕ) (log : GroupLog) → n ≡ me log → group_state_of log ≡ group_state_of (Forgot n ∷ log)
forget-own n log e =
    let suspects =
    sym (without-missing names_order suspected_name n (suspicions log) (rises-suspicions log) (ap (λ k. row_at name_cmp suspected_name k (suspicions log)) e ∙ row_at-suspicions_own log))
    ∙ suspicions-forgot n log in
    λ i. record {
      config = config log;
      own = sym (own-forgot (me log) (opening_addr (config log)) n (own_facts log)) i;
      members = (own_members n log e ∙ forgot-past (forgets log) (me log) n (own_facts log)) i;
      suspicions = suspects i;
      queue = record { lambda = lambda_in (config log); version = version_sent (config log); rows = rows-forgot_own n log e i };
    }
  where
    own_members : (n : List ℕ) (log : GroupLog) → n ≡ me log → known_of (forgets log) (me log) (own_facts log) ≡ members_forgot n (known_of (forgets log) (me log) (own_facts log))
    own_members n log e =
        let k = known_of (forgets log) (me log) (own_facts log) in
        ap (λ b. cond b k (record k { table = without_row name_cmp name_of n k.table; names = freed n k.names })) (sym (same_key names_order n (me log) e))

-- or it is another's.
forget-other : (n : List ℕ) (log : GroupLog) → n ≢ me log → without_name n (group_state_of log) ≡ group_state_of (Forgot n ∷ log)
forget-other n log d = λ i. record {
  config = config log;
  own = sym (own-forgot (me log) (opening_addr (config log)) n (own_facts log)) i;
  members = forgot-past (forgets log) (me log) n (own_facts log) i;
  suspicions = suspicions-forgot n log i;
  queue = record { lambda = lambda_in (config log); version = version_sent (config log); rows = rows-forgot n log d i };
}

pub forget-state : (n : List ℕ) (log : GroupLog) → forget_from_group n (group_state_of log) ≡ group_state_of (Forgot n ∷ log)
forget-state n log = elim (cases_key names_order n (me log)) [
  | inl same ↦ either (same_key names_order n (me log) same) ∙ forget-own n log same
  | inr other ↦ either (other_key names_order n (me log) other) ∙ forget-other n log other
]
  where
    either : {b : Bool} → is_same name_cmp n (me log) ≡ b
        → forget_from_group n (group_state_of log) ≡ cond b (group_state_of log) (without_name n (group_state_of log))
    either e = ap (λ b. cond b (group_state_of log) (without_name n (group_state_of log))) e
