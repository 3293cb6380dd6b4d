-- In a state that some log has, each claim can be applied.
use Rattle.std.proofs.Common.{◌≡◌, ◌≢◌, ℕ, ◌<◌, ◌≤◌, true, false, cond, List, ◌∷◌, length, Option, Some, None, inl, inr, refl, sym, ◌∙◌, ap, subst}
use Rattle.lg_rules.specs.declared.claim.Claim.{Claim}
use Rattle.lg_rules.specs.Meaning.Rows.{name_cmp, is_same, put_key, row_at}
use Rattle.lg_rules.proofs.KeyOrder.{names_order, cases_key, same_key, other_key}
use Rattle.lg_rules.proofs.Rises.{put-there}
use Rattle.lg_rules.proofs.RowLaws.{rows_room}
use Rattle.lg_rules.specs.Meaning.Claim.{name_of}
use Rattle.lg_rules.specs.Meaning.Table.{record_of, takes}
use Rattle.lg_rules.proofs.Tables.{rises-table, Taken, Unbeaten, Out, heard_cases, row_at-table, length_table-le}
use Rattle.lg_rules.proofs.Roster.{own_unknown}
use Rattle.lg_gossip.specs.Meaning.Queue.{queued_name}
use Rattle.lg_membership.specs.declared.origin.Origin.{Origin}
use Rattle.lg_membership.specs.declared.origin.Origin.TheVariants.{Group}
use Rattle.lg_membership.specs.Meaning.Log.{GroupLog, Said, config, me, own_facts, own, forgets, table, known}
use Rattle.lg_membership.specs.Meaning.Suspicions.{suspicions, suspected_name}
use Rattle.lg_membership.specs.Meaning.Gossip.{version_sent, put_of_oneself, put_of_other, put_of_leave, put_by, queued, queue_rows, queue}
use Rattle.lg_membership.specs.Support.Reached.{IsGroupReached}
use Rattle.lg_membership.specs.Support.State.{GroupState, group_state_of, put_in, own_put_in, other_put_in}
use Rattle.lg_membership.specs.Support.Room.{HasPlace, HasSeat, HasRoom, IsOrdered}
use Rattle.lg_membership.proofs.FactLaws.{own_name}
use Rattle.lg_membership.proofs.KnownLaws.{rises-known, length-known, own_known}
use Rattle.lg_membership.proofs.SuspicionLaws.{seat_of, rises-suspicions}
use Rattle.lg_membership.proofs.QueueLaws.{own-waits, waits-log}
use Rattle.lg_membership.proofs.QueuedLaws.{put_after, queued_keyed, put_by-own, put_by-other, put_by-grows, leave_name}

-- what a claim puts is about a name that is known then, of which there are at most 256
place_of : (origin : Origin) (log : GroupLog) (c p : Claim) → put_after origin log c ≡ Some p → row_at name_cmp queued_name p.name (queue_rows log) ≡ None → length (queue_rows log) < 256
unfolding queue_rows
place_of origin log c p put missing =
    rows_room names_order queued_name (queued log) p.name 256 (known log) (rises-known log) (queued_keyed log)
    (subst (λ ns. length ns ≤ 256) (put_by-grows 0 origin log c p put) (length-known (Said 0 origin c ∷ log))) missing

has_place : (o : Option Claim) (log : GroupLog) → ((p : Claim) → o ≡ Some p → row_at name_cmp queued_name p.name (queue_rows log) ≡ None → length (queue_rows log) < 256) → HasPlace o (queue log)
has_place None log places = tt
has_place (Some p) log places = places p refl

put_in-log : (origin : Origin) (log : GroupLog) (c : Claim) → put_in origin c (group_state_of log) ≡ put_after origin log c
unfolding put_by
put_in-log origin log c = elim (cases_key names_order c.name (me log)) [
  | inl same ↦
      ap (λ b. cond b (own_put_in c (group_state_of log)) (other_put_in origin c (group_state_of log))) (same_key names_order c.name (own log).name (same ∙ sym (own_name log)))
      ∙ ap (λ w. put_of_oneself (version_sent (config log)) w (own log) c) (own-waits log)
      ∙ sym (put_by-own origin log c same)
  | inr other ↦
      ap (λ b. cond b (own_put_in c (group_state_of log)) (other_put_in origin c (group_state_of log))) (other_key names_order c.name (own log).name (λ e. other (e ∙ own_name log)))
      ∙ ap (λ w. put_of_other (version_sent (config log)) w origin (forgets log) (table log) (suspicions log) c) (waits-log log c.name)
      ∙ sym (put_by-other origin log c other)
]

-- so is what a leave puts
place_left : (log : GroupLog) (p : Claim) → put_of_leave (own log) ≡ Some p → row_at name_cmp queued_name p.name (queue_rows log) ≡ None → length (queue_rows log) < 256
unfolding queue_rows
place_left log p put missing =
    let names : put_key name_cmp p.name (known log) ≡ known log =
    ap (λ n. put_key name_cmp n (known log)) (leave_name log p put) ∙ put-there names_order (me log) (known log) (rises-known log) (own_known log) in
    rows_room names_order queued_name (queued log) p.name 256 (known log) (rises-known log) (queued_keyed log)
    (subst (λ ns. length ns ≤ 256) (sym names) (length-known log)) missing

-- a claim that is taken has a seat for the suspicion of its member
seat_at : (c : Claim) (log : GroupLog) → c.name ≢ me log → takes (forgets log) (table log) c ≡ true → row_at name_cmp suspected_name c.name (suspicions log) ≡ None → length (suspicions log) < 255
seat_at c log other taken = elim (heard_cases (forgets log) (me log) c (own_facts log) other) [
  | Taken t ↦ seat_of log c t
  | Unbeaten k ↦ (let bad : false ≡ true = sym k.taken ∙ taken in absurd cc)
  | Out o ↦ (let bad : false ≡ true = sym o.taken ∙ taken in absurd cc)
]

pub has_room : (origin : Origin) (c : Claim) (log : GroupLog) → HasRoom origin c (group_state_of log)
has_room origin c log = record {
  place = has_place (put_in origin c (group_state_of log)) log (λ p e. place_of origin log c p (sym (put_in-log origin log c) ∙ e));
  seat = seat_at c log;
}

-- and the records are in order
pub is_ordered : (log : GroupLog) → IsOrdered (group_state_of log)
is_ordered log = record {
  one_name = own_name log;
  suspects = rises-suspicions log;
  rises = rises-table (forgets log) (me log) (own_facts log);
  others =
      ap (λ (n : List ℕ). row_at name_cmp name_of n (table log)) (own_name log)
      ∙ row_at-table (forgets log) (me log) (own_facts log) (me log)
      ∙ ap (λ b. cond b (record_of (forgets log) (me log) (own_facts log) (me log)) None) (own_unknown (forgets log) (me log) (own_facts log));
  few = length_table-le (forgets log) (me log) (own_facts log);
}

-- The same of a state that is reached.
pub reached-ordered : (s : GroupState) → IsGroupReached s → IsOrdered s
reached-ordered s r = subst IsOrdered (sym r.is) (is_ordered r.log)

reached_room : (origin : Origin) (c : Claim) (s : GroupState) → IsGroupReached s → HasRoom origin c s
reached_room origin c s r = subst (HasRoom origin c) (sym r.is) (has_room origin c r.log)

pub own_place : (c : Claim) (s : GroupState) → IsGroupReached s → c.name ≡ s.own.name → HasPlace (own_put_in c s) s.queue
own_place c s r same =
    let room = reached_room Group c s r in
    subst (λ b. HasPlace (cond b (own_put_in c s) (other_put_in Group c s)) s.queue)
    (same_key names_order c.name s.own.name same) room.place

pub other_place : (origin : Origin) (c : Claim) (s : GroupState) → IsGroupReached s → c.name ≢ s.own.name → HasPlace (other_put_in origin c s) s.queue
other_place origin c s r other =
    let room = reached_room origin c s r in
    subst (λ b. HasPlace (cond b (own_put_in c s) (other_put_in origin c s)) s.queue)
    (other_key names_order c.name s.own.name other) room.place

pub other_seat : (c : Claim) (s : GroupState) → IsGroupReached s → c.name ≢ s.own.name → takes s.members.forgets s.members.table c ≡ true → HasSeat suspected_name c.name s.suspicions
other_seat c s r other = (reached_room Group c s r).seat (λ e. other (e ∙ sym (reached-ordered s r).one_name))

pub leave_place : (s : GroupState) → IsGroupReached s → HasPlace (put_of_leave s.own) s.queue
leave_place s r =
    subst (λ (t : GroupState). HasPlace (put_of_leave t.own) t.queue) (sym r.is)
    (has_place (put_of_leave (own r.log)) r.log (place_left r.log))
