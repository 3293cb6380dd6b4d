-- The queue, when a claim is said, a packet is sent, or this member leaves.
use Rattle.std.proofs.Common.{◌≡◌, ◌≢◌, ℕ, cond, List, [], ◌∷◌, map, Option, Some, None, inl, inr, refl, sym, ◌∙◌, ap}
use Rattle.std.specs.Prelude.{filter_map, option_map}
use Rattle.std.proofs.lemmas.Bool.{cases_Bool}
use Rattle.lg_rules.specs.declared.claim.Claim.{Claim}
use Rattle.lg_rules.specs.Meaning.Own.{own_of}
use Rattle.lg_rules.specs.Meaning.Rows.{name_cmp, is_among, put_key, put_row, row_at, without_row}
use Rattle.lg_rules.specs.Meaning.Table.{roster}
use Rattle.lg_rules.proofs.Cases.{Missing, Holding, held}
use Rattle.lg_rules.proofs.KeyOrder.{names_order}
use Rattle.lg_rules.proofs.OwnLaws.{own_of_name}
use Rattle.lg_rules.proofs.Rises.{put-there}
use Rattle.lg_rules.proofs.Roster.{rises-roster}
use Rattle.lg_rules.proofs.RowLaws.{rows_equal, rows-put, rows-skip, rows-less, rows-without, row_at-rows}
use Rattle.lg_rules.proofs.Tables.{Taken, Unbeaten, Out, heard_cases}
use Rattle.lg_timing.specs.declared.config.Config.{Config}
use Rattle.lg_timing.specs.Meaning.Config.{version_of, does_forget}
use Rattle.lg_gossip.specs.declared.queued.Queued.{Queued}
use Rattle.lg_gossip.specs.Meaning.Queue.{fresh, is_below, may_send_about, queued_name, sent_once}
use Rattle.lg_membership.specs.declared.origin.Origin.{Origin}
use Rattle.lg_membership.specs.Meaning.Log.{GroupLog, Opened, Said, Sent, Departed, Forgot, config, me, own_facts, own, opening_addr, forgets, table, known, live}
use Rattle.lg_membership.specs.Meaning.Suspicions.{suspicions}
use Rattle.lg_membership.specs.Meaning.Gossip.{lambda_in, version_sent, own_arrival, put_of_other, put_of_leave, queued_by}
use Rattle.lg_membership.specs.Meaning.Gossip.{send_limit_after, waits, queued, queue_rows, queue}
use Rattle.lg_membership.specs.Support.State.{queue_with, blank_queue, opened_queue}
use Rattle.lg_membership.proofs.KnownLaws.{rises-known, own_known, known-own, known-taken, known-passed, known-left, known-forgot, known-forgot_own}
use Rattle.lg_membership.proofs.QueuedLaws.{put_after, put_about_own, put_about_other, arrival_name, leave_name, queued-sent, queued-left, put_by-own, put_by-other, put_by-grows}
use Rattle.lg_membership.proofs.QueuedLaws.{queued-forgotten, queued-kept, queued-own_kept, queued_keyed, queued_unknown, by-put, by-put_other, queued-put, queued-put_other, queued-no_put}

abbrev names_after : ℕ → Origin → GroupLog → Claim → List (List ℕ)
names_after now origin log c = known (Said now origin c ∷ log)

-- a claim is put
rows-queued : (now : ℕ) (origin : Origin) (log : GroupLog) (c p : Claim) → put_after origin log c ≡ Some p
    → put_row name_cmp queued_name (fresh (version_sent (config log)) p) (queue_rows log) ≡ queue_rows (Said now origin c ∷ log)
unfolding queue_rows
rows-queued now origin log c p put =
    rows-put names_order queued_name (queued log) (queued (Said now origin c ∷ log)) (fresh (version_sent (config log)) p) (known log) (rises-known log) (queued_keyed log)
    (queued-put now origin log c p put) (queued-put_other now origin log c p put)
    ∙ ap (filter_map (queued (Said now origin c ∷ log))) (sym (put_by-grows now origin log c p put))

-- none is put, and no name becomes known
rows-stay : (now : ℕ) (origin : Origin) (log : GroupLog) (c : Claim) → put_after origin log c ≡ None → names_after now origin log c ≡ known log → queue_rows log ≡ queue_rows (Said now origin c ∷ log)
unfolding queue_rows
rows-stay now origin log c none names =
    sym (rows_equal (queued log) (queued (Said now origin c ∷ log)) (known log) (queued-no_put now origin log c none)) ∙ ap (filter_map (queued (Said now origin c ∷ log))) (sym names)

-- none is put, and a name becomes known or was
rows-join : (now : ℕ) (origin : Origin) (log : GroupLog) (c : Claim) → put_after origin log c ≡ None → names_after now origin log c ≡ put_key name_cmp c.name (known log)
    → queue_rows log ≡ queue_rows (Said now origin c ∷ log)
unfolding queue_rows
rows-join now origin log c none names = elim (cases_Bool (is_among name_cmp c.name (known log))) [
  | inl among ↦ rows-stay now origin log c none (names ∙ put-there names_order c.name (known log) (rises-known log) among)
  | inr out ↦ (
      let same : filter_map (queued (Said now origin c ∷ log)) (put_key name_cmp c.name (known log)) ≡ filter_map (queued log) (put_key name_cmp c.name (known log)) =
      rows_equal (queued log) (queued (Said now origin c ∷ log)) (put_key name_cmp c.name (known log)) (queued-no_put now origin log c none) in
      sym (rows-skip names_order (queued log) c.name (known log) (queued_unknown log c.name out)) ∙ sym same
      ∙ ap (filter_map (queued (Said now origin c ∷ log))) (sym names))
]

-- a queue with a claim put, or none
queue-by : (now : ℕ) (origin : Origin) (log : GroupLog) (c : Claim) (o : Option Claim) → (o ≡ None → queue_rows log ≡ queue_rows (Said now origin c ∷ log))
    → ((p : Claim) → o ≡ Some p → put_row name_cmp queued_name (fresh (version_sent (config log)) p) (queue_rows log) ≡ queue_rows (Said now origin c ∷ log))
    → queue_with o (queue log) ≡ queue (Said now origin c ∷ log)
queue-by now origin log c None none some = λ i. record { lambda = lambda_in (config log); version = version_sent (config log); rows = none refl i }
queue-by now origin log c (Some p) none some = λ i. record { lambda = lambda_in (config log); version = version_sent (config log); rows = some p refl i }

-- the queue once a claim about oneself is said
pub queue-own : (now : ℕ) (origin : Origin) (log : GroupLog) (c : Claim) → c.name ≡ me log
    → queue_with (put_about_own log c) (queue log) ≡ queue (Said now origin c ∷ log)
queue-own now origin log c same =
    let put = put_about_own log c in
    let says = put_by-own origin log c same in
    queue-by now origin log c put (λ e. rows-stay now origin log c (says ∙ e) (known-own now origin log c same)) (λ p e. rows-queued now origin log c p (says ∙ e))

-- the queue once a claim about another is said
pub queue-other : (now : ℕ) (origin : Origin) (log : GroupLog) (c : Claim) → c.name ≢ me log → queue_with (put_about_other origin log c) (queue log) ≡ queue (Said now origin c ∷ log)
queue-other now origin log c other =
    let put = put_about_other origin log c in
    let says = put_by-other origin log c other in
    let joined : (p : Claim) → put ≡ Some p → put_row name_cmp queued_name (fresh (version_sent (config log)) p) (queue_rows log) ≡ queue_rows (Said now origin c ∷ log) = λ p e. rows-queued now origin log c p (says ∙ e) in
    elim (heard_cases (forgets log) (me log) c (own_facts log) other) [
      | Taken t ↦ queue-by now origin log c put (λ e. rows-join now origin log c (says ∙ e) (known-taken now origin log c t)) joined
      | Unbeaten k ↦ queue-by now origin log c put (λ e. rows-stay now origin log c (says ∙ e) (known-passed now origin log c k.names)) joined
      | Out o ↦ queue-by now origin log c put (λ e. rows-stay now origin log c (says ∙ e) (known-passed now origin log c o.names)) joined
    ]

-- rows that are mapped
rows-map : {K R : Type 0} (f : R → R) (g h : K → Option R) (ns : List K) → ((n : K) → h n ≡ option_map f (g n)) → map f (filter_map g ns) ≡ filter_map h ns
rows-map f g h [] each = refl
rows-map f g h (n ∷ ns) each = elim (held (g n)) [
  | Missing e ↦ (let gap : h n ≡ None = each n ∙ ap (option_map f) e in rw (e, gap) (rows-map f g h ns each))
  | Holding r e ↦ (let some : h n ≡ Some (f r) = each n ∙ ap (option_map f) e in rw (e, some) (ap (λ rows. f r ∷ rows) (rows-map f g h ns each)))
]

-- the queue once a packet took these claims
pub queue-sent : (log : GroupLog) (taken : List Claim) → map (sent_once taken) (queue_rows log) ≡ queue_rows (Sent taken ∷ log)
unfolding queue_rows
queue-sent log taken = rows-map (sent_once taken) (queued log) (queued (Sent taken ∷ log)) (known log) (queued-sent log taken)

-- the queue once this member left
rows-left : (log : GroupLog) (p : Claim) → put_of_leave (own log) ≡ Some p
    → put_row name_cmp queued_name (fresh (version_sent (config log)) p) (queue_rows log) ≡ queue_rows (Departed ∷ log)
unfolding queue_rows
rows-left log p put =
    let v = version_sent (config log) in
    rows-put names_order queued_name (queued log) (queued (Departed ∷ log)) (fresh v p) (known log) (rises-known log) (queued_keyed log)
    (queued-left log (Some p) p.name put ∙ by-put v p (queued log p.name))
    (λ n other. queued-left log (Some p) n put ∙ by-put_other v p n (queued log n) other)
    ∙ ap (λ n. filter_map (queued (Departed ∷ log)) (put_key name_cmp n (known log))) (leave_name log p put)
    ∙ ap (filter_map (queued (Departed ∷ log))) (put-there names_order (me log) (known log) (rises-known log) (own_known log))
    ∙ ap (filter_map (queued (Departed ∷ log))) (sym (known-left log))

no_rows-left : (log : GroupLog) → put_of_leave (own log) ≡ None → queue_rows log ≡ queue_rows (Departed ∷ log)
unfolding queue_rows
no_rows-left log none =
    sym (rows_equal (queued log) (queued (Departed ∷ log)) (known log) (λ n. queued-left log None n none))
    ∙ ap (filter_map (queued (Departed ∷ log))) (sym (known-left log))

queue-leaves : (log : GroupLog) (o : Option Claim) → put_of_leave (own log) ≡ o → queue_with o (queue log) ≡ queue (Departed ∷ log)
queue-leaves log None is = λ i. record { lambda = lambda_in (config log); version = version_sent (config log); rows = no_rows-left log is i }
queue-leaves log (Some p) is = λ i. record { lambda = lambda_in (config log); version = version_sent (config log); rows = rows-left log p is i }

pub queue-left : (log : GroupLog) → queue_with (put_of_leave (own log)) (queue log) ≡ queue (Departed ∷ log)
queue-left log = queue-leaves log (put_of_leave (own log)) refl

-- the queue once a name was forgotten
pub rows-forgot : (n : List ℕ) (log : GroupLog) → n ≢ me log → without_row name_cmp queued_name n (queue_rows log) ≡ queue_rows (Forgot n ∷ log)
unfolding queue_rows
rows-forgot n log d =
    let f = queued log in
    let g = queued (Forgot n ∷ log) in
    rows-without names_order queued_name f g n (known log) (queued_keyed log) (queued-forgotten n log d) (λ m other. queued-kept n log m (λ e. other (sym e)))
    ∙ sym (rows-less names_order g n (known log) (queued-forgotten n log d))
    ∙ ap (filter_map g) (sym (known-forgot n log d))

pub rows-forgot_own : (n : List ℕ) (log : GroupLog) → n ≡ me log → queue_rows log ≡ queue_rows (Forgot n ∷ log)
unfolding queue_rows
rows-forgot_own n log e =
    sym (rows_equal (queued log) (queued (Forgot n ∷ log)) (known log) (λ m. queued-own_kept n log m e))
    ∙ ap (filter_map (queued (Forgot n ∷ log))) (sym (known-forgot_own n log e))

-- Whether a claim about a member still waits, by the queue.
queued_row : (log : GroupLog) (m : List ℕ) → row_at name_cmp queued_name m (queue_rows log) ≡ queued log m
unfolding queue_rows
queued_row log m =
    row_at-rows names_order queued_name (queued log) m (known log) (rises-known log) (queued_keyed log)
    ∙ (elim (cases_Bool (is_among name_cmp m (known log))) [
      | inl among ↦ ap (λ b. cond b (queued log m) None) among
      | inr out ↦ ap (λ b. cond b (queued log m) None) out ∙ sym (queued_unknown log m out)
    ])

pub waits-log : (log : GroupLog) (m : List ℕ) → may_send_about m (queue log) (live log) ≡ waits log m
waits-log log m = ap (is_below (send_limit_after log)) (queued_row log m)

-- the same of this member's own record
pub own-waits : (log : GroupLog) → may_send_about (own log).name (queue log) (live log) ≡ waits log (me log)
own-waits log = waits-log log (own log).name ∙ ap (waits log) (own_of_name (me log) (opening_addr (config log)) (own_facts log))

pub none_rows : {K R : Type 0} (f : K → Option R) (ns : List K) → ((n : K) → f n ≡ None) → filter_map f ns ≡ []
none_rows f [] h = refl
none_rows f (n ∷ ns) h = rw (h n) (none_rows f ns h)

-- the queue of a member that was just opened
module _ (opening : Config) (log : GroupLog) where
  queued-opened : (o : Option Claim) → own_arrival (version_of opening) (own_of opening.name opening.addr []) ≡ o → (n : List ℕ)
      → queued (Opened opening ∷ log) n ≡ queued_by (version_of opening) o n None
  unfolding queued
  queued-opened o is n = ap (λ put. queued_by (version_of opening) put n None) is

  rows-opened : (p : Claim) → own_arrival (version_of opening) (own_of opening.name opening.addr []) ≡ Some p
      → put_row name_cmp queued_name (fresh (version_of opening) p) [] ≡ queue_rows (Opened opening ∷ log)
  unfolding queue_rows
  rows-opened p is =
      let none : List ℕ → Option Queued = λ n. None in
      let names = roster (does_forget opening) opening.name [] in
      ap (put_row name_cmp queued_name (fresh (version_of opening) p)) (sym (none_rows none names (λ n. refl)))
      ∙ rows-put names_order queued_name none (queued (Opened opening ∷ log)) (fresh (version_of opening) p) names (rises-roster (does_forget opening) opening.name [])
      (λ n r bad. absurd cc)
      (queued-opened (Some p) is p.name ∙ by-put (version_of opening) p None)
      (λ n other. queued-opened (Some p) is n ∙ by-put_other (version_of opening) p n None other)
      ∙ ap (λ n. filter_map (queued (Opened opening ∷ log)) (put_key name_cmp n names)) (arrival_name opening p is)

  no_rows-opened : own_arrival (version_of opening) (own_of opening.name opening.addr []) ≡ None → [] ≡ queue_rows (Opened opening ∷ log)
  unfolding queue_rows
  no_rows-opened is = sym (none_rows (queued (Opened opening ∷ log)) (known (Opened opening ∷ log)) (queued-opened None is))

  queue-arrived : (o : Option Claim) → own_arrival (version_of opening) (own_of opening.name opening.addr []) ≡ o
      → queue_with o (blank_queue opening) ≡ queue (Opened opening ∷ log)
  queue-arrived None is = λ i. record { lambda = opening.lambda; version = version_of opening; rows = no_rows-opened is i }
  queue-arrived (Some p) is = λ i. record { lambda = opening.lambda; version = version_of opening; rows = rows-opened p is i }

  pub queue-opened : opened_queue opening (own_of opening.name opening.addr []) ≡ queue (Opened opening ∷ log)
  queue-opened = queue-arrived (own_arrival (version_of opening) (own_of opening.name opening.addr [])) refl

-- the queue before anything happened
queued-nil : (m : List ℕ) → queued [] m ≡ None
unfolding queued
queued-nil m = refl

pub queue-nil : queue_rows [] ≡ []
unfolding queue_rows
queue-nil = none_rows (queued []) (known []) queued-nil
