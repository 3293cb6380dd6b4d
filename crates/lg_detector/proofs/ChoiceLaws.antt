-- The reply to the start of a round tells whom it chose.
use Rattle.std.proofs.Common.{◌≡◌, ℕ, ◌+◌, Bool, true, false, ◌||◌, cond, List, [], ◌∷◌, ◌++◌, reverse, map, Option, Some, None, inl, inr, refl, sym, ◌∙◌, ap}
use Rattle.std.specs.Prelude.{filter, is_some, not}
use Rattle.std.specs.List.{list_any}
use Rattle.std.specs.Option.{option_to_list}
use Rattle.std.proofs.lemmas.Bool.{cases_Bool, false≢true}
use Rattle.std.proofs.lemmas.List.{append-nil, reverse-append}
use Rattle.std.proofs.lemmas.List.Folds.{list_any-append}
use Rattle.lg_rules.specs.declared.claim.Claim.{Claim}
use Rattle.lg_rules.specs.Meaning.Claim.{name_of}
use Rattle.lg_rules.specs.Meaning.Own.{OwnValue, own_record}
use Rattle.lg_rules.specs.Meaning.Rows.{name_cmp, is_same, is_among}
use Rattle.lg_rules.specs.Meaning.View.{view_of}
use Rattle.lg_rules.proofs.Cases.{Missing, Holding, held, held_once}
use Rattle.lg_rules.proofs.KeyOrder.{names_order, key_is}
use Rattle.lg_rules.proofs.RowLaws.{row_at-put}
use Rattle.lg_rules.proofs.Tables.{rises-table}
use Rattle.lg_timing.specs.declared.config.Config.{Config}
use Rattle.lg_timers.specs.declared.timer.Timer.{Timer}
use Rattle.lg_timers.specs.declared.timer.TimerId.{TimerId}
use Rattle.lg_timers.specs.declared.timer.TimerId.TheVariants.{RoundEnd, Suspicion, Direct, RelayNack, RelayEnd, RoundStart, Forget, Gossip}
use Rattle.lg_timers.specs.Meaning.Timers.{is_due, least_of}
use Rattle.lg_timers.proofs.Pending.{any-turned}
use Rattle.lg_probe.specs.Meaning.Order.{candidate, current_cycle}
use Rattle.lg_probe.specs.Meaning.Round.{RoundFact}
use Rattle.lg_probe.proofs.OrderLaws.{candidate_is}
use Rattle.lg_membership.specs.declared.origin.Origin.TheVariants.{Group}
use Rattle.lg_membership.specs.Meaning.Log as group
use Rattle.lg_membership.specs.Meaning.Log.{GroupLog, group_view}
use Rattle.lg_membership.specs.Meaning.Suspicions.{suspicions}
use Rattle.lg_membership.proofs.Chosen.{found_key}
use Rattle.lg_membership.proofs.LiveOthers.{among-live}
use Rattle.lg_detector.specs.declared.event.Event.{Event}
use Rattle.lg_detector.specs.declared.event.Event.TheVariants.{Open, Tick, Heard, Ask, Health, Pull, Leave}
use Rattle.lg_detector.specs.declared.reply.Reply.{Reply}
use Rattle.lg_detector.specs.Meaning.Forget.{gone}
use Rattle.lg_detector.specs.Meaning.Log.{Log, Came, moment, group_log}
use Rattle.lg_detector.specs.Meaning.Probing.{Probe, is_round_start, has_left, others, cycle_names, cycle_candidates, first_word, chosen, number, probe, probe_by, since_start}
use Rattle.lg_detector.specs.Meaning.Relaying.{relays, opened_at, relay_has_nacked}
use Rattle.lg_detector.specs.Meaning.Window.{targets}
use Rattle.lg_detector.specs.Meaning.Timing.{interval_later, start_timers, probe_timers, start_by, round_start, end_at, direct_at, nack_timer, relay_timer, suspicion_timer, forget_timer, nack_time, relay_time}
use Rattle.lg_detector.specs.Meaning.Timing.{gossip_at, gossip_timers, round_timers, nack_timers, relay_timers, suspicion_timers, forget_timers, pending, due}
use Rattle.lg_detector.specs.Meaning.Apply.{apply_all, fire}
use Rattle.lg_detector.specs.Meaning.Send.{packets}
use Rattle.lg_detector.specs.Meaning.Tick.{found, ping_to, messages, claims_said, expire, expire_sends}
use Rattle.lg_detector.specs.Meaning.Step.{step, log_of, reply, reply_after}
use Rattle.lg_detector.specs.Meaning.Choice.{first_body, pinged, choice_by, choice_of_reply, targets_after}
use Rattle.lg_detector.proofs.Untouched.{IsUntouched, untouched-open, untouched-hear, untouched-fire}
use Rattle.lg_detector.proofs.Deadlines.{configuration, configuration_untouched, configuration-expire, was_opened, opened-first, is_timed, timed-leave}

-- WHO IS CHOSEN HAS A RECORD
-- A name has a record among some, and the record has that name.
record HasRow (m : List ℕ) (rows : List Claim) : Type 0 where
  pub row : Claim
  pub is : found m rows ≡ Some row
  pub named : row.name ≡ m

-- Another that isn't gone has one in the table,
row_in_table : (g : GroupLog) (m : List ℕ) → is_among name_cmp m (group.live_others g) ≡ true → HasRow m (group.table g)
row_in_table g m among =
    let live = sym (among-live m (group.table g) (rises-table (group.forgets g) (group.me g) (group.own_facts g))) ∙ among in
    elim (held (found m (group.table g))) [
      | Missing none ↦ (let bad : false ≡ true = rw none at live in absurd (false≢true bad))
      | Holding row is ↦ record { row = row; is = is; named = found_key names_order name_of m (group.table g) row is }
    ]

-- and so in the member table, where the member was opened.
row_in_view : (opening : Option Config) (own : OwnValue) (rows : List Claim) (m : List ℕ) → is_some opening ≡ true → HasRow m rows → HasRow m (group.view_in opening own rows)
row_in_view None own rows m opened has = absurd (false≢true opened)
row_in_view (Some opening) own rows m opened has =
    let me = own_record own in
    let put : found m (view_of me rows) ≡ cond (is_same name_cmp me.name m) (Some me) (found m rows) = row_at-put names_order name_of m me rows in
    elim (cases_Bool (is_same name_cmp me.name m)) [
      | inl same ↦ record { row = me; is = put ∙ ap (λ b. cond b (Some me) (found m rows)) same; named = key_is names_order me.name m same }
      | inr other ↦ record { row = has.row; is = put ∙ ap (λ b. cond b (Some me) (found m rows)) other ∙ has.is; named = has.named }
    ]

row_of_chosen : (words : List ℕ) (log : Log) (m : List ℕ) → was_opened log ≡ true → chosen words log ≡ Some m → HasRow m (group_view (group_log log))
row_of_chosen words log m opened is = step (has_left log) is
  where
    step : (left : Bool) → cond left None (candidate (first_word words) (cycle_candidates log)) ≡ Some m → HasRow m (group_view (group_log log))
    step true none = absurd cc
    step false one =
        let g = group_log log in
        let candidate = candidate_is (others log) (current_cycle (others log) (cycle_names log)) (first_word words) m one in
        row_in_view (group.config g) (group.own g) (group.table g) m opened (row_in_table g m candidate.named)

-- So the Ping that is sent goes to whom is chosen.
pinged_is : (o : Option (List ℕ)) (k : ℕ) (rows : List Claim) (log : Log) → ((m : List ℕ) → o ≡ Some m → HasRow m rows) → pinged (first_body (packets (ping_to k rows o) log)) ≡ o
pinged_is None k rows log has = refl
pinged_is (Some m) k rows log has = let row = has m refl in rw row.is (ap Some row.named)

-- NO ROUND STARTS BEFORE THE OPENING
-- Whether a timer starts or ends a round.
abbrev is_of_round : TimerId → Bool
is_of_round RoundEnd = true
is_of_round (Suspicion m) = false
is_of_round Direct = false
is_of_round (RelayNack k) = false
is_of_round (RelayEnd k) = false
is_of_round RoundStart = true
is_of_round (Forget m) = false
is_of_round Gossip = false

abbrev moves_round : Timer → Bool
moves_round timer = is_of_round timer.id

none_in_map : {R : Type 0} (f : R → Timer) (rows : List R) → ((r : R) → moves_round (f r) ≡ false) → list_any moves_round (map f rows) ≡ false
none_in_map f [] none = refl
none_in_map f (r ∷ rows) none = rw (none r, none_in_map f rows none)

none_in_round : (end direct : ℕ) (p : Option Probe) (past : List RoundFact) (start : Option ℕ) → (is_some p || is_some start) ≡ false
    → list_any moves_round (probe_timers end direct p past ++ start_timers start) ≡ false
none_in_round end direct None past None untimed = refl
none_in_round end direct None past (Some d) untimed = absurd cc
none_in_round end direct (Some p) past start untimed = absurd cc

-- nor in those with the next gossip's
none_in_ours : (A : List Timer) (gossip : Option ℕ) → list_any moves_round A ≡ false → list_any moves_round (A ++ gossip_timers gossip) ≡ false
none_in_ours A gossip none = list_any-append moves_round A (gossip_timers gossip) ∙ rw none (gone gossip)
  where
    gone : (gossip : Option ℕ) → list_any moves_round (gossip_timers gossip) ≡ false
    gone None = refl
    gone (Some d) = refl

none_of_four : (A B C D : List Timer) → list_any moves_round A ≡ false → list_any moves_round B ≡ false → list_any moves_round C ≡ false → list_any moves_round D ≡ false
    → list_any moves_round (A ++ (B ++ (C ++ D))) ≡ false
none_of_four A B C D a b c d =
    list_any-append moves_round A (B ++ (C ++ D))
    ∙ rw a (list_any-append moves_round B (C ++ D) ∙ rw b (list_any-append moves_round C D ∙ rw c d))

none_of_two : (A B : List Timer) → list_any moves_round A ≡ false → list_any moves_round B ≡ false → list_any moves_round (A ++ B) ≡ false
none_of_two A B a b = list_any-append moves_round A B ∙ rw a b

none_pending : (log : Log) → is_timed log ≡ false → list_any moves_round (pending log) ≡ false
none_pending log untimed =
    let later = nack_time (group.config (group_log log)) in
    let end = relay_time (group.config (group_log log)) in
    let ours = round_timers log ++ gossip_timers (gossip_at log) in
    let last = suspicion_timers log ++ forget_timers log in
    any-turned moves_round (ours ++ (nack_timers log ++ (relay_timers log ++ last)))
    ∙ none_of_four ours (nack_timers log) (relay_timers log) last
    (none_in_ours (round_timers log) (gossip_at log) (none_in_round (end_at log) (direct_at log) (probe log) (since_start log) (round_start log) untimed))
    (none_in_map (λ r. nack_timer (opened_at log r.number + later) r.number) (filter (λ r. not (relay_has_nacked log r.number)) (relays log)) (λ r. refl))
    (none_in_map (λ r. relay_timer (opened_at log r.number + end) r.number) (relays log) (λ r. refl))
    (none_of_two (suspicion_timers log) (forget_timers log) (none_in_map suspicion_timer (suspicions (group_log log)) (λ r. refl)) (none_in_map forget_timer (gone (group_log log)) (λ r. refl)))

first_of : (p q : Timer → Bool) (timers : List Timer) (t : Timer) → list_any p timers ≡ false → least_of (filter q timers) ≡ Some t → p t ≡ false
first_of p q [] t none first = absurd cc
first_of p q (x ∷ xs) t none first =
    let parts = neither (p x) (list_any p xs) none in
    elim (cases_Bool (q x)) [
      | inl it ↦ (let one : Some x ≡ Some t = rw it at first in ap p (sym (held_once x t one)) ∙ parts.0)
      | inr later ↦ first_of p q xs t parts.1 (rw later at first)
    ]
  where
    neither : (a b : Bool) → (a || b) ≡ false → (a ≡ false) × (b ≡ false)
    neither true b e = absurd cc
    neither false b e = (refl, e)

none_due : (log : Log) (timer : Timer) → is_timed log ≡ false → due log ≡ Some timer → moves_round timer ≡ false
none_due log timer untimed first = first_of moves_round (is_due (moment log)) (pending log) timer (none_pending log untimed) first

timed_untouched : IsUntouched is_timed
timed_untouched = record {
  said = λ now origin c log. refl;
  sent = λ taken log. refl;
  acked = λ k sender log. refl;
  nacked = λ k sender log. refl;
  relayed = λ target asker log. refl;
}

untimed-by : (id : TimerId) (words : List ℕ) (log : Log) → is_of_round id ≡ false → (is_some (probe_by id words log (probe log)) || is_some (start_by id words log (round_start log))) ≡ is_timed log
untimed-by RoundEnd words log none = absurd cc
untimed-by (Suspicion m) words log none = refl
untimed-by Direct words log none = refl
untimed-by (RelayNack k) words log none = refl
untimed-by (RelayEnd k) words log none = refl
untimed-by RoundStart words log none = absurd cc
untimed-by (Forget m) words log none = refl
untimed-by Gossip words log none = refl

untimed-expire : (o : Option Timer) (words : List ℕ) (log : Log) → is_timed log ≡ false → due log ≡ o → is_timed (expire o words log) ≡ false
untimed-expire None words log untimed first = untimed
untimed-expire (Some timer) words log untimed first =
    untouched-fire is_timed timed_untouched (λ m log. refl) timer words log ∙ untimed-by timer.id words log (none_due log timer untimed first) ∙ untimed

-- What happened before an opening starts no round, and sets no start.
untimed-before : (past : List Event) → was_opened (log_of past) ≡ false → is_timed (log_of past) ≡ false
untimed-before [] before = refl
untimed-before (Open now opening ∷ past) before = absurd (false≢true (sym before ∙ opened-first (Open now opening) (log_of past) refl))
untimed-before (Heard now source packet ∷ past) before =
    untouched-hear is_timed timed_untouched (λ m log. refl) now source packet (log_of past)
    ∙ untimed-before past (sym (ap is_some (untouched-hear configuration configuration_untouched (λ m log. refl) now source packet (log_of past))) ∙ before)
untimed-before (Tick now words ∷ past) before =
    let log = Came now ∷ log_of past in
    untimed-expire (due log) words log (untimed-before past (sym (ap is_some (configuration-expire (due log) words log)) ∙ before)) refl
untimed-before (Ask now name ∷ past) before = untimed-before past before
untimed-before (Health now ∷ past) before = untimed-before past before
untimed-before (Pull now peer ∷ past) before = untimed-before past before
untimed-before (Leave now words ∷ past) before =
    let log = Came now ∷ log_of past in
    timed-leave (interval_later log) (probe log) (round_start log) ∙ untimed-before past before

starts_opened : (past : List Event) (now : ℕ) (timer : Timer) → due (Came now ∷ log_of past) ≡ Some timer → is_of_round timer.id ≡ true → was_opened (log_of past) ≡ true
starts_opened past now timer first starts = elim (cases_Bool (was_opened (log_of past))) [
  | inl opened ↦ opened
  | inr before ↦ absurd (false≢true (sym (none_due (Came now ∷ log_of past) timer (untimed-before past before) first) ∙ starts))
]

-- WHAT AN EVENT ADDS TO THE TARGETS
abbrev all_targets : Log → List (List ℕ)
all_targets log = targets log []

targets_untouched : IsUntouched all_targets
targets_untouched = record {
  said = λ now origin c log. refl;
  sent = λ taken log. refl;
  acked = λ k sender log. refl;
  nacked = λ k sender log. refl;
  relayed = λ target asker log. refl;
}

nothing_gained : (names : List (List ℕ)) → names ≡ names ++ []
nothing_gained names = sym (append-nil names)

gained-by : (id : TimerId) (words : List ℕ) (log sent : Log) → (is_of_round id ≡ true → was_opened log ≡ true)
    → cond (is_round_start id) (all_targets log ++ option_to_list (chosen words (log ++ []))) (all_targets log)
    ≡ all_targets log ++ option_to_list (cond (is_round_start id) (pinged (first_body (packets (messages id words log) sent))) None)
gained-by RoundEnd words log sent opened = nothing_gained (all_targets log)
gained-by (Suspicion m) words log sent opened = nothing_gained (all_targets log)
gained-by Direct words log sent opened = nothing_gained (all_targets log)
gained-by (RelayNack k) words log sent opened = nothing_gained (all_targets log)
gained-by (RelayEnd k) words log sent opened = nothing_gained (all_targets log)
gained-by (Forget m) words log sent opened = nothing_gained (all_targets log)
gained-by Gossip words log sent opened = nothing_gained (all_targets log)
gained-by RoundStart words log sent opened =
    let rows = group_view (group_log log) in
    let there : chosen words (log ++ []) ≡ chosen words log = ap (λ (past : Log). chosen words past) (append-nil log) in
    let is = pinged_is (chosen words log) (number log) rows sent (λ m e. row_of_chosen words log m (opened refl) e) in
    ap (λ o. all_targets log ++ option_to_list o) (there ∙ sym is)

gained-expire : (o : Option Timer) (words : List ℕ) (log : Log) → ((timer : Timer) → o ≡ Some timer → is_of_round timer.id ≡ true → was_opened log ≡ true)
    → all_targets (expire o words log) ≡ all_targets log ++ option_to_list (choice_by o (first_body (expire_sends o words log)))
gained-expire None words log opened = nothing_gained (all_targets log)
gained-expire (Some timer) words log opened =
    untouched-fire all_targets targets_untouched (λ m log. refl) timer words log
    ∙ gained-by timer.id words log (apply_all Group (claims_said timer.id log) (fire timer words log)) (opened timer refl)

gained-step : (past : List Event) (e : Event) → all_targets (step e (log_of past)) ≡ all_targets (log_of past) ++ option_to_list (choice_of_reply (reply e (log_of past)))
gained-step past (Open now opening) = untouched-open all_targets targets_untouched now opening (log_of past) ∙ nothing_gained (all_targets (log_of past))
gained-step past (Heard now source packet) = untouched-hear all_targets targets_untouched (λ m log. refl) now source packet (log_of past) ∙ nothing_gained (all_targets (log_of past))
gained-step past (Tick now words) =
    let log = Came now ∷ log_of past in
    gained-expire (due log) words log (λ timer first starts. starts_opened past now timer first starts)
gained-step past (Ask now name) = nothing_gained (all_targets (log_of past))
gained-step past (Health now) = nothing_gained (all_targets (log_of past))
gained-step past (Pull now peer) = nothing_gained (all_targets (log_of past))
gained-step past (Leave now words) = nothing_gained (all_targets (log_of past))

-- The targets of a list with one more event are those of the list, and whom the reply tells.
pub targets-gained : (f : List Event) (e : Event) → targets_after (f ++ e ∷ []) ≡ targets_after f ++ option_to_list (choice_of_reply (reply_after f e))
targets-gained f e =
    ap (λ (past : List Event). all_targets (log_of past)) (reverse-append f (e ∷ [])) ∙ gained-step (reverse f) e

-- the same by a reply that is that one, and whom it tells
pub choice-gained : (r : Reply) (told : Option (List ℕ)) → told ≡ choice_of_reply r → (f : List Event) (e : Event) → r ≡ reply_after f e → targets_after (f ++ e ∷ []) ≡ targets_after f ++ option_to_list told
choice-gained r told tells f e is = targets-gained f e ∙ ap (λ o. targets_after f ++ option_to_list o) (sym (tells ∙ ap choice_of_reply is))
