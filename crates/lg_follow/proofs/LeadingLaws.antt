-- The changes of events lead from one table to the next.
use Rattle.std.proofs.Common.{◌≡◌, ◌≢◌, ℕ, ◌+◌, Bool, true, false, not, ◌&&◌, ◌||◌, cond, List, [], ◌∷◌, ◌++◌, length, map, reverse, Option, Some, None, inl, inr, refl, sym, ap, ◌∙◌, subst, arith, append-nil, append_assoc}
use Rattle.std.specs.Prelude.{filter, is_none, nat_le}
use Rattle.std.specs.List.{list_any}
use mathlib.Core.List.{IsPrefix}
use Rattle.std.proofs.lemmas.Bool.{cases_Bool, false≢true}
use Rattle.std.proofs.lemmas.List.{reverse-append}
use Rattle.std.proofs.lemmas.List.Elements.{filter-append}
use Rattle.lg_rules.specs.declared.addr.Addr.{Addr}
use Rattle.lg_rules.specs.declared.claim.Claim.{Claim}
use Rattle.lg_rules.specs.Meaning.Own.{OwnFact, Told, Forgets, TakesLeave, own_of}
use Rattle.lg_rules.specs.Meaning.Rows.{name_cmp, row_at, without_row}
use Rattle.lg_rules.specs.Meaning.Claim.{name_of}
use Rattle.lg_rules.specs.Meaning.Table.{table_of}
use Rattle.lg_rules.specs.Meaning.View.{changed}
use Rattle.lg_rules.proofs.KeyOrder.{names_order, cases_key}
use Rattle.lg_rules.proofs.Removing.{row_at-without}
use Rattle.lg_rules.proofs.Tables.{rises-table, table-forgot, table-leaves}
use Rattle.lg_rules.proofs.Tests.{both}
use Rattle.lg_rules.proofs.Views.{row_at-own, row_at-others, rises-view, Changes, Leaves, view_hearing}
use Rattle.lg_timing.specs.declared.config.Config.{Config}
use Rattle.lg_timers.specs.declared.timer.Timer.{Timer}
use Rattle.lg_timers.specs.declared.timer.TimerId.{TimerId}
use Rattle.lg_timers.specs.declared.timer.TimerId.TheVariants.{RoundEnd, Suspicion, Direct, RelayNack, RelayEnd, RoundStart, Forget, Gossip as GossipTime}
use Rattle.lg_timers.specs.Meaning.Timers.{first_forget}
use Rattle.lg_packet.specs.declared.packet.Body.{Body}
use Rattle.lg_packet.specs.declared.packet.Body.TheVariants.{Ping, PingReq, Ack, Nack, Pull, Page, Gossip}
use Rattle.lg_membership.specs.declared.origin.Origin.{Origin}
use Rattle.lg_membership.specs.declared.origin.Origin.TheVariants.{Group}
use Rattle.lg_membership.specs.Meaning.Gossip.{version_sent}
use Rattle.lg_membership.specs.Meaning.Log as group
use Rattle.lg_membership.specs.Meaning.Log.{config, forgets_in, needs_room, own_facts, opening_name, opening_addr, view_in}
use Rattle.lg_changes.specs.declared.change.Change.{Change}
use Rattle.lg_changes.specs.Meaning.Changes.{is_after}
use Rattle.lg_detector.specs.declared.event.Event.{Event}
use Rattle.lg_detector.specs.declared.event.Event.TheVariants.{Open, Tick, Heard, Ask, Health, Pull as Pulls, Leave}
use Rattle.lg_detector.specs.Meaning.Log.{Log, Came, Fired, AckHeard, NackHeard, Relayed, Ended, OfGroup, group_log}
use Rattle.lg_detector.specs.Meaning.Timing.{due, pending}
use Rattle.lg_detector.specs.Meaning.Apply.{come, apply, apply_all, forget_by, forget_first, make_room, hear_one, hear_each, fire}
use Rattle.lg_detector.specs.Meaning.Forget.{forgotten}
use Rattle.lg_detector.specs.Meaning.Hear.{asker_from, body_meant, claims_heard, is_relayed, hear_claims, my_group, note, response, respond, table_teller}
use Rattle.lg_detector.specs.Meaning.Leave.{leave}
use Rattle.lg_detector.specs.Meaning.Relaying.{relays}
use Rattle.lg_detector.specs.Meaning.Send.{send, send_all}
use Rattle.lg_detector.specs.Meaning.Tick.{claims_said, messages, expire, tick}
use Rattle.lg_detector.specs.Meaning.Step.{happen, step, forgotten_by, log_of, view, changed_by, is_open_event, moment_after, reply_after, view_after, most_events, opens_well, is_accepted}
use Rattle.lg_detector.proofs.RowFilters.{row_at-less}
use Rattle.lg_view.specs.Meaning.Changes.{changed_at, changes_at, changes_behind, changes_of, forgotten_in}
use Rattle.lg_view.proofs.ChangeLaws.{changes_split, behind_earlier, behind_later}
use Rattle.lg_follow.specs.Meaning.Sights.{alter_each, changes_between, SightsGrow, LeadOn, EachLeads}
use Rattle.lg_follow.proofs.TableLaws.{found, InOrder, Keeps, puts, withouts, rises-withouts, withouts_none, withouts_more, still_none, unknown_leads, puts_whole, alter_append, altered_by_one}

-- of some names, those that have no record in a table
abbrev still_unknown : List Claim → List (List ℕ) → List (List ℕ)
still_unknown after names = filter (λ n. is_none (found n after)) names

-- the view by the configuration of the opening and what happened to this member since
abbrev view_by : Option Config → List OwnFact → List Claim
view_by o past = view_in o (own_of (opening_name o) (opening_addr o) past) (table_of (forgets_in o) (opening_name o) past)

rises_by : (o : Option Config) (past : List OwnFact) → InOrder (view_by o past)
rises_by None past = tt
rises_by (Some opening) past = rises-view (forgets_in (Some opening)) opening.name opening.addr past

rises_log : (log : Log) → InOrder (view log)
rises_log log = rises_by (config (group_log log)) (own_facts (group_log log))

-- What one more fact does to a name that has no record behind it. A claim takes no name away,
keeps_by : (o : Option Config) (c : Claim) (past : List OwnFact) (m : List ℕ) → found m (view_by o (Told c ∷ past)) ≡ None → found m (view_by o past) ≡ None
keeps_by None c past m e = refl
keeps_by (Some opening) c past m e = elim (view_hearing (forgets_in (Some opening)) opening.name opening.addr c past) [
  | Leaves f same ↦ ap (found m) (sym same) ∙ e
  | Changes n ↦ elim (cases_key names_order c.name m) [
    | inl is ↦ (let bad : None ≡ Some n.r = sym e ∙ ap (λ (k : List ℕ). found k (view_by (Some opening) (Told c ∷ past))) (sym is) ∙ n.row in absurd cc)
    | inr d ↦ sym (n.others m d) ∙ e
  ]
]

-- nor does a leave,
keeps_leave : (o : Option Config) (past : List OwnFact) (m : List ℕ) → found m (view_by o (TakesLeave ∷ past)) ≡ None → found m (view_by o past) ≡ None
keeps_leave None past m e = refl
keeps_leave (Some opening) past m e =
    let forgetting : Bool = forgets_in (Some opening) in
    elim (cases_key names_order opening.name m) [
      | inl is ↦ (let bad = sym e ∙ row_at-own forgetting opening.name opening.addr (TakesLeave ∷ past) m is in absurd cc)
      | inr d ↦ (
          row_at-others forgetting opening.name opening.addr past m d
          ∙ ap (found m) (sym (table-leaves forgetting opening.name past))
          ∙ sym (row_at-others forgetting opening.name opening.addr (TakesLeave ∷ past) m d)
          ∙ e)
    ]

-- and a name that is forgotten takes no other away.
keeps_others : (o : Option Config) (n : List ℕ) (past : List OwnFact) (m : List ℕ) → n ≢ m → found m (view_by o (Forgets n ∷ past)) ≡ None → found m (view_by o past) ≡ None
keeps_others None n past m other e = refl
keeps_others (Some opening) n past m other e =
    let forgetting : Bool = forgets_in (Some opening) in
    elim (cases_key names_order opening.name m) [
      | inl is ↦ (let bad = sym e ∙ row_at-own forgetting opening.name opening.addr (Forgets n ∷ past) m is in absurd cc)
      | inr d ↦ (
          row_at-others forgetting opening.name opening.addr past m d
          ∙ sym (row_at-less names_order name_of n m (table_of forgetting opening.name past) (rises-table forgetting opening.name past) other)
          ∙ ap (found m) (table-forgot forgetting opening.name n past)
          ∙ sym (row_at-others forgetting opening.name opening.addr (Forgets n ∷ past) m d)
          ∙ e)
    ]

-- The log before the last event came; none if that is the opening.
abbrev since : Log → Log
since [] = []
since (Came now ∷ log) = log
since (Fired timer words ∷ log) = since log
since (AckHeard k n ∷ log) = since log
since (NackHeard k n ∷ log) = since log
since (Relayed n asker ∷ log) = since log
since (Ended ∷ log) = since log
since (OfGroup (group.Opened opening) ∷ log) = []
since (OfGroup (group.Said now origin c) ∷ log) = since log
since (OfGroup (group.Sent taken) ∷ log) = since log
since (OfGroup group.Departed ∷ log) = since log
since (OfGroup (group.Forgot n) ∷ log) = since log

-- A name without a record had none before the event, or the event forgot it.
keeps_since : (log : Log) → Keeps (forgotten log) (view (since log)) (view log)
keeps_since [] m e = refl
keeps_since (Came now ∷ log) m e = e
keeps_since (Fired timer words ∷ log) m e = keeps_since log m e
keeps_since (AckHeard k n ∷ log) m e = keeps_since log m e
keeps_since (NackHeard k n ∷ log) m e = keeps_since log m e
keeps_since (Relayed n asker ∷ log) m e = keeps_since log m e
keeps_since (Ended ∷ log) m e = keeps_since log m e
keeps_since (OfGroup (group.Opened opening) ∷ log) m e = ap (found m) (withouts_none (forgotten log))
keeps_since (OfGroup (group.Said now origin c) ∷ log) m e = keeps_since log m (keeps_by (config (group_log log)) c (own_facts (group_log log)) m e)
keeps_since (OfGroup (group.Sent taken) ∷ log) m e = keeps_since log m e
keeps_since (OfGroup group.Departed ∷ log) m e = keeps_since log m (keeps_leave (config (group_log log)) (own_facts (group_log log)) m e)
keeps_since (OfGroup (group.Forgot n) ∷ log) m e =
    let before : List Claim = view (since log) in
    let less : List Claim = withouts (forgotten log) before in
    ap (found m) (withouts_more (forgotten log) n before)
    ∙ elim (cases_key names_order n m) [
      | inl is ↦ subst (λ (k : List ℕ). found k (without_row name_cmp name_of n less) ≡ None) is (row_at-without names_order name_of n less)
      | inr d ↦ (
          still_none m n less (rises-withouts (forgotten log) before (rises_log (since log)))
          (keeps_since log m (keeps_others (config (group_log log)) n (own_facts (group_log log)) m d e)))
    ]

-- and packets that are sent change no record.
view_send : (body : Body) (log : Log) → view (send body log) ≡ view log
view_send (Ping number target) log = refl
view_send (PingReq number target addr) log = refl
view_send (Ack number receiver) log = refl
view_send (Nack number receiver) log = refl
view_send (Pull after) log = refl
view_send Page log = refl
view_send Gossip log = refl

-- (what is sent is a list of messages, whose type lg_detector keeps to itself)
view_send_all : (ms : _) (log : Log) → view (send_all ms log) ≡ view log
view_send_all [] log = refl
view_send_all (m ∷ ms) log = view_send_all ms (send m.body log) ∙ view_send m.body log

view_relayed : (b : Bool) (target : List ℕ) (asker : _) (log : Log) → view (cond b (Relayed target asker ∷ log) log) ≡ view log
view_relayed true target asker log = refl
view_relayed false target asker log = refl

view_note : (source : Addr) (sender : List ℕ) (body : Body) (log : Log) → view (note source sender body log) ≡ view log
view_note source sender (Ping k target) log = refl
view_note source sender (PingReq k target addr) log = view_relayed (is_relayed (group.me (group_log log)) (relays log) target) target (asker_from sender source k) log
view_note source sender (Ack k receiver) log = refl
view_note source sender (Nack k receiver) log = refl
view_note source sender (Pull after) log = refl
view_note source sender Page log = refl
view_note source sender Gossip log = refl

view_respond : (source : Addr) (sender : List ℕ) (body : Body) (log : Log) → view (respond source sender body log) ≡ view log
view_respond source sender body log = view_send_all (response source sender body log) (note source sender body log) ∙ view_note source sender body log

-- What an event does comes behind the log before it.
since_send : (body : Body) (log : Log) → since (send body log) ≡ since log
since_send (Ping number target) log = refl
since_send (PingReq number target addr) log = refl
since_send (Ack number receiver) log = refl
since_send (Nack number receiver) log = refl
since_send (Pull after) log = refl
since_send Page log = refl
since_send Gossip log = refl

since_send_all : (ms : _) (log : Log) → since (send_all ms log) ≡ since log
since_send_all [] log = refl
since_send_all (m ∷ ms) log = since_send_all ms (send m.body log) ∙ since_send m.body log

since_apply_all : (origin : Origin) (cs : List Claim) (log : Log) → since (apply_all origin cs log) ≡ since log
since_apply_all origin [] log = refl
since_apply_all origin (c ∷ cs) log = since_apply_all origin cs (apply origin c log)

since_forget : (id : TimerId) (log : Log) → since (forget_by id log) ≡ since log
since_forget RoundEnd log = refl
since_forget (Suspicion m) log = refl
since_forget Direct log = refl
since_forget (RelayNack k) log = refl
since_forget (RelayEnd k) log = refl
since_forget RoundStart log = refl
since_forget (Forget m) log = refl
since_forget GossipTime log = refl

since_first : (b : Bool) (o : Option Timer) (log : Log) → since (cond b (forget_first o log) log) ≡ since log
since_first true None log = refl
since_first true (Some timer) log = since_forget timer.id log
since_first false o log = refl

since_hear_each : (teller : Option (List ℕ)) (cs : List Claim) (log : Log) → since (hear_each teller cs log) ≡ since log
since_hear_each teller [] log = refl
since_hear_each teller (c ∷ cs) log = since_hear_each teller cs (hear_one teller c log) ∙ since_first (needs_room (group_log log) c) (first_forget (pending log)) log

since_relayed : (b : Bool) (target : List ℕ) (asker : _) (log : Log) → since (cond b (Relayed target asker ∷ log) log) ≡ since log
since_relayed true target asker log = refl
since_relayed false target asker log = refl

since_note : (source : Addr) (sender : List ℕ) (body : Body) (log : Log) → since (note source sender body log) ≡ since log
since_note source sender (Ping k target) log = refl
since_note source sender (PingReq k target addr) log = since_relayed (is_relayed (group.me (group_log log)) (relays log) target) target (asker_from sender source k) log
since_note source sender (Ack k receiver) log = refl
since_note source sender (Nack k receiver) log = refl
since_note source sender (Pull after) log = refl
since_note source sender Page log = refl
since_note source sender Gossip log = refl

since_respond : (source : Addr) (sender : List ℕ) (body : Body) (log : Log) → since (respond source sender body log) ≡ since log
since_respond source sender body log = since_send_all (response source sender body log) (note source sender body log) ∙ since_note source sender body log

since_expire : (o : Option Timer) (words : List ℕ) (log : Log) → since (expire o words log) ≡ since log
since_expire None words log = refl
since_expire (Some timer) words log =
    let fired : Log = fire timer words log in
    let claims : List Claim = claims_said timer.id log in
    since_send_all (messages timer.id words log) (apply_all Group claims fired)
    ∙ since_apply_all Group claims fired
    ∙ since_forget timer.id (Fired timer words ∷ log)

since_happen : (e : Event) (log : Log) → is_open_event e ≡ false → since (happen e log) ≡ log
since_happen (Open now opening) log shut = absurd cc
since_happen (Heard now source packet) log shut =
    let heard : Log = hear_claims now packet log in
    since_respond source packet.sender (body_meant packet heard) heard ∙ since_hear_each (table_teller (version_sent (config (group_log log))) packet) (claims_heard (my_group log) packet) (come now log)
since_happen (Tick now words) log shut = since_expire (due (come now log)) words (come now log)
since_happen (Ask now name) log shut = refl
since_happen (Health now) log shut = refl
since_happen (Pulls now peer) log shut = refl
since_happen (Leave now words) log shut = refl

-- what an event's reply tells leads to the view behind it, if it tells the records that differ
differing_leads : (e : Event) (log : Log) → is_open_event e ≡ false
    → puts (changed (view log) (view (step e log))) (withouts (still_unknown (view (step e log)) (forgotten_by e log)) (view log)) ≡ view (step e log)
differing_leads e log shut =
    let names : List (List ℕ) = forgotten_by e log in
    let after : List Claim = view (step e log) in
    let keeps : Keeps names (view log) after = subst (λ (l : Log). Keeps names (view l) after) (since_happen e log shut) (keeps_since (happen e log)) in
    unknown_leads names (view log) after (rises_log log) (rises_log (step e log)) keeps

-- What an event's reply tells leads to the view behind it.
step_leads : (e : Event) (log : Log) → is_open_event e ≡ false
    → puts (changed_by e log) (withouts (still_unknown (view (step e log)) (forgotten_by e log)) (view log)) ≡ view (step e log)
step_leads (Open now opening) log shut = absurd cc
step_leads (Heard now source packet) log shut =
    let heard : Log = hear_claims now packet log in
    let e : Event = Heard now source packet in
    ap (λ (rows : List Claim). puts (changed (view log) rows) (withouts (still_unknown (view (step e log)) (forgotten_by e log)) (view log)))
    (sym (view_respond source packet.sender (body_meant packet heard) heard))
    ∙ differing_leads e log shut
step_leads (Tick now words) log shut = differing_leads (Tick now words) log shut
step_leads (Ask now name) log shut = refl
step_leads (Health now) log shut = refl
step_leads (Pulls now peer) log shut = refl
step_leads (Leave now words) log shut = differing_leads (Leave now words) log shut

view_next : (before : List Event) (e : Event) → view_after (before ++ e ∷ []) ≡ view (step e (log_of (reverse before)))
view_next before e = ap (λ (f : List Event). view (log_of f)) (reverse-append before (e ∷ []))

-- what the changes of an event alter
event_alters : (before : List Event) (e : Event)
    → alter_each (changes_at before e) (view_after before) ≡ puts (changed_at before e) (withouts (forgotten_in before e) (view_after before))
unfolding changes_at
event_alters before e = altered_by_one (length before + 1) (moment_after (before ++ e ∷ [])) (forgotten_in before e) (changed_at before e) (view_after before)

told_leads : (before : List Event) (e : Event) → is_open_event e ≡ false → alter_each (changes_at before e) (view_after before) ≡ view_after (before ++ e ∷ [])
unfolding changed_at forgotten_in
told_leads before e shut =
    let names : List (List ℕ) = (reply_after before e).forgotten.items in
    event_alters before e
    ∙ ap (λ (b : Bool). puts (cond b (view_after (before ++ e ∷ [])) (reply_after before e).changed.items) (withouts (forgotten_in before e) (view_after before))) shut
    ∙ ap (λ (t : List Claim). puts (reply_after before e).changed.items (withouts (still_unknown t names) (view_after before))) (view_next before e)
    ∙ step_leads e (log_of (reverse before)) shut
    ∙ sym (view_next before e)

opening_leads : (before : List Event) (e : Event) → is_open_event e ≡ true → before ≡ [] → alter_each (changes_at before e) (view_after before) ≡ view_after (before ++ e ∷ [])
unfolding changed_at
opening_leads before e opens first =
    let after : List Claim = view_after (before ++ e ∷ []) in
    let names : List (List ℕ) = forgotten_in before e in
    event_alters before e
    ∙ ap (λ (b : Bool). puts (cond b after (reply_after before e).changed.items) (withouts names (view_after before))) opens
    ∙ ap (λ (f : List Event). puts after (withouts names (view_after f))) first
    ∙ ap (λ (t : List Claim). puts after t) (withouts_none names)
    ∙ puts_whole after (rises_log (log_of (reverse (before ++ e ∷ []))))

any_there : (f : List Event) (e : Event) (more : List Event) → is_open_event e ≡ true → list_any is_open_event (f ++ e ∷ more) ≡ true
any_there [] e more opens = ap (λ b. b || list_any is_open_event more) opens
any_there (x ∷ f) e more opens = or_true (is_open_event x) (any_there f e more opens)
  where
    or_true : (b : Bool) {c : Bool} → c ≡ true → (b || c) ≡ true
    or_true true h = refl
    or_true false h = h

-- an opening comes first
comes_first : (before : List Event) (e : Event) (more : List Event) → is_accepted (before ++ e ∷ more) ≡ true → is_open_event e ≡ true → before ≡ []
comes_first [] e more accepted opens = refl
comes_first (x ∷ f) e more accepted opens =
    let es : List Event = f ++ e ∷ more in
    let parts = both (opens_well x) (not (list_any is_open_event es) && nat_le (length es + 1) most_events) accepted in
    let rest = both (not (list_any is_open_event es)) (nat_le (length es + 1) most_events) parts.1 in
    absurd (false≢true (sym (ap not (any_there f e more opens)) ∙ rest.0))

event_leads : (before : List Event) (e : Event) (more : List Event) → is_accepted (before ++ e ∷ more) ≡ true
    → alter_each (changes_at before e) (view_after before) ≡ view_after (before ++ e ∷ [])
event_leads before e more accepted = elim (cases_Bool (is_open_event e)) [
  | inl opens ↦ opening_leads before e opens (comes_first before e more accepted opens)
  | inr shut ↦ told_leads before e shut
]

-- The changes of some events alter the table before them to the table after them.
pub leads : (before more : List Event) → is_accepted (before ++ more) ≡ true
    → alter_each (changes_behind before more) (view_after before) ≡ view_after (before ++ more)
unfolding changes_behind
leads before [] accepted = ap (λ (f : List Event). view_after f) (sym (append-nil before))
leads before (e ∷ more) accepted =
    let next : List Event = before ++ e ∷ [] in
    let whole : next ++ more ≡ before ++ e ∷ more = append_assoc before (e ∷ []) more in
    alter_append (changes_at before e) (changes_behind next more) (view_after before)
    ∙ ap (λ (t : List Claim). alter_each (changes_behind next more) t) (event_leads before e more accepted)
    ∙ leads next more (ap is_accepted whole ∙ accepted)
    ∙ ap (λ (f : List Event). view_after f) whole

-- the changes of a list of events behind one that begins it
between_is : (before rest : List Event) → changes_between before (before ++ rest) ≡ changes_behind before rest
between_is before rest =
    ap (λ (l : List Change). filter (is_after (length before)) l) (changes_split [] before rest)
    ∙ filter-append (is_after (length before)) (changes_of before) (changes_behind before rest)
    ∙ ap (λ (l : List Change). l ++ filter (is_after (length before)) (changes_behind before rest)) (behind_earlier (length before) [] before (omega arith))
    ∙ behind_later (length before) before rest (omega arith)

split_leads : (before rest : List Event) → is_accepted (before ++ rest) ≡ true
    → alter_each (changes_between before (before ++ rest)) (view_after before) ≡ view_after (before ++ rest)
split_leads before rest accepted =
    ap (λ (l : List Change). alter_each l (view_after before)) (between_is before rest) ∙ leads before rest accepted

pub between_leads : (before s : List Event) → IsPrefix before s → is_accepted s ≡ true
    → alter_each (changes_between before s) (view_after before) ≡ view_after s
between_leads before s begins =
    subst
    (λ (f : List Event). is_accepted f ≡ true → alter_each (changes_between before f) (view_after before) ≡ view_after f)
    begins.1
    (split_leads before begins.0)

lead_on : (before to : List Event) (later : List (List Event)) → SightsGrow before later to → LeadOn before later
unfolding SightsGrow LeadOn
lead_on before to [] grow = tt
lead_on before to (s ∷ later) grow = (between_leads before s grow.0 grow.1, lead_on s to later grow.2)

pub each_leads : (from to : List Event) (sights : List (List Event)) → SightsGrow from sights to → EachLeads sights
unfolding SightsGrow
each_leads from to [] grow = tt
each_leads from to (first ∷ later) grow = lead_on first to later grow.2
