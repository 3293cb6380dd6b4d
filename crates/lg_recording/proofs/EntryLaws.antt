-- Replies and entries: what is read is spelled so, and what is spelled so is read again.
use Rattle.std.proofs.Common.{◌≡◌, ℕ, Bool, true, false, cond, eqb, ltb, List, [], ◌∷◌, ◌++◌, length, Option, Result, Ok, Err, refl, sym, ap, subst, ◌∙◌, append_assoc, append-nil}
use Rattle.std.specs.List.{AllByRecursion}
use Rattle.std.proofs.lemmas.Bool.{eqb-true, le-ltb, ltb-false}
use Rattle.std.proofs.lemmas.List.{nil_from_length}
use Rattle.lg_rules.specs.declared.claim.Claim.{Claim}
use Rattle.lg_timers.specs.declared.timer.Timer.{Timer}
use Rattle.lg_packet.specs.Meaning.Bytes.{IsByte}
use Rattle.lg_detector.specs.declared.event.Event.{Event}
use Rattle.lg_detector.specs.declared.reply.Outgoing.{Outgoing}
use Rattle.lg_detector.specs.declared.reply.Answer.{Answer}
use Rattle.lg_detector.specs.declared.reply.Reply.{Reply}
use Rattle.lg_history.specs.Meaning.History.{Entry}
use Rattle.lg_fields.specs.declared.fault.FieldFault.{FieldFault}
use Rattle.lg_fields.specs.declared.fault.FieldFault.TheVariants as faults
use Rattle.lg_fields.specs.Meaning.Spelled.{spelled_count, spelled_flag, spelled_records, IsCount, AreRecords}
use Rattle.lg_fields.specs.Meaning.Scanned.{◌>>=◌, count_scan, flag_scan, records_scan}
use Rattle.lg_recording.specs.Meaning.Values.{RecordedEntry, with_standstill}
use Rattle.lg_recording.specs.Meaning.Spelling.{greatest_seat, spelled_event, spelled_fired, spelled_sends, spelled_names, spelled_answer, spelled_reply, spelled_entry, spelled_recorded, told_sends, told_reply, told_entry, told_recorded}
use Rattle.lg_recording.specs.Meaning.Fitting.{IsFiredSpelled, AreSendsSpelled, AreNamesSpelled, IsAnswerSpelled, IsReplySpelled, IsEntrySpelled, IsRecordedSpelled}
use Rattle.lg_recording.specs.Meaning.Scanning.{event_scan, sends_scan, names_scan, answer_scan, reply_scan, entry_scan, recorded_scan, whole_of, recorded_of}
use Rattle.lg_recording.specs.Support.Fields.{IsField}
use Rattle.lg_recording.proofs.FieldLaws.{count_field, flag_field, records_field}
use Rattle.lg_recording.proofs.Parts.{joined, good, read_as, same_ok, stepped, onward}
use Rattle.lg_recording.proofs.EventLaws.{event_field}
use Rattle.lg_recording.proofs.ReplyLaws.{fired_field, sends_field, names_field, answer_field}

-- ---- replies

reply_again : (r : Reply) (rest : List ℕ) → IsReplySpelled r → reply_scan (spelled_reply r ++ rest) ≡ Ok (told_reply r, rest)
unfolding reply_scan spelled_reply
reply_again r rest fit =
    let last = spelled_flag r.ousted ++ spelled_count r.next in
    let last4 = spelled_answer r.answer ++ last in
    let last5 = spelled_names r.forgotten.items ++ last4 in
    let last6 = spelled_records r.changed.items ++ last5 in
    let last7 = spelled_sends r.sends.items ++ last6 in
    rw (
      append_assoc (spelled_fired r.fired) last7 rest,
      append_assoc (spelled_sends r.sends.items) last6 rest,
      append_assoc (spelled_records r.changed.items) last5 rest,
      append_assoc (spelled_names r.forgotten.items) last4 rest,
      append_assoc (spelled_answer r.answer) last rest,
      append_assoc (spelled_flag r.ousted) (spelled_count r.next) rest,
      fired_field.again r.fired (spelled_sends r.sends.items ++ (spelled_records r.changed.items ++ (spelled_names r.forgotten.items ++ (spelled_answer r.answer ++ (spelled_flag r.ousted ++ (spelled_count r.next ++ rest)))))) fit.fired,
      sends_field.again r.sends.items (spelled_records r.changed.items ++ (spelled_names r.forgotten.items ++ (spelled_answer r.answer ++ (spelled_flag r.ousted ++ (spelled_count r.next ++ rest))))) fit.sends,
      records_field.again r.changed.items (spelled_names r.forgotten.items ++ (spelled_answer r.answer ++ (spelled_flag r.ousted ++ (spelled_count r.next ++ rest)))) fit.changed,
      names_field.again r.forgotten.items (spelled_answer r.answer ++ (spelled_flag r.ousted ++ (spelled_count r.next ++ rest))) fit.forgotten,
      answer_field.again r.answer (spelled_flag r.ousted ++ (spelled_count r.next ++ rest)) fit.answer,
      flag_field.again r.ousted (spelled_count r.next ++ rest) tt,
      count_field.again r.next rest fit.next,
    ) refl

abbrev made : Option Timer → List Outgoing → List Claim → List (List ℕ) → Option Answer → Bool → ℕ → Reply
made fired sends changed forgotten answer ousted next =
    record { fired = fired; sends = record { items = sends }; changed = record { items = changed }; forgotten = record { items = forgotten }; answer = answer; ousted = ousted; next = next }

regrouped : (a b c d e f g rest : List ℕ) → ((((((([] ++ a) ++ b) ++ c) ++ d) ++ e) ++ f) ++ g) ++ rest ≡ (a ++ (b ++ (c ++ (d ++ (e ++ (f ++ g)))))) ++ rest
regrouped a b c d e f g rest = simp append_assoc

abbrev ReadsReply : List ℕ → Reply × List ℕ → Type 0
ReadsReply bytes x = (bytes ≡ spelled_reply x.0 ++ x.1) × IsReplySpelled x.0 × (told_reply x.0 ≡ x.0)

-- the seven parts, one behind the other
finished : (bytes rest : List ℕ) (f : Option Timer) (s : List Outgoing) (c : List Claim) (n : List (List ℕ)) (a : Option Answer) (o : Bool) (t : ℕ) (x : Reply × List ℕ)
    → bytes ≡ ((((((([] ++ spelled_fired f) ++ spelled_sends s) ++ spelled_records c) ++ spelled_names n) ++ spelled_answer a) ++ spelled_flag o) ++ spelled_count t) ++ rest
    → IsFiredSpelled f → AreSendsSpelled s → AreRecords c → AreNamesSpelled n → IsAnswerSpelled a → IsCount t → told_sends s ≡ s → good (made f s c n a o t, rest) ≡ good x → ReadsReply bytes x
unfolding spelled_reply
finished bytes rest f s c n a o t x whole ff fs fc fn fa ft own is =
    let all : bytes ≡ spelled_reply (made f s c n a o t) ++ rest =
    whole ∙ regrouped (spelled_fired f) (spelled_sends s) (spelled_records c) (spelled_names n) (spelled_answer a) (spelled_flag o) (spelled_count t) rest in
    subst (λ (y : Reply × List ℕ). ReadsReply bytes y) (same_ok (made f s c n a o t, rest) x is)
    (all, record { fired = ff; sends = fs; changed = fc; forgotten = fn; answer = fa; next = ft }, ap (λ (l : List Outgoing). made f l c n a o t) own)

reply_takes : (bytes : List ℕ) (x : Reply × List ℕ) → AllByRecursion IsByte bytes → reply_scan bytes ≡ Ok x → ReadsReply bytes x
unfolding reply_scan
reply_takes bytes x fit e =
    onward fired_field (ReadsReply bytes x) [] bytes bytes (λ f. sends_scan f.1 >>= λ s. records_scan s.1 >>= λ c. names_scan c.1 >>= λ n. answer_scan n.1 >>= λ a. flag_scan a.1 >>= λ o. count_scan o.1 >>= λ t. Ok (made f.0 s.0 c.0 n.0 a.0 o.0 t.0, t.1)) x refl fit e
    (λ f r1 w1 ff of b1 e1. onward sends_field (ReadsReply bytes x) ([] ++ spelled_fired f) bytes r1 (λ s. records_scan s.1 >>= λ c. names_scan c.1 >>= λ n. answer_scan n.1 >>= λ a. flag_scan a.1 >>= λ o. count_scan o.1 >>= λ t. Ok (made f s.0 c.0 n.0 a.0 o.0 t.0, t.1)) x w1 b1 e1
    (λ s r2 w2 fs os b2 e2. onward records_field (ReadsReply bytes x) (([] ++ spelled_fired f) ++ spelled_sends s) bytes r2 (λ c. names_scan c.1 >>= λ n. answer_scan n.1 >>= λ a. flag_scan a.1 >>= λ o. count_scan o.1 >>= λ t. Ok (made f s c.0 n.0 a.0 o.0 t.0, t.1)) x w2 b2 e2
    (λ c r3 w3 fc oc b3 e3. onward names_field (ReadsReply bytes x) ((([] ++ spelled_fired f) ++ spelled_sends s) ++ spelled_records c) bytes r3 (λ n. answer_scan n.1 >>= λ a. flag_scan a.1 >>= λ o. count_scan o.1 >>= λ t. Ok (made f s c n.0 a.0 o.0 t.0, t.1)) x w3 b3 e3
    (λ n r4 w4 fn on b4 e4. onward answer_field (ReadsReply bytes x) (((([] ++ spelled_fired f) ++ spelled_sends s) ++ spelled_records c) ++ spelled_names n) bytes r4 (λ a. flag_scan a.1 >>= λ o. count_scan o.1 >>= λ t. Ok (made f s c n a.0 o.0 t.0, t.1)) x w4 b4 e4
    (λ a r5 w5 fa oa b5 e5. onward flag_field (ReadsReply bytes x) ((((([] ++ spelled_fired f) ++ spelled_sends s) ++ spelled_records c) ++ spelled_names n) ++ spelled_answer a) bytes r5 (λ o. count_scan o.1 >>= λ t. Ok (made f s c n a o.0 t.0, t.1)) x w5 b5 e5
    (λ o r6 w6 fo oo b6 e6. onward count_field (ReadsReply bytes x) (((((([] ++ spelled_fired f) ++ spelled_sends s) ++ spelled_records c) ++ spelled_names n) ++ spelled_answer a) ++ spelled_flag o) bytes r6 (λ t. Ok (made f s c n a o t.0, t.1)) x w6 b6 e6
    (λ t r7 w7 ft ot b7 e7. finished bytes r7 f s c n a o t x w7 ff fs fc fn fa ft os e7)))))))

pub reply_field : IsField spelled_reply told_reply IsReplySpelled reply_scan
reply_field = record { again = reply_again; takes = reply_takes }

-- ---- entries

entry_again : (e : Entry) (rest : List ℕ) → IsEntrySpelled e → entry_scan (spelled_entry e ++ rest) ≡ Ok (told_entry e, rest)
unfolding entry_scan spelled_entry
entry_again e rest fit =
    let seat : ltb greatest_seat e.seat ≡ false = le-ltb greatest_seat e.seat fit.seat in
    rw (
      append_assoc (spelled_event e.event) (spelled_reply e.reply) rest,
      seat,
      event_field.again e.event (spelled_reply e.reply ++ rest) fit.event,
      reply_field.again e.reply rest fit.reply,
    ) refl

entry_takes : (bytes : List ℕ) (x : Entry × List ℕ) → AllByRecursion IsByte bytes → entry_scan bytes ≡ Ok x
    → (bytes ≡ spelled_entry x.0 ++ x.1) × IsEntrySpelled x.0 × (told_entry x.0 ≡ x.0)
unfolding entry_scan spelled_entry
entry_takes [] x fit e = absurd cc
entry_takes (seat ∷ bytes) x fit e = judged (ltb greatest_seat seat) refl e
  where
    judged : (over : Bool) → ltb greatest_seat seat ≡ over
        → (cond over (Err faults.Number) (read_as seat bytes) >>= λ s. event_scan s.1 >>= λ event. reply_scan event.1 >>= λ reply. Ok (record { seat = s.0; event = event.0; reply = reply.0 }, reply.1)) ≡ Ok x
        → (seat ∷ bytes ≡ spelled_entry x.0 ++ x.1) × IsEntrySpelled x.0 × (told_entry x.0 ≡ x.0)
    judged true is e = absurd cc
    judged false is e =
        let event = stepped event_field (λ event. reply_scan event.1 >>= λ reply. Ok (record { seat = seat; event = event.0; reply = reply.0 }, reply.1)) bytes x fit.1 e in
        let reply = stepped reply_field (λ reply. Ok (record { seat = seat; event = event.value; reply = reply.0 }, reply.1)) event.rest x event.are_bytes event.then in
        let whole_entry : Entry = record { seat = seat; event = event.value; reply = reply.value } in
        let whole : seat ∷ bytes ≡ spelled_entry whole_entry ++ reply.rest = ap (λ (t : List ℕ). seat ∷ t) (joined bytes (spelled_event event.value) event.rest (spelled_reply reply.value) reply.rest event.whole reply.whole) in
        let own : told_entry whole_entry ≡ whole_entry = ap (λ (v : Event). record whole_entry { event = v; reply = told_reply reply.value }) event.own ∙ ap (λ (r : Reply). record whole_entry { reply = r }) reply.own in
        subst (λ (y : Entry × List ℕ). (seat ∷ bytes ≡ spelled_entry y.0 ++ y.1) × IsEntrySpelled y.0 × (told_entry y.0 ≡ y.0)) (same_ok (whole_entry, reply.rest) x reply.then)
        (whole, record { seat = ltb-false greatest_seat seat is; event = event.fits; reply = reply.fits }, own)

entry_field : IsField spelled_entry told_entry IsEntrySpelled entry_scan
entry_field = record { again = entry_again; takes = entry_takes }

-- ---- entries with how long the clock stood still before them

pub recorded_again : (x : RecordedEntry) (rest : List ℕ) → IsRecordedSpelled x → recorded_scan (spelled_recorded x ++ rest) ≡ Ok (told_recorded x, rest)
unfolding recorded_scan spelled_recorded
recorded_again x rest fit =
    rw (
      append_assoc (spelled_entry x.entry) (spelled_count x.stood_still_ms) rest,
      entry_again x.entry (spelled_count x.stood_still_ms ++ rest) fit.entry,
      count_field.again x.stood_still_ms rest fit.stood_still,
    ) refl

abbrev ReadsRecorded : List ℕ → RecordedEntry × List ℕ → Type 0
ReadsRecorded bytes x = (bytes ≡ spelled_recorded x.0 ++ x.1) × IsRecordedSpelled x.0 × (told_recorded x.0 ≡ x.0)

recorded_takes : (bytes : List ℕ) (x : RecordedEntry × List ℕ) → AllByRecursion IsByte bytes → recorded_scan bytes ≡ Ok x → ReadsRecorded bytes x
unfolding recorded_scan spelled_recorded
recorded_takes bytes x fit e =
    let entry = stepped entry_field (λ entry. count_scan entry.1 >>= λ ms. Ok (with_standstill entry.0 ms.0, ms.1)) bytes x fit e in
    let ms = stepped count_field (λ ms. Ok (with_standstill entry.value ms.0, ms.1)) entry.rest x entry.are_bytes entry.then in
    let whole = joined bytes (spelled_entry entry.value) entry.rest (spelled_count ms.value) ms.rest entry.whole ms.whole in
    subst (λ (y : RecordedEntry × List ℕ). ReadsRecorded bytes y) (same_ok (with_standstill entry.value ms.value, ms.rest) x ms.then)
    (whole, record { entry = entry.fits; stood_still = ms.fits }, ap (λ (v : Entry). with_standstill v ms.value) entry.own)

-- all of the bytes
pub whole_again : (x : RecordedEntry) → IsRecordedSpelled x → recorded_of (spelled_recorded x) ≡ Ok (told_recorded x)
unfolding recorded_of
whole_again x fit =
    let all : recorded_scan (spelled_recorded x) ≡ Ok (told_recorded x, []) = ap recorded_scan (sym (append-nil (spelled_recorded x))) ∙ recorded_again x [] fit in
    rw all refl

abbrev IsWhole : List ℕ → RecordedEntry → Type 0
IsWhole body x = (body ≡ spelled_recorded x) × IsRecordedSpelled x × (told_recorded x ≡ x)

pub whole_takes : (body : List ℕ) (x : RecordedEntry) → AllByRecursion IsByte body → recorded_of body ≡ Ok x → IsWhole body x
unfolding recorded_of
whole_takes body x fit k = first (recorded_scan body) refl k
  where
    ended : (y : RecordedEntry × List ℕ) → recorded_scan body ≡ Ok y → (end : Bool) → eqb (length y.1) 0 ≡ end → cond end (Ok y.0) (Err faults.Trailing) ≡ Ok x → IsWhole body x
    ended y is true end k =
        let took = recorded_takes body y fit is in
        let nothing : y.1 ≡ [] = nil_from_length y.1 (eqb-true (length y.1) 0 end) in
        let all : body ≡ spelled_recorded y.0 = took.0 ∙ ap (λ (t : List ℕ). spelled_recorded y.0 ++ t) nothing ∙ append-nil (spelled_recorded y.0) in
        subst (λ (z : RecordedEntry). IsWhole body z) (same_ok y.0 x k) (all, took.1, took.2)
    ended y is false end k = absurd cc

    first : (r : Result (RecordedEntry × List ℕ) FieldFault) → recorded_scan body ≡ r → (r >>= whole_of) ≡ Ok x → IsWhole body x
    first (Ok y) is k = ended y is (eqb (length y.1) 0) refl k
    first (Err f) is k = absurd cc
