-- Replies: what is read is spelled so, and what is spelled so is read again.
use Rattle.std.proofs.Common.{◌≡◌, ℕ, ◌≤◌, ◌<◌, Bool, true, false, cond, eqb, List, [], ◌∷◌, ◌++◌, length, Option, Some, None, Result, Ok, Err, refl, sym, ap, subst, ◌∙◌, append_assoc, arith}
use Rattle.std.specs.List.{AllByRecursion, flat_map}
use Rattle.std.proofs.lemmas.Bool.{eqb-true}
use Rattle.lg_rules.specs.declared.claim.Claim.{Claim}
use Rattle.lg_timers.specs.declared.timer.Timer.{Timer}
use Rattle.lg_timers.specs.declared.timer.TimerId.{TimerId}
use Rattle.lg_timers.specs.declared.timer.TimerId.TheVariants as timers
use Rattle.lg_timers.specs.Meaning.Timers.{kind_number}
use Rattle.lg_packet.specs.Meaning.Bytes.{IsByte}
use Rattle.lg_packet.specs.Meaning.Spelling.{spelled_name, spelled_number}
use Rattle.lg_detector.specs.declared.reply.Answer.{Answer}
use Rattle.lg_detector.specs.declared.reply.Answer.TheVariants as answers
use Rattle.lg_detector.specs.declared.reply.Outgoing.{Outgoing}
use Rattle.lg_fields.specs.declared.fault.FieldFault.{FieldFault}
use Rattle.lg_fields.specs.declared.fault.FieldFault.TheVariants as faults
use Rattle.lg_fields.specs.Meaning.Spelled.{spelled_count, spelled_place, spelled_told, spelled_records, IsCount, AreRecords}
use Rattle.lg_fields.specs.Meaning.Scanned.{◌>>=◌, count_scan, told_scan, label_scan, word_scan, incarnation_scan}
use Rattle.lg_recording.specs.Meaning.Spelling.{most_sent, most_names, spelled_subject, spelled_fired, spelled_send, spelled_sends, spelled_names, spelled_answer, told_send, told_sends}
use Rattle.lg_recording.specs.Meaning.Fitting.{IsTimerIdSpelled, IsFiredSpelled, IsSendSpelled, AreSendsSpelled, IsNamed, AreNamesSpelled, IsAnswerSpelled}
use Rattle.lg_recording.specs.Meaning.Scanning.{each_scan, id_scan, timer_scan, fired_scan, send_scan, sends_scan, names_scan, only_record, known_scan, standing_scan, answer_scan}
use Rattle.lg_recording.specs.Support.Fields.{IsField, same}
use Rattle.lg_recording.proofs.FieldLaws.{count_field, few_field, label_field, word_field, incarnation_field, place_field, told_field, records_field}
use Rattle.lg_recording.proofs.Parts.{behind, joined, good, same_ok, stepped, each_again, each_takes, same_each}

-- ---- timers

abbrev spelled_id : TimerId → List ℕ
spelled_id id = kind_number id ∷ spelled_subject id

abbrev ReadsId : List ℕ → TimerId × List ℕ → Type 0
ReadsId bytes x = (bytes ≡ spelled_id x.0 ++ x.1) × IsTimerIdSpelled x.0

moved_id : (bytes : List ℕ) (id : TimerId) (rest : List ℕ) (x : TimerId × List ℕ) → good (id, rest) ≡ good x → ReadsId bytes (id, rest) → ReadsId bytes x
moved_id bytes id rest x is reads = subst (λ (y : TimerId × List ℕ). ReadsId bytes y) (same_ok (id, rest) x is) reads

member_takes : (kind : ℕ) (make : List ℕ → TimerId) → ((name : List ℕ) → spelled_id (make name) ≡ kind ∷ spelled_name name) → ((name : List ℕ) → IsNamed name → IsTimerIdSpelled (make name))
    → (bytes : List ℕ) (x : TimerId × List ℕ) → AllByRecursion IsByte bytes → (label_scan bytes >>= λ member. Ok (make member.0, member.1)) ≡ Ok x → ReadsId (kind ∷ bytes) x
member_takes kind make spelled fits bytes x fit e =
    let name = stepped label_field (λ member. Ok (make member.0, member.1)) bytes x fit e in
    moved_id (kind ∷ bytes) (make name.value) name.rest x name.then
    (ap (λ (t : List ℕ). kind ∷ t) name.whole ∙ ap (λ (t : List ℕ). t ++ name.rest) (sym (spelled name.value)), fits name.value name.fits)

relay_takes : (kind : ℕ) (make : ℕ → TimerId) → ((n : ℕ) → spelled_id (make n) ≡ kind ∷ spelled_number n) → ((n : ℕ) → n < 4294967296 → IsTimerIdSpelled (make n))
    → (bytes : List ℕ) (x : TimerId × List ℕ) → AllByRecursion IsByte bytes → (word_scan bytes >>= λ relay. Ok (make relay.0, relay.1)) ≡ Ok x → ReadsId (kind ∷ bytes) x
relay_takes kind make spelled fits bytes x fit e =
    let relay = stepped word_field (λ relay. Ok (make relay.0, relay.1)) bytes x fit e in
    moved_id (kind ∷ bytes) (make relay.value) relay.rest x relay.then
    (ap (λ (t : List ℕ). kind ∷ t) relay.whole ∙ ap (λ (t : List ℕ). t ++ relay.rest) (sym (spelled relay.value)), fits relay.value relay.fits)

id_takes : (b : ℕ) (bytes : List ℕ) (x : TimerId × List ℕ) → AllByRecursion IsByte bytes → id_scan b bytes ≡ Ok x → ReadsId (b ∷ bytes) x
unfolding id_scan
id_takes b bytes x fit e = step (eqb b 1) refl (eqb b 2) refl (eqb b 3) refl (eqb b 4) refl (eqb b 5) refl (eqb b 6) refl (eqb b 7) refl (eqb b 8) refl e
  where
    is : (n : ℕ) → eqb b n ≡ true → ReadsId (n ∷ bytes) x → ReadsId (b ∷ bytes) x
    is n here reads = subst (λ (m : ℕ). ReadsId (m ∷ bytes) x) (sym (eqb-true b n here)) reads

    alone : (kind : ℕ) (id : TimerId) → spelled_id id ≡ kind ∷ [] → IsTimerIdSpelled id → good (id, bytes) ≡ good x → ReadsId (kind ∷ bytes) x
    alone kind id spelled fits k = moved_id (kind ∷ bytes) id bytes x k (ap (λ (t : List ℕ). t ++ bytes) (sym spelled), fits)

    step : (one : Bool) → eqb b 1 ≡ one → (two : Bool) → eqb b 2 ≡ two → (three : Bool) → eqb b 3 ≡ three → (four : Bool) → eqb b 4 ≡ four → (five : Bool) → eqb b 5 ≡ five → (six : Bool) → eqb b 6 ≡ six → (seven : Bool) → eqb b 7 ≡ seven → (eight : Bool) → eqb b 8 ≡ eight
        → cond one (Ok (timers.RoundEnd, bytes)) (cond two (label_scan bytes >>= λ member. Ok (timers.Suspicion member.0, member.1)) (cond three (Ok (timers.Direct, bytes)) (cond four (word_scan bytes >>= λ relay. Ok (timers.RelayNack relay.0, relay.1))
        (cond five (word_scan bytes >>= λ relay. Ok (timers.RelayEnd relay.0, relay.1)) (cond six (Ok (timers.RoundStart, bytes)) (cond seven (label_scan bytes >>= λ member. Ok (timers.Forget member.0, member.1)) (cond eight (Ok (timers.Gossip, bytes)) (Err faults.Kind)))))))) ≡ Ok x
        → ReadsId (b ∷ bytes) x
    step true h two i three j four l five m six n seven o eight p k = is 1 h (alone 1 timers.RoundEnd refl tt k)
    step false h true i three j four l five m six n seven o eight p k = is 2 i (member_takes 2 (λ name. timers.Suspicion name) (λ name. refl) (λ name fits. fits) bytes x fit k)
    step false h false i true j four l five m six n seven o eight p k = is 3 j (alone 3 timers.Direct refl tt k)
    step false h false i false j true l five m six n seven o eight p k = is 4 l (relay_takes 4 (λ n. timers.RelayNack n) (λ n. refl) (λ n fits. fits) bytes x fit k)
    step false h false i false j false l true m six n seven o eight p k = is 5 m (relay_takes 5 (λ n. timers.RelayEnd n) (λ n. refl) (λ n fits. fits) bytes x fit k)
    step false h false i false j false l false m true n seven o eight p k = is 6 n (alone 6 timers.RoundStart refl tt k)
    step false h false i false j false l false m false n true o eight p k = is 7 o (member_takes 7 (λ name. timers.Forget name) (λ name. refl) (λ name fits. fits) bytes x fit k)
    step false h false i false j false l false m false n false o true p k = is 8 p (alone 8 timers.Gossip refl tt k)
    step false h false i false j false l false m false n false o false p k = absurd cc

id_again : (id : TimerId) (rest : List ℕ) → IsTimerIdSpelled id → id_scan (kind_number id) (spelled_subject id ++ rest) ≡ Ok (id, rest)
unfolding id_scan
id_again timers.RoundEnd rest fit = refl
id_again (timers.Suspicion member) rest fit = rw (label_field.again member rest fit) refl
id_again timers.Direct rest fit = refl
id_again (timers.RelayNack relay) rest fit = rw (word_field.again relay rest fit) refl
id_again (timers.RelayEnd relay) rest fit = rw (word_field.again relay rest fit) refl
id_again timers.RoundStart rest fit = refl
id_again (timers.Forget member) rest fit = rw (label_field.again member rest fit) refl
id_again timers.Gossip rest fit = refl

-- a timer that fired, whose kind isn't 0
timer_again : (timer : Timer) (rest : List ℕ) → IsFiredSpelled (Some timer) → timer_scan (kind_number timer.id) ((spelled_subject timer.id ++ spelled_count timer.deadline) ++ rest) ≡ Ok (Some timer, rest)
unfolding timer_scan
timer_again timer rest fit =
    rw (append_assoc (spelled_subject timer.id) (spelled_count timer.deadline) rest, id_again timer.id (spelled_count timer.deadline ++ rest) fit.0, count_field.again timer.deadline rest fit.1) refl

behind_kind : (id : TimerId) (bytes : List ℕ) → fired_scan (kind_number id ∷ bytes) ≡ timer_scan (kind_number id) bytes
behind_kind timers.RoundEnd bytes = refl
behind_kind (timers.Suspicion member) bytes = refl
behind_kind timers.Direct bytes = refl
behind_kind (timers.RelayNack relay) bytes = refl
behind_kind (timers.RelayEnd relay) bytes = refl
behind_kind timers.RoundStart bytes = refl
behind_kind (timers.Forget member) bytes = refl
behind_kind timers.Gossip bytes = refl

fired_again : (fired : Option Timer) (rest : List ℕ) → IsFiredSpelled fired → fired_scan (spelled_fired fired ++ rest) ≡ Ok (fired, rest)
unfolding spelled_fired
fired_again None rest fit = refl
fired_again (Some timer) rest fit = behind_kind timer.id ((spelled_subject timer.id ++ spelled_count timer.deadline) ++ rest) ∙ timer_again timer rest fit

abbrev ReadsFired : List ℕ → Option Timer × List ℕ → Type 0
ReadsFired bytes x = (bytes ≡ spelled_fired x.0 ++ x.1) × IsFiredSpelled x.0 × (x.0 ≡ x.0)

moved_fired : (bytes : List ℕ) (fired : Option Timer) (rest : List ℕ) (x : Option Timer × List ℕ) → good (fired, rest) ≡ good x → ReadsFired bytes (fired, rest) → ReadsFired bytes x
moved_fired bytes fired rest x is reads = subst (λ (y : Option Timer × List ℕ). ReadsFired bytes y) (same_ok (fired, rest) x is) reads

timer_takes : (b : ℕ) (bytes : List ℕ) (x : Option Timer × List ℕ) → AllByRecursion IsByte (b ∷ bytes) → timer_scan b bytes ≡ Ok x → ReadsFired (b ∷ bytes) x
unfolding timer_scan spelled_fired
timer_takes b bytes x fit e = first (id_scan b bytes) refl e
  where
    first : (r : Result (TimerId × List ℕ) FieldFault) → id_scan b bytes ≡ r → (r >>= λ id. count_scan id.1 >>= λ deadline. Ok (Some (record { deadline = deadline.0; id = id.0 }), deadline.1)) ≡ Ok x → ReadsFired (b ∷ bytes) x
    first (Ok id) is e =
        let took = id_takes b bytes id fit.1 is in
        let fits : AllByRecursion IsByte id.1 = behind (spelled_id id.0) id.1 (subst (AllByRecursion IsByte) took.0 fit) in
        let deadline = stepped count_field (λ deadline. Ok (Some (record { deadline = deadline.0; id = id.0 }), deadline.1)) id.1 x fits e in
        moved_fired (b ∷ bytes) (Some (record { deadline = deadline.value; id = id.0 })) deadline.rest x deadline.then
        (joined (b ∷ bytes) (kind_number id.0 ∷ spelled_subject id.0) id.1 (spelled_count deadline.value) deadline.rest took.0 deadline.whole, (took.1, deadline.fits), refl)
    first (Err f) is e = absurd cc

fired_takes : (bytes : List ℕ) (x : Option Timer × List ℕ) → AllByRecursion IsByte bytes → fired_scan bytes ≡ Ok x → ReadsFired bytes x
unfolding spelled_fired
fired_takes [] x fit e = absurd cc
fired_takes (b ∷ bytes) x fit e = step (eqb b 0) refl e
  where
    step : (none : Bool) → eqb b 0 ≡ none → cond none (Ok (None, bytes)) (timer_scan b bytes) ≡ Ok x → ReadsFired (b ∷ bytes) x
    step true h k = moved_fired (b ∷ bytes) None bytes x k (ap (λ (m : ℕ). m ∷ bytes) (eqb-true b 0 h), tt, refl)
    step false h k = timer_takes b bytes x fit k

pub fired_field : IsField {X = Option Timer} spelled_fired same IsFiredSpelled fired_scan
fired_field = record { again = fired_again; takes = fired_takes }

-- ---- packets that are sent

send_again : (s : Outgoing) (rest : List ℕ) → IsSendSpelled s → send_scan (spelled_send s ++ rest) ≡ Ok (told_send s, rest)
unfolding send_scan
send_again s rest fit =
    rw (append_assoc (spelled_place s.to) (spelled_told s.packet) rest, place_field.again s.to (spelled_told s.packet ++ rest) fit.0, told_field.again s.packet rest fit.1) refl

send_takes : (bytes : List ℕ) (x : Outgoing × List ℕ) → AllByRecursion IsByte bytes → send_scan bytes ≡ Ok x
    → (bytes ≡ spelled_send x.0 ++ x.1) × IsSendSpelled x.0 × (told_send x.0 ≡ x.0)
unfolding send_scan
send_takes bytes x fit e =
    let to = stepped place_field (λ to. told_scan to.1 >>= λ packet. Ok (record { to = to.0; packet = packet.0 }, packet.1)) bytes x fit e in
    let packet = stepped told_field (λ packet. Ok (record { to = to.value; packet = packet.0 }, packet.1)) to.rest x to.are_bytes to.then in
    let made : Outgoing = record { to = to.value; packet = packet.value } in
    let own : told_send made ≡ made = ap (λ p. record made { packet = p }) packet.own in
    subst (λ (y : Outgoing × List ℕ). (bytes ≡ spelled_send y.0 ++ y.1) × IsSendSpelled y.0 × (told_send y.0 ≡ y.0)) (same_ok (made, packet.rest) x packet.then)
    (joined bytes (spelled_place to.value) to.rest (spelled_told packet.value) packet.rest to.whole packet.whole, (to.fits, packet.fits), own)

send_field : IsField spelled_send told_send IsSendSpelled send_scan
send_field = record { again = send_again; takes = send_takes }

-- ---- how many, and then those

most_sent_fits : IsCount most_sent
most_sent_fits = omega arith

most_names_fits : IsCount most_names
most_names_fits = omega arith

sends_again : (sends : List Outgoing) (rest : List ℕ) → AreSendsSpelled sends → sends_scan (spelled_sends sends ++ rest) ≡ Ok (told_sends sends, rest)
unfolding sends_scan spelled_sends
sends_again sends rest fit =
    let few = few_field most_sent most_sent_fits in
    let all = each_again send_field sends rest fit.each in
    rw (append_assoc (spelled_count (length sends)) (flat_map spelled_send sends) rest, few.again (length sends) (flat_map spelled_send sends ++ rest) fit.few, all) refl

sends_takes : (bytes : List ℕ) (x : List Outgoing × List ℕ) → AllByRecursion IsByte bytes → sends_scan bytes ≡ Ok x
    → (bytes ≡ spelled_sends x.0 ++ x.1) × AreSendsSpelled x.0 × (told_sends x.0 ≡ x.0)
unfolding sends_scan spelled_sends
sends_takes bytes x fit e =
    let count = stepped (few_field most_sent most_sent_fits) (λ count. each_scan send_scan count.0 count.1) bytes x fit e in
    let took = each_takes send_field count.value count.rest x count.are_bytes count.then in
    let counted : bytes ≡ spelled_count (length x.0) ++ count.rest = count.whole ∙ ap (λ (n : ℕ). spelled_count n ++ count.rest) (sym took.count) in
    (joined bytes (spelled_count (length x.0)) count.rest (flat_map spelled_send x.0) x.1 counted took.whole, record { few = subst (λ (n : ℕ). n ≤ most_sent) (sym took.count) count.fits; each = took.each }, took.own)

pub sends_field : IsField spelled_sends told_sends AreSendsSpelled sends_scan
sends_field = record { again = sends_again; takes = sends_takes }

names_again : (names : List (List ℕ)) (rest : List ℕ) → AreNamesSpelled names → names_scan (spelled_names names ++ rest) ≡ Ok (names, rest)
unfolding names_scan spelled_names
names_again names rest fit =
    let few = few_field most_names most_names_fits in
    let all : each_scan label_scan (length names) (flat_map spelled_name names ++ rest) ≡ Ok (names, rest) = each_again label_field names rest fit.each ∙ ap (λ (ns : List (List ℕ)). Ok (ns, rest)) (same_each names) in
    rw (append_assoc (spelled_count (length names)) (flat_map spelled_name names) rest, few.again (length names) (flat_map spelled_name names ++ rest) fit.few, all) refl

names_takes : (bytes : List ℕ) (x : List (List ℕ) × List ℕ) → AllByRecursion IsByte bytes → names_scan bytes ≡ Ok x
    → (bytes ≡ spelled_names x.0 ++ x.1) × AreNamesSpelled x.0 × (x.0 ≡ x.0)
unfolding names_scan spelled_names
names_takes bytes x fit e =
    let count = stepped (few_field most_names most_names_fits) (λ count. each_scan label_scan count.0 count.1) bytes x fit e in
    let took = each_takes label_field count.value count.rest x count.are_bytes count.then in
    let counted : bytes ≡ spelled_count (length x.0) ++ count.rest = count.whole ∙ ap (λ (n : ℕ). spelled_count n ++ count.rest) (sym took.count) in
    (joined bytes (spelled_count (length x.0)) count.rest (flat_map spelled_name x.0) x.1 counted took.whole, record { few = subst (λ (n : ℕ). n ≤ most_names) (sym took.count) count.fits; each = took.each }, refl)

pub names_field : IsField {X = List (List ℕ)} spelled_names same AreNamesSpelled names_scan
names_field = record { again = names_again; takes = names_takes }

-- ---- answers

answer_again : (answer : Option Answer) (rest : List ℕ) → IsAnswerSpelled answer → answer_scan (spelled_answer answer ++ rest) ≡ Ok (answer, rest)
unfolding spelled_answer known_scan standing_scan
answer_again None rest fit = refl
answer_again (Some (answers.Status None)) rest fit = refl
answer_again (Some (answers.Status (Some claim))) rest fit =
    let row : length (claim ∷ []) ≤ 12 = omega arith in
    rw (records_field.again (claim ∷ []) rest (record { few = row; each = (fit, tt) })) refl
answer_again (Some (answers.Health score number members)) rest fit =
    rw (
      append_assoc (spelled_count score) (spelled_number number ++ spelled_count members) rest,
      append_assoc (spelled_number number) (spelled_count members) rest,
      count_field.again score (spelled_number number ++ (spelled_count members ++ rest)) fit.0,
      incarnation_field.again number (spelled_count members ++ rest) fit.1,
      count_field.again members rest fit.2,
    ) refl

abbrev ReadsAnswer : List ℕ → Option Answer × List ℕ → Type 0
ReadsAnswer bytes x = (bytes ≡ spelled_answer x.0 ++ x.1) × IsAnswerSpelled x.0 × (x.0 ≡ x.0)

moved_answer : (bytes : List ℕ) (answer : Option Answer) (rest : List ℕ) (x : Option Answer × List ℕ) → good (answer, rest) ≡ good x → ReadsAnswer bytes (answer, rest) → ReadsAnswer bytes x
moved_answer bytes answer rest x is reads = subst (λ (y : Option Answer × List ℕ). ReadsAnswer bytes y) (same_ok (answer, rest) x is) reads

known_takes : (bytes : List ℕ) (x : Option Answer × List ℕ) → AllByRecursion IsByte bytes → known_scan bytes ≡ Ok x → ReadsAnswer (2 ∷ bytes) x
unfolding known_scan spelled_answer
known_takes bytes x fit e =
    let claims = stepped records_field (λ claims. only_record claims.0 claims.1) bytes x fit e in
    only claims.value claims.rest claims.whole claims.fits claims.then
  where
    only : (rows : List Claim) (rest : List ℕ) → bytes ≡ spelled_records rows ++ rest → AreRecords rows → only_record rows rest ≡ Ok x → ReadsAnswer (2 ∷ bytes) x
    only [] rest whole fits k = absurd cc
    only (claim ∷ []) rest whole fits k =
        moved_answer (2 ∷ bytes) (Some (answers.Status (Some claim))) rest x k (ap (λ (t : List ℕ). 2 ∷ t) whole, fits.each.0, refl)
    only (claim ∷ other ∷ others) rest whole fits k = absurd cc

standing_takes : (bytes : List ℕ) (x : Option Answer × List ℕ) → AllByRecursion IsByte bytes → standing_scan bytes ≡ Ok x → ReadsAnswer (3 ∷ bytes) x
unfolding standing_scan spelled_answer
standing_takes bytes x fit e =
    let score = stepped count_field (λ score. incarnation_scan score.1 >>= λ number. count_scan number.1 >>= λ members. Ok (Some (answers.Health score.0 number.0 members.0), members.1)) bytes x fit e in
    let number = stepped incarnation_field (λ number. count_scan number.1 >>= λ members. Ok (Some (answers.Health score.value number.0 members.0), members.1)) score.rest x score.are_bytes score.then in
    let members = stepped count_field (λ members. Ok (Some (answers.Health score.value number.value members.0), members.1)) number.rest x number.are_bytes number.then in
    let others : score.rest ≡ (spelled_number number.value ++ spelled_count members.value) ++ members.rest =
    joined score.rest (spelled_number number.value) number.rest (spelled_count members.value) members.rest number.whole members.whole in
    moved_answer (3 ∷ bytes) (Some (answers.Health score.value number.value members.value)) members.rest x members.then (
      ap (λ (t : List ℕ). 3 ∷ t) (joined bytes (spelled_count score.value) score.rest (spelled_number number.value ++ spelled_count members.value) members.rest score.whole others),
      (score.fits, number.fits, members.fits),
      refl,
    )

answer_takes : (bytes : List ℕ) (x : Option Answer × List ℕ) → AllByRecursion IsByte bytes → answer_scan bytes ≡ Ok x → ReadsAnswer bytes x
unfolding spelled_answer
answer_takes [] x fit e = absurd cc
answer_takes (b ∷ bytes) x fit e = step (eqb b 0) refl (eqb b 1) refl (eqb b 2) refl (eqb b 3) refl e
  where
    is : (n : ℕ) → eqb b n ≡ true → ReadsAnswer (n ∷ bytes) x → ReadsAnswer (b ∷ bytes) x
    is n here reads = subst (λ (m : ℕ). ReadsAnswer (m ∷ bytes) x) (sym (eqb-true b n here)) reads

    step : (none : Bool) → eqb b 0 ≡ none → (one : Bool) → eqb b 1 ≡ one → (two : Bool) → eqb b 2 ≡ two → (three : Bool) → eqb b 3 ≡ three
        → cond none (Ok (None, bytes)) (cond one (Ok (Some (answers.Status None), bytes)) (cond two (known_scan bytes) (cond three (standing_scan bytes) (Err faults.Kind)))) ≡ Ok x → ReadsAnswer (b ∷ bytes) x
    step true g one h two i three j k = is 0 g (moved_answer (0 ∷ bytes) None bytes x k (refl, tt, refl))
    step false g true h two i three j k = is 1 h (moved_answer (1 ∷ bytes) (Some (answers.Status None)) bytes x k (refl, tt, refl))
    step false g false h true i three j k = is 2 i (known_takes bytes x fit.1 k)
    step false g false h false i true j k = is 3 j (standing_takes bytes x fit.1 k)
    step false g false h false i false j k = absurd cc

pub answer_field : IsField {X = Option Answer} spelled_answer same IsAnswerSpelled answer_scan
answer_field = record { again = answer_again; takes = answer_takes }
