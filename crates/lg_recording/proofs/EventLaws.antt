-- Events: what is read is spelled so, and what is spelled so is read again.
use Rattle.std.proofs.Common.{◌≡◌, ℕ, Bool, true, false, cond, eqb, List, [], ◌∷◌, ◌++◌, Ok, Err, refl, sym, ap, subst, ◌∙◌, append_assoc}
use Rattle.std.specs.List.{AllByRecursion}
use Rattle.std.proofs.lemmas.Bool.{eqb-true}
use Rattle.lg_packet.specs.Meaning.Bytes.{IsByte}
use Rattle.lg_packet.specs.Meaning.Spelling.{spelled_name}
use Rattle.lg_detector.specs.declared.event.Event.{Event}
use Rattle.lg_detector.specs.declared.event.Event.TheVariants.{Open, Tick, Heard, Ask, Health, Pull, Leave}
use Rattle.lg_fields.specs.declared.fault.FieldFault.TheVariants as faults
use Rattle.lg_fields.specs.Meaning.Spelled.{spelled_count, spelled_config, spelled_place, spelled_told}
use Rattle.lg_fields.specs.Meaning.Scanned.{◌>>=◌, place_scan, told_scan, config_scan, label_scan, word_scan}
use Rattle.lg_recording.specs.Meaning.Spelling.{spelled_event, spelled_words, told_event, words_of_event}
use Rattle.lg_recording.specs.Meaning.Fitting.{IsEventSpelled, AreWordsSpelled}
use Rattle.lg_recording.specs.Meaning.Scanning.{each_scan, words_scan, open_scan, tick_scan, heard_scan, ask_scan, health_scan, pull_scan, leave_scan, event_scan}
use Rattle.lg_recording.specs.Support.Fields.{IsField, same}
use Rattle.lg_recording.proofs.FieldLaws.{moment_field, config_field, place_field, told_field, label_field, word_field}
use Rattle.lg_recording.proofs.Parts.{joined, good, same_ok, stepped, each_again, each_takes, same_each}

-- ---- random words

pub words_field : IsField spelled_words same AreWordsSpelled words_scan
words_field = record { again = again; takes = takes }
  where
    again : (words rest : List ℕ) → AreWordsSpelled words → words_scan (spelled_words words ++ rest) ≡ Ok (words, rest)
    again words rest fit =
        ap (λ (n : ℕ). each_scan word_scan n (spelled_words words ++ rest)) (sym fit.count)
        ∙ each_again word_field words rest fit.each ∙ ap (λ (ws : List ℕ). Ok (ws, rest)) (same_each words)

    takes : (bytes : List ℕ) (x : List ℕ × List ℕ) → AllByRecursion IsByte bytes → words_scan bytes ≡ Ok x
        → (bytes ≡ spelled_words x.0 ++ x.1) × AreWordsSpelled x.0 × (x.0 ≡ x.0)
    takes bytes x fit e =
        let took = each_takes word_field words_of_event bytes x fit e in
        (took.whole, record { count = took.count; each = took.each }, refl)

-- ---- what was read of an event behind the byte for its kind

abbrev ReadsEvent : List ℕ → Event × List ℕ → Type 0
ReadsEvent bytes x = (bytes ≡ spelled_event x.0 ++ x.1) × IsEventSpelled x.0 × (told_event x.0 ≡ x.0)

moved : (bytes : List ℕ) (e : Event) (rest : List ℕ) (x : Event × List ℕ) → good (e, rest) ≡ good x → ReadsEvent bytes (e, rest) → ReadsEvent bytes x
moved bytes e rest x is reads = subst (λ (y : Event × List ℕ). ReadsEvent bytes y) (same_ok (e, rest) x is) reads

open_takes : (bytes : List ℕ) (x : Event × List ℕ) → AllByRecursion IsByte bytes → open_scan bytes ≡ Ok x → ReadsEvent (1 ∷ bytes) x
unfolding open_scan spelled_event
open_takes bytes x fit e =
    let now = stepped moment_field (λ now. config_scan now.1 >>= λ config. Ok (Open now.0 config.0, config.1)) bytes x fit e in
    let config = stepped config_field (λ config. Ok (Open now.value config.0, config.1)) now.rest x now.are_bytes now.then in
    moved (1 ∷ bytes) (Open now.value config.value) config.rest x config.then
    (ap (λ (t : List ℕ). 1 ∷ t) (joined bytes (spelled_count now.value) now.rest (spelled_config config.value) config.rest now.whole config.whole), (now.fits, config.fits), refl)

tick_takes : (bytes : List ℕ) (x : Event × List ℕ) → AllByRecursion IsByte bytes → tick_scan bytes ≡ Ok x → ReadsEvent (2 ∷ bytes) x
unfolding tick_scan spelled_event
tick_takes bytes x fit e =
    let now = stepped moment_field (λ now. words_scan now.1 >>= λ words. Ok (Tick now.0 words.0, words.1)) bytes x fit e in
    let words = stepped words_field (λ words. Ok (Tick now.value words.0, words.1)) now.rest x now.are_bytes now.then in
    moved (2 ∷ bytes) (Tick now.value words.value) words.rest x words.then
    (ap (λ (t : List ℕ). 2 ∷ t) (joined bytes (spelled_count now.value) now.rest (spelled_words words.value) words.rest now.whole words.whole), (now.fits, words.fits), refl)

heard_takes : (bytes : List ℕ) (x : Event × List ℕ) → AllByRecursion IsByte bytes → heard_scan bytes ≡ Ok x → ReadsEvent (3 ∷ bytes) x
unfolding heard_scan spelled_event
heard_takes bytes x fit e =
    let now = stepped moment_field (λ now. place_scan now.1 >>= λ source. told_scan source.1 >>= λ packet. Ok (Heard now.0 source.0 packet.0, packet.1)) bytes x fit e in
    let source = stepped place_field (λ source. told_scan source.1 >>= λ packet. Ok (Heard now.value source.0 packet.0, packet.1)) now.rest x now.are_bytes now.then in
    let packet = stepped told_field (λ packet. Ok (Heard now.value source.value packet.0, packet.1)) source.rest x source.are_bytes source.then in
    let others : now.rest ≡ (spelled_place source.value ++ spelled_told packet.value) ++ packet.rest =
    joined now.rest (spelled_place source.value) source.rest (spelled_told packet.value) packet.rest source.whole packet.whole in
    moved (3 ∷ bytes) (Heard now.value source.value packet.value) packet.rest x packet.then (
      ap (λ (t : List ℕ). 3 ∷ t) (joined bytes (spelled_count now.value) now.rest (spelled_place source.value ++ spelled_told packet.value) packet.rest now.whole others),
      (now.fits, source.fits, packet.fits),
      ap (λ p. Heard now.value source.value p) packet.own,
    )

ask_takes : (bytes : List ℕ) (x : Event × List ℕ) → AllByRecursion IsByte bytes → ask_scan bytes ≡ Ok x → ReadsEvent (4 ∷ bytes) x
unfolding ask_scan spelled_event
ask_takes bytes x fit e =
    let now = stepped moment_field (λ now. label_scan now.1 >>= λ name. Ok (Ask now.0 name.0, name.1)) bytes x fit e in
    let name = stepped label_field (λ name. Ok (Ask now.value name.0, name.1)) now.rest x now.are_bytes now.then in
    moved (4 ∷ bytes) (Ask now.value name.value) name.rest x name.then
    (ap (λ (t : List ℕ). 4 ∷ t) (joined bytes (spelled_count now.value) now.rest (spelled_name name.value) name.rest now.whole name.whole), (now.fits, name.fits), refl)

health_takes : (bytes : List ℕ) (x : Event × List ℕ) → AllByRecursion IsByte bytes → health_scan bytes ≡ Ok x → ReadsEvent (5 ∷ bytes) x
unfolding health_scan spelled_event
health_takes bytes x fit e =
    let now = stepped moment_field (λ now. Ok (Health now.0, now.1)) bytes x fit e in
    moved (5 ∷ bytes) (Health now.value) now.rest x now.then (ap (λ (t : List ℕ). 5 ∷ t) now.whole, now.fits, refl)

pull_takes : (bytes : List ℕ) (x : Event × List ℕ) → AllByRecursion IsByte bytes → pull_scan bytes ≡ Ok x → ReadsEvent (6 ∷ bytes) x
unfolding pull_scan spelled_event
pull_takes bytes x fit e =
    let now = stepped moment_field (λ now. place_scan now.1 >>= λ peer. Ok (Pull now.0 peer.0, peer.1)) bytes x fit e in
    let peer = stepped place_field (λ peer. Ok (Pull now.value peer.0, peer.1)) now.rest x now.are_bytes now.then in
    moved (6 ∷ bytes) (Pull now.value peer.value) peer.rest x peer.then
    (ap (λ (t : List ℕ). 6 ∷ t) (joined bytes (spelled_count now.value) now.rest (spelled_place peer.value) peer.rest now.whole peer.whole), (now.fits, peer.fits), refl)

leave_takes : (bytes : List ℕ) (x : Event × List ℕ) → AllByRecursion IsByte bytes → leave_scan bytes ≡ Ok x → ReadsEvent (7 ∷ bytes) x
unfolding leave_scan spelled_event
leave_takes bytes x fit e =
    let now = stepped moment_field (λ now. words_scan now.1 >>= λ words. Ok (Leave now.0 words.0, words.1)) bytes x fit e in
    let words = stepped words_field (λ words. Ok (Leave now.value words.0, words.1)) now.rest x now.are_bytes now.then in
    moved (7 ∷ bytes) (Leave now.value words.value) words.rest x words.then
    (ap (λ (t : List ℕ). 7 ∷ t) (joined bytes (spelled_count now.value) now.rest (spelled_words words.value) words.rest now.whole words.whole), (now.fits, words.fits), refl)

event_takes : (bytes : List ℕ) (x : Event × List ℕ) → AllByRecursion IsByte bytes → event_scan bytes ≡ Ok x → ReadsEvent bytes x
event_takes [] x fit e = absurd cc
event_takes (b ∷ bytes) x fit e = step (eqb b 1) refl (eqb b 2) refl (eqb b 3) refl (eqb b 4) refl (eqb b 5) refl (eqb b 6) refl (eqb b 7) refl e
  where
    is : (n : ℕ) → eqb b n ≡ true → ReadsEvent (n ∷ bytes) x → ReadsEvent (b ∷ bytes) x
    is n here reads = subst (λ (m : ℕ). ReadsEvent (m ∷ bytes) x) (sym (eqb-true b n here)) reads

    step : (one : Bool) → eqb b 1 ≡ one → (two : Bool) → eqb b 2 ≡ two → (three : Bool) → eqb b 3 ≡ three → (four : Bool) → eqb b 4 ≡ four → (five : Bool) → eqb b 5 ≡ five → (six : Bool) → eqb b 6 ≡ six → (seven : Bool) → eqb b 7 ≡ seven
        → cond one (open_scan bytes) (cond two (tick_scan bytes) (cond three (heard_scan bytes) (cond four (ask_scan bytes) (cond five (health_scan bytes) (cond six (pull_scan bytes) (cond seven (leave_scan bytes) (Err faults.Kind))))))) ≡ Ok x → ReadsEvent (b ∷ bytes) x
    step true h two i three j four l five m six n seven o k = is 1 h (open_takes bytes x fit.1 k)
    step false h true i three j four l five m six n seven o k = is 2 i (tick_takes bytes x fit.1 k)
    step false h false i true j four l five m six n seven o k = is 3 j (heard_takes bytes x fit.1 k)
    step false h false i false j true l five m six n seven o k = is 4 l (ask_takes bytes x fit.1 k)
    step false h false i false j false l true m six n seven o k = is 5 m (health_takes bytes x fit.1 k)
    step false h false i false j false l false m true n seven o k = is 6 n (pull_takes bytes x fit.1 k)
    step false h false i false j false l false m false n true o k = is 7 o (leave_takes bytes x fit.1 k)
    step false h false i false j false l false m false n false o k = absurd cc

event_again : (e : Event) (rest : List ℕ) → IsEventSpelled e → event_scan (spelled_event e ++ rest) ≡ Ok (told_event e, rest)
unfolding spelled_event open_scan tick_scan heard_scan ask_scan health_scan pull_scan leave_scan
event_again (Open now config) rest fit =
    rw (append_assoc (spelled_count now) (spelled_config config) rest, moment_field.again now (spelled_config config ++ rest) fit.0, config_field.again config rest fit.1) refl
event_again (Tick now words) rest fit =
    rw (append_assoc (spelled_count now) (spelled_words words) rest, moment_field.again now (spelled_words words ++ rest) fit.0, words_field.again words rest fit.1) refl
event_again (Heard now source packet) rest fit =
    rw (
      append_assoc (spelled_count now) (spelled_place source ++ spelled_told packet) rest,
      append_assoc (spelled_place source) (spelled_told packet) rest,
      moment_field.again now (spelled_place source ++ (spelled_told packet ++ rest)) fit.0,
      place_field.again source (spelled_told packet ++ rest) fit.1,
      told_field.again packet rest fit.2,
    ) refl
event_again (Ask now name) rest fit =
    rw (append_assoc (spelled_count now) (spelled_name name) rest, moment_field.again now (spelled_name name ++ rest) fit.0, label_field.again name rest fit.1) refl
event_again (Health now) rest fit = rw (moment_field.again now rest fit) refl
event_again (Pull now peer) rest fit =
    rw (append_assoc (spelled_count now) (spelled_place peer) rest, moment_field.again now (spelled_place peer ++ rest) fit.0, place_field.again peer rest fit.1) refl
event_again (Leave now words) rest fit =
    rw (append_assoc (spelled_count now) (spelled_words words) rest, moment_field.again now (spelled_words words ++ rest) fit.0, words_field.again words rest fit.1) refl

pub event_field : IsField spelled_event told_event IsEventSpelled event_scan
event_field = record { again = event_again; takes = event_takes }
