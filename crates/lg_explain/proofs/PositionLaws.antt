-- How a position goes on: by a file's head, and by an entry.
use Rattle.std.proofs.Common.{◌≡◌, ℕ, ◌+◌, ◌≤◌, Bool, true, false, List, [], ◌∷◌, ◌++◌, Option, Some, None, refl, sym, ap, subst, ◌∙◌, arith, max}
use Rattle.std.specs.Prelude.{if◌then◌else◌, ◌==◌, ◌||◌, is_some}
use Rattle.lg_accounts.specs.declared.step.NoteStep.{NoteStep}
use Rattle.lg_detector.specs.declared.event.Event.{Event}
use Rattle.lg_heads.specs.Meaning.Heads.{HeadValue}
use Rattle.lg_recording.specs.Meaning.Values.{RecordedEntry}
use Rattle.lg_rules.specs.declared.claim.Claim.{Claim}
use Rattle.lg_notes.specs.Meaning.About.{changes_verdict, teller_of}
use Rattle.lg_notes.specs.Meaning.Steps.{steps_of}
use Rattle.lg_notes.specs.Meaning.Watching.{is_calm, watch_behind}
use Rattle.lg_notes.specs.declared.insights.Insight.{Insight}
use Rattle.lg_explain.specs.declared.rounds.RecentRounds.{RecentRounds}
use Rattle.lg_notes.specs.declared.subject.NoteSubject.{NoteSubject}
use Rattle.lg_notes.specs.declared.watch.Watch.{Watch}
use Rattle.lg_replay.specs.Meaning.Lives.{Life, life_from, past_to, past_with}
use Rattle.lg_replay.specs.Meaning.Words.{moment_of_event}
use Rattle.lg_replay.specs.Support.Known.{HoldsPast, IsKnown}
use Rattle.lg_replay.specs.declared.known.Known.{Known}
use Rattle.lg_explain.specs.Meaning.Places.{FilesRead, PlacedEntry, begun_from, calm_watch, entry_read, head_read, past_from, placed, note_subject, wall_of, watch_of_head}
use Rattle.lg_explain.specs.Meaning.Rounds.{end_of_round, recent_rounds}
use Rattle.lg_explain.specs.Meaning.Standstills.{minute_of, recent_stood, stood_at, stood_in_minute}
use Rattle.lg_explain.specs.Support.Standstills.{KeepsStood}
use Rattle.lg_explain.specs.declared.standstills.StoodStill.{StoodStill}
use Rattle.lg_notes.specs.declared.insights.MinuteBefore.{MinuteBefore}
use Rattle.lg_explain.proofs.StandstillLaws.{stood_of_kept}
use Rattle.std.specs.List.{sum_by}
use Rattle.lg_explain.specs.Meaning.Tellings.{insights_at, note_of, told_behind}
use Rattle.lg_accounts.specs.Meaning.Values.{NoteValue}
use Rattle.lg_explain.specs.Meaning.Told.{EntryTold}
use Rattle.lg_explain.specs.Support.Ends.{KeepsEnds}
use Rattle.lg_explain.specs.Support.Positions.{IsAt, IsBegun, IsHere, KeepsRest, HasPassed, ends_next, greatest_next, stood_next, watch_next}
use Rattle.lg_explain.specs.declared.position.Position.{Position}
use Rattle.lg_explain.specs.declared.rounds.RoundEnd.{RoundEnd}

-- ---- a file's head

past_of_life : (b : Bool) (past other : Option (List Event)) (sent n : ℕ)
    → (let l : Life = (if b then record { past = past; sent = n } else record { past = other; sent = sent }) in l.past) ≡ (if b then past else other)
past_of_life true past other sent n = refl
past_of_life false past other sent n = refl

pub past_entered : (old new : Known) (first : ℕ) (past : Option (List Event)) → ((life : Life) → IsKnown old life → IsKnown new (life_from first life))
    → HoldsPast old past → HoldsPast new (past_from first past)
past_entered old new first past enters holds =
    subst (λ (p : Option (List Event)). HoldsPast new p) (past_of_life (first == 0) (Some []) (past_to first past) old.sent 0)
    (enters (record { past = past; sent = old.sent }) (record { past = holds; sent = refl })).past

-- the watch begins there
here_begun : (p : Position) (watch : Watch) (begun : Option Watch) (entries : List PlacedEntry) → IsBegun p watch → begun ≡ Some watch → IsHere p begun entries
here_begun p watch begun entries there is =
    subst (λ (o : Option Watch). IsHere p o entries) (sym is)
    (record {
      begins = there.begins;
      watch = there.watch;
      greatest = there.greatest;
      ends = λ now le. ap (λ (xs : List RoundEnd). recent_rounds now xs) there.ends;
      stood = λ now le. ap (λ (xs : List StoodStill). sum_by (recent_stood now) xs) there.stood;
    })

-- a life begins
pub here_life : (p : Position) (name : List ℕ) (head : HeadValue) (r : FilesRead) → IsBegun p calm_watch → (head.first == 0) ≡ true
    → IsHere p (begun_from name head r) r.entries
here_life p name head r there zero =
    here_begun p calm_watch _ r.entries there
    (ap (λ (b : Bool). if b then Some calm_watch else if head.first == r.number then r.begun else Some (watch_of_head name head.before)) zero)

-- some entries are missing
pub here_gap : (p : Position) (name : List ℕ) (head : HeadValue) (r : FilesRead) → IsBegun p (watch_of_head name head.before)
    → (head.first == 0) ≡ false → (head.first == r.number) ≡ false → IsHere p (begun_from name head r) r.entries
here_gap p name head r there some other =
    here_begun p (watch_of_head name head.before) _ r.entries there
    (ap (λ (b : Bool). if b then Some calm_watch else if head.first == r.number then r.begun else Some (watch_of_head name head.before)) some
    ∙ ap (λ (b : Bool). if b then r.begun else Some (watch_of_head name head.before)) other)

-- it goes on
pub here_next : (p : Position) (name : List ℕ) (head : HeadValue) (r : FilesRead) → IsHere p r.begun r.entries
    → (head.first == 0) ≡ false → (head.first == r.number) ≡ true → IsHere p (begun_from name head r) r.entries
here_next p name head r here some same =
    subst (λ (o : Option Watch). IsHere p o r.entries)
    (sym (
    ap (λ (b : Bool). if b then Some calm_watch else if head.first == r.number then r.begun else Some (watch_of_head name head.before)) some
    ∙ ap (λ (b : Bool). if b then r.begun else Some (watch_of_head name head.before)) same
    ))
    here

pub entered : (p : Position) (k : Known) (number : ℕ) (name : List ℕ) (head : HeadValue) (r : FilesRead) → IsHere p (begun_from name head r) r.entries
    → HoldsPast k (past_from head.first r.past) → number ≡ head.first → IsAt (record p { known = k; number = number }) (head_read name head r)
entered p k number name head r here holds counted = record {
  past = holds;
  number = counted;
  here = record { begins = here.begins; watch = here.watch; greatest = here.greatest; ends = here.ends; stood = here.stood };
}

-- ---- an entry

-- a note, and what matters of an entry, by their parts
abbrev note_by : (entry moment wall : ℕ) → Option (List ℕ) → List NoteStep → NoteValue
note_by entry moment wall teller steps = record { entry = entry; moment = moment; wall_ms = wall; teller = teller; steps = steps }

abbrev told_by : (begins is_verdict is_known : Bool) → NoteValue → EntryTold
told_by begins is_verdict is_known note = record { begins = begins; is_verdict = is_verdict; is_known = is_known; note = note }

abbrev some_known : Type 0
some_known = Option (Insight × Insight × List Claim)

-- what is in the minute before an entry
abbrev pub minute_at : (greatest stood_still_ms : ℕ) → List RoundEnd → List StoodStill → MinuteBefore
minute_at greatest stood_still_ms ends stood = minute_of (recent_rounds greatest ends) (stood_in_minute greatest (stood_at greatest stood_still_ms ∷ stood))

-- the steps of an entry, by what is kept
steps_are : (p : Position) (name : List ℕ) (head : HeadValue) (r : FilesRead) (x : RecordedEntry) (subject : NoteSubject) (greatest : ℕ) (known : some_known) (minute : MinuteBefore)
    → subject ≡ note_subject name head → IsAt p r → greatest ≡ max p.greatest (moment_of_event x.entry.event)
    → known ≡ insights_at subject.name r.past x.entry.event → minute ≡ minute_at greatest x.stood_still_ms p.ends.items p.stood.items
    → steps_of subject p.watch x.entry.event x.entry.reply known minute
    ≡ steps_of (note_subject name head) (watch_next r.begun r.entries) x.entry.event x.entry.reply (insights_at name r.past x.entry.event)
    (minute_at (max (greatest_next r.begun r.entries) (moment_of_event x.entry.event)) x.stood_still_ms (ends_next r.begun r.entries) (stood_next r.begun r.entries))
steps_are p name head r x subject greatest known minute is at later insights has =
    let le : p.greatest ≤ greatest = omega (arith, later) in
    let ends = ends_next r.begun r.entries in
    let stood = stood_next r.begun r.entries in
    let moment = moment_of_event x.entry.event in
    let counted : minute ≡ minute_at (max (greatest_next r.begun r.entries) moment) x.stood_still_ms ends stood =
    has
    ∙ ap (λ (n : RecentRounds). minute_of n (stood_in_minute greatest (stood_at greatest x.stood_still_ms ∷ p.stood.items))) (at.here.ends greatest le)
    ∙ ap (λ (n : ℕ). minute_of (recent_rounds greatest ends) n) (stood_of_kept greatest x.stood_still_ms p.stood.items stood (at.here.stood greatest le))
    ∙ ap (λ (n : ℕ). minute_at n x.stood_still_ms ends stood) (later ∙ ap (λ (n : ℕ). max n moment) at.here.greatest) in
    let said : known ≡ insights_at name r.past x.entry.event = insights ∙ ap (λ (s : NoteSubject). insights_at s.name r.past x.entry.event) is in
    ap (λ (s : NoteSubject). steps_of s p.watch x.entry.event x.entry.reply known minute) is
    ∙ ap (λ (w : Watch). steps_of (note_subject name head) w x.entry.event x.entry.reply known minute) at.here.watch
    ∙ ap (λ (k : some_known). steps_of (note_subject name head) (watch_next r.begun r.entries) x.entry.event x.entry.reply k minute) said
    ∙ ap (λ (n : MinuteBefore). steps_of (note_subject name head) (watch_next r.begun r.entries) x.entry.event x.entry.reply (insights_at name r.past x.entry.event) n) counted

-- its note
pub noted : (p : Position) (name : List ℕ) (head : HeadValue) (r : FilesRead) (x : RecordedEntry) (subject : NoteSubject) (moment wall : ℕ) (teller : Option (List ℕ))
    (known : some_known) (minute : MinuteBefore) (steps : List NoteStep)
    → subject ≡ note_subject name head → IsAt p r → moment ≡ moment_of_event x.entry.event → wall ≡ wall_of head moment
    → teller ≡ teller_of subject x.entry.event → known ≡ insights_at subject.name r.past x.entry.event
    → minute ≡ minute_at (max p.greatest moment) x.stood_still_ms p.ends.items p.stood.items
    → steps ≡ steps_of subject p.watch x.entry.event x.entry.reply known minute
    → note_by p.number moment wall teller steps ≡ note_of (placed name head r x) r.entries
noted p name head r x subject moment wall teller known minute steps is at when walled told insights has are =
    ap (λ (n : ℕ). note_by n moment wall teller steps) at.number
    ∙ ap (λ (n : ℕ). note_by r.number n wall teller steps) when
    ∙ ap (λ (n : ℕ). note_by r.number (moment_of_event x.entry.event) n teller steps) (walled ∙ ap (λ (n : ℕ). wall_of head n) when)
    ∙ ap (λ (t : Option (List ℕ)). note_by r.number (moment_of_event x.entry.event) (wall_of head (moment_of_event x.entry.event)) t steps)
    (told ∙ ap (λ (s : NoteSubject). teller_of s x.entry.event) is)
    ∙ ap (λ (s : List NoteStep). note_by r.number (moment_of_event x.entry.event) (wall_of head (moment_of_event x.entry.event)) (teller_of (note_subject name head) x.entry.event) s)
    (are ∙ steps_are p name head r x subject (max p.greatest (moment_of_event x.entry.event)) known minute is at refl insights (has ∙ ap (λ (n : ℕ). minute_at (max p.greatest n) x.stood_still_ms p.ends.items p.stood.items) when))

-- what is known is what is there
pub known_is : (k : Known) (past : Option (List Event)) → HoldsPast k past → k.is_known ≡ is_some past
known_is k None holds = holds
known_is k (Some f) holds = holds.known

pub passed : (old mid new : Position) (name : List ℕ) (head : HeadValue) (r : FilesRead) (x : RecordedEntry) (subject : NoteSubject)
    → subject ≡ note_subject name head → IsAt old r
    → ((past : Option (List Event)) → HoldsPast old.known past → HoldsPast mid.known (past_with past x.entry.event))
    → KeepsRest old mid → HasPassed mid new subject x → IsAt new (entry_read name head r x)
passed old mid new name head r x subject is at happened keeps passes =
    let moment = moment_of_event x.entry.event in
    let before = greatest_next r.begun r.entries in
    let ends = ends_next r.begun r.entries in
    let stood = stood_next r.begun r.entries in
    let greatest : new.greatest ≡ max before moment = passes.greatest ∙ ap (λ (n : ℕ). max n moment) (keeps.greatest ∙ at.here.greatest) in
    record {
      past = subst (λ (k : Known). HoldsPast k (past_with r.past x.entry.event)) (sym passes.known) (happened r.past at.past);
      number = passes.number ∙ ap (λ (n : ℕ). n + 1) (keeps.number ∙ at.number);
      here = record {
        begins = passes.begins;
        watch =
            passes.watch
            ∙ ap (λ (s : NoteSubject). watch_behind s new.greatest mid.watch x.entry.event x.entry.reply) is
            ∙ ap (λ (n : ℕ). watch_behind (note_subject name head) n mid.watch x.entry.event x.entry.reply) greatest
            ∙ ap (λ (w : Watch). watch_behind (note_subject name head) (max before moment) w x.entry.event x.entry.reply) (keeps.watch ∙ at.here.watch);
        greatest = greatest;
        ends =
            subst (λ (n : ℕ). KeepsEnds new.ends.items new.greatest (end_of_round n x.entry.reply ++ ends)) greatest
            (passes.ends ends
            (subst (λ (n : ℕ). KeepsEnds mid.ends.items n ends) (sym keeps.greatest)
            (subst (λ (xs : List RoundEnd). KeepsEnds xs old.greatest ends) (sym keeps.ends) at.here.ends)));
        stood =
            subst (λ (n : ℕ). KeepsStood new.stood.items new.greatest (stood_at n x.stood_still_ms ∷ stood)) greatest
            (passes.stood stood
            (subst (λ (n : ℕ). KeepsStood mid.stood.items n stood) (sym keeps.greatest)
            (subst (λ (xs : List StoodStill). KeepsStood xs old.greatest stood) (sym keeps.stood) at.here.stood)));
      };
    }

-- what matters of an entry
pub told_of : (old mid new : Position) (name : List ℕ) (head : HeadValue) (r : FilesRead) (x : RecordedEntry) (begins is_verdict : Bool) (note : NoteValue)
    → IsAt old r → begins ≡ (old.begins || is_calm old.watch) → is_verdict ≡ changes_verdict name x.entry.reply
    → HoldsPast mid.known (past_with r.past x.entry.event) → new.known ≡ mid.known → note ≡ note_of (placed name head r x) r.entries
    → told_by begins is_verdict new.known.is_known note ≡ told_behind (placed name head r x) r.entries
told_of old mid new name head r x begins is_verdict note at begun verdict holds known is =
    let there : new.known.is_known ≡ is_some (past_with r.past x.entry.event) =
    ap (λ (k : Known). k.is_known) known ∙ known_is mid.known (past_with r.past x.entry.event) holds in
    let first : begins ≡ (is_some r.begun || is_calm (watch_next r.begun r.entries)) =
    begun ∙ ap (λ (b : Bool). b || is_calm old.watch) at.here.begins ∙ ap (λ (w : Watch). is_some r.begun || is_calm w) at.here.watch in
    ap (λ (b : Bool). told_by b is_verdict new.known.is_known note) first
    ∙ ap (λ (b : Bool). told_by (is_some r.begun || is_calm (watch_next r.begun r.entries)) b new.known.is_known note) verdict
    ∙ ap (λ (b : Bool). told_by (is_some r.begun || is_calm (watch_next r.begun r.entries)) (changes_verdict name x.entry.reply) b note) there
    ∙ ap (λ (n : NoteValue). told_by (is_some r.begun || is_calm (watch_next r.begun r.entries)) (changes_verdict name x.entry.reply) (is_some (past_with r.past x.entry.event)) n) is
