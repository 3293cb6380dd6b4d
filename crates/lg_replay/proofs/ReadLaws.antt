-- How a replayer reads the entries and the head of a file.
use Rattle.std.proofs.Common.{◌≡◌, ℕ, suc, ◌<◌, Bool, ◌&&◌, ◌||◌, not, List, [], ◌∷◌, ◌++◌, get_or, Option, Some, None, Result, Ok, Err, ap, subst, ◌∙◌, append_assoc}
use Rattle.std.specs.Prelude.{◌==◌}
use Rattle.std.specs.List.{AllByRecursion}
use Rattle.lg_packet.specs.Meaning.Bytes.{IsByte}
use Rattle.lg_fields.specs.declared.fault.FieldFault.{FieldFault}
use Rattle.lg_detector.specs.declared.event.Event.{Event}
use Rattle.lg_heads.specs.declared.fault.HeadFault.{HeadFault}
use Rattle.lg_heads.specs.declared.fault.HeadFault.TheVariants.{Field}
use Rattle.lg_heads.specs.declared.head.Head.{Head}
use Rattle.lg_heads.specs.Meaning.Heads.{HeadValue, head_value}
use Rattle.lg_heads.specs.Support.Reads.{Reads}
use Rattle.lg_recording.specs.Meaning.Listing.{entries_scan, listing}
use Rattle.lg_recording.specs.Meaning.Next.{GivesNext, recorded_in}
use Rattle.lg_recording.specs.Meaning.Values.{entries_alone}
use Rattle.lg_recording.specs.declared.recorded.Recorded.{Recorded}
use Rattle.lg_recording.proofs.Steps.{last_step, no_step, one_step}
use Rattle.lg_replay.specs.declared.known.Known.{Known}
use Rattle.lg_replay.specs.declared.replayer.Replayer.{Replayer}
use Rattle.lg_replay.specs.declared.verdict.Verdict.{Verdict}
use Rattle.lg_replay.specs.declared.window.Window.{Window}
use Rattle.lg_replay.specs.Meaning.Entries.{entries_text}
use Rattle.lg_replay.specs.Meaning.Files.{gap_text, head_line}
use Rattle.lg_replay.specs.Meaning.Lives.{Life, life_from}
use Rattle.lg_replay.specs.Meaning.Replays.{breaks_off, is_broken}
use Rattle.lg_replay.specs.Support.Known.{HoldsPast, IsKnown, unknown_text}
use Rattle.lg_replay.specs.Support.Replayed.{HasCome, KeepsNotes, Noted, RanEntries, RanRead}

-- ---- the next entry

pub all_bytes : (bytes : List ℕ) → ((i : ℕ) → get_or bytes i 0 < 256) → AllByRecursion IsByte bytes
all_bytes [] fits = tt
all_bytes (b ∷ bs) fits = (fits 0, all_bytes bs (λ i. fits (suc i)))

pub none_read : (bytes left : List ℕ) → GivesNext bytes left None → entries_scan bytes ≡ listing [] None
none_read bytes left gives = ap entries_scan gives.0 ∙ no_step

pub one_read : (bytes left : List ℕ) (read : Result Recorded FieldFault) (x : Recorded) → AllByRecursion IsByte bytes → read ≡ Ok x → GivesNext bytes left (Some read)
    → entries_scan bytes ≡ listing (recorded_in x ∷ (entries_scan left).entries) (entries_scan left).fault
one_read bytes left read x fit is gives =
    let given = subst (λ (r : Result Recorded FieldFault). GivesNext bytes left (Some r)) is gives in
    one_step bytes left (recorded_in x) fit given.1

pub fault_read : (bytes left : List ℕ) (read : Result Recorded FieldFault) (fault : FieldFault) → read ≡ Err fault → GivesNext bytes left (Some read)
    → entries_scan bytes ≡ listing [] (Some fault)
fault_read bytes left read fault is gives =
    let given = subst (λ (r : Result Recorded FieldFault). GivesNext bytes left (Some r)) is gives in
    last_step bytes fault given.0 given.1

-- ---- a file

-- the fault of a head, by what was found in it
pub head_faulty : (scanned : Result (HeadValue × List ℕ) FieldFault) (told : HeadFault) (fault : FieldFault) (rest : List ℕ) → told ≡ Field fault
    → Reads (λ (x : Head). (head_value x, rest)) (Err told) scanned → scanned ≡ Err fault
head_faulty scanned told fault rest is reads = subst (λ (f : HeadFault). Reads (λ (x : Head). (head_value x, rest)) (Err f) scanned) is reads

gap_is : (k : Known) (past : Option (List Event)) (first : ℕ) → HoldsPast k past → unknown_text first k.is_known ≡ gap_text first past
gap_is k None first holds = ap (λ (b : Bool). unknown_text first b) holds
gap_is k (Some f) first holds = ap (λ (b : Bool). unknown_text first b) holds.known

joined : (text a b c : List ℕ) → ((text ++ a) ++ b) ++ c ≡ text ++ ((a ++ b) ++ c)
joined text a b c = simp append_assoc

pub read_went : (old now new : Replayer) (k : Known) (text t1 t2 longer : List ℕ) (window : Window) (number : ℕ) (head : HeadValue) (bytes : List ℕ) (fault : Option FieldFault)
    → t1 ≡ text ++ head_line number head
    → ((life : Life) → IsKnown old.known life → IsKnown k (life_from head.first life))
    → t2 ≡ t1 ++ unknown_text head.first k.is_known
    → ((life : Life) (verdicts : List Verdict) → HasCome (record old { known = k }) life verdicts → RanEntries now t2 longer window head.first bytes life verdicts)
    → fault ≡ (entries_scan bytes).fault
    → KeepsNotes (record old { known = k }) now
    → Noted now new (head.first == 0) fault
    → ((life : Life) (verdicts : List Verdict) → HasCome now life verdicts → HasCome new life verdicts)
    → RanRead old new text longer window number (record { head = head; entries = (entries_scan bytes).entries; fault = (entries_scan bytes).fault })
read_went old now new k text t1 t2 longer window number head bytes fault line enters gap runs found keeps noted stays = record {
  come = λ life verdicts come.
      let from = life_from head.first life in
      stays _ _ (runs from verdicts (record { known = enters life come.known; counts = come.counts })).come;
  writes = λ life verdicts come.
      let from = life_from head.first life in
      let known = enters life come.known in
      let all = entries_text window head.first from (entries_alone (entries_scan bytes).entries) (entries_scan bytes).fault in
      let here = gap_text head.first from.past in
      (runs from verdicts (record { known = known; counts = come.counts })).writes
      ∙ ap (λ (t : List ℕ). t ++ all) (gap ∙ ap (λ (g : List ℕ). t1 ++ g) (gap_is k from.past head.first known.past) ∙ ap (λ (t : List ℕ). t ++ here) line)
      ∙ joined text (head_line number head) here all;
  noted = record {
    amiss =
        noted.amiss
        ∙ ap (λ (f : Option FieldFault). (now.is_amiss || (now.is_torn && not (head.first == 0))) || is_broken f) found
        ∙ ap (λ (b : Bool). (b || (now.is_torn && not (head.first == 0))) || is_broken (entries_scan bytes).fault) keeps.amiss
        ∙ ap (λ (b : Bool). (old.is_amiss || (b && not (head.first == 0))) || is_broken (entries_scan bytes).fault) keeps.torn;
    torn = noted.torn ∙ ap breaks_off found;
  };
}
