-- How a replayer goes through the entries of a file.
use Rattle.std.proofs.Common.{◌≡◌, ℕ, ◌+◌, List, [], ◌∷◌, ◌++◌, Option, Some, None, Ok, refl, sym, ap, subst, ◌∙◌, append_assoc, append-nil}
use Rattle.lg_fields.specs.declared.fault.FieldFault.{FieldFault}
use Rattle.lg_recording.specs.Meaning.Listing.{ListedEntries, entries_scan, listing}
use Rattle.lg_recording.specs.Meaning.Next.{recorded_in}
use Rattle.lg_recording.specs.Meaning.Values.{RecordedEntry, entries_alone}
use Rattle.lg_recording.specs.declared.recorded.Recorded.{Recorded}
use Rattle.lg_replay.specs.Meaning.Entries.{entries_text, entry_text, fault_end_text}
use Rattle.lg_replay.specs.Meaning.Lives.{Life, life_behind, life_with}
use Rattle.lg_replay.specs.Meaning.Verdicts.{verdict_on, verdicts_on}
use Rattle.lg_replay.specs.Support.Replayed.{HasCome, KeepsNotes, RanEntries, RanEntry, ReadsNext}
use Rattle.lg_replay.specs.declared.replayer.Replayer.{Replayer}
use Rattle.lg_replay.specs.declared.verdict.Verdict.{Verdict}
use Rattle.lg_replay.specs.declared.window.Window.{Window}

-- How far a replayer has come in the entries of a file, if it began with this life and these verdicts: what it still
-- has to do gives, with what it did, what all the entries give.
pub record IsAmid (now : Replayer) (text0 text : List ℕ) (window : Window) (first number : ℕ) (all left : ListedEntries) (life0 : Life) (verdicts0 : List Verdict) : Type 0 where
  pub life : Life
  pub verdicts : List Verdict
  pub come : HasCome now life verdicts
  pub lives : life_behind life (entries_alone left.entries) ≡ life_behind life0 (entries_alone all.entries)
  pub judged : verdicts ++ verdicts_on life (entries_alone left.entries) ≡ verdicts0 ++ verdicts_on life0 (entries_alone all.entries)
  pub writes : text ++ entries_text window number life (entries_alone left.entries) left.fault ≡ text0 ++ entries_text window first life0 (entries_alone all.entries) all.fault

pub record HasGone (old now : Replayer) (text0 text : List ℕ) (window : Window) (first number : ℕ) (all left : ListedEntries) : Type 0 where
  pub fault : left.fault ≡ all.fault
  pub notes : KeepsNotes old now
  pub amid : (life : Life) (verdicts : List Verdict) → HasCome old life verdicts → IsAmid now text0 text window first number all left life verdicts

pub gone_none : (r : Replayer) (text : List ℕ) (window : Window) (first : ℕ) (all : ListedEntries) → HasGone r r text text window first first all all
gone_none r text window first all = record {
  fault = refl;
  notes = record { amiss = refl; torn = refl };
  amid = λ life verdicts come. record { life = life; verdicts = verdicts; come = come; lives = refl; judged = refl; writes = refl };
}

pub gone_on : (old now next : Replayer) (text0 text longer : List ℕ) (window : Window) (first number more : ℕ) (all left rest : ListedEntries) (x : RecordedEntry)
    → HasGone old now text0 text window first number all left
    → left ≡ record { entries = x ∷ rest.entries; fault = rest.fault }
    → ((life : Life) (verdicts : List Verdict) → HasCome now life verdicts → RanEntry next text longer window number x.entry life verdicts)
    → KeepsNotes now next → more ≡ number + 1
    → HasGone old next text0 longer window first more all rest
gone_on old now next text0 text longer window first number more all left rest x gone is ran notes counted = record {
  fault = sym (ap (λ (r : ListedEntries). r.fault) is) ∙ gone.fault;
  notes = record { amiss = notes.amiss ∙ gone.notes.amiss; torn = notes.torn ∙ gone.notes.torn };
  amid = λ life0 verdicts0 come0. amid_next life0 verdicts0 (gone.amid life0 verdicts0 come0);
}
  where
    amid_next : (life0 : Life) (verdicts0 : List Verdict) → IsAmid now text0 text window first number all left life0 verdicts0
        → IsAmid next text0 longer window first more all rest life0 verdicts0
    amid_next life0 verdicts0 amid =
        let did = ran amid.life amid.verdicts amid.come in
        let behind = life_with amid.life x.entry in
        record {
          life = behind;
          verdicts = amid.verdicts ++ verdict_on amid.life x.entry ∷ [];
          come = did.come;
          lives = sym (ap (λ (r : ListedEntries). life_behind amid.life (entries_alone r.entries)) is) ∙ amid.lives;
          judged =
              append_assoc amid.verdicts (verdict_on amid.life x.entry ∷ []) (verdicts_on behind (entries_alone rest.entries))
              ∙ sym (ap (λ (r : ListedEntries). amid.verdicts ++ verdicts_on amid.life (entries_alone r.entries)) is) ∙ amid.judged;
          writes =
              ap (λ (n : ℕ). longer ++ entries_text window n behind (entries_alone rest.entries) rest.fault) counted
              ∙ ap (λ (t : List ℕ). t ++ entries_text window (number + 1) behind (entries_alone rest.entries) rest.fault) did.writes
              ∙ append_assoc text (entry_text window number amid.life x.entry) (entries_text window (number + 1) behind (entries_alone rest.entries) rest.fault)
              ∙ sym (ap (λ (r : ListedEntries). text ++ entries_text window number amid.life (entries_alone r.entries) r.fault) is)
              ∙ amid.writes;
        }

-- the entries end, with or without a fault
pub gone_all : (old now : Replayer) (text0 text longer : List ℕ) (window : Window) (first number : ℕ) (bytes : List ℕ) (left : ListedEntries) (fault : Option FieldFault)
    → HasGone old now text0 text window first number (entries_scan bytes) left → left ≡ record { entries = []; fault = fault }
    → longer ≡ text ++ fault_end_text number fault
    → (life : Life) (verdicts : List Verdict) → HasCome old life verdicts → RanEntries now text0 longer window first bytes life verdicts
gone_all old now text0 text longer window first number bytes left fault gone is wrote life0 verdicts0 come0 =
    let all = entries_scan bytes in
    let amid = gone.amid life0 verdicts0 come0 in
    let life_is : amid.life ≡ life_behind life0 (entries_alone all.entries) =
    sym (ap (λ (r : ListedEntries). life_behind amid.life (entries_alone r.entries)) is) ∙ amid.lives in
    let verdicts_are : amid.verdicts ≡ verdicts0 ++ verdicts_on life0 (entries_alone all.entries) =
    sym (append-nil amid.verdicts) ∙ sym (ap (λ (r : ListedEntries). amid.verdicts ++ verdicts_on amid.life (entries_alone r.entries)) is) ∙ amid.judged in
    record {
      come =
          subst (λ (life : Life). HasCome now life (verdicts0 ++ verdicts_on life0 (entries_alone all.entries))) life_is
          (subst (λ (verdicts : List Verdict). HasCome now amid.life verdicts) verdicts_are amid.come);
      writes = wrote ∙ sym (ap (λ (r : ListedEntries). text ++ entries_text window number amid.life (entries_alone r.entries) r.fault) is) ∙ amid.writes;
    }

pub gone_fault : (old now : Replayer) (text0 text : List ℕ) (window : Window) (first number : ℕ) (bytes : List ℕ) (left : ListedEntries) (fault : Option FieldFault)
    → HasGone old now text0 text window first number (entries_scan bytes) left → left ≡ record { entries = []; fault = fault }
    → fault ≡ (entries_scan bytes).fault
gone_fault old now text0 text window first number bytes left fault gone is = sym (ap (λ (r : ListedEntries). r.fault) is) ∙ gone.fault

-- what reading the next entry gave, by what was found in it
pub next_none : (bytes left : List ℕ) (read : Option Recorded) → read ≡ None → ReadsNext bytes left (Ok read) → entries_scan bytes ≡ listing [] None
next_none bytes left read is reads = subst (λ (r : Option Recorded). ReadsNext bytes left (Ok r)) is reads

pub next_some : (bytes left : List ℕ) (read : Option Recorded) (x : Recorded) → read ≡ Some x → ReadsNext bytes left (Ok read)
    → entries_scan bytes ≡ listing (recorded_in x ∷ (entries_scan left).entries) (entries_scan left).fault
next_some bytes left read x is reads = subst (λ (r : Option Recorded). ReadsNext bytes left (Ok r)) is reads
