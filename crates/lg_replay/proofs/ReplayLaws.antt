-- How a replayer goes on by a file, and how a replay ends.
use Rattle.std.proofs.Common.{◌≡◌, ℕ, Bool, true, false, ◌&&◌, ◌||◌, not, List, [], ◌∷◌, ◌++◌, Some, Result, Ok, Err, refl, sym, ap, subst, ◌∙◌, append_assoc, append-nil}
use Rattle.lg_fields.specs.declared.fault.FieldFault.{FieldFault}
use Rattle.lg_replay.specs.Meaning.Files.{FileRead, RecordingFile, file_text, file_verdicts, headless_line, life_over, life_over_read, read_of, read_text, verdicts_of_read}
use Rattle.lg_replay.specs.Meaning.Lives.{Life, unknown_life}
use Rattle.lg_replay.specs.Meaning.Replays.{all_verdicts, any_amiss, begins_by, breaks_off, fault_of_read, files_text, is_amiss, is_broken, lives_over, replay_text}
use Rattle.lg_replay.specs.Meaning.Verdicts.{counts_line}
use Rattle.lg_replay.specs.Support.Replayed.{HasCome, IsReplayed, Noted, RanFile, RanRead, ends_torn}
use Rattle.lg_replay.specs.declared.replayer.Replayer.{Replayer}
use Rattle.lg_replay.specs.declared.verdict.Verdict.{Verdict}
use Rattle.lg_replay.specs.declared.window.Window.{Window}

-- ---- one file more

pub lives_more : (life : Life) (files : List RecordingFile) (x : RecordingFile) → lives_over life (files ++ x ∷ []) ≡ life_over (lives_over life files) x
lives_more life [] x = refl
lives_more life (y ∷ ys) x = lives_more (life_over life y) ys x

pub verdicts_more : (life : Life) (files : List RecordingFile) (x : RecordingFile)
    → all_verdicts life (files ++ x ∷ []) ≡ all_verdicts life files ++ file_verdicts (lives_over life files) x
verdicts_more life [] x = append-nil (file_verdicts life x)
verdicts_more life (y ∷ ys) x =
    ap (λ (vs : List Verdict). file_verdicts life y ++ vs) (verdicts_more (life_over life y) ys x)
    ∙ sym (append_assoc (file_verdicts life y) (all_verdicts (life_over life y) ys) (file_verdicts (lives_over (life_over life y) ys) x))

pub texts_more : (window : Window) (life : Life) (files : List RecordingFile) (x : RecordingFile)
    → files_text window life (files ++ x ∷ []) ≡ files_text window life files ++ file_text window (lives_over life files) x
texts_more window life [] x = append-nil (file_text window life x)
texts_more window life (y ∷ ys) x =
    ap (λ (t : List ℕ). file_text window life y ++ t) (texts_more window (life_over life y) ys x)
    ∙ sym (append_assoc (file_text window life y) (files_text window (life_over life y) ys) (file_text window (lives_over (life_over life y) ys) x))

pub torn_more : (files : List RecordingFile) (x : RecordingFile) → ends_torn (files ++ x ∷ []) ≡ breaks_off (fault_of_read (read_of x))
torn_more [] x = refl
torn_more (y ∷ []) x = refl
torn_more (y ∷ z ∷ zs) x = torn_more (z ∷ zs) x

-- what a file that is amiss adds once another is behind it
only : (b short begins last : Bool) → ((b || (short && not begins)) || ((last) || false)) ≡ (((b || (short && false)) || false) || (short && not begins) || last)
only true short begins last = refl
only false true begins last = either (not begins) last
  where
    either : (b l : Bool) → (b || (l || false)) ≡ ((b) || l)
    either true l = refl
    either false true = refl
    either false false = refl
only false false begins true = refl
only false false begins false = refl

or_more : (a b c d : Bool) → (a || ((b || c) || d)) ≡ (((a || b) || c) || d)
or_more true b c d = refl
or_more false b c d = refl

last_fine : (b short : Bool) → (b || (short && false)) ≡ b
last_fine true short = refl
last_fine false true = refl
last_fine false false = refl

pub amiss_more : (files : List RecordingFile) (x : RecordingFile)
    → any_amiss (files ++ x ∷ []) ≡ ((any_amiss files || (ends_torn files && not (begins_by (read_of x)))) || is_broken (fault_of_read (read_of x)))
amiss_more [] x =
    let fault = fault_of_read (read_of x) in
    or_false (is_amiss fault []) ∙ last_fine (is_broken fault) (breaks_off fault)
  where
    or_false : (b : Bool) → (b || false) ≡ b
    or_false true = refl
    or_false false = refl
amiss_more (y ∷ []) x =
    let last = fault_of_read (read_of x) in
    let fault = fault_of_read (read_of y) in
    ap (λ (b : Bool). (is_broken fault || (breaks_off fault && not (begins_by (read_of x)))) || (b || false)) (last_fine (is_broken last) (breaks_off last))
    ∙ only (is_broken fault) (breaks_off fault) (begins_by (read_of x)) (is_broken last)
amiss_more (y ∷ z ∷ zs) x =
    ap (λ (b : Bool). is_amiss (fault_of_read (read_of y)) (z ∷ zs) || b) (amiss_more (z ∷ zs) x)
    ∙ or_more (is_amiss (fault_of_read (read_of y)) (z ∷ zs)) (any_amiss (z ∷ zs)) (ends_torn (z ∷ zs) && not (begins_by (read_of x))) (is_broken (fault_of_read (read_of x)))

-- a replayer behind some files, once it went through one more
ran_more : (old new : Replayer) (files : List RecordingFile) (x : RecordingFile) → IsReplayed old files
    → HasCome new (life_over (lives_over unknown_life files) x) (all_verdicts unknown_life files ++ file_verdicts (lives_over unknown_life files) x)
    → Noted old new (begins_by (read_of x)) (fault_of_read (read_of x)) → IsReplayed new (files ++ x ∷ [])
ran_more old new files x is come noted = record {
  come =
      subst (λ (life : Life). HasCome new life (all_verdicts unknown_life (files ++ x ∷ []))) (sym (lives_more unknown_life files x))
      (subst (λ (vs : List Verdict). HasCome new (life_over (lives_over unknown_life files) x) vs) (sym (verdicts_more unknown_life files x)) come);
  amiss =
      noted.amiss
      ∙ ap (λ (b : Bool). (b || (old.is_torn && not (begins_by (read_of x)))) || is_broken (fault_of_read (read_of x))) is.amiss
      ∙ ap (λ (b : Bool). (any_amiss files || (b && not (begins_by (read_of x)))) || is_broken (fault_of_read (read_of x))) is.torn
      ∙ sym (amiss_more files x);
  torn = noted.torn ∙ sym (torn_more files x);
}

pub read_ran : (old new : Replayer) (text longer : List ℕ) (window : Window) (x : RecordingFile) (read : FileRead) → read_of x ≡ Ok read
    → RanRead old new text longer window x.number read
    → (files : List RecordingFile) → IsReplayed old files → RanFile new text longer window files x
read_ran old new text longer window x read is ran files replayed =
    let life = lives_over unknown_life files in
    let verdicts = all_verdicts unknown_life files in
    record {
      replayed =
          ran_more old new files x replayed
          (subst (λ (r : Result FileRead FieldFault). HasCome new (life_over_read life r) (verdicts ++ verdicts_of_read life r)) (sym is) (ran.come life verdicts replayed.come))
          (subst (λ (r : Result FileRead FieldFault). Noted old new (begins_by r) (fault_of_read r)) (sym is) ran.noted);
      writes = ran.writes life verdicts replayed.come ∙ ap (λ (r : Result FileRead FieldFault). text ++ read_text window x.number life r) (sym is);
    }

pub headless_ran : (old new : Replayer) (text longer : List ℕ) (window : Window) (x : RecordingFile) (fault : FieldFault) → read_of x ≡ Err fault
    → longer ≡ text ++ headless_line x.number fault → Noted old new false (Some fault)
    → ((life : Life) (verdicts : List Verdict) → HasCome old life verdicts → HasCome new life verdicts)
    → (files : List RecordingFile) → IsReplayed old files → RanFile new text longer window files x
headless_ran old new text longer window x fault is wrote noted stays files replayed =
    let life = lives_over unknown_life files in
    let verdicts = all_verdicts unknown_life files in
    record {
      replayed =
          ran_more old new files x replayed
          (subst (λ (r : Result FileRead FieldFault). HasCome new (life_over_read life r) (verdicts ++ verdicts_of_read life r)) (sym is)
          (subst (λ (vs : List Verdict). HasCome new life vs) (sym (append-nil verdicts)) (stays life verdicts replayed.come)))
          (subst (λ (r : Result FileRead FieldFault). Noted old new (begins_by r) (fault_of_read r)) (sym is) noted);
      writes = wrote ∙ ap (λ (r : Result FileRead FieldFault). text ++ read_text window x.number life r) (sym is);
    }

-- ---- all files

pub replay_text_is : (window : Window) (files : List RecordingFile) → replay_text window files ≡ files_text window unknown_life files ++ counts_line (all_verdicts unknown_life files)
unfolding replay_text
replay_text_is window files = refl
