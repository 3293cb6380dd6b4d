-- The files of a folder, replayed one after another.
use Rattle.std.proofs.Common.{◌≡◌, ◌≤◌, ◌<◌, ℕ, Bool, true, List, [], ◌∷◌, ◌++◌, ◌+◌, length, get_or, take, drop, Option, Result, Ok, Err, refl, sym, ap, subst, ◌∙◌, arith, add-one, append_assoc, append-nil, drop-cons}
use Rattle.std.specs.Prelude.{IfErr, map}
use Rattle.std.specs.Result.{IsErrAnd}
use Rattle.std.specs.List.{AllByRecursion}
use Rattle.std.specs.Io.KnownBytes.{Appends}
use Rattle.std.specs.declared.io.ErrorKind.TheVariants.{OutOfMemory}
use Rattle.std.proofs.KnownBytes.{Appends-nil, Appends-trans}
use Rattle.std.proofs.lemmas.List.{take-append-drop, take_more}
use Rattle.lg_text.specs.Meaning.Running.{AppendsFront}
use Rattle.lg_text.specs.declared.fault.WriteFault.{WriteFault}
use Rattle.lg_replay.specs.declared.fault.FolderFault.{FolderFault}
use Rattle.lg_replay.specs.declared.fault.FolderFault.TheVariants.{Unlisted, NoFile, Unread, TooLarge, Memory, Write}
use Rattle.lg_replay.specs.declared.folder.Replayed.{Replayed}
use Rattle.lg_replay.specs.declared.replayer.Replayer.{Replayer}
use Rattle.lg_replay.specs.declared.window.Window.{Window}
use Rattle.lg_replay.specs.Meaning.Files.{RecordingFile, file_text}
use Rattle.lg_replay.specs.Meaning.Folders.{FailsAtFile, FilesCall, IsReplayable, ReadsFiles, ReplaysListed, StopsBehind, files_read, most_file_bytes, file_number, text_before}
use Rattle.lg_replay.specs.Meaning.Folders.FilesCall.{Read}
use Rattle.lg_replay.specs.Meaning.Lives.{unknown_life}
use Rattle.lg_replay.specs.Meaning.Replays.{all_verdicts, files_text, lives_over, replay_text}
use Rattle.lg_replay.specs.Meaning.Verdicts.{counts_line}
use Rattle.lg_replay.specs.Support.Folders.{EndFails, EndsAll, GoesOnByFile, HasReplayed, IsReadWhole, ReadFails, SoFar}
use Rattle.lg_replay.specs.Support.Replayed.{IsReplayed, RanFile}
use Rattle.lg_replay.proofs.ReplayLaws.{replay_text_is, texts_more}

-- ---- an error that a `?` passes on

pub faulty : {T : Type 0} (P : FolderFault → Type 0) (told : FolderFault) (r : Result T FolderFault) → IsErrAnd r (λ y. y ≡ told) → P told → IfErr r P
faulty P told (Ok x) is holds = absurd is
faulty P told (Err y) is holds = subst P (sym is) holds

pub fault_weaker : {T : Type 0} (P Q : FolderFault → Type 0) (r : Result T FolderFault) → ((fault : FolderFault) → P fault → Q fault) → IfErr r P → IfErr r Q
fault_weaker P Q (Ok x) leads holds = tt
fault_weaker P Q (Err y) leads holds = leads y holds

-- ---- what is written

-- a text that was written, and a beginning of what follows it
front_after : (a b c : Option (List ℕ)) (text more : List ℕ) → Appends a b text → AppendsFront b c more → AppendsFront a c (text ++ more)
front_after a b c text more written partly = record {
  front = text ++ partly.front;
  rest = partly.rest;
  is = ap (λ (l : List ℕ). text ++ l) partly.is ∙ sym (append_assoc text partly.front partly.rest);
  taken = Appends-trans a b c text partly.front written partly.taken;
}

-- a beginning of a text begins a longer one
front_longer : (a b : Option (List ℕ)) (text more : List ℕ) → AppendsFront a b text → AppendsFront a b (text ++ more)
front_longer a b text more partly = record {
  front = partly.front;
  rest = partly.rest ++ more;
  is = ap (λ (l : List ℕ). l ++ more) partly.is ∙ append_assoc partly.front partly.rest more;
  taken = partly.taken;
}

-- a beginning of what is told of some files, with others behind them or none
front_before : (a b : Option (List ℕ)) (window : Window) (files : List RecordingFile) (others : List ℕ)
    → AppendsFront a b (files_text window unknown_life files) → AppendsFront a b (text_before window files others)
front_before a b window files [] partly =
    subst (λ (t : List ℕ). AppendsFront a b t) (sym (replay_text_is window files))
    (front_longer a b (files_text window unknown_life files) (counts_line (all_verdicts unknown_life files)) partly)
front_before a b window files (n ∷ ns) partly = partly

-- ---- one file more

calls_more : (xs : List RecordingFile) (x : RecordingFile) (calls : List FilesCall) → files_read (xs ++ x ∷ []) calls ≡ Read x.number x.bytes (Ok tt) ∷ files_read xs calls
calls_more [] x calls = refl
calls_more (y ∷ ys) x calls = calls_more ys x (Read y.number y.bytes (Ok tt) ∷ calls)

pub numbers_more : (xs : List RecordingFile) (x : RecordingFile) → map file_number (xs ++ x ∷ []) ≡ map file_number xs ++ x.number ∷ []
numbers_more [] x = refl
numbers_more (y ∷ ys) x = ap (λ (ns : List ℕ). y.number ∷ ns) (numbers_more ys x)

within_more : (xs : List RecordingFile) (x : RecordingFile) → AllByRecursion IsReplayable xs → IsReplayable x → AllByRecursion IsReplayable (xs ++ x ∷ [])
within_more [] x all one = (one, tt)
within_more (y ∷ ys) x all one = (all.0, within_more ys x all.1 one)

abbrev one : ℕ → List ℕ → RecordingFile
one number bytes = record { number = number; bytes = bytes }

-- the calls once a file was read behind some others
read_on : (tells : Bool) (before p0 p1 : List FilesCall) (earlier : List RecordingFile) (number : ℕ) (bytes : List ℕ)
    → (tells ≡ true → p0 ≡ files_read earlier before) → (tells ≡ true → p1 ≡ Read number bytes (Ok tt) ∷ p0)
    → tells ≡ true → p1 ≡ files_read (earlier ++ one number bytes ∷ []) before
read_on tells before p0 p1 earlier number bytes calls read told =
    read told ∙ ap (λ (cs : List FilesCall). Read number bytes (Ok tt) ∷ cs) (calls told) ∙ sym (calls_more earlier (one number bytes) before)

-- what was told, with what is told of one more
told_on : (window : Window) (earlier : List RecordingFile) (x : RecordingFile) (text longer : List ℕ) → text ≡ []
    → longer ≡ text ++ file_text window (lives_over unknown_life earlier) x
    → files_text window unknown_life earlier ++ longer ≡ files_text window unknown_life (earlier ++ x ∷ [])
told_on window earlier x text longer none wrote =
    ap (λ (t : List ℕ). files_text window unknown_life earlier ++ t) (wrote ∙ ap (λ (t : List ℕ). t ++ file_text window (lives_over unknown_life earlier) x) none)
    ∙ sym (texts_more window unknown_life earlier x)

pub went_on : (tells : Bool) (before p0 p1 : List FilesCall) (window : Window) (held h0 h1 : Option (List ℕ)) (r0 r1 : Replayer) (earlier : List RecordingFile) (number : ℕ)
    (bytes text longer : List ℕ) → text ≡ [] → SoFar tells before p0 window held h0 r0 earlier → IsReadWhole tells p0 p1 number bytes
    → ((files : List RecordingFile) → IsReplayed r0 files → RanFile r1 text longer window files (one number bytes))
    → Appends h0 h1 longer → GoesOnByFile tells before p1 window held h1 r1 earlier number
went_on tells before p0 p1 window held h0 h1 r0 r1 earlier number bytes text longer none so read ran wrote =
    let did = ran earlier so.replayed in
    record {
      bytes = bytes;
      so_far = record {
        replayed = did.replayed;
        within = within_more earlier (one number bytes) so.within read.few;
        calls = read_on tells before p0 p1 earlier number bytes so.calls read.calls;
        wrote =
            subst (λ (t : List ℕ). Appends held h1 t) (told_on window earlier (one number bytes) text longer none did.writes)
            (Appends-trans held h0 h1 (files_text window unknown_life earlier) longer so.wrote wrote);
      };
    }

-- the numbers up to one, that one, and those behind it
pub parted : (numbers : List ℕ) (i : ℕ) → i < length numbers → numbers ≡ take i numbers ++ get_or numbers i 0 ∷ drop (i + 1) numbers
parted numbers i within =
    let rest : drop i numbers ≡ get_or numbers i 0 ∷ drop (i + 1) numbers = rw add-one (drop-cons numbers i 0 within) in
    sym (take-append-drop i numbers) ∙ ap (λ (ns : List ℕ). take i numbers ++ ns) rest

pub gone_on : (tells : Bool) (before p1 : List FilesCall) (window : Window) (held h1 : Option (List ℕ)) (r1 : Replayer) (numbers : List ℕ) (i : ℕ) (earlier : List RecordingFile)
    → i < length numbers → map file_number earlier ≡ take i numbers → GoesOnByFile tells before p1 window held h1 r1 earlier (get_or numbers i 0)
    → HasReplayed tells before p1 (take (i + 1) numbers) window held h1 r1
gone_on tells before p1 window held h1 r1 numbers i earlier within are on = record {
  files = earlier ++ one (get_or numbers i 0) on.bytes ∷ [];
  are =
      numbers_more earlier (one (get_or numbers i 0) on.bytes)
      ∙ ap (λ (ns : List ℕ). ns ++ get_or numbers i 0 ∷ []) are
      ∙ sym (take_more numbers i 0 within);
  so_far = on.so_far;
}

-- ---- a fault at a file

stops : (tells : Bool) (before p0 p1 : List FilesCall) (numbers : List ℕ) (window : Window) (held h : Option (List ℕ)) (r : Replayer) (earlier : List RecordingFile) (others : List ℕ) (last : FilesCall)
    → SoFar tells before p0 window held h r earlier → numbers ≡ map file_number earlier ++ others
    → (tells ≡ true → p1 ≡ last ∷ p0) → StopsBehind tells before p1 numbers window held h earlier others (last ∷ [])
stops tells before p0 p1 numbers window held h r earlier others last so are call = record {
  reads = record {
    are = are;
    within = so.within;
    calls = λ told. call told ∙ ap (λ (cs : List FilesCall). last ∷ cs) (so.calls told);
  };
  wrote = so.wrote;
}

pub read_failed : (tells : Bool) (before p0 p1 : List FilesCall) (numbers : List ℕ) (window : Window) (held h : Option (List ℕ)) (r : Replayer) (earlier : List RecordingFile) (number : ℕ)
    (others : List ℕ) (fault : FolderFault) → ReadFails tells p0 p1 number fault → SoFar tells before p0 window held h r earlier
    → numbers ≡ map file_number earlier ++ number ∷ others → FailsAtFile tells before p1 numbers window held h fault
read_failed tells before p0 p1 numbers window held h r earlier number others (Unlisted kind) fails so are = absurd fails
read_failed tells before p0 p1 numbers window held h r earlier number others NoFile fails so are = absurd fails
read_failed tells before p0 p1 numbers window held h r earlier number others (Unread other kind) fails so are =
    subst (λ (n : ℕ). FailsAtFile tells before p1 numbers window held h (Unread n kind)) (sym fails.1)
    (earlier, others, fails.0, stops tells before p0 p1 numbers window held h r earlier (number ∷ others) (Read number fails.0 (Err kind)) so are fails.2)
read_failed tells before p0 p1 numbers window held h r earlier number others (TooLarge other) fails so are =
    subst (λ (n : ℕ). FailsAtFile tells before p1 numbers window held h (TooLarge n)) (sym fails.1)
    (earlier, others, fails.0, stops tells before p0 p1 numbers window held h r earlier (number ∷ others) (Read number fails.0 (Ok tt)) so are fails.2, fails.3)
read_failed tells before p0 p1 numbers window held h r earlier number others Memory fails so are =
    (earlier, number ∷ others, Read number fails.0 (Err OutOfMemory) ∷ [], stops tells before p0 p1 numbers window held h r earlier (number ∷ others) (Read number fails.0 (Err OutOfMemory)) so are fails.1, omega arith)
read_failed tells before p0 p1 numbers window held h r earlier number others (Write fault) fails so are = absurd fails

-- memory was refused while a file was replayed
pub replay_refused : (tells : Bool) (before p0 p1 : List FilesCall) (numbers : List ℕ) (window : Window) (held h : Option (List ℕ)) (r : Replayer) (earlier : List RecordingFile) (number : ℕ)
    (others bytes : List ℕ) → IsReadWhole tells p0 p1 number bytes → SoFar tells before p0 window held h r earlier
    → numbers ≡ map file_number earlier ++ number ∷ others → FailsAtFile tells before p1 numbers window held h Memory
replay_refused tells before p0 p1 numbers window held h r earlier number others bytes read so are =
    (earlier, number ∷ others, Read number bytes (Ok tt) ∷ [], stops tells before p0 p1 numbers window held h r earlier (number ∷ others) (Read number bytes (Ok tt)) so are read.calls, omega arith)

-- what is told of a file couldn't be written
pub write_failed : (tells : Bool) (before p0 p1 : List FilesCall) (numbers : List ℕ) (window : Window) (held h0 h1 : Option (List ℕ)) (r0 r1 : Replayer) (earlier : List RecordingFile) (number : ℕ)
    (others bytes text longer : List ℕ) (fault : WriteFault) → text ≡ [] → IsReadWhole tells p0 p1 number bytes → SoFar tells before p0 window held h0 r0 earlier
    → ((files : List RecordingFile) → IsReplayed r0 files → RanFile r1 text longer window files (one number bytes))
    → AppendsFront h0 h1 longer → numbers ≡ map file_number earlier ++ number ∷ others → FailsAtFile tells before p1 numbers window held h1 (Write fault)
write_failed tells before p0 p1 numbers window held h0 h1 r0 r1 earlier number others bytes text longer fault none read so ran partly are =
    let x = one number bytes in
    let did = ran earlier so.replayed in
    let all : numbers ≡ map file_number (earlier ++ x ∷ []) ++ others =
    are ∙ sym (append_assoc (map file_number earlier) (number ∷ []) others) ∙ ap (λ (ns : List ℕ). ns ++ others) (sym (numbers_more earlier x)) in
    let reads : ReadsFiles tells before p1 numbers (earlier ++ x ∷ []) others [] =
    record { are = all; within = within_more earlier x so.within read.few; calls = read_on tells before p0 p1 earlier number bytes so.calls read.calls } in
    let front : AppendsFront held h1 (files_text window unknown_life (earlier ++ x ∷ [])) =
    subst (λ (t : List ℕ). AppendsFront held h1 t) (told_on window earlier x text longer none did.writes)
    (front_after held h0 h1 (files_text window unknown_life earlier) longer so.wrote partly) in
    (earlier ++ x ∷ [], others, reads, front_before held h1 window (earlier ++ x ∷ []) others front)

-- memory was refused before the first file
pub unbegun : (tells : Bool) (before : List FilesCall) (numbers : List ℕ) (window : Window) (held : Option (List ℕ)) → FailsAtFile tells before before numbers window held held Memory
unbegun tells before numbers window held =
    let reads : ReadsFiles tells before before numbers [] numbers [] = record { are = refl; within = tt; calls = λ told. refl } in
    ([], numbers, [], record { reads = reads; wrote = Appends-nil held }, omega arith)

-- ---- the end

gone_reads : (tells : Bool) (before p : List FilesCall) (numbers : List ℕ) (window : Window) (held h : Option (List ℕ)) (r : Replayer)
    → (gone : HasReplayed tells before p numbers window held h r) → ReadsFiles tells before p numbers gone.files [] []
gone_reads tells before p numbers window held h r gone = record {
  are = sym gone.are ∙ sym (append-nil (map file_number gone.files));
  within = gone.so_far.within;
  calls = gone.so_far.calls;
}

pub ended : (tells : Bool) (before p : List FilesCall) (numbers : List ℕ) (window : Window) (held h0 h1 : Option (List ℕ)) (r : Replayer) (done : Replayed)
    → HasReplayed tells before p numbers window held h0 r → ((files : List RecordingFile) → IsReplayed r files → EndsAll h0 h1 files done)
    → ReplaysListed tells before p numbers window held h1 done
ended tells before p numbers window held h0 h1 r done gone ends =
    let all = ends gone.files gone.so_far.replayed in
    record {
      files = gone.files;
      reads = gone_reads tells before p numbers window held h0 r gone;
      wrote =
          subst (λ (t : List ℕ). Appends held h1 t) (sym (replay_text_is window gone.files))
          (Appends-trans held h0 h1 (files_text window unknown_life gone.files) (counts_line (all_verdicts unknown_life gone.files)) gone.so_far.wrote all.wrote);
      ended = all.ended;
      counted = all.counted;
    }

pub end_failed : (tells : Bool) (before p : List FilesCall) (numbers : List ℕ) (window : Window) (held h0 h1 : Option (List ℕ)) (r : Replayer) (fault : FolderFault)
    → HasReplayed tells before p numbers window held h0 r → ((files : List RecordingFile) → IsReplayed r files → EndFails h0 h1 files fault)
    → FailsAtFile tells before p numbers window held h1 fault
end_failed tells before p numbers window held h0 h1 r (Unlisted kind) gone fails = absurd (fails gone.files gone.so_far.replayed)
end_failed tells before p numbers window held h0 h1 r NoFile gone fails = absurd (fails gone.files gone.so_far.replayed)
end_failed tells before p numbers window held h0 h1 r (Unread number kind) gone fails = absurd (fails gone.files gone.so_far.replayed)
end_failed tells before p numbers window held h0 h1 r (TooLarge number) gone fails = absurd (fails gone.files gone.so_far.replayed)
end_failed tells before p numbers window held h0 h1 r Memory gone fails =
    let wrote : Appends held h1 (files_text window unknown_life gone.files) =
    subst (λ (h : Option (List ℕ)). Appends held h (files_text window unknown_life gone.files)) (sym (fails gone.files gone.so_far.replayed)) gone.so_far.wrote in
    (gone.files, [], [], record { reads = gone_reads tells before p numbers window held h0 r gone; wrote = wrote }, omega arith)
end_failed tells before p numbers window held h0 h1 r (Write fault) gone fails =
    let front : AppendsFront held h1 (replay_text window gone.files) =
    subst (λ (t : List ℕ). AppendsFront held h1 t) (sym (replay_text_is window gone.files))
    (front_after held h0 h1 (files_text window unknown_life gone.files) (counts_line (all_verdicts unknown_life gone.files)) gone.so_far.wrote (fails gone.files gone.so_far.replayed)) in
    (gone.files, [], gone_reads tells before p numbers window held h0 r gone, front)
