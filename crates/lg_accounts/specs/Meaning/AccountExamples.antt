-- A worked account: how c failed, as it is told of a recording. And accounts of one that was suspected and one that
-- left.
use Rattle.std.specs.Prelude.{⊤, ◌≡◌, ℕ, true, false, List, [], ◌∷◌, ◌++◌, Option, Some, None, codes, refl}
use Rattle.std.specs.List.{flat_map}
use Rattle.lg_rules.specs.declared.claim.Status.TheVariants.{Alive, Suspect, Failed, Left}
use Rattle.lg_accounts.specs.declared.step.NoteStep.{NoteStep}
use Rattle.lg_accounts.specs.declared.step.NoteStep.TheVariants.{Pinged, Nacked, RoundEnded, Scored}
use Rattle.lg_accounts.specs.declared.step.NoteStep.TheVariants.{Told, TimeOver, Changed, Suspected, Minute}
use Rattle.lg_accounts.specs.Meaning.Accounts.{account_text, fate_front, note_line, text_of_accounts, verdict_heading}
use Rattle.lg_accounts.specs.Meaning.DateExamples.{by_dating}
use Rattle.lg_accounts.specs.Meaning.SentenceExamples.{at, by_telling, c_is, named, unanswered}
use Rattle.lg_accounts.specs.Meaning.Values.{NoteValue}
use Rattle.lg_accounts.specs.Meaning.Verdicts.{first_verdict_of, verdict_of}
use Rattle.lg_text.specs.Meaning.Lines.{newline}

-- what the rows have to unfold
unfoldable pub by_accounting : ⊤
unfolding account_text fate_front first_verdict_of note_line verdict_heading verdict_of
by_accounting = tt

abbrev lines : List (List ℕ) → List ℕ
lines texts = flat_map (λ line. line ++ newline) texts

-- an entry: its number, its moment, the wall time of that, who told it, and what it tells
abbrev pub noted : ℕ → ℕ → ℕ → Option (List ℕ) → List NoteStep → NoteValue
noted entry moment wall teller steps =
    record { entry = entry; moment = moment; wall_ms = wall; teller = teller; steps = steps }

-- c was pinged and didn't answer, a had no Ack of it, c was suspected, d suspected it too, and the time was over
abbrev pub how_c_failed : List NoteValue
how_c_failed =
    noted 57 1020 1795749158000 None (Pinged 7 (at 7103) ∷ [])
    ∷ noted 58 1520 1795749158500 None (unanswered (named (codes "a") 7101 ∷ named (codes "d") 7104 ∷ []) ∷ [])
    ∷ noted 60 1905 1795749158885 (Some (codes "a")) (Nacked (codes "a") ∷ [])
    ∷ noted 61 2020 1795749159000 None
    (RoundEnded true ∷ Scored 0 2 ∷ Changed (c_is (Suspect (codes "b")) 0) ∷ Suspected 5 0 3 20904 ∷ Minute 0 0 0
    ∷ [])
    ∷ noted 66 2940 1795749159920 (Some (codes "d"))
    (Told (c_is (Suspect (codes "d")) 0) ∷ Suspected 5 1 3 12194 ∷ [])
    ∷ noted 90 7020 1795749164000 None (TimeOver ∷ Changed (c_is Failed 0) ∷ [])
    ∷ []

failed : text_of_accounts (codes "c") false (record { notes = how_c_failed; is_known = true } ∷ [])
    ≡ lines (codes "c failed at 7020 ms (2026-11-27 03:12:44), here."
    ∷ codes "  1020  We pinged it (probe 7, at 127.0.0.1:7103)."
    ∷ codes "  1520  No Ack came within 500 ms. We asked a and d to ping it."
    ∷ codes "  1905  a sent a Nack: no Ack of it had come."
    ∷ (codes "  2020  The round ended without an Ack. Our health score rose from 0 to 2. "
    ++ codes "We suspected it at incarnation 0. We knew 5 live members. "
    ++ codes "After 0 of 3 confirmations the timeout was 20904 ms. "
    ++ codes "In the minute before, 0 of our rounds ended, 0 of them with a suspicion, "
    ++ codes "and our clock stood still for 0 ms.")
    ∷ (codes "  2940  d told us that d suspects it at incarnation 0. We knew 5 live members. "
    ++ codes "After 1 of 3 confirmations the timeout was 12194 ms.")
    ∷ codes "  7020  The time was over, and no refutation had come. We took it as failed."
    ∷ [])
unfolding by_accounting by_dating by_telling
failed = refl

-- c told that it leaves; some of the past is missing, and the numbers of entries are shown
abbrev pub how_c_left : NoteValue
how_c_left = noted 4 30 86399000 (Some (codes "c")) (Told (c_is Left 2) ∷ Changed (c_is Left 2) ∷ [])

left : text_of_accounts (codes "c") true (record { notes = how_c_left ∷ []; is_known = false } ∷ [])
    ≡ lines (codes "c left at 30 ms (1970-01-01 23:59:59), as c told."
    ∷ codes "  30 [4]  c told us that it left at incarnation 2. We took it as left."
    ∷ codes "  Some of the past is missing, so scores and timeouts may not be told."
    ∷ [])
unfolding by_accounting by_dating by_telling
left = refl

-- c was suspected and refuted that, so that its last verdict is the suspicion
suspected : text_of_accounts (codes "c") false
    (record {
      notes = noted 1 10 0 None (Changed (c_is (Suspect (codes "b")) 0) ∷ [])
          ∷ noted 2 20 10 None (Changed (c_is Alive 1) ∷ []) ∷ [];
      is_known = true;
    } ∷ [])
    ≡ lines (codes "c was suspected at 10 ms (1970-01-01 00:00:00), here."
    ∷ codes "  10  We suspected it at incarnation 0."
    ∷ codes "  20  We took it as alive at incarnation 1."
    ∷ [])
unfolding by_accounting by_dating by_telling
suspected = refl

none : text_of_accounts (codes "c") false [] ≡ codes "c has not been suspected, and has neither failed nor left.\n"
none = refl

-- the first verdict is the suspicion by the node itself, and the last is that c failed
first_of_two : first_verdict_of (record { notes = how_c_failed; is_known = true })
    ≡ Some record {
      moment = 2020;
      wall_ms = 1795749159000;
      teller = None;
      record_after = c_is (Suspect (codes "b")) 0;
    }
unfolding by_accounting
first_of_two = refl

last_of_two : verdict_of (record { notes = how_c_failed; is_known = true })
    ≡ Some record { moment = 7020; wall_ms = 1795749164000; teller = None; record_after = c_is Failed 0 }
unfolding by_accounting
last_of_two = refl

-- an account without a verdict, which isn't told, has the name alone for its heading
without_verdict : text_of_accounts (codes "c") false (record { notes = []; is_known = true } ∷ []) ≡ codes "c\n"
unfolding by_accounting
without_verdict = refl
