-- Worked sentences.
use Rattle.std.specs.Prelude.{⊤, ◌≡◌, ℕ, true, false, List, [], ◌∷◌, Some, None, codes, refl}
use Rattle.std.specs.Fmt.{digits}
use Rattle.lg_rules.specs.declared.addr.Addr.{Addr}
use Rattle.lg_rules.specs.declared.addr.Ip.TheVariants.{V4}
use Rattle.lg_rules.specs.declared.claim.Claim.{Claim}
use Rattle.lg_rules.specs.declared.claim.Status.{Status}
use Rattle.lg_rules.specs.declared.claim.Status.TheVariants.{Alive, Suspect, Failed, Left}
use Rattle.lg_accounts.specs.declared.step.Helper.{Helper}
use Rattle.lg_accounts.specs.declared.step.NoteStep.{NoteStep}
use Rattle.lg_accounts.specs.declared.step.NoteStep.TheVariants.{Pinged, Unanswered, Acked, RoundEnded, Scored}
use Rattle.lg_accounts.specs.declared.step.NoteStep.TheVariants.{Told, Changed}
use Rattle.lg_accounts.specs.Meaning.Sentences.{acked_text, asked_text, at_incarnation, live_text, nacked_text}
use Rattle.lg_accounts.specs.Meaning.Sentences.{pinged_text, rounds_text, scored_text, sentence_text, sentences_text}
use Rattle.lg_accounts.specs.Meaning.Sentences.{stood_text, timeout_text, told_alive, told_gone, told_suspect}
use Rattle.lg_accounts.specs.Meaning.Sentences.{unanswered_text}

-- what the rows have to unfold
unfoldable pub by_telling : ⊤
unfolding digits acked_text asked_text at_incarnation live_text nacked_text pinged_text rounds_text scored_text
    stood_text timeout_text told_alive told_gone told_suspect unanswered_text
by_telling = tt

abbrev pub at : ℕ → Addr
at port = record { ip = V4 (127 ∷ 0 ∷ 0 ∷ 1 ∷ []); port = port }

-- the record of c, at 127.0.0.1:7103
abbrev pub c_is : Status → ℕ → Claim
c_is status incarnation =
    record { name = codes "c"; addr = at 7103; status = status; incarnation = incarnation }

-- a helper that has a name, and one that has none
abbrev pub named : List ℕ → ℕ → Helper
named name port = record { addr = at port; name = Some name }

abbrev pub nameless : ℕ → Helper
nameless port = record { addr = at port; name = None }

-- helpers were asked, because no Ack came within 500 milliseconds
abbrev pub unanswered : List Helper → NoteStep
unanswered helpers = Unanswered 500 record { items = helpers }

began : sentence_text None (Pinged 7 (at 7103)) ≡ codes "We pinged it (probe 7, at 127.0.0.1:7103)."
unfolding by_telling
began = refl

asked_nobody : sentence_text None (unanswered []) ≡ codes "No Ack came within 500 ms. There was nobody to ask."
unfolding by_telling
asked_nobody = refl

asked_one : sentence_text None (unanswered (named (codes "a") 7101 ∷ []))
    ≡ codes "No Ack came within 500 ms. We asked a to ping it."
unfolding by_telling
asked_one = refl

asked_two : sentence_text None (unanswered (named (codes "a") 7101 ∷ named (codes "d") 7104 ∷ []))
    ≡ codes "No Ack came within 500 ms. We asked a and d to ping it."
unfolding by_telling
asked_two = refl

asked_three : sentence_text None (unanswered (named (codes "a") 7101 ∷ nameless 7102 ∷ named (codes "d") 7104 ∷ []))
    ≡ codes "No Ack came within 500 ms. We asked a, 127.0.0.1:7102 and d to ping it."
unfolding by_telling
asked_three = refl

answered : sentences_text (Some (codes "c")) (Acked (codes "c") ∷ []) ≡ codes "c sent an Ack."
unfolding by_telling
answered = refl

ended_well : sentences_text None (RoundEnded false ∷ Scored 2 1 ∷ [])
    ≡ codes "The round ended. Our health score fell from 2 to 1."
unfolding by_telling
ended_well = refl

ended_badly : sentences_text None (RoundEnded true ∷ Scored 0 2 ∷ [])
    ≡ codes "The round ended without an Ack. Our health score rose from 0 to 2."
unfolding by_telling
ended_badly = refl

told_that_alive : sentence_text (Some (codes "c")) (Told (c_is Alive 1))
    ≡ codes "c told us that it is alive at incarnation 1, at 127.0.0.1:7103."
unfolding by_telling
told_that_alive = refl

told_that_suspect : sentence_text (Some (codes "d")) (Told (c_is (Suspect (codes "a")) 0))
    ≡ codes "d told us that a suspects it at incarnation 0."
unfolding by_telling
told_that_suspect = refl

told_that_failed : sentence_text (Some (codes "d")) (Told (c_is Failed 4))
    ≡ codes "d told us that it failed at incarnation 4."
unfolding by_telling
told_that_failed = refl

told_that_left : sentence_text (Some (codes "c")) (Told (c_is Left 3))
    ≡ codes "c told us that it left at incarnation 3."
unfolding by_telling
told_that_left = refl

took_as_alive : sentence_text None (Changed (c_is Alive 5)) ≡ codes "We took it as alive at incarnation 5."
unfolding by_telling
took_as_alive = refl

took_as_left : sentence_text None (Changed (c_is Left 5)) ≡ codes "We took it as left."
unfolding by_telling
took_as_left = refl
