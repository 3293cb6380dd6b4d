-- Worked pages.
use Rattle.std.specs.Prelude.{⊤, ◌≡◌, ℕ, true, false, List, [], ◌∷◌, ◌++◌, Option, Some, None, codes}
use Rattle.std.specs.Prelude.{refl}
use Rattle.std.specs.Fmt.{digits}
use Rattle.lg_rules.specs.declared.claim.Status.TheVariants.{Alive, Suspect, Failed}
use Rattle.lg_accounts.specs.declared.picture.ShownTime.{ShownTime}
use Rattle.lg_accounts.specs.declared.step.NoteStep.{NoteStep}
use Rattle.lg_accounts.specs.declared.step.NoteStep.TheVariants.{Pinged, Nacked, Acked, RoundEnded, Scored}
use Rattle.lg_accounts.specs.declared.step.NoteStep.TheVariants.{Told, TimeOver, Changed, Suspected, Minute}
use Rattle.lg_accounts.specs.Meaning.AccountExamples.{by_accounting, how_c_failed, how_c_left, noted}
use Rattle.lg_accounts.specs.Meaning.DateExamples.{by_dating}
use Rattle.lg_accounts.specs.Meaning.Pages.{account_section, item_front, lane_text, lanes, mark_front, moment_x}
use Rattle.lg_accounts.specs.Meaning.Pages.{none_paragraph, note_item, page_beginning, page_heading, page_of_accounts}
use Rattle.lg_accounts.specs.Meaning.Pages.{page_style, page_title, picture_marks, picture_tag, picture_text, step_mark}
use Rattle.lg_accounts.specs.Meaning.Pages.{time_of}
use Rattle.lg_accounts.specs.Meaning.SentenceExamples.{at, by_telling, c_is, unanswered}

-- what the rows have to unfold
unfoldable by_showing : ⊤
unfolding digits account_section item_front lane_text mark_front moment_x none_paragraph note_item page_beginning
    page_heading page_of_accounts page_title picture_marks picture_tag picture_text step_mark time_of
by_showing = tt

-- how c failed, from 1020 to 7020: 500 ms are 70 of 840
abbrev whole : ShownTime
whole = time_of how_c_failed

first : moment_x whole 1020 ≡ 100
unfolding by_showing
first = refl

rounded_down : moment_x whole 1905 ≡ 223
unfolding by_showing
rounded_down = refl

last : moment_x whole 7020 ≡ 940
unfolding by_showing
last = refl

-- moments of a clock that went back, and of one entry alone
before : moment_x whole 30 ≡ 100
unfolding by_showing
before = refl

behind : moment_x whole 9000 ≡ 940
unfolding by_showing
behind = refl

alone : moment_x (time_of (how_c_left ∷ [])) 30 ≡ 100
unfolding by_showing
alone = refl

-- the mark of a step of an entry at 4020, which is in the middle
abbrev is_mark : Option (List ℕ) → NoteStep → List ℕ → Type 0
is_mark teller step text = step_mark whole (noted 80 4020 0 teller (step ∷ [])) step ≡ text

pinged : is_mark None (Pinged 7 (at 7103))
    (codes "<circle cx=\"520\" cy=\"20\" r=\"5\" class=\"probe\"><title>4020 "
    ++ codes "We pinged it (probe 7, at 127.0.0.1:7103).</title></circle>\n")
unfolding by_showing by_telling
pinged = refl

asked_nobody : is_mark None (unanswered [])
    (codes "<circle cx=\"520\" cy=\"20\" r=\"5\" class=\"late\"><title>4020 "
    ++ codes "No Ack came within 500 ms. There was nobody to ask.</title></circle>\n")
unfolding by_showing by_telling
asked_nobody = refl

ended_badly : is_mark None (RoundEnded true)
    (codes "<circle cx=\"520\" cy=\"20\" r=\"5\" class=\"late\"><title>4020 "
    ++ codes "The round ended without an Ack.</title></circle>\n")
unfolding by_showing by_telling
ended_badly = refl

ended_well : is_mark None (RoundEnded false)
    (codes "<circle cx=\"520\" cy=\"20\" r=\"5\" class=\"probe\"><title>4020 The round ended.</title></circle>\n")
unfolding by_showing by_telling
ended_well = refl

answered : is_mark (Some (codes "c")) (Acked (codes "c"))
    (codes "<circle cx=\"520\" cy=\"50\" r=\"5\" class=\"ack\"><title>4020 c sent an Ack.</title></circle>\n")
unfolding by_showing by_telling
answered = refl

no_ack_so_far : is_mark (Some (codes "a")) (Nacked (codes "a"))
    (codes "<circle cx=\"520\" cy=\"50\" r=\"5\" class=\"late\"><title>4020 "
    ++ codes "a sent a Nack: no Ack of it had come.</title></circle>\n")
unfolding by_showing by_telling
no_ack_so_far = refl

told : is_mark (Some (codes "c")) (Told (c_is Alive 1))
    (codes "<circle cx=\"520\" cy=\"80\" r=\"5\" class=\"alive\"><title>4020 "
    ++ codes "c told us that it is alive at incarnation 1, at 127.0.0.1:7103.</title></circle>\n")
unfolding by_showing by_telling
told = refl

rose : is_mark None (Scored 0 2)
    (codes "<circle cx=\"520\" cy=\"110\" r=\"5\" class=\"late\"><title>4020 "
    ++ codes "Our health score rose from 0 to 2.</title></circle>\n")
unfolding by_showing by_telling
rose = refl

fell : is_mark None (Scored 2 1)
    (codes "<circle cx=\"520\" cy=\"110\" r=\"5\" class=\"ack\"><title>4020 "
    ++ codes "Our health score fell from 2 to 1.</title></circle>\n")
unfolding by_showing by_telling
fell = refl

minute : is_mark None (Minute 54 3 2000)
    (codes "<circle cx=\"520\" cy=\"110\" r=\"5\" class=\"probe\"><title>4020 In the minute before, "
    ++ codes "54 of our rounds ended, 3 of them with a suspicion, and our clock stood still for 2000 ms."
    ++ codes "</title></circle>\n")
unfolding by_showing by_telling
minute = refl

suspected : is_mark None (Changed (c_is (Suspect (codes "b")) 0))
    (codes "<circle cx=\"520\" cy=\"140\" r=\"5\" class=\"suspect\"><title>4020 "
    ++ codes "We suspected it at incarnation 0.</title></circle>\n")
unfolding by_showing by_telling
suspected = refl

failed : is_mark None (Changed (c_is Failed 0))
    (codes "<circle cx=\"520\" cy=\"140\" r=\"5\" class=\"gone\"><title>4020 "
    ++ codes "We took it as failed.</title></circle>\n")
unfolding by_showing by_telling
failed = refl

time_over : is_mark None TimeOver
    (codes "<circle cx=\"520\" cy=\"140\" r=\"5\" class=\"gone\"><title>4020 "
    ++ codes "The time was over, and no refutation had come.</title></circle>\n")
unfolding by_showing
time_over = refl

timeout : is_mark None (Suspected 5 0 3 20904)
    (codes "<circle cx=\"520\" cy=\"140\" r=\"5\" class=\"suspect\"><title>4020 We knew 5 live members. "
    ++ codes "After 0 of 3 confirmations the timeout was 20904 ms.</title></circle>\n")
unfolding by_showing by_telling
timeout = refl

-- the lanes
all_lanes : lanes
    ≡ codes "<text x=\"0\" y=\"20\">Probes</text><line x1=\"100\" y1=\"20\" x2=\"940\" y2=\"20\"/>\n"
    ++ codes "<text x=\"0\" y=\"50\">Answers</text><line x1=\"100\" y1=\"50\" x2=\"940\" y2=\"50\"/>\n"
    ++ codes "<text x=\"0\" y=\"80\">Claims</text><line x1=\"100\" y1=\"80\" x2=\"940\" y2=\"80\"/>\n"
    ++ codes "<text x=\"0\" y=\"110\">Score</text><line x1=\"100\" y1=\"110\" x2=\"940\" y2=\"110\"/>\n"
    ++ codes "<text x=\"0\" y=\"140\">Record</text><line x1=\"100\" y1=\"140\" x2=\"940\" y2=\"140\"/>\n"
unfolding by_showing lanes
all_lanes = refl

-- an account whole, but for the lanes: how c left, of which some of the past is missing
left : account_section (codes "c") (record { notes = how_c_left ∷ []; is_known = false })
    ≡ codes "<h2>c left at 30 ms (1970-01-01 23:59:59), as c told.</h2>\n<svg viewBox=\"0 0 960 165\" role=\"img\">\n"
    ++ lanes
    ++ codes "<circle cx=\"100\" cy=\"80\" r=\"5\" class=\"gone\"><title>30 "
    ++ codes "c told us that it left at incarnation 2.</title></circle>\n"
    ++ codes "<circle cx=\"100\" cy=\"140\" r=\"5\" class=\"gone\"><title>30 We took it as left.</title></circle>\n"
    ++ codes "</svg>\n<ol>\n<li><b>30</b> c told us that it left at incarnation 2. We took it as left.</li>\n</ol>\n"
    ++ codes "<p>Some of the past is missing, so scores and timeouts may not be told.</p>\n"
unfolding by_accounting by_dating by_showing by_telling lanes
left = refl

-- a page whole, but for the style
none : page_of_accounts (codes "c") []
    ≡ codes "<!DOCTYPE html>\n<html lang=\"en\">\n<head>\n<meta charset=\"utf-8\">\n"
    ++ codes "<meta name=\"viewport\" content=\"width=device-width\">\n<title>c</title>\n<style>\n"
    ++ page_style
    ++ codes "</style>\n</head>\n<body>\n<h1>c</h1>\n"
    ++ codes "<p>c has not been suspected, and has neither failed nor left.</p>\n"
    ++ codes "</body>\n</html>\n"
unfolding by_showing
none = refl
