-- Accounts of a member as a page of HTML (this project's choice): of each its heading, a picture of its steps in time,
-- and its entries as a list. Nothing in it needs an escape: names have letters, digits, `.`, `_` and `-` alone,
-- addresses hexadecimal digits, `.`, `:` and brackets, and sentences have no `<`, `>`, `&` or `"`.
use Rattle.std.specs.Prelude.{ℕ, ◌+◌, ◌-◌, ◌*◌, ◌/◌, min, nat_lt, Bool, true, false, List, [], ◌∷◌, ◌++◌, codes}
use Rattle.std.specs.Prelude.{decimal, if◌then◌else◌, map}
use Rattle.std.specs.List.{flat_map}
use Rattle.lg_rules.specs.declared.claim.Status.{Status}
use Rattle.lg_rules.specs.declared.claim.Status.TheVariants.{Alive, Suspect, Failed, Left}
use Rattle.lg_accounts.specs.declared.account.Account.{Account}
use Rattle.lg_accounts.specs.declared.picture.ShownTime.{ShownTime}
use Rattle.lg_accounts.specs.declared.step.NoteStep.{NoteStep}
use Rattle.lg_accounts.specs.declared.step.NoteStep.TheVariants.{Pinged, Unanswered, Nacked, Acked, RoundEnded, Scored}
use Rattle.lg_accounts.specs.declared.step.NoteStep.TheVariants.{Told, TimeOver, Changed, Suspected, Minute}
use Rattle.lg_accounts.specs.Meaning.Accounts.{heading_by}
use Rattle.lg_accounts.specs.Meaning.Sentences.{sentence_text, sentences_text}
use Rattle.lg_accounts.specs.Meaning.Values.{AccountValue, NoteValue, account_value}
use Rattle.lg_accounts.specs.Meaning.Verdicts.{verdict_of}

-- The time of the picture of some entries: from the moment of the first entry to that of the last. Where there is no
-- entry, there is nothing to show, and both are 0.
abbrev pub moment_of_first : List NoteValue → ℕ
moment_of_first [] = 0
moment_of_first (note ∷ later) = note.moment

abbrev pub moment_of_last : List NoteValue → ℕ
moment_of_last [] = 0
moment_of_last (note ∷ []) = note.moment
moment_of_last (note ∷ next ∷ more) = moment_of_last (next ∷ more)

unfoldable pub time_of : List NoteValue → ShownTime
time_of notes = record { first = moment_of_first notes; last = moment_of_last notes }

-- Where a moment lies in the picture: 100 at the first moment and 940 at the last, rounded down between them; 100
-- before the first, and 940 behind the last. All is at 100 if the last moment isn't later than the first.
unfoldable pub moment_x : ShownTime → ℕ → ℕ
moment_x time moment =
    if nat_lt time.first time.last
    then min 940 (100 + (moment - time.first) * 840 / (time.last - time.first))
    else 100

-- the lane of a step: that of probes, answers, claims, the score, or the record
abbrev pub step_y : NoteStep → ℕ
step_y (Pinged probe addr) = 20
step_y (Unanswered within helpers) = 20
step_y (RoundEnded is_failed) = 20
step_y (Acked by) = 50
step_y (Nacked by) = 50
step_y (Told c) = 80
step_y (Scored before after) = 110
step_y (Minute ended suspected stood) = 110
step_y (Changed c) = 140
step_y TimeOver = 140
step_y (Suspected live confirmations most timeout) = 140

-- the class of the mark of a status, and of a step
abbrev pub status_class : Status → List ℕ
status_class Alive = codes "alive"
status_class (Suspect accuser) = codes "suspect"
status_class Failed = codes "gone"
status_class Left = codes "gone"

abbrev pub ended_class : Bool → List ℕ
ended_class true = codes "late"
ended_class false = codes "probe"

abbrev pub scored_class : ℕ → ℕ → List ℕ
scored_class before after = if nat_lt before after then codes "late" else codes "ack"

abbrev pub step_class : NoteStep → List ℕ
step_class (Pinged probe addr) = codes "probe"
step_class (Unanswered within helpers) = codes "late"
step_class (RoundEnded is_failed) = ended_class is_failed
step_class (Acked by) = codes "ack"
step_class (Nacked by) = codes "late"
step_class (Told c) = status_class c.status
step_class (Scored before after) = scored_class before after
step_class (Minute ended suspected stood) = codes "probe"
step_class (Changed c) = status_class c.status
step_class TimeOver = codes "gone"
step_class (Suspected live confirmations most timeout) = codes "suspect"

-- <circle cx="X" cy="Y" r="5" class="CLASS"><title>MOMENT
unfoldable pub mark_front : ℕ → ℕ → List ℕ → ℕ → List ℕ
mark_front x y class moment =
    codes "<circle cx=\"" ++ (decimal x ++ (codes "\" cy=\"" ++ (decimal y ++ (codes "\" r=\"5\" class=\""
    ++ (class ++ (codes "\"><title>" ++ (decimal moment ++ codes " ")))))))

-- the mark of a step, in its lane at the moment of its entry: its title is the moment and the sentences of the step
unfoldable pub step_mark : ShownTime → NoteValue → NoteStep → List ℕ
step_mark time note step =
    mark_front (moment_x time note.moment) (step_y step) (step_class step) note.moment ++ sentence_text note.teller step
    ++ codes "</title></circle>\n"

-- the marks of an entry: one for each of its steps
abbrev pub note_marks : ShownTime → NoteValue → List ℕ
note_marks time note = flat_map (step_mark time note) note.steps

-- the marks of some entries, in the time from the first of them to the last
unfoldable pub picture_marks : List NoteValue → List ℕ
picture_marks notes = flat_map (note_marks (time_of notes)) notes

-- a lane: its word, and a line from the first moment to the last
unfoldable pub lane_text : List ℕ → ℕ → List ℕ
lane_text word y =
    codes "<text x=\"0\" y=\"" ++ (decimal y ++ (codes "\">" ++ (word
    ++ (codes "</text><line x1=\"100\" y1=\"" ++ (decimal y ++ (codes "\" x2=\"940\" y2=\"" ++ (decimal y
    ++ codes "\"/>\n")))))))

unfoldable pub lanes : List ℕ
lanes =
    lane_text (codes "Probes") 20 ++ lane_text (codes "Answers") 50 ++ lane_text (codes "Claims") 80
    ++ lane_text (codes "Score") 110 ++ lane_text (codes "Record") 140

-- the picture of some entries: the lanes, and the marks upon them
unfoldable pub picture_tag : List ℕ
picture_tag = codes "<svg viewBox=\"0 0 960 165\" role=\"img\">\n"

unfoldable pub picture_text : List NoteValue → List ℕ
picture_text notes = picture_tag ++ lanes ++ picture_marks notes ++ codes "</svg>\n"

-- <li><b>MOMENT</b> SENTENCES</li>
unfoldable pub item_front : ℕ → List ℕ
item_front moment = codes "<li><b>" ++ (decimal moment ++ codes "</b> ")

unfoldable pub note_item : NoteValue → List ℕ
note_item note = item_front note.moment ++ sentences_text note.teller note.steps ++ codes "</li>\n"

-- that some of the past is missing, if not all events since the opening are known where an account ends
abbrev pub missing_paragraph : Bool → List ℕ
missing_paragraph true = []
missing_paragraph false =
    codes "<p>Some of the past is missing, so scores and timeouts may not be told.</p>\n"

-- an account: its heading, its picture, and its entries as a list
unfoldable pub account_section : List ℕ → AccountValue → List ℕ
account_section name account =
    codes "<h2>" ++ heading_by name (verdict_of account) ++ codes "</h2>\n" ++ picture_text account.notes
    ++ codes "<ol>\n" ++ flat_map note_item account.notes ++ codes "</ol>\n" ++ missing_paragraph account.is_known

-- that there are none
unfoldable pub none_paragraph : List ℕ → List ℕ
none_paragraph name = codes "<p>" ++ (name ++ codes " has not been suspected, and has neither failed nor left.</p>\n")

-- the accounts, one behind another; or that there are none
abbrev pub page_sections : List ℕ → List AccountValue → List ℕ
page_sections name [] = none_paragraph name
page_sections name (account ∷ others) = account_section name account ++ flat_map (account_section name) others

-- How a browser shows the page: in light, in the dark, and in print. Marks differ in more than their colour: `probe` is
-- a thin ring and `alive` a thick one, `ack` a full disk and `gone` one with a rim, `suspect` a pale disk, and `late`
-- one with a broken rim.
unfoldable pub page_style : List ℕ
page_style =
    codes ":root { color-scheme: light dark; --good: #1b7837; --bad: #b35806; --gone: #c51b2f; --probe: "
    ++ codes "#2166ac; --lane: #bbb; }\n"
    ++ codes "@media (prefers-color-scheme: dark) { :root { --good: #7fc97f; --bad: #fdb863; --gone: #ff6b6b; "
    ++ codes "--probe: #8ab4f8; --lane: #555; } }\n"
    ++ codes "@media print { :root { color-scheme: light; --good: #1b7837; --bad: #b35806; --gone: #c51b2f; "
    ++ codes "--probe: #2166ac; --lane: #bbb; } svg, li { break-inside: avoid; } }\n"
    ++ codes "body { max-width: 60rem; margin: 2rem auto; padding: 0 1rem; font: 1rem/1.5 sans-serif; }\n"
    ++ codes "svg { max-width: 100%; }\n"
    ++ codes "text { fill: currentColor; dominant-baseline: central; }\n"
    ++ codes "line { stroke: var(--lane); }\n"
    ++ codes "circle { fill: none; stroke-width: 2; pointer-events: all; }\n"
    ++ codes ".probe { stroke: var(--probe); }\n"
    ++ codes ".late { fill: var(--bad); fill-opacity: 0.4; stroke: var(--bad); stroke-dasharray: 3 2; }\n"
    ++ codes ".ack { fill: var(--good); stroke: var(--good); }\n"
    ++ codes ".alive { stroke: var(--good); stroke-width: 4; }\n"
    ++ codes ".suspect { fill: var(--bad); fill-opacity: 0.4; stroke: var(--bad); }\n"
    ++ codes ".gone { fill: var(--gone); stroke: currentColor; }\n"
    ++ codes "ol { padding: 0; list-style: none; }\n"
    ++ codes "li { display: grid; grid-template-columns: minmax(4rem, max-content) 1fr; gap: 0.5rem; }\n"

-- what stands before the title
unfoldable pub page_beginning : List ℕ
page_beginning =
    codes "<!DOCTYPE html>\n<html lang=\"en\">\n<head>\n<meta charset=\"utf-8\">\n"
    ++ codes "<meta name=\"viewport\" content=\"width=device-width\">\n<title>"

-- the name as the title, and as the first heading
unfoldable pub page_title : List ℕ → List ℕ
page_title name = name ++ codes "</title>\n<style>\n"

unfoldable pub page_heading : List ℕ → List ℕ
page_heading name = codes "</style>\n</head>\n<body>\n<h1>" ++ (name ++ codes "</h1>\n")

-- what stands before the accounts
abbrev pub page_opening : List ℕ → List ℕ
page_opening name = page_beginning ++ page_title name ++ page_style ++ page_heading name

-- the page of a member's accounts
unfoldable pub page_of_accounts : List ℕ → List AccountValue → List ℕ
page_of_accounts name accounts = page_opening name ++ page_sections name accounts ++ codes "</body>\n</html>\n"

unfoldable pub accounts_page : List ℕ → List Account → List ℕ
accounts_page name accounts = page_of_accounts name (map account_value accounts)
