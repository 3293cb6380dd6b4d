-- Worked lives, lines, verdicts and ends of replays.
use Rattle.std.specs.Prelude.{◌≡◌, true, false, [], ◌∷◌, ◌++◌, Some, None, codes, refl, map}
use Rattle.lg_detector.specs.Meaning.Examples.{a, b, c, at, nothing, opening, says, ticks, timer_of}
use Rattle.lg_detector.specs.Meaning.Examples.{by_computing as detecting}
use Rattle.lg_detector.specs.declared.event.Event.TheVariants.{Ask, Pull}
use Rattle.lg_fields.specs.declared.fault.FieldFault.TheVariants.{Short, Check, Trailing}
use Rattle.lg_history.specs.Meaning.History.{entry}
use Rattle.lg_lines.specs.Meaning.Examples.{by_computing as reporting}
use Rattle.lg_packet.specs.declared.packet.Body.TheVariants.{Ack, Nack, Page, Ping, PingReq}
use Rattle.lg_timers.specs.declared.timer.TimerId.TheVariants.{Forget, RoundEnd, Suspicion}
use Rattle.lg_text.specs.Meaning.Lines.{newline}
use Rattle.lg_replay.specs.declared.end.ReplayEnd.TheVariants as ends
use Rattle.lg_replay.specs.declared.verdict.Verdict.TheVariants.{Same, Differs, Unchecked}
use Rattle.lg_replay.specs.declared.window.Window.{Window}
use Rattle.lg_replay.specs.Meaning.Entries.{entries_text, entry_lines, loss_text}
use Rattle.lg_replay.specs.Meaning.Files.{gap_text, headless_line}
use Rattle.lg_replay.specs.Meaning.Lives.{due_reply, life_from, past_to, past_with, told_of_entry, unknown_life}
use Rattle.lg_replay.specs.Meaning.Members.{asks_member, fires_for_member, happens_to_member, replies_on_member}
use Rattle.lg_replay.specs.Meaning.Replays.{replay_end_by, is_amiss}
use Rattle.lg_replay.specs.Meaning.Shown.{is_told}
use Rattle.lg_replay.specs.Meaning.Verdicts.{counts_line, verdict_by}
use Rattle.lg_replay.specs.Meaning.Words.{event_line, recorded_text}

-- ---- lives

-- an opening begins a life
opened : past_with (Some []) (opening 0) ≡ Some (opening 0 ∷ [])
unfolding detecting
opened = refl

-- a tick doesn't: the opening is missing
unopened : past_with (Some []) (ticks 5) ≡ None
unopened = refl

-- what is unknown stays unknown
still_unknown : past_with None (opening 0) ≡ None
still_unknown = refl

opening_is_due : due_reply (Some []) (opening 0) ≡ Some (nothing 0)
unfolding due_reply detecting
opening_is_due = refl

nothing_is_due : map (λ past. due_reply past (ticks 5)) (None ∷ Some [] ∷ []) ≡ None ∷ None ∷ []
unfolding due_reply detecting
nothing_is_due = refl

-- without a due reply the recorded one is told
recorded_is_told : told_of_entry None (entry 1 (ticks 5) (nothing 7)) ≡ nothing 7
unfolding due_reply
recorded_is_told = refl

due_is_told : told_of_entry (Some []) (entry 0 (opening 0) (nothing 7)) ≡ nothing 0
unfolding due_reply detecting
due_is_told = refl

begins_anew : life_from 0 (record { past = Some (opening 0 ∷ ticks 0 ∷ []); sent = 3 })
    ≡ record { past = Some []; sent = 0 }
begins_anew = refl

goes_on : life_from 2 (record { past = Some (opening 0 ∷ ticks 0 ∷ []); sent = 3 })
    ≡ record { past = Some (opening 0 ∷ ticks 0 ∷ []); sent = 3 }
goes_on = refl

-- some events between are missing, or there are too many
has_gap : map (λ first. past_to first (Some (opening 0 ∷ ticks 0 ∷ []))) (1 ∷ 3 ∷ []) ≡ None ∷ None ∷ []
has_gap = refl

first_file_missing : life_from 40 unknown_life ≡ unknown_life
first_file_missing = refl

-- ---- verdicts

unjudged : verdict_by None (entry 1 (ticks 5) (nothing 7)) ≡ Unchecked
unfolding verdict_by
unjudged = refl

counted : counts_line (Same ∷ Differs ∷ Unchecked ∷ Same ∷ [])
    ≡ codes "entries 4 checked 3 differing 1 unchecked 1" ++ newline
unfolding reporting
counted = refl

none_counted : counts_line [] ≡ codes "entries 0 checked 0 differing 0 unchecked 0" ++ newline
unfolding reporting
none_counted = refl

-- ---- lines

tick_line : event_line (ticks 5) ≡ codes "at 5 tick" ++ newline
unfolding event_line reporting
tick_line = refl

open_line : event_line (opening 0) ≡ codes "at 0 open b 127.0.0.1:7000" ++ newline
unfolding event_line reporting
open_line = refl

heard_line : event_line (says 20 (Ack 1 None) []) ≡ codes "at 20 heard 127.0.0.1:1 534c010301610000000100" ++ newline
unfolding event_line reporting
heard_line = refl

ask_line : event_line (Ask 7 (c ∷ [])) ≡ codes "at 7 ask c" ++ newline
unfolding event_line reporting
ask_line = refl

pull_line : event_line (Pull 7 (at 7003)) ≡ codes "at 7 pull 127.0.0.1:7003" ++ newline
unfolding event_line reporting
pull_line = refl

recorded_lines : recorded_text (codes "idle" ++ newline ++ codes "next 7" ++ newline)
    ≡ codes "recorded idle" ++ newline ++ codes "recorded next 7" ++ newline
unfolding recorded_text
recorded_lines = refl

lost : loss_text 12 (Some []) (ticks 5) ≡ codes "unchecked from entry 12" ++ newline
unfolding loss_text reporting
lost = refl

lost_before : loss_text 12 None (ticks 5) ≡ []
unfolding loss_text
lost_before = refl

not_lost : loss_text 0 (Some []) (opening 0) ≡ []
unfolding loss_text detecting
not_lost = refl

behind_gap : gap_text 40 None ≡ codes "unchecked from entry 40" ++ newline
unfolding reporting
behind_gap = refl

headless : headless_line 7 Check ≡ codes "file 7 fault check" ++ newline
unfolding reporting
headless = refl

ends_short : entries_text (record { from = 0; to = 9; only = None }) 3 unknown_life [] (Some Short)
    ≡ codes "fault short at entry 3" ++ newline
unfolding reporting
ends_short = refl

-- ---- which entries are told

-- from 0 to 9
early : Window
early = record { from = 0; to = 9; only = None }

differing_told : entry_lines early 1 (ticks 5) (nothing 7) (nothing 8) Differs
    ≡ codes "at 5 tick" ++ newline ++ codes "idle" ++ newline ++ codes "next 7" ++ newline
    ++ codes "differs" ++ newline ++ codes "recorded idle" ++ newline ++ codes "recorded next 8" ++ newline
unfolding entry_lines event_line is_told recorded_text early reporting
differing_told = refl

late : entry_lines early 1 (ticks 10) (nothing 7) (nothing 7) Same ≡ []
unfolding entry_lines is_told early
late = refl

-- both ends belong to it
in_time : map (λ now. is_told (record { from = 5; to = 7; only = None }) (ticks now) (nothing 0) (nothing 0))
    (4 ∷ 5 ∷ 7 ∷ 8 ∷ [])
    ≡ false ∷ true ∷ true ∷ false ∷ []
unfolding is_told
in_time = refl

of_its_packets : map (λ name. happens_to_member (name ∷ []) (says 0 (Ping 1 (b ∷ [])) [])) (a ∷ b ∷ c ∷ [])
    ≡ true ∷ true ∷ false ∷ []
of_its_packets = refl

of_what_is_asked : map (asks_member (c ∷ []))
    (Ping 1 (c ∷ []) ∷ PingReq 1 (c ∷ []) (at 7003) ∷ Ack 1 (Some (c ∷ [])) ∷ Nack 1 None ∷ Page ∷ [])
    ≡ true ∷ true ∷ true ∷ false ∷ false ∷ []
of_what_is_asked = refl

of_its_timers : map (fires_for_member (c ∷ []))
    (Some (timer_of 0 (Suspicion (c ∷ []))) ∷ Some (timer_of 0 (Forget (b ∷ [])))
    ∷ Some (timer_of 0 RoundEnd) ∷ None ∷ [])
    ≡ true ∷ false ∷ false ∷ false ∷ []
of_its_timers = refl

forgets_it :
    map (λ name. replies_on_member (name ∷ []) (record (nothing 0) { forgotten = record { items = (c ∷ []) ∷ [] } }))
    (b ∷ c ∷ [])
    ≡ false ∷ true ∷ []
unfolding replies_on_member
forgets_it = refl

-- ---- ends

ended : replay_end_by false false ≡ ends.Done
ended = refl

ended_unchecked : replay_end_by false true ≡ ends.Unchecked
ended_unchecked = refl

ended_faulty : replay_end_by true true ≡ ends.Faulty
ended_faulty = refl

-- the last file may break off, and no other fault passes
amiss : map (λ fault. is_amiss fault []) (None ∷ Some Short ∷ Some Check ∷ Some Trailing ∷ [])
    ≡ false ∷ false ∷ true ∷ true ∷ []
amiss = refl
