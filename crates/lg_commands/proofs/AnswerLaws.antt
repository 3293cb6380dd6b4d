-- How the text of an input grows by a line, and that its events are accepted.
use Rattle.std.proofs.Common.{◌≡◌, ℕ, ◌+◌, ◌<◌, ◌≤◌, suc, Bool, true, false, ◌||◌, ◌&&◌, not, cond, leb, List, [], ◌∷◌, ◌++◌, length, Result, Ok, Err, refl, sym, ap, ◌∙◌, arith, append_assoc, append-nil, length-append}
use Rattle.std.specs.Prelude.{is_ok}
use Rattle.std.specs.List.{cons_option, filter_map, list_any}
use Rattle.std.proofs.lemmas.List.Elements.{filter_map-append}
use Rattle.std.proofs.lemmas.List.Folds.{list_any-append}
use Rattle.lg_packet.specs.declared.packet.Packet.{Packet}
use Rattle.lg_rules.specs.declared.addr.Addr.{Addr}
use Rattle.lg_timing.specs.Meaning.Config.{check_of, IsChecked}
use Rattle.lg_detector.specs.Meaning.Step.{is_accepted, is_open_event, opens_well}
use Rattle.lg_detector.specs.Support.Step.{state_after, accepts_of}
use Rattle.lg_detector.specs.Support.State.{State}
use Rattle.lg_detector.specs.declared.event.Event.{Event}
use Rattle.lg_detector.proofs.Accepting.{accepts-after}
use Rattle.lg_text.specs.Meaning.Lines.{lines_of}
use Rattle.lg_commands.specs.Meaning.Spelled.{packet_in}
use Rattle.lg_script.specs.Meaning.Values.{local}
use Rattle.lg_commands.specs.Meaning.Answering.{opening, heard_event, event_of, events_of_lines, line_answer}
use Rattle.lg_commands.specs.Meaning.Answering.{answers_from, answer_text, answer_end, is_faulty}
use Rattle.lg_timing.specs.Meaning.Config.{defaults}
use Rattle.lg_commands.specs.Support.Hearing.{with_heard, AcceptsHeard}
use Rattle.lg_text.specs.declared.end.RunEnd.{RunEnd}
use Rattle.lg_text.specs.declared.end.RunEnd.TheVariants.{Done, Faulty}
use Rattle.lg_commands.specs.declared.line.LineFault.{LineFault}

heard_in : List (List ℕ) → List Event
heard_in lines = filter_map (λ line. event_of (packet_in line)) lines

-- what a line lets the detector hear, or nothing
abbrev one_heard : Result Packet LineFault → List Event → List Event
one_heard said es = cons_option (event_of said) es

opened_with : (first : Event) (said : Result Packet LineFault) (es : List Event) → ◌≡◌ {A = List Event} (first ∷ (es ++ one_heard said [])) (with_heard (first ∷ es) said)
opened_with first (Ok packet) es = refl
opened_with first (Err fault) es = ap (λ (x : List Event). first ∷ x) (append-nil es)

-- the events of one more line
pub events_of-append : (name : List ℕ) (before : List (List ℕ)) (line : List ℕ) → events_of_lines name (before ++ line ∷ []) ≡ with_heard (events_of_lines name before) (packet_in line)
unfolding events_of_lines
events_of-append name before line =
    ap (λ (es : List Event). opening name ∷ es) (filter_map-append (λ (l : List ℕ). event_of (packet_in l)) before (line ∷ []))
    ∙ opened_with (opening name) (packet_in line) (filter_map (λ (l : List ℕ). event_of (packet_in l)) before)

-- ---- the events of lines are accepted

none_more : (said : Result Packet LineFault) (es : List Event) → list_any is_open_event es ≡ false → list_any is_open_event (one_heard said es) ≡ false
none_more (Ok packet) es none = none
none_more (Err fault) es none = none

none_open : (lines : List (List ℕ)) → list_any is_open_event (heard_in lines) ≡ false
unfolding heard_in
none_open [] = refl
none_open (line ∷ lines) = none_more (packet_in line) (heard_in lines) (none_open lines)

few_more : (said : Result Packet LineFault) (es : List Event) (n : ℕ) → length es ≤ n → length (one_heard said es) ≤ suc n
few_more (Ok packet) es n few = omega arith
few_more (Err fault) es n few = omega arith

few_heard : (lines : List (List ℕ)) → length (heard_in lines) ≤ length lines
unfolding heard_in
few_heard [] = omega arith
few_heard (line ∷ lines) = few_more (packet_in line) (heard_in lines) (length lines) (few_heard lines)

-- the defaults pass the check, whatever the name and the address
pub defaults_are_checked : (name : List ℕ) (addr : Addr) → IsChecked (defaults name addr)
unfolding check_of
defaults_are_checked name addr = refl

-- so the opening is good
pub opens_with_defaults : (name : List ℕ) → opens_well (opening name) ≡ true
opens_with_defaults name = ap is_ok (defaults_are_checked name (local 7000))

accepted : (well any : Bool) (n : ℕ) → well ≡ true → any ≡ false → n + 1 ≤ 4000000000 → (well && (not any && leb (n + 1) 4000000000)) ≡ true
accepted well any n good none few = grind arith

-- the events of some lines, and one more packet heard, are accepted
pub accepts_lines : (name : List ℕ) (lines : List (List ℕ)) (s : State) → length lines ≤ 3000000000 → s ≡ state_after (events_of_lines name lines) → AcceptsHeard s
unfolding events_of_lines heard_in
accepts_lines name lines s few is = record {
  accepts = λ packet.
      let es = heard_in lines in
      let some = few_heard lines in
      let now : is_accepted (opening name ∷ es) ≡ true = accepted (opens_well (opening name)) (list_any is_open_event es) (length es) (opens_with_defaults name) (none_open lines) (omega arith) in
      let none : list_any is_open_event (es ++ heard_event packet ∷ []) ≡ false = list_any-append is_open_event es (heard_event packet ∷ []) ∙ rw (none_open lines) refl in
      let more : is_accepted (opening name ∷ (es ++ heard_event packet ∷ [])) ≡ true = accepted (opens_well (opening name)) _ (length (es ++ heard_event packet ∷ [])) (opens_with_defaults name) none (omega (arith, length-append es (heard_event packet ∷ []))) in
      ap (λ (t : State). accepts_of t (heard_event packet)) is ∙ accepts-after (opening name ∷ es) (heard_event packet) now ∙ more;
}

-- ---- a run over the lines

-- How far a run has come: the detector is after the events of the lines so far, and the text and the end are those of the lines so far.
pub record HasAnswered (name input rest text : List ℕ) (s : State) (end : RunEnd) : Type 0 where
  pub before : List (List ℕ)
  pub lines : before ++ lines_of rest ≡ lines_of input
  pub few : length before + length rest ≤ length input
  pub after : s ≡ state_after (events_of_lines name before)
  pub writes : text ++ answers_from name before (lines_of rest) ≡ answer_text name input
  pub ends : end ≡ cond (list_any is_faulty before) Faulty Done

pub answered_none : (name input : List ℕ) (s : State) → s ≡ state_after (opening name ∷ []) → HasAnswered name input input [] s Done
unfolding events_of_lines answer_text
answered_none name input s is = record {
  before = [];
  lines = refl;
  few = omega arith;
  after = is;
  writes = refl;
  ends = refl;
}

faulty_more : (any now : Bool) → cond now Faulty (cond any Faulty Done) ≡ cond (any || (now || false)) Faulty Done
faulty_more true true = refl
faulty_more true false = refl
faulty_more false true = refl
faulty_more false false = refl

-- the end so far, after a line that ended well, and after a faulty one
pub ended_well : (b : Bool) (found end new : RunEnd) → found ≡ cond b Faulty Done → found ≡ Done → new ≡ end → new ≡ cond b Faulty end
ended_well true found end new is done same = let no : Faulty ≡ Done = sym is ∙ done in absurd cc
ended_well false found end new is done same = same

pub ended_faulty : (b : Bool) (found end new : RunEnd) → found ≡ cond b Faulty Done → found ≡ Faulty → new ≡ Faulty → new ≡ cond b Faulty end
ended_faulty true found end new is faulty now = now
ended_faulty false found end new is faulty now = let no : Done ≡ Faulty = sym is ∙ faulty in absurd cc

-- a line more was answered
pub answered_more : (name input rest text : List ℕ) (s : State) (end : RunEnd) (line after text' : List ℕ) (s' : State) (end' : RunEnd)
    → HasAnswered name input rest text s end → lines_of rest ≡ line ∷ lines_of after → length after < length rest
    → ((earlier : List Event) → s ≡ state_after earlier → s' ≡ state_after (with_heard earlier (packet_in line)))
    → ((earlier : List Event) → s ≡ state_after earlier → text' ≡ text ++ line_answer earlier line)
    → end' ≡ cond (is_faulty line) Faulty end
    → HasAnswered name input after text' s' end'
answered_more name input rest text s end line after text' s' end' has cut shorter step gives ends =
    let events = events_of_lines name has.before in
    record {
      before = has.before ++ line ∷ [];
      lines = append_assoc has.before (line ∷ []) (lines_of after) ∙ ap (λ (ls : List (List ℕ)). has.before ++ ls) (sym cut) ∙ has.lines;
      few = omega (arith, length-append has.before (line ∷ []), has.few);
      after = step events has.after ∙ ap (λ (es : List Event). state_after es) (sym (events_of-append name has.before line));
      writes = ap (λ (xs : List ℕ). xs ++ answers_from name (has.before ++ line ∷ []) (lines_of after)) (gives events has.after)
          ∙ append_assoc text (line_answer events line) _
          ∙ ap (λ (ls : List (List ℕ)). text ++ answers_from name has.before ls) (sym cut) ∙ has.writes;
      ends = ends ∙ ap (λ (e : RunEnd). cond (is_faulty line) Faulty e) has.ends
          ∙ faulty_more (list_any is_faulty has.before) (is_faulty line) ∙ ap (λ (b : Bool). cond b Faulty Done) (sym (list_any-append is_faulty has.before (line ∷ [])));
    }

no_more : (rest : List ℕ) → length rest ≡ 0 → rest ≡ []
no_more [] e = refl
no_more (b ∷ bs) e = absurd (omega arith)

pub answered_text : (name input rest text : List ℕ) (s : State) (end : RunEnd) → HasAnswered name input rest text s end → length rest ≡ 0 → text ≡ answer_text name input
answered_text name input rest text s end has none =
    sym (append-nil text) ∙ ap (λ (r : List ℕ). text ++ answers_from name has.before (lines_of r)) (sym (no_more rest none)) ∙ has.writes

pub answered_end : (name input rest text : List ℕ) (s : State) (end : RunEnd) → HasAnswered name input rest text s end → length rest ≡ 0 → end ≡ answer_end input
unfolding answer_end
answered_end name input rest text s end has none =
    let all : has.before ≡ lines_of input = sym (append-nil has.before) ∙ ap (λ (r : List ℕ). has.before ++ lines_of r) (sym (no_more rest none)) ∙ has.lines in
    has.ends ∙ ap (λ (ls : List (List ℕ)). cond (list_any is_faulty ls) Faulty Done) all
