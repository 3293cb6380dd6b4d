-- What was told so far, with one more turn, and at the end.
use Rattle.std.proofs.Common.{◌≡◌, ◌⊎◌, ◌≤◌, ℕ, List, [], ◌∷◌, ◌++◌, length, Option, Some, None, refl, sym, ap, ◌∙◌, subst, inl, inr, arith, append_assoc}
use Rattle.std.specs.Prelude.{unwrap_or}
use Rattle.std.specs.Io.KnownBytes.{Appends}
use Rattle.std.proofs.KnownBytes.{Appends-nil, Appends-trans}
use mathlib.Core.List.{IsPrefix}
use Rattle.lg_changes.specs.declared.behind.Behind.{Behind}
use Rattle.lg_changes.specs.declared.behind.Behind.TheVariants.{All, Missed}
use Rattle.lg_changes.specs.Meaning.Changes.{changes_after}
use Rattle.lg_changes.specs.Meaning.Kept.{HasBehind}
use Rattle.lg_text.specs.Meaning.Running.{AppendsFront}
use Rattle.lg_detector.specs.declared.event.Event.{Event}
use Rattle.lg_view.specs.declared.overview.Overview.{Overview}
use Rattle.lg_view.specs.Meaning.Changes.{changes_of}
use Rattle.lg_view.specs.Meaning.Views.{IsOverview}
use Rattle.lg_view.proofs.Fronts.{prefix_whole}
use Rattle.lg_agent.specs.declared.refusal.Refusal.{Refusal}
use Rattle.lg_agent.specs.Meaning.Values.{PassValue}
use Rattle.lg_agent.specs.Meaning.Calls.{IsLook}
use Rattle.lg_follow.specs.declared.watched.Watched.{Watched}
use Rattle.lg_follow.specs.declared.watched.Watched.TheVariants.{Told, Refused, WriterFailed}
use Rattle.lg_follow.specs.Meaning.Lines.{missed_line, stood_line}
use Rattle.lg_follow.specs.Meaning.Sights.{first_text, behind_text, sights_text, SightsGrow, EndsAt, OnlyLooked, HasWatched}
use Rattle.lg_follow.specs.Support.Telling.{members_text, changes_text, found_text, HasTold, Telling, Failing, TurnedAs, ToldAs, FinishedAs}
use Rattle.lg_follow.proofs.LeadingLaws.{each_leads}
use Rattle.lg_follow.proofs.SightLaws.{sights_more, sights_first, no_text, told_once, prefix_through, grow_none, grow_on, grow_more, grow_last, looked_on, looked_through, looked_prefix}

-- a text that was written, and a beginning of what follows it
front_after : (a b c : Option (List ℕ)) (text more : List ℕ) → Appends a b text → AppendsFront b c more → AppendsFront a c (text ++ more)
front_after a b c text more written partly = record {
  front = text ++ partly.front;
  rest = partly.rest;
  is = ap (λ (l : List ℕ). text ++ l) partly.is ∙ sym (append_assoc text partly.front partly.rest);
  taken = Appends-trans a b c text partly.front written partly.taken;
}

-- a beginning of a text begins a longer one
front_longer : (a b : Option (List ℕ)) (text more : List ℕ) → AppendsFront a b text → AppendsFront a b (text ++ more)
front_longer a b text more partly = record {
  front = partly.front;
  rest = partly.rest ++ more;
  is = ap (λ (l : List ℕ). l ++ more) partly.is ∙ append_assoc partly.front partly.rest more;
  taken = partly.taken;
}

-- nothing was told yet
pub telling_none : (p : PassValue) (held : Option (List ℕ)) (version : Option ℕ) → version ≡ None → Telling p p held held version
telling_none p held version first = record {
  looked = inl refl;
  sights = [];
  grow = grow_none p.seen;
  written = rw no_text (Appends-nil held);
  recent = rw first refl;
}

-- only looks were made
pub telling_on : (begin mid now : PassValue) (held holds : Option (List ℕ)) (version : Option ℕ) → Telling begin mid held holds version → OnlyLooked mid now
    → Telling begin now held holds version
telling_on begin mid now held holds version telling looked = record {
  looked = looked_through begin mid now telling.looked looked;
  sights = telling.sights;
  grow = grow_on begin.seen mid.seen now.seen telling.sights telling.grow (looked_prefix mid now looked);
  written = telling.written;
  recent = telling.recent;
}

-- there are no more events than were told of
all_told : (mid now : List Event) (from : List Event) (sights : List (List Event)) (last : List Event) (n : ℕ) → SightsGrow from sights mid → IsPrefix mid now → EndsAt sights last
    → n ≡ length last → length now ≤ n → EndsAt sights now
all_told mid now from sights last n grow more ends is few =
    let begins : IsPrefix last mid = grow_last from mid ends.earlier last (subst (λ (ss : List (List Event)). SightsGrow from ss mid) ends.are grow) in
    let same : last ≡ now = prefix_whole last now (prefix_through last mid now begins more) (omega (arith, is, few)) in
    subst (λ (f : List Event). EndsAt sights f) same ends

pub told_before : (begin mid now : PassValue) (held holds : Option (List ℕ)) (version : Option ℕ) (n : ℕ) → Telling begin mid held holds version → IsLook mid now
    → version ≡ Some n → length now.seen ≤ n → TurnedAs Told begin now held holds version
told_before begin mid now held holds version n telling look is few =
    let recent : HasTold (Some n) telling.sights = subst (λ (v : Option ℕ). HasTold v telling.sights) is telling.recent in (
      record {
        looked = looked_on begin mid now telling.looked look;
        sights = telling.sights;
        grow = grow_on begin.seen mid.seen now.seen telling.sights telling.grow look.begins;
        written = telling.written;
        recent = telling.recent;
      },
      all_told mid.seen now.seen begin.seen telling.sights recent.0 n telling.grow look.begins recent.1 recent.2 few,
    )

-- the text of what a look found, if this was told before
members_found : (found : Overview) (version : ℕ) (events : List Event) → IsOverview found version events → members_text found ≡ first_text events
members_found found version events is = rw (is.moment_is, is.records_are) refl

changes_found : (found : Overview) (version : ℕ) (events : List Event) (changes : Behind) → IsOverview found version events → HasBehind changes version (changes_of events)
    → changes_text found changes ≡ behind_text events (changes_after version (changes_of events))
changes_found found version events (All rows) is has = rw has refl
changes_found found version events (Missed ring) is has =
    ap (λ (l : List ℕ). missed_line found.moment ++ l) (members_found found version events is)
    ∙ ap (λ (m : ℕ). missed_line m ++ first_text events) is.moment_is
    ∙ sym (ap (λ (o : _). behind_text events o) has.0)

text_more : (found : Overview) (version : Option ℕ) (events : List Event) (sights : List (List Event)) → HasTold version sights → IsOverview found (unwrap_or version 0) events
    → sights_text (sights ++ events ∷ []) ≡ sights_text sights ++ found_text version found
text_more found None events sights told is =
    ap (λ (ss : List (List Event)). sights_text (ss ++ events ∷ [])) told
    ∙ sights_first events
    ∙ sym (members_found found 0 events is)
    ∙ sym (ap (λ (l : List ℕ). l ++ members_text found) (ap sights_text told ∙ no_text))
text_more found (Some version) events sights told is =
    let last : List Event = told.0 in
    let are : sights ≡ told.1.earlier ++ last ∷ [] = told.1.are in
    ap (λ (ss : List (List Event)). sights_text (ss ++ events ∷ [])) are
    ∙ sights_more told.1.earlier last events
    ∙ ap (λ (n : ℕ). sights_text (told.1.earlier ++ last ∷ []) ++ behind_text events (changes_after n (changes_of events))) (sym told.2)
    ∙ ap (λ (l : List ℕ). sights_text (told.1.earlier ++ last ∷ []) ++ l) (sym (changes_found found version events found.changes is is.changes_are))
    ∙ ap (λ (ss : List (List Event)). sights_text ss ++ changes_text found found.changes) (sym are)

-- one more sight was told
told_more : (begin mid now : PassValue) (held holds more : Option (List ℕ)) (found : Overview) (version version' : Option ℕ) → Telling begin mid held holds version
    → IsLook mid now → IsOverview found (unwrap_or version 0) now.seen → version' ≡ Some found.version → Appends holds more (found_text version found)
    → TurnedAs Told begin now held more version'
told_more begin mid now held holds more found version version' telling look is kept written =
    let ends : EndsAt (telling.sights ++ now.seen ∷ []) now.seen = record { earlier = telling.sights; are = refl } in (
      record {
        looked = looked_on begin mid now telling.looked look;
        sights = telling.sights ++ now.seen ∷ [];
        grow = grow_more begin.seen mid.seen now.seen telling.sights telling.grow look.begins look.accepted;
        written = rw (text_more found version now.seen telling.sights telling.recent is) (Appends-trans held holds more (sights_text telling.sights) (found_text version found) telling.written written);
        recent = rw kept (now.seen, ends, is.version_is);
      },
      ends,
    )

-- the writer failed at one more sight
told_partly : (begin mid now : PassValue) (held holds more : Option (List ℕ)) (found : Overview) (version : Option ℕ) → Telling begin mid held holds version
    → IsLook mid now → IsOverview found (unwrap_or version 0) now.seen → AppendsFront holds more (found_text version found) → Failing begin now held more
told_partly begin mid now held holds more found version telling look is partly = record {
  looked = looked_on begin mid now telling.looked look;
  sights = telling.sights ++ now.seen ∷ [];
  grow = grow_more begin.seen mid.seen now.seen telling.sights telling.grow look.begins look.accepted;
  written = rw (text_more found version now.seen telling.sights telling.recent is) (front_after held holds more (sights_text telling.sights) (found_text version found) telling.written partly);
}

-- what a turn that found something leaves
pub turned_by : (end : Watched) (begin mid now : PassValue) (held holds more : Option (List ℕ)) (found : Overview) (version version' : Option ℕ)
    → Telling begin mid held holds version → IsLook mid now → IsOverview found (unwrap_or version 0) now.seen
    → ToldAs end (found_text version found) holds more version version' found.version → TurnedAs end begin now held more version'
turned_by Told begin mid now held holds more found version version' telling look is done =
    told_more begin mid now held holds more found version version' telling look is done.0 done.1
turned_by (Refused refusal) begin mid now held holds more found version version' telling look is done =
    (rw (done.1, done.2) (telling_on begin mid now held holds version telling (inr look)), inl done.0)
turned_by WriterFailed begin mid now held holds more found version version' telling look is done =
    told_partly begin mid now held holds more found version telling look is done.1

-- the writer had failed
pub watched_failing : (begin now : PassValue) (held holds : Option (List ℕ)) → Failing begin now held holds → HasWatched begin now held holds WriterFailed
watched_failing begin now held holds failing = record {
  looked = failing.looked;
  sights = failing.sights;
  grow = failing.grow;
  each_once = told_once begin.seen now.seen failing.sights failing.grow;
  each_leads = each_leads begin.seen now.seen failing.sights failing.grow;
  moment = 0;
  left_out = 0;
  written = front_longer held holds (sights_text failing.sights) (stood_line 0 0) failing.written;
  ended = tt;
}

-- the writer failed at the last line
finished_partly : (begin now : PassValue) (held mid holds : Option (List ℕ)) (version : Option ℕ) (moment left_out : ℕ) → Telling begin now held mid version
    → AppendsFront mid holds (stood_line moment left_out) → HasWatched begin now held holds WriterFailed
finished_partly begin now held mid holds version moment left_out telling partly = record {
  looked = telling.looked;
  sights = telling.sights;
  grow = telling.grow;
  each_once = told_once begin.seen now.seen telling.sights telling.grow;
  each_leads = each_leads begin.seen now.seen telling.sights telling.grow;
  moment = moment;
  left_out = left_out;
  written = front_after held mid holds (sights_text telling.sights) (stood_line moment left_out) telling.written partly;
  ended = tt;
}

finished_told : (begin now : PassValue) (held mid holds : Option (List ℕ)) (version : Option ℕ) (moment left_out : ℕ) → TurnedAs Told begin now held mid version
    → Appends mid holds (stood_line moment left_out) → HasWatched begin now held holds Told
finished_told begin now held mid holds version moment left_out turned written = record {
  looked = turned.0.looked;
  sights = turned.0.sights;
  grow = turned.0.grow;
  each_once = told_once begin.seen now.seen turned.0.sights turned.0.grow;
  each_leads = each_leads begin.seen now.seen turned.0.sights turned.0.grow;
  moment = moment;
  left_out = left_out;
  written = Appends-trans held mid holds (sights_text turned.0.sights) (stood_line moment left_out) turned.0.written written;
  ended = turned.1;
}

finished_refused : (refusal : Refusal) (begin now : PassValue) (held mid holds : Option (List ℕ)) (version : Option ℕ) (moment left_out : ℕ)
    → TurnedAs (Refused refusal) begin now held mid version → Appends mid holds (stood_line moment left_out) → HasWatched begin now held holds (Refused refusal)
finished_refused refusal begin now held mid holds version moment left_out turned written = record {
  looked = turned.0.looked;
  sights = turned.0.sights;
  grow = turned.0.grow;
  each_once = told_once begin.seen now.seen turned.0.sights turned.0.grow;
  each_leads = each_leads begin.seen now.seen turned.0.sights turned.0.grow;
  moment = moment;
  left_out = left_out;
  written = Appends-trans held mid holds (sights_text turned.0.sights) (stood_line moment left_out) turned.0.written written;
  ended = turned.1;
}

-- what a turn left, and what the end added
pub finished : (turned end : Watched) (begin now : PassValue) (held mid holds : Option (List ℕ)) (version : Option ℕ) → TurnedAs turned begin now held mid version
    → FinishedAs turned end mid holds → HasWatched begin now held holds end
finished WriterFailed end begin now held mid holds version failing done =
    rw (done.0, done.1) (watched_failing begin now held mid failing)
finished Told end begin now held mid holds version turned (moment, left_out, inl done) =
    rw done.0 (finished_told begin now held mid holds version moment left_out turned done.1)
finished Told end begin now held mid holds version turned (moment, left_out, inr done) =
    rw done.0 (finished_partly begin now held mid holds version moment left_out turned.0 done.1)
finished (Refused refusal) end begin now held mid holds version turned (moment, left_out, inl done) =
    rw done.0 (finished_refused refusal begin now held mid holds version moment left_out turned done.1)
finished (Refused refusal) end begin now held mid holds version turned (moment, left_out, inr done) =
    rw done.0 (finished_partly begin now held mid holds version moment left_out turned.0 done.1)

-- what was told, after a turn in which the writer didn't fail
pub still_telling : (end : Watched) (begin now : PassValue) (held holds : Option (List ℕ)) (version : Option ℕ) → (end ≡ Told) ⊎ ((e : Refusal) × (end ≡ Refused e))
    → TurnedAs end begin now held holds version → Telling begin now held holds version
still_telling Told begin now held holds version is turned = turned.0
still_telling (Refused refusal) begin now held holds version is turned = turned.0
still_telling WriterFailed begin now held holds version (inl is) turned = absurd cc
still_telling WriterFailed begin now held holds version (inr is) turned = absurd (cc (is.1))
