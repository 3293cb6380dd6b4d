use Rattle.std.proofs.Common.{rules, ◌≡◌, ◌<◌, ◌≤◌, take, min, length-append, ◌+◌, ◌-◌, ◌++◌, ◌∷◌, [], List, ℕ, length, ap, sym, ◌∙◌, arith, append-nil, get_or}
use Rattle.std.specs.Prelude.{Option, Bool, true, is_ok, if◌then◌else◌, max}
use Rattle.std.specs.Option.{option_to_list}
use Rattle.lg_detector.specs.Meaning.Choice.{choice_of_reply, targets_after}
use Rattle.lg_detector.specs.declared.event.Event.{Event}
use Rattle.lg_detector.specs.Meaning.Step.{is_accepted}
use Rattle.lg_history.specs.Meaning.History.{Entry, events}
use Rattle.lg_history.specs.Meaning.Rest.{StandsFor}
use Rattle.lg_history.proofs.Legal.{length-events}
use Rattle.lg_agent.specs.Meaning.Closing.{ClosedValue}
use Rattle.lg_agent.proofs.ChoiceSteps.{names_more, stands_long, ends_same}
use Rattle.lg_agent.proofs.WindowSteps.{has_windows}
use Rattle.lg_agent.proofs.closed.Closed.choices.Goals.{in-Some+in_ok-push, in_default}
use Rattle.lg_agent.proofs.closed.Closed.choices.Goals as goal

pub loop-place-preserved : goal.loop-place-preserved
loop-place-preserved c =
    let me : ClosedValue = record { summary = c.self.inside.summary; base = c.self.inside.base; history = c.self.inside.entries.items } in
    let h : List Entry = c.self.inside.entries.items in
    let place : ℕ = c.loop-place.place in
    let above : c.self.inside.base ≤ place = c.loop-place.invariant.above in
    let i : ℕ = place - c.self.inside.base in
    let names : List (List ℕ) = c.loop-place.names.items in
    let long : c.count.result ≡ length h + c.self.inside.base = c.count.ensures ∙ ap (λ (l : ClosedValue). length l.history + l.base) (sym c.self.view_is) in
    let low : i < length h = omega (arith, c.min-place-end.ensures, long, c.loop-place-test.true, above) in
    let is : c.chosen.result ≡ choice_of_reply (get_or h i c.index.result.now).reply = c.chosen.ensures ∙ ap (λ (x : Entry). choice_of_reply x.reply) c.index.ensures in
    let grown : c.match-chosen.names.items ≡ names ++ option_to_list c.chosen.result = elim c.match-chosen.branch [
      | in-Some+in_ok-push w ↦
          let pushed : is_ok w.push.result ≡ true = search rules in
          ap (λ v. v.items) w.names-is ∙ (w.push.ensures.items ∙ ap (λ (b : Bool). if b then names ++ w.in-Some.name ∷ [] else names) pushed ∙ ap (λ (o : Option (List ℕ)). names ++ option_to_list o) (sym w.in-Some.is))
      | in_default w ↦ ap (λ v. v.items) w.names-is ∙ (sym (append-nil names) ∙ ap (λ (o : Option (List ℕ)). names ++ option_to_list o) (sym w.in_default.is))
    ] in
    record {
      gained = names_more me c.self.invariant (max c.args.from c.self.inside.base) place i c.index.result.now c.chosen.result names _ low (omega (arith, above)) is c.loop-place.invariant.gained grown;
      none = λ le. absurd (let later = c.loop-place.auto.place in omega arith);
      above = omega (arith, above);
    }

pub returns-clause-gained : goal.returns-clause-gained
returns-clause-gained c =
    let me : ClosedValue = record { summary = c.self.inside.summary; base = c.self.inside.base; history = c.self.inside.entries.items } in
    let long : c.count.result ≡ length me.history + me.base = c.count.ensures ∙ ap (λ (l : ClosedValue). length l.history + l.base) (sym c.self.view_is) in
    let known : (f : List Event) → StandsFor me.summary f → is_accepted (f ++ events me.history) ≡ true → max c.args.from me.base ≤ c.args.to
    → targets_after (take c.args.to (f ++ events me.history)) ≡ targets_after (take (max c.args.from me.base) (f ++ events me.history)) ++ c.loop-place.names.items =
    λ f stands accepted le.
    let w = c.self.invariant in
    let base : length f ≡ me.base = stands_long me.summary f w.past stands w.summary ∙ w.base in
    let both = length-append f (events me.history) in
    let count = length-events me.history in
    let whole : c.count.result ≡ length (f ++ events me.history) = omega (arith, long, base, both, count) in
    let end : c.min-place-end.result ≡ min c.args.to (length (f ++ events me.history)) = c.min-place-end.ensures ∙ ap (min c.args.to) whole in
    let start : c.max-place.result ≡ max c.args.from me.base = search rules in
    let same = ends_same (f ++ events me.history) c.max-place.result c.min-place-end.result c.loop-place.place c.args.to end c.loop-place-test.false c.loop-place.auto.place-end c.loop-place.auto.place (omega (arith, start, le)) in
    ap targets_after same ∙ c.loop-place.invariant.gained f stands accepted in
    rw (← c.self.view_is) known

pub returns-clause-windows : goal.returns-clause-windows
returns-clause-windows c = λ f stands accepted le. has_windows _ _ _ (returns-clause-gained c f stands accepted le)
