use Rattle.std.proofs.Common.{◌≡◌, ℕ, ◌≤◌, List, [], length, take, ap, subst, sym, ◌∙◌}
use Rattle.lg_detector.specs.declared.sends.Sends.TheInside.{Inside}
use Rattle.lg_detector.specs.Support.Kept.{state_in}
use Rattle.lg_detector.specs.Support.State.{State, has_news_in}
use Rattle.lg_detector.specs.Support.Step.{view_state}
use Rattle.lg_detector.specs.Support.Tick.{while_news_state}
use Rattle.lg_detector.proofs.Telling.{gossips_from, after_the_last, without_news, all-state, all-sent}
use Rattle.lg_detector.proofs.detector.Detector.tell_each.Goals.{else-loop-index-test, then-loop-index-test+then-not-has_news}
use Rattle.lg_detector.proofs.detector.Detector.tell_each.Goals as goal

-- the loop ends after the last name, or when there is no news
none_left : (c : goal.After-sends-1)
    → while_news_state (gossips_from c.loop-index.index (view_state c.args.self.now) c.args.told.now) c.loop-index.self ≡ []
none_left c =
    let s = c.loop-index.self in
    let rows = view_state c.args.self.now in
    let names = c.args.told.now in
    let i = c.loop-index.index in
    elim c.loop-index-test.branch [
      | else-loop-index-test w ↦ after_the_last rows names s i (subst (λ (ns : List (List ℕ)). length ns ≤ i) c.names-names.ensures.names w.loop-index-test.false)
      | then-loop-index-test+then-not-has_news w ↦
          without_news (gossips_from i rows names) s
          (ap (λ (t : State). has_news_in t.membership) (sym w.self.view_is ∙ ap state_in (sym w.deref.ensures))
          ∙ sym w.has_news.ensures.state
          ∙ w.if-not-has_news.true)
    ]

-- the slots are those that the loop has left
slots_are : (c : goal.After-sends-1) → c.loop-index-test.sends-inside.slots.items ≡ c.loop-index.slots.items
slots_are c = elim c.loop-index-test.branch [
  | else-loop-index-test w ↦ ap (λ (s : Inside). s.slots.items) w.sends-inside-is
  | then-loop-index-test+then-not-has_news w ↦ ap (λ (s : Inside). s.slots.items) w.sends-inside-is
]

pub returns-clause-state : goal.returns-clause-state
returns-clause-state c =
    all-state c.args.self.now c.loop-index.self c.args.told.now c.loop-index.index c.loop-index.count c.loop-index.slots.items
    c.loop-index.invariant (none_left c)

pub returns-clause-sends : goal.returns-clause-sends
returns-clause-sends c =
    ap (take c.loop-index.count) (slots_are c)
    ∙ all-sent c.args.self.now c.loop-index.self c.args.told.now c.loop-index.index c.loop-index.count c.loop-index.slots.items
    c.loop-index.invariant (none_left c)
