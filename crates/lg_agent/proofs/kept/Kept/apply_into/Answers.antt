use Rattle.std.proofs.Common.{rules, ◌≡◌, ◌+◌, ◌∷◌, ◌++◌, [], List, ap, sym, ◌∙◌, arith, refl, take}
use Rattle.std.specs.Prelude.{Some, None}
use Rattle.std.proofs.lemmas.List.{length-set}
use Rattle.lg_detector.specs.declared.event.Event.{Event}
use Rattle.lg_detector.specs.Meaning.Step.{reply_after}
use Rattle.lg_detector.specs.Support.Step.{state_after}
use Rattle.lg_history.specs.Meaning.History.{Entry, HistoryValue, entry, events, completed}
use Rattle.lg_view.specs.Meaning.Views.{FeedValue}
use Rattle.lg_agent.specs.Meaning.Values.{own_name, own_limit}
use Rattle.lg_history.specs.Meaning.Rest.{of_seat}
use Rattle.lg_agent.proofs.SeatCounts.{one_more}
use Rattle.lg_agent.proofs.LedgerLaws.{goes_on, GoesOn, past_stays}
use Rattle.lg_agent.proofs.kept.Kept.apply_into.Goals as goal

pub step-requires : goal.step-requires
step-requires g c =
    let k = c.self.inside in
    let past : List Event = take k.base k.feed.events in
    let after : k.detector ≡ state_after (past ++ events k.history.entries) = c.self.invariant.3 ∙ ap state_after c.self.invariant.4 in
    let more = goes_on k.places past k.cut k.history.entries k.detector c.args.seat c.args.event.now c.self.invariant.0 after c.requires (omega arith) (omega arith) (omega arith) in
    more.accepts

pub invariant_of-self-2 : goal.invariant_of-self-2
invariant_of-self-2 g c =
    let k = c.self.inside in
    let h : List Entry = k.history.entries in
    let e : Event = c.args.event.now in
    let past : List Event = take k.base k.feed.events in
    let f : List Event = past ++ events h in
    let x : Entry = entry c.args.seat e (reply_after f e) in
    let after : k.detector ≡ state_after f = c.self.invariant.3 ∙ ap state_after c.self.invariant.4 in
    let more : GoesOn k.places past k.cut h k.detector c.args.seat e x = goes_on k.places past k.cut h k.detector c.args.seat e c.self.invariant.0 after c.requires (omega arith) (omega arith) (omega arith) in
    let ready : c.prepare.new.self ≡ record k.history { prepared = Some (record { seat = c.args.seat; event = e }) } = search rules in
    let replied : c.step.new.reply ≡ reply_after f e = c.step.ensures.answer f after in
    let grown : c.complete.new.self ≡ record { entries = h ++ entry c.args.seat e c.step.new.reply ∷ []; prepared = None } = c.complete.ensures ∙ ap (λ (v : HistoryValue). completed c.step.new.reply v) ready in
    let is : c.complete.new.self.entries ≡ h ++ x ∷ [] = ap (λ (v : HistoryValue). v.entries) grown ∙ rw replied refl in
    let waits : c.append.new.self ≡ record k.feed { waiting = e ∷ [] } = search rules in
    let now : c.publish.new.self ≡ record k.feed { events = k.feed.events ++ e ∷ []; waiting = [] } = c.publish.ensures ∙ ap (λ (s : FeedValue). record s { events = s.events ++ s.waiting; waiting = [] }) waits in
    let published : c.publish.new.self.events ≡ k.feed.events ++ e ∷ [] = ap (λ (s : FeedValue). s.events) now in
    let stays : take k.base c.publish.new.self.events ≡ past = ap (take k.base) published ∙ past_stays k.base k.feed.events (events h) e c.self.invariant.4 c.self.invariant.7 in
    let whole : k.feed.events ++ e ∷ [] ≡ past ++ events (h ++ x ∷ []) = ap (λ (l : List Event). l ++ e ∷ []) c.self.invariant.4 ∙ sym more.events_are in (
      rw (is, stays) more.rest,
      rw stays c.self.invariant.1,
      ap (λ (v : HistoryValue). v.prepared) grown,
      c.step.ensures.after k.feed.events c.self.invariant.3 ∙ ap state_after (sym published),
      published ∙ (whole ∙ sym (rw (is, stays) refl)),
      ap (λ (s : FeedValue). s.waiting) now,
      rw (is, stays) (omega (arith, more.counted, c.self.invariant.6)),
      rw stays c.self.invariant.7,
      c.self.invariant.8 ∙ (ap own_name c.self.invariant.4 ∙ (sym more.name ∙ ap own_name (sym (published ∙ whole)))),
      c.self.invariant.9 ∙ (ap own_limit c.self.invariant.4 ∙ (sym more.limit ∙ ap own_limit (sym (published ∙ whole)))),
      c.self.invariant.10,
      c.self.invariant.11,
      c.self.invariant.12,
      c.self.invariant.13,
      c.self.invariant.14,
      length-set k.made c.args.seat (of_seat k.made c.args.seat + 1) ∙ c.self.invariant.15,
      rw is (one_more k.made k.cut h x (let long = c.self.invariant.15 in let most = c.self.invariant.12 in omega (arith, long, most)) c.self.invariant.16),
    )
