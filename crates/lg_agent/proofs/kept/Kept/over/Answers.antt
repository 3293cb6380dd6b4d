use Rattle.std.proofs.Common.{◌≡◌, ◌∷◌, ◌++◌, [], List, ap, sym, ◌∙◌, refl, arith}
use Rattle.lg_detector.specs.declared.event.Event.{Event}
use Rattle.lg_detector.specs.declared.event.Event.TheVariants.{Open}
use Rattle.lg_detector.specs.Meaning.Step.{reply_after}
use Rattle.lg_detector.specs.Support.Step.{state_after}
use Rattle.lg_history.specs.Meaning.History.{Entry, HistoryValue, entry, events}
use Rattle.lg_history.proofs.Rests.{rest_whole}
use Rattle.lg_view.specs.Meaning.Views.{FeedValue}
use Rattle.lg_agent.proofs.LedgerLaws.{begins, Begins}
use Rattle.lg_agent.proofs.SeatCounts.{nobody, none_yet, one_more}
use Rattle.lg_agent.proofs.kept.Kept.over.Goals as goal

pub invariant_of-result : goal.invariant_of-result
invariant_of-result g c =
    let e : Event = Open c.args.now c.args.config in
    let x : Entry = entry 0 e (reply_after [] e) in
    let all : Begins c.args.places c.args.now c.args.config = begins _ _ _ c.requires.config in
    let is : c.in-Ok.history.entries ≡ x ∷ [] = ap (λ (v : HistoryValue). v.entries) c.in-Ok.ensures.history in
    let now : c.publish.new.self ≡ record c.args.feed { events = c.args.feed.events ++ e ∷ []; waiting = [] } = c.publish.ensures ∙ ap (λ (s : FeedValue). record s { events = s.events ++ s.waiting; waiting = [] }) c.in-Ok.ensures.waits in
    let published : c.publish.new.self.events ≡ e ∷ [] = ap (λ (s : FeedValue). s.events) now ∙ ap (λ (l : List Event). l ++ e ∷ []) c.requires.feed.0 in (
      rw is (rest_whole c.args.places _ (x ∷ []) (nobody none_yet refl) all.legal),
      refl,
      ap (λ (v : HistoryValue). v.prepared) c.in-Ok.ensures.history,
      c.in-Ok.ensures.detector ∙ ap state_after (sym published),
      published ∙ ap events (sym is),
      ap (λ (s : FeedValue). s.waiting) now,
      rw is refl,
      refl,
      rw published refl,
      rw published refl,
      all.limit,
      c.requires.places.0,
      c.requires.places.1,
      c.requires.places.2,
      refl,
      refl,
      rw is (one_more none_yet none_yet [] x (omega arith) (λ p. omega arith)),
    )

pub returns-clause-none_cut : goal.returns-clause-none_cut
returns-clause-none_cut g c = nobody none_yet refl
