use Rattle.std.proofs.Common.{◌≡◌, ◌++◌, ◌∷◌, [], sym, ◌∙◌, ap, true}
use Rattle.lg_detector.specs.Meaning.Step.{is_accepted}
use Rattle.lg_view.proofs.AddingLaws.{adds_moves}
use Rattle.lg_view.proofs.front.Front.add.Goals as goal

pub compare_exchange-found-requires : goal.compare_exchange-found-requires
compare_exchange-found-requires g c =
    let head = c.args.book.now.head_is in
    let seen = c.again-seen.ensures in
    let offer = c.plain-offer.ensures in
    let pen = c.no_pen-pen.ensures in
    let may : is_accepted (c.self.inside.seen.log ++ c.args.event.now ∷ []) ≡ true = rw c.self.view_is c.requires in
    let here = ap (λ s. s.book) seen ∙ (c.self.invariant.1 ∙ sym (ap (λ w. w.book) head)) in (
      ap (λ w. w.tracked) head,
      here,
      pen.0 ∙ here,
      offer.0,
      rw (ap (λ w. w.key) head, pen.1, offer.1, offer.3, seen) (adds_moves c.self.inside.seen.log c.args.event.now c.self.inside.count (sym c.self.invariant.0) may),
    )
