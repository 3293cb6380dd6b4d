use Rattle.std.proofs.Common.{◌≡◌, ◌+◌, get_or, swap, refl, sym, ◌∙◌, ap, subst, arith}
use Rattle.std.proofs.lemmas.List.Sorted.{IsPermutation-refl}
use Rattle.lg_timers.specs.Support.Heap.{IsHeap}
use Rattle.lg_timers.specs.Support.Slots.{timer_at}
use Rattle.lg_timers.proofs.SiftLaws.{removed-around, removed-all}
use Rattle.lg_timers.proofs.heap.Heap.remove.Goals as goal

pub settle-requires-clause-around : goal.settle-requires-clause-around
settle-requires-clause-around g c =
    let old = c.args.self.now in
    let n = c.exchange.new.self.count in
    let more : n + 1 ≡ old.count = omega (arith, c.exchange.ensures.count, c.requires.used) in
    let at : c.from-place.result ≡ get_or old.places c.args.slot 0 = c.from-place.ensures ∙ ap (λ i. get_or old.places i 0) c.from.ensures in
    removed-around c.args.timers.now old.slots c.exchange.new.self.slots n c.from-place.result
    (omega (arith, more, c.requires.slots.few, c.requires.slots.placed.long)) (omega (arith, more, c.requires.used, at))
    (c.exchange.ensures.swapped ∙ ap (swap old.slots c.from-place.result) (sym c.exchange.ensures.count))
    (subst (IsHeap (timer_at c.args.timers.now old.slots)) (sym more) c.requires.heap) c.if-place-self.true

pub returns-then-place-self-clause-moved : goal.returns-then-place-self-clause-moved
returns-then-place-self-clause-moved g c =
    let old = c.args.self.now in
    let n = c.exchange.new.self.count in
    let more : n + 1 ≡ old.count = omega (arith, c.exchange.ensures.count, c.requires.used) in
    let at : c.from-place.result ≡ get_or old.places c.args.slot 0 = c.from-place.ensures ∙ ap (λ i. get_or old.places i 0) c.from.ensures in
    removed-all c.args.timers.now old.slots c.exchange.new.self.slots n c.from-place.result
    (omega (arith, more, c.requires.slots.few, c.requires.slots.placed.long)) (omega (arith, more, c.requires.used, at))
    (c.exchange.ensures.swapped ∙ ap (swap old.slots c.from-place.result) (sym c.exchange.ensures.count))
    (subst (IsHeap (timer_at c.args.timers.now old.slots)) (sym more) c.requires.heap)
    old.count c.settle.new.self.count c.args.slot c.settle.new.self.slots more c.settle.ensures.count
    (ap (λ i. get_or old.slots i 0) at ∙ c.requires.placed) c.settle.ensures.settled.moved

pub returns-else-place-self-clause-moved : goal.returns-else-place-self-clause-moved
returns-else-place-self-clause-moved g c =
    let old = c.args.self.now in
    let n = c.exchange.new.self.count in
    let more : n + 1 ≡ old.count = omega (arith, c.exchange.ensures.count, c.requires.used) in
    let at : c.from-place.result ≡ get_or old.places c.args.slot 0 = c.from-place.ensures ∙ ap (λ i. get_or old.places i 0) c.from.ensures in
    removed-all c.args.timers.now old.slots c.exchange.new.self.slots n c.from-place.result
    (omega (arith, more, c.requires.slots.few, c.requires.slots.placed.long)) (omega (arith, more, c.requires.used, at))
    (c.exchange.ensures.swapped ∙ ap (swap old.slots c.from-place.result) (sym c.exchange.ensures.count))
    (subst (IsHeap (timer_at c.args.timers.now old.slots)) (sym more) c.requires.heap)
    old.count n c.args.slot c.exchange.new.self.slots more refl
    (ap (λ i. get_or old.slots i 0) at ∙ c.requires.placed) (IsPermutation-refl _)
