use Rattle.std.proofs.Common.{◌≡◌, ◌∷◌, ◌++◌, [], drop, refl, ap, sym, ◌∙◌}
use Rattle.lg_view.specs.Support.Updates.{AddedValue}
use Rattle.lg_view.proofs.PublishLaws.{waiting_next, published_next, none_waited, one_waited}
use Rattle.lg_view.proofs.feed.Feed.publish.Given.{Over}
use Rattle.lg_view.proofs.feed.Feed.publish.Goals as goal

-- what waited goes on from what was published
ends : (g : Over) (c : goal.After-publish_put g) → c.in-Some.added.events ≡ c.self.inside.writer.desk.shown.value ++ c.in-Some.added.event ∷ []
ends g c =
    waiting_next c.self.inside.waiting c.in-Some.added c.self.inside.front c.self.inside.writer.desk.shown.value
    (sym c.take.ensures.value ∙ c.in-Some.is) c.self.invariant.0 c.self.invariant.1

-- and is published
next : (g : Over) (c : goal.After-publish_put g) → c.publish_put.new.writer.desk.shown.value ≡ c.in-Some.added.events
next g c =
    let before = c.self.inside.writer in
    let put = c.put.new.writer in
    let same : put.desk.shown.value ≡ before.desk.shown.value = rw c.put.ensures.desk refl in
    published_next c.in-Some.added before.desk.shown.value put.desk.shown.value c.publish_put.new.writer.desk.shown.value
    (drop before.behind before.log.items) (drop put.behind put.log.items) (ends g c) same c.self.invariant.2 c.put.ensures.pending c.publish_put.ensures.value

pub returns : goal.returns
returns g c =
    one_waited c.self.inside.waiting c.take.new.self c.in-Some.added c.self.inside.writer.desk.shown.value c.publish_put.new.writer.desk.shown.value
    c.args.self.now c.self.view_is (sym c.take.ensures.value ∙ c.in-Some.is) c.take.ensures.after (ends g c) (next g c)

pub returns-in_default : goal.returns-in_default
returns-in_default g c =
    none_waited c.self.inside.waiting c.take.new.self c.self.inside.writer.desk.shown.value c.args.self.now c.self.view_is
    (sym c.take.ensures.value ∙ c.in_default.is) c.take.ensures.after

pub invariant_of-self : goal.invariant_of-self
invariant_of-self g c = (c.self.invariant.0, rw c.take.ensures.after tt, c.self.invariant.2)

pub invariant_of-self-2 : goal.invariant_of-self-2
invariant_of-self-2 g c =
    let front : c.added.inside.front ≡ c.in-Some.added.events = ap (λ (a : AddedValue). a.events) c.added.view_is in
    (c.copy.ensures ∙ (front ∙ sym (next g c)), rw c.take.ensures.after tt, rw c.publish_put.ensures.none refl)
