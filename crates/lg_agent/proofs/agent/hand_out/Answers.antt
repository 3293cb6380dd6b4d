use Rattle.std.proofs.Common.{◌≡◌, ◌+◌, ◌∷◌, ◌++◌, [], All, length, vec_len, true, arith, rules, subst, List, ap, ◌∙◌, length-append, refl}
use Rattle.lg_detector.specs.declared.event.Event.{Event}
use Rattle.lg_view.specs.Meaning.Views.{begins_open}
use Rattle.lg_agent.specs.Meaning.Values.{PassValue}
use Rattle.lg_agent.proofs.PassLaws.{all-front, all-last, fresh-append}
use Rattle.std.proofs.lemmas.List.Elements.{All-nil, All-cons, All-append}
use Rattle.lg_agent.proofs.agent.hand_out.Goals as goal

pub loop-look-preserved : goal.loop-look-preserved
loop-look-preserved g c =
    let was : c.loop-look.looks.items ≡ c.pop.new.self.items ++ c.in-Some.look ∷ [] = search rules in
    let Ready : List Event → Type 0 = λ k. begins_open k ≡ true in
    let ready : All Ready (c.pop.new.self.items ++ c.in-Some.look ∷ []) = subst (All Ready) was c.loop-look.invariant.ready in
    let made : PassValue = record { name = c.args.name; seat = c.len.result + 1; seen = c.in-Some.look; gone = 0; mine = c.new.result.items } in
    let grown : c.push_reserved.new.self.items ≡ c.loop-look.passes.items ++ made ∷ [] = cc in
    let popped : vec_len c.loop-look.looks ≡ vec_len c.pop.new.self + 1 = omega (arith, c.loop-look.looks.ok, c.pop.new.self.ok, ap length was ∙ length-append c.pop.new.self.items (c.in-Some.look ∷ [])) in
    record {
      ready = all-front Ready c.pop.new.self.items _ ready;
      fresh = rw grown (fresh-append c.args.name 0 c.loop-look.passes.items made c.loop-look.invariant.fresh (record {
        name = refl;
        seat = omega (arith, c.loop-look.passes.ok, c.len.ensures);
        seen = all-last Ready c.pop.new.self.items _ ready;
        gone = refl;
        mine = c.new.ensures.items;
      }));
      seen = λ f all. let both = c.loop-look.invariant.seen f all in let Same : List Event → Type 0 = λ k. k ≡ f in let Saw : PassValue → Type 0 = λ p. p.seen ≡ f in let left : All Same (c.pop.new.self.items ++ c.in-Some.look ∷ []) = subst (All Same) was both.0 in
          (all-front Same c.pop.new.self.items _ left, rw grown (All-append Saw c.loop-look.passes.items (made ∷ []) both.1 (All-cons Saw made [] (all-last Same c.pop.new.self.items _ left) (All-nil Saw))));
      room = omega (arith, popped, c.push_reserved.ensures.len);
      count = omega (arith, popped, c.push_reserved.ensures.len);
    }
