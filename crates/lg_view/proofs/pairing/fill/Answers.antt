use Rattle.std.proofs.Common.{◌≡◌, ℕ, zero, suc, ◌+◌, ◌++◌, ◌∷◌, [], List, All, arith, rules, ap, ◌∙◌}
use Rattle.std.proofs.lemmas.List.Elements.{All-append}
use Rattle.lg_detector.specs.declared.event.Event.{Event}
use Rattle.lg_view.proofs.pairing.fill.Goals as goal

one_new : (x : List Event) → x ≡ [] → All (λ look. look ≡ []) (x ∷ [])
one_new x new zero d less = new
one_new x new (suc k) d less = absurd (omega arith)

-- a list of new looks with a new one more
more_new : (xs ys : List (List Event)) (x : List Event) → ys ≡ xs ++ x ∷ [] → x ≡ [] → All (λ look. look ≡ []) xs → All (λ look. look ≡ []) ys
more_new xs ys x are new all = rw are (All-append (λ look. look ≡ []) xs (x ∷ []) all (one_new x new))

pub returns : goal.returns
returns g c = (omega arith, c.loop.invariant.all_new)

pub loop-init : goal.loop-init
loop-init g c = record {
  count = search rules;
  room = c.requires.2;
  all_new = rw c.requires.1 (λ k d less. absurd (omega arith));
}

pub loop-preserved : goal.loop-preserved
loop-preserved g c = record {
  count = c.push_reserved.ensures.len ∙ ap (λ (n : ℕ). n + 1) c.loop.invariant.count;
  room = rw c.push_reserved.ensures.capacity c.loop.invariant.room;
  all_new = more_new c.loop.looks.items c.push_reserved.new.self.items c.over.result c.push_reserved.ensures.items (c.over.ensures ∙ (c.copy.ensures ∙ c.requires.0)) c.loop.invariant.all_new;
}
