use Rattle.std.proofs.Common.{◌∷◌, ◌++◌, [], ap, sym, ◌∙◌, eq-eqb, refl, arith, ℕ}
use Rattle.std.specs.Prelude.{Option, Ok}
use Rattle.lg_rules.specs.declared.addr.Addr.{Addr}
use Rattle.lg_turns.specs.Meaning.Links.{reception}
use Rattle.lg_turns.specs.Meaning.Turns.{receives}
use Rattle.lg_turns.specs.Meaning.Turns.Turn.{Quiet, Broken}
use Rattle.lg_loops.proofs.receiving.receive_turn.Goals as goal

pub returns-in-Ok-None : goal.returns-in-Ok-None
unfolding receives
returns-in-Ok-None g c = let e = c.in-Ok-None in let on = c.on.ensures in record {
  turn = Quiet c.args.shared.now.wait_ms;
  kind_is = eq-eqb c.args.shared.now.wait_ms c.args.shared.now.wait_ms refl;
  is = refl;
  told = λ yes. e.ensures.told yes ∙ ap (λ (o : Option (Addr × ℕ)). g.L.Link.log c.args.side.now.link ++ reception c.args.shared.now.wait_ms (Ok o) c.receive.new.buffer ∷ []) e.field-0-is;
  failed = omega (arith, e.ensures.received);
  why = sym on.why;
  dropped = on.dropped;
  unsent = on.unsent;
  few_dropped = omega (arith, on.dropped);
  few_unsent = omega (arith, on.unsent);
}

pub returns-in-Err : goal.returns-in-Err
unfolding receives
returns-in-Err g c = let e = c.in-Err in let end = c.end.ensures in record {
  turn = Broken;
  kind_is = refl;
  is = refl;
  told = λ yes. e.ensures.told yes;
  failed = e.ensures.failed;
  why = sym end.why;
  dropped = end.dropped;
  unsent = end.unsent;
  few_dropped = omega (arith, end.dropped);
  few_unsent = omega (arith, end.unsent);
}
