use Rattle.std.proofs.Common.{◌≡◌, [], length, refl, sym, ap, ◌∙◌, arith}
use Rattle.lg_changes.proofs.ring.Changes.new.Goals as goal

pub returns : goal.returns
returns c =
    let none : length c.in_ok-rows.rows.items ≡ 0 = ap length c.in_ok-rows.ensures.items in
    record {
      others = [];
      are = sym c.in_ok-rows.ensures.items;
      lost = refl;
      few = omega (arith, none);
      full = λ some. absurd (omega arith);
      room = c.in_ok-rows.ensures.exact;
      counted = c.in_ok-rows.ensures.len ∙ sym none;
    }
