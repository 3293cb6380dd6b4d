use Rattle.std.proofs.Common.{◌≡◌, ◌≢◌, ◌+◌, ◌-◌, ◌/◌, ◌<◌, List, ℕ, length, get_or, sym, ◌∙◌, ap, arith}
use Rattle.std.specs.List.{prefix_len}
use Rattle.std.specs.Ordering.{is_lt}
use Rattle.std.specs.declared.cmp.Ordering.TheVariants.{Greater}
use Rattle.std.proofs.lemmas.List.Sums.{prefix_len-le-length}
use Rattle.lg_rules.specs.Meaning.Rows.{name_cmp}
use Rattle.lg_rules.proofs.Halving.{lessers_above, lessers_below, has_same, lacks_here, greater_apart}
use Rattle.lg_rules.proofs.KeyOrder.{names_order}
use Rattle.std.proofs.lemmas.List.{get_or_default}
use Rattle.lg_rules.proofs.rows.index_in_rows.Goals as goal

pub loop-low-init : goal.loop-low-init
loop-low-init g c =
    record {
      order = omega arith;
      within = omega (arith, c.len-high.ensures.len);
      above = omega arith;
      below = omega (arith, c.len-high.ensures.len, prefix_len-le-length (λ r. is_lt (name_cmp (g.T.Keyed.key_of r) c.args.name.now)) c.args.rows.now.items);
      other = λ d short. absurd (omega (arith, short, c.len-high.ensures.len));
    }

pub loop-low-preserved-in-Less : goal.loop-low-preserved-in-Less
loop-low-preserved-in-Less g c =
    let i = c.loop-low.invariant in
    let rows = c.args.rows.now.items in
    let m = c.loop-low.low + (c.loop-low.high - c.loop-low.low) / 2 in
    let within : m < length rows = omega (arith, i.within, c.loop-low-test.true) in
    let less = ap (λ x. name_cmp (g.T.Keyed.key_of x) c.args.name.now) (sym c.index.ensures) ∙ ap (λ k. name_cmp k c.args.name.now) (sym c.key.ensures) ∙ sym c.cmp.ensures ∙ c.in-Less.is in
    record {
      order = omega (arith, c.loop-low-test.true);
      within = i.within;
      above = omega (arith, lessers_above names_order g.T.Keyed.key_of c.args.name.now rows m c.index.result.now c.requires within less);
      below = i.below;
      other = i.other;
    }

pub returns-in-Equal : goal.returns-in-Equal
returns-in-Equal g c =
    let i = c.loop-low.invariant in
    let rows = c.args.rows.now.items in
    let m = c.loop-low.low + (c.loop-low.high - c.loop-low.low) / 2 in
    let within : m < length rows = omega (arith, i.within, c.loop-low-test.true) in
    has_same names_order g.T.Keyed.key_of c.args.name.now rows m c.index.result.now c.requires within c.index.ensures
    (ap (λ k. name_cmp k c.args.name.now) (sym c.key.ensures) ∙ sym c.cmp.ensures ∙ c.in-Equal.is)

pub loop-low-preserved : goal.loop-low-preserved
loop-low-preserved g c =
    let i = c.loop-low.invariant in
    let rows = c.args.rows.now.items in
    let m = c.loop-low.low + (c.loop-low.high - c.loop-low.low) / 2 in
    let within : m < length rows = omega (arith, i.within, c.loop-low-test.true) in
    let more = ap (λ x. name_cmp (g.T.Keyed.key_of x) c.args.name.now) (sym c.index.ensures) ∙ ap (λ k. name_cmp k c.args.name.now) (sym c.key.ensures) ∙ sym c.cmp.ensures ∙ c.in-Greater.is in
    record {
      order = omega arith;
      within = omega (arith, within);
      above = i.above;
      below = lessers_below names_order g.T.Keyed.key_of c.args.name.now rows m c.index.result.now within (ap is_lt more);
      other = λ d short.
          greater_apart names_order (λ (k : List ℕ). k) c.args.name.now (g.T.Keyed.key_of (get_or rows m d))
          (ap (λ x. name_cmp (g.T.Keyed.key_of x) c.args.name.now) (get_or_default rows m d c.index.result.now within) ∙ more);
    }

pub returns : goal.returns
returns g c =
    let i = c.loop-low.invariant in
    let rows = c.args.rows.now.items in
    lacks_here names_order g.T.Keyed.key_of c.args.name.now rows c.loop-low.low (omega (arith, i.order, i.above, i.below, c.loop-low-test.false))
    (λ d short e.
    let same : c.loop-low.high ≡ c.loop-low.low = omega (arith, i.order, c.loop-low-test.false) in
    i.other d (omega (arith, short, same)) (ap (λ k. g.T.Keyed.key_of (get_or rows k d)) same ∙ e))
