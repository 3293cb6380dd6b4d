use Rattle.std.proofs.Common.{◌≡◌, ◌<◌, ◌≤◌, None, Some, [], ◌∷◌, length, length-append, ap, sym, ◌∙◌, option_map, arith, rules}
use Rattle.std.proofs.lemmas.Bool.Decides.{nat_tests}
use Rattle.toml.specs.View.{view}
use Rattle.lg_timing.specs.Meaning.Bounds.{most_seeds}
use Rattle.lg_config.specs.Meaning.Settings.{seed_of_value}
use Rattle.lg_config.proofs.SeedLaws.{none-kept, read-full, read-more}
use Rattle.lg_config.proofs.seeds.first_seeds.Goals as goal
use Rattle.lg_config.proofs.seeds.first_seeds.Goals.{then-not-is_full, else-not-is_full}

pub returns-in_err-seed : goal.returns-in_err-seed
returns-in_err-seed c =
    let none : seed_of_value (view c.value-item.result) ≡ None = search rules in
    ap (option_map (λ seeds. seeds.items)) c.from_residual.ensures ∙ sym (none-kept c.args.values.now c.loop-value.value-index c.value-item.result c.loop-value-test.true c.value-item.is none)

pub loop-value-preserved : goal.loop-value-preserved
loop-value-preserved c =
    let found : seed_of_value (view c.value-item.result) ≡ Some c.in_ok-seed.seed = search rules in
    elim c.if-not-is_full.branch [
      | then-not-is_full w ↦
          (let room : length c.loop-value.seeds.items < most_seeds = grind (arith, nat_tests) in
          let items = ap (λ s. s.items) w.seeds-is ∙ w.push.ensures.items in
          record {
            so_far = read-more c.args.values.now c.loop-value.value-index c.value-item.result c.loop-value.seeds.items c.in_ok-seed.seed c.loop-value-test.true c.value-item.is c.loop-value.invariant.so_far found room ∙ ap Some (sym items);
            few = omega (arith, room, ap length items, length-append c.loop-value.seeds.items (c.in_ok-seed.seed ∷ []));
          })
      | else-not-is_full w ↦
          (let none : most_seeds ≤ length c.loop-value.seeds.items = grind (arith, nat_tests) in
          let items = ap (λ s. s.items) w.seeds-is in
          record {
            so_far = read-full c.args.values.now c.loop-value.value-index c.value-item.result c.loop-value.seeds.items c.in_ok-seed.seed c.loop-value-test.true c.value-item.is c.loop-value.invariant.so_far found none ∙ ap Some (sym items);
            few = omega (arith, c.loop-value.invariant.few, ap length items);
          })
    ]
