use Rattle.std.proofs.Common.{◌≡◌, ◌<◌, ◌≤◌, true, false, List, length, ltb, refl, ap, sym, ◌∙◌, arith}
use Rattle.std.proofs.lemmas.Bool.Decides.{nat_tests}
use Rattle.toml.specs.View.{items_view}
use Rattle.toml.specs.declared.value.Value.{Value}
use Rattle.lg_timing.specs.Meaning.Bounds.{most_seeds}
use Rattle.lg_config.specs.Meaning.FormReasons.{few_names, few_seeds_reason, many_seeds_reason, seeds_reason}
use Rattle.lg_config.specs.Meaning.Seeds.{shared_name}
use Rattle.lg_config.proofs.ReasonLaws.{said_as}
use Rattle.lg_config.proofs.SeedLaws.{items-counted}
use Rattle.lg_config.proofs.form_reasons.seeds_reason.Goals as goal

many : (vs : List Value) → most_seeds < length vs → seeds_reason (items_view vs) ≡ many_seeds_reason (length vs)
unfolding seeds_reason
many vs h =
    let past : ltb most_seeds (length vs) ≡ true = grind (arith, nat_tests) in
    rw (items-counted vs, past) refl

few : (vs : List Value) → length vs ≤ most_seeds → seeds_reason (items_view vs) ≡ few_seeds_reason (shared_name (few_names (items_view vs)))
unfolding seeds_reason
few vs h =
    let within : ltb most_seeds (length vs) ≡ false = grind (arith, nat_tests) in
    rw (items-counted vs, within) refl

pub returns-then-values-gt-MAX_SEEDS : goal.returns-then-values-gt-MAX_SEEDS
returns-then-values-gt-MAX_SEEDS c =
    said_as c.many_seeds_reason.result _ _ c.many_seeds_reason.ensures (sym (many c.args.values.now c.if-values-gt-MAX_SEEDS.true))

pub returns : goal.returns
returns c =
    said_as c.few_seeds_reason.result _ _ c.few_seeds_reason.ensures (ap few_seeds_reason c.name_shared_by.ensures ∙ sym (few c.args.values.now c.if-values-gt-MAX_SEEDS.false))
