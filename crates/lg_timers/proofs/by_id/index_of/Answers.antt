use Rattle.std.proofs.Common.{◌≡◌, ◌+◌, ◌-◌, ◌/◌, ◌<◌, length, get_or, sym, ◌∙◌, ap, arith}
use Rattle.lg_rules.specs.Meaning.Rows.{name_cmp}
use Rattle.lg_timers.specs.declared.timer.Timer.{Timer}
use Rattle.lg_timers.specs.Meaning.Timers.{id_key}
use Rattle.lg_timers.specs.Support.Slots.{timer_in}
use Rattle.lg_timers.proofs.SearchLaws.{lesser_before, greater_behind, found_at, missing_at}
use Rattle.lg_timers.proofs.SlotLaws.{timer_read}
use Rattle.lg_timers.proofs.by_id.index_of.Goals as goal

pub loop-low-preserved-in-Less : goal.loop-low-preserved-in-Less
loop-low-preserved-in-Less c =
    let i = c.loop-low.invariant in
    let by_id = c.args.by_id.now in
    let timers = c.args.timers.now in
    let m = c.loop-low.low + (c.loop-low.high - c.loop-low.low) / 2 in
    let within : m < length by_id = omega (arith, i.within, c.loop-low-test.true) in
    let is : timer_in timers (get_or by_id m 0) ≡ get_or timers c.from.result c.index-timers-from.result = timer_read timers c.from.result (get_or by_id m 0) c.index-timers-from.result c.from.ensures (c.requires.within m 0 within) c.index-timers-from.is ∙ c.index-timers-from.is in
    record {
      order = omega (arith, c.loop-low-test.true);
      within = i.within;
      lesser = lesser_before timers c.args.id.now by_id m c.requires.rises within (ap (λ (t : Timer). name_cmp (id_key t.id) (id_key c.args.id.now)) is ∙ sym c.compare.ensures ∙ c.in-Less.is);
      greater = i.greater;
    }

pub returns-in-Equal : goal.returns-in-Equal
returns-in-Equal c =
    let by_id = c.args.by_id.now in
    let timers = c.args.timers.now in
    let m = c.loop-low.low + (c.loop-low.high - c.loop-low.low) / 2 in
    let within : m < length by_id = omega (arith, c.loop-low.invariant.within, c.loop-low-test.true) in
    let is : timer_in timers (get_or by_id m 0) ≡ get_or timers c.from.result c.index-timers-from.result = timer_read timers c.from.result (get_or by_id m 0) c.index-timers-from.result c.from.ensures (c.requires.within m 0 within) c.index-timers-from.is ∙ c.index-timers-from.is in
    found_at timers c.args.id.now by_id m within (ap (λ (t : Timer). name_cmp (id_key t.id) (id_key c.args.id.now)) is ∙ sym c.compare.ensures ∙ c.in-Equal.is)

pub loop-low-preserved : goal.loop-low-preserved
loop-low-preserved c =
    let i = c.loop-low.invariant in
    let by_id = c.args.by_id.now in
    let timers = c.args.timers.now in
    let m = c.loop-low.low + (c.loop-low.high - c.loop-low.low) / 2 in
    let within : m < length by_id = omega (arith, i.within, c.loop-low-test.true) in
    let is : timer_in timers (get_or by_id m 0) ≡ get_or timers c.from.result c.index-timers-from.result = timer_read timers c.from.result (get_or by_id m 0) c.index-timers-from.result c.from.ensures (c.requires.within m 0 within) c.index-timers-from.is ∙ c.index-timers-from.is in
    record {
      order = omega arith;
      within = omega (arith, within);
      lesser = i.lesser;
      greater = greater_behind timers c.args.id.now by_id m c.requires.rises (ap (λ (t : Timer). name_cmp (id_key t.id) (id_key c.args.id.now)) is ∙ sym c.compare.ensures ∙ c.in-Greater.is);
    }

pub returns : goal.returns
returns c =
    let i = c.loop-low.invariant in
    missing_at c.args.timers.now c.args.id.now c.args.by_id.now c.loop-low.low (omega (arith, i.order, i.within)) i.lesser (λ k behind within. i.greater k (omega (arith, behind, c.loop-low-test.false)) within)
