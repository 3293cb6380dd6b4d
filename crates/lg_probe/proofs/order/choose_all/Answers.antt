use Rattle.std.proofs.Common.{subst, sym, ◌∙◌, refl, arith}
use Rattle.lg_probe.proofs.Joining.{none_chosen, next_chosen, all_chosen}
use Rattle.lg_probe.specs.Meaning.Order.{EachInWindows}
use Rattle.lg_probe.proofs.WindowLaws.{nobody_picked, window_picked}
use Rattle.lg_probe.proofs.order.choose_all.Goals as goal

pub loop-word-init : goal.loop-word-init
loop-word-init c = none_chosen c.args.names.now c.args.words.now _ _ c.order_of-order.ensures c.new-chosen.ensures.items

pub loop-word-preserved : goal.loop-word-preserved
loop-word-preserved c =
    next_chosen c.args.names.now c.args.words.now c.loop-word.word-index _ c.loop-word.order c.choose.new.self c.loop-word.chosen.items c.push_chosen.new.chosen.items _ c.choose.result (omega arith) c.loop-word-test.true refl c.loop-word.invariant c.choose.ensures.past c.in_ok-push_chosen.ensures

pub returns : goal.returns
returns c =
    let names = c.args.names.now in
    let words = c.args.words.now in
    let chosen = all_chosen names words c.loop-word.word-index c.loop-word.order c.loop-word.chosen.items (omega (arith, c.loop-word-test.false)) c.loop-word.invariant in
    record {
      chosen = chosen;
      windows = subst (EachInWindows names words) (sym chosen) (λ name i named within. window_picked names words name i named within);
      none = λ empty. chosen ∙ nobody_picked names words empty;
    }
