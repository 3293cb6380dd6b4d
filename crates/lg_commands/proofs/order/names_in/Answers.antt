use Rattle.std.proofs.Common.{◌≡◌, ◌≤◌, length, sym, ap, ◌∙◌, lit<, arith, None}
use Rattle.std.specs.Result.{result_ok}
use Rattle.std.proofs.lemmas.Iterator.Consumers.{YieldsList-end, YieldsList-turn}
use Rattle.std.proofs.lemmas.Iterator.Splits.{YieldsList-from_str_split}
use Rattle.lg_rules.specs.Meaning.Name.{name_of_text}
use Rattle.lg_commands.specs.Meaning.Choosing.{are_different}
use Rattle.lg_commands.proofs.ListLaws.{all_names, bad_name, full_names}
use Rattle.lg_commands.proofs.order.names_in.Goals as goal

pub returns-in_err-name : goal.returns-in_err-name
returns-in_err-name c =
    let text = c.args.text.now in
    let part = c.in-Some.part.now in
    let t = YieldsList-turn (YieldsList-from_str_split 44 text (lit< tt) (cc) (cc) (cc)) c.loop-part.yielded _ c.loop-part.yielded_by _ _ c.in-Some.part c.in-Some.is c.next.ensures.steps in
    let read = c.new.ensures ∙ ap name_of_text c.as_bytes.ensures.value in
    let none : result_ok (name_of_text part) ≡ None = ap result_ok (sym read) ∙ sym c.ok.ensures.value ∙ c.in_err-name.was in
    rw c.from_residual.ensures (bad_name text part (length c.loop-part.yielded) part t.0 t.1 none)

pub returns-in_err-ok : goal.returns-in_err-ok
returns-in_err-ok c =
    let text = c.args.text.now in
    let t = YieldsList-turn (YieldsList-from_str_split 44 text (lit< tt) (cc) (cc) (cc)) c.loop-part.yielded _ c.loop-part.yielded_by _ _ c.in-Some.part c.in-Some.is c.next.ensures.steps in
    let refused = sym c.ok-in-loop-part.ensures.value ∙ c.in_err-ok.was in
    rw c.from_residual-in_err-ok.ensures (full_names text c.loop-part.yielded c.loop-part.names.items c.try_push.result c.loop-part.invariant refused c.try_push.ensures.full t.0)

pub returns : goal.returns
returns c =
    let text = c.args.text.now in
    let names = c.loop-part.names in
    let t = YieldsList-end (YieldsList-from_str_split 44 text (lit< tt) (cc) (cc) (cc)) c.loop-part.yielded _ c.loop-part.yielded_by _ _ c.in-None.is c.next.ensures.steps in
    let few : length names.items ≤ 255 = omega (arith, ap length c.as_slice.ensures.value, c.as_slice.ensures.fits) in
    rw c.then_some.ensures (all_names (λ v. v.items) names text _ c.are_different.result c.loop-part.invariant t.0 few (c.are_different.ensures ∙ ap are_different c.as_slice.ensures.value))
