use Rattle.std.proofs.Common.{◌≡◌, ◌+◌, ◌++◌, ℕ, List, All, length, drop, get_or, refl, subst, sym, ap, ◌∙◌}
use Rattle.std.specs.List.{sum_by}
use mathlib.Core.List.{IsPrefix}
use Rattle.lg_detector.specs.declared.event.Event.{Event}
use Rattle.lg_history.specs.Meaning.History.{Entry, events, positions}
use Rattle.lg_history.specs.Meaning.Rest.{made_by, IsRest, StandsFor}
use Rattle.lg_history.proofs.Legal.{length-events}
use Rattle.lg_history.proofs.Rests.{whole_events, whole_length, rest_accepted, rest_answered}
use Rattle.lg_agent.specs.Meaning.Values.{KeptValue, PassValue, own_name, all_events}
use Rattle.lg_agent.specs.Meaning.Closing.{Agrees, IsClosed, IsWell, below}
use Rattle.lg_agent.proofs.ClosingLaws.{found, Found}
use Rattle.lg_agent.proofs.CallSums.{calls_sum, all_calls}
use Rattle.lg_agent.proofs.closing.closed.Goals as goal

pub over-requires : goal.over-requires
over-requires g c =
    let k : KeptValue = c.args.kept in
    let rest : IsRest k.places k.past k.cut k.history = c.into_history-entries.ensures.rest in
    let well : IsWell (record { summary = k.summary; base = length k.past; history = k.history }) = record {
      past = k.past;
      base = refl;
      summary = c.into_history-entries.ensures.stands;
      accepted = rest_accepted k.places k.past k.cut k.history rest;
      answered = rest_answered k.places k.past k.cut k.history rest;
    } in
    rw (c.into_history-entries.ensures.same, c.into_history-entries.ensures.base, c.into_history-entries.ensures.summary) well

pub returns : goal.returns
returns g c =
    let k : KeptValue = c.args.kept in
    let all : List PassValue = c.args.spents.items in
    let rest : IsRest k.places k.past k.cut k.history = c.into_history-entries.ensures.rest in
    let w : List Entry = rest.gone ++ k.history in
    let whole : events w ≡ all_events k = whole_events k.places k.past k.cut k.history rest in
    let base : length rest.gone ≡ length k.past = sym (length-events rest.gone) ∙ ap length rest.past_is in
    let fine : Found k all = found k all c.requires.audited in
    let seen : All (λ (s : PassValue). IsPrefix s.seen (all_events k)) all = subst (λ (l : List PassValue). All (λ (s : PassValue). IsPrefix s.seen (all_events k)) l) c.as_slice.ensures.value c.compare_all.ensures in
    let agree : All (Agrees k.places rest.gone k.history) all = λ n d low.
    let b = fine.belong n d low in
    record {
      name = b.name_is ∙ ap own_name (sym whole);
      low = b.low;
      high = b.high;
      cut = subst (λ (m : ℕ). (get_or all n d).gone + below m (get_or all n d).mine ≡ made_by (get_or all n d).seat rest.gone) (sym base) (fine.cut n d low ∙ rest.counted (get_or all n d).seat);
      mine = subst (λ (m : ℕ). drop (below m (get_or all n d).mine) (get_or all n d).mine ≡ positions (get_or all n d).seat m k.history) (sym base) (fine.mine n d low);
      seen = subst (λ (f : List Event). IsPrefix (get_or all n d).seen f) (sym whole) (seen n d low);
    } in
    let sums : length w ≡ 1 + sum_by (λ (s : PassValue). s.gone + length s.mine) all = calls_sum k.places w all rest.legal.seated fine.one_each (λ n d low. (fine.belong n d low).low) (λ n d low. let at : Agrees k.places rest.gone k.history (get_or all n d) = agree n d low in all_calls rest.gone k.history (get_or all n d) at.cut at.mine) in
    let is : IsClosed k.places (record { summary = k.summary; base = length k.past; history = k.history }) all = record {
      gone = rest.gone;
      base = base;
      summary = subst (StandsFor k.summary) (sym rest.past_is) c.into_history-entries.ensures.stands;
      legal = rest.legal;
      one_each = fine.one_each;
      agree = agree;
      calls = sym (whole_length k.places k.past k.cut k.history rest) ∙ sums;
    } in
    rw (c.over.ensures, c.into_history-entries.ensures.same, c.into_history-entries.ensures.base, c.into_history-entries.ensures.summary, ← c.into_history-entries.ensures.named) is
