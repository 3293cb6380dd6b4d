use Rattle.std.proofs.Common.{◌≡◌, ◌%◌, get_or, Option, Some, None, refl, sym, ◌∙◌, ap, ℕ, List, Bool}
use Rattle.lg_bit_set.specs.Meaning.Flags.{count_set, flags_without, nth_number}
use Rattle.lg_probe.specs.Meaning.Order.{OrderValue, Chose, choice, current_cycle, order_with, put_choice}
use Rattle.lg_probe.specs.Support.Order.{Keeps}
use Rattle.lg_probe.proofs.Keeping.{changed, kept, kept_is, none_chosen, chosen_within, chosen_is, chosen_keeps}
use Rattle.lg_probe.proofs.OrderLaws.{chosen_after, choice_after-is}
use Rattle.lg_probe.proofs.order.Order.choose.Goals as goal

-- the number that a word chooses of a set
abbrev number_of : ℕ → List Bool → Option ℕ
number_of word flags = nth_number flags (word % count_set flags)

abbrev turned : OrderValue → OrderValue
turned order = record { names = order.names; chosen = current_cycle order.names order.chosen }

-- nobody is chosen
none : (c : goal.After-from_residual) → None ≡ choice c.args.self.now.names c.args.self.now.chosen c.args.word
none c =
    let keeps = changed (c.self.view_is ∙ c.end_cycle_if_over.ensures) refl refl refl c.self.invariant in
    sym (none_chosen keeps c.args.word
    (ap (number_of c.args.word) (sym c.without.ensures.flags) ∙ sym c.number_by.ensures ∙ c.in_err-number.was))

pub returns-in_err-number-clause-chosen : goal.returns-in_err-number-clause-chosen
returns-in_err-number-clause-chosen c = c.from_residual.ensures ∙ none c

pub returns-in_err-number-clause-order : goal.returns-in_err-number-clause-order
returns-in_err-number-clause-order c =
    let before = c.args.self.now in
    c.end_cycle_if_over.ensures
    ∙ (λ i. record { names = before.names; chosen = put_choice (none c i) (current_cycle before.names before.chosen) })

pub returns-in_err-number-clause-past : goal.returns-in_err-number-clause-past
returns-in_err-number-clause-past c = λ past e. (
  returns-in_err-number-clause-chosen c ∙ ap (λ (o : OrderValue). choice o.names o.chosen c.args.word) e
      ∙ choice_after-is past c.args.word,
  returns-in_err-number-clause-order c ∙ ap (λ o. order_with o (Chose c.args.word)) e ∙ chosen_after past c.args.word,
)

-- one is chosen
pub bounds-deref-from : goal.bounds-deref-from
bounds-deref-from c =
    let keeps = changed (c.self.view_is ∙ c.end_cycle_if_over.ensures) refl refl refl c.self.invariant in
    let chose = ap (number_of c.args.word) (sym c.without.ensures.flags) ∙ sym c.number_by.ensures
    ∙ c.in_ok-number.was in
    rw (c.from.ensures, c.deref.ensures.0) (chosen_within keeps c.args.word c.in_ok-number.number chose)

module _ (c : goal.After-index-deref-from) where
  keeps : Keeps (turned c.args.self.now) c.self.inside.known.items c.self.inside.joined c.self.inside.chosen
  keeps = changed (c.self.view_is ∙ c.end_cycle_if_over.ensures) refl refl refl c.self.invariant

  chose : number_of c.args.word (flags_without c.self.inside.joined c.self.inside.chosen) ≡ Some c.in_ok-number.number
  chose = ap (number_of c.args.word) (sym c.without.ensures.flags) ∙ sym c.number_by.ensures ∙ c.in_ok-number.was

  named : c.index-deref-from.result ≡ get_or c.self.inside.known.items c.in_ok-number.number c.index-deref-from.result
  named = c.index-deref-from.is ∙ (λ i. get_or (c.deref.ensures.0 i) (c.from.ensures i) c.index-deref-from.result)

  one : Some c.index-deref-from.result ≡ choice c.args.self.now.names c.args.self.now.chosen c.args.word
  one = chosen_is keeps c.args.word c.in_ok-number.number chose c.index-deref-from.result named

  after : Keeps (order_with c.args.self.now
      (Chose c.args.word)) c.self.inside.known.items c.self.inside.joined c.insert.new.self
  after =
      let before = c.args.self.now in
      changed (λ i. record {
        names = before.names;
        chosen =
            put_choice (one i) (current_cycle before.names before.chosen);
      }) refl refl
      c.insert.ensures.flags
      (chosen_keeps keeps c.args.word c.in_ok-number.number chose c.index-deref-from.result named)

pub invariant_of-self : goal.invariant_of-self
invariant_of-self c = kept (after c)

pub returns-clause-chosen : goal.returns-clause-chosen
returns-clause-chosen c = one c

pub returns-clause-order : goal.returns-clause-order
returns-clause-order c = kept_is (after c)

pub returns-clause-past : goal.returns-clause-past
returns-clause-past c = λ past e. (
  one c ∙ ap (λ (o : OrderValue). choice o.names o.chosen c.args.word) e ∙ choice_after-is past c.args.word,
  kept_is (after c) ∙ ap (λ o. order_with o (Chose c.args.word)) e ∙ chosen_after past c.args.word,
)
