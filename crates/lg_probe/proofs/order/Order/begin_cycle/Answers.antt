use Rattle.std.proofs.Common.{[], length, refl, ◌∙◌, ap, arith}
use Rattle.lg_bit_set.specs.Meaning.Flags.{entries_in, flags_below}
use Rattle.lg_probe.specs.Meaning.Order.{OrderValue}
use Rattle.lg_probe.specs.Support.Order.{Keeps}
use Rattle.lg_probe.proofs.Keeping.{changed, kept, kept_is, begun, begun_anew}
use Rattle.lg_probe.proofs.order.Order.begin_cycle.Goals as goal

abbrev anew : OrderValue → OrderValue
anew order = record { names = order.names; chosen = [] }

-- some have left
forgotten : (c : goal.After-self-then-len-1)
    → Keeps (anew c.args.self.now) c.entries-self-inside.result.items c.below-self-inside.result c.clear.new.self
forgotten c =
    let row = c.entries-self-inside.ensures ∙ ap (entries_in c.self.inside.joined) c.as_slice.ensures.value in
    changed (ap anew c.self.view_is) refl
    (c.below-self-inside.ensures ∙ ap flags_below c.len-then-len.ensures.value) c.clear.ensures
    (begun_anew c.self.invariant
    (omega (
      arith,
      c.as_slice.ensures.fits,
      ap length c.as_slice.ensures.value,
    )) c.entries-self-inside.result.items row)

pub invariant_of-self : goal.invariant_of-self
invariant_of-self c = kept (forgotten c)

pub returns-then-len : goal.returns-then-len
returns-then-len c = kept_is (forgotten c)

-- nobody has left
same : (c : goal.Else-len)
    → Keeps (anew c.args.self.now) c.self.inside.known.items c.self.inside.joined c.clear.new.self
same c = changed (ap anew c.self.view_is) refl refl c.clear.ensures
    (begun c.self.invariant (omega (arith, c.len-2.ensures.value, c.len-2.ensures.fits))
    (omega (arith, c.len-2.ensures.value, c.if-len.false, c.len.ensures.count)))

pub invariant_of-self-else-len : goal.invariant_of-self-else-len
invariant_of-self-else-len c = kept (same c)

pub returns-else-len : goal.returns-else-len
returns-else-len c = kept_is (same c)
