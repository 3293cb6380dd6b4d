use Rattle.std.proofs.Common.{◌≡◌, ◌++◌, [], ◌∷◌, drop, take, sym, ◌∙◌, ap, append_assoc, arith, refl}
use Rattle.std.specs.Prelude.{slice_get}
use Rattle.std.proofs.lemmas.List.{append-nil, drop-drop}
use Rattle.lg_bit_set.specs.Meaning.Flags.{numbers_of, nth_number}
use Rattle.lg_bit_set.proofs.NthLaws.{slice_get-drop}
use Rattle.lg_gossip.specs.Support.Sets.{places_of}
use Rattle.lg_gossip.proofs.OfSet.{place, take-found, places_end, fills_room, takes_all}
use Rattle.lg_gossip.proofs.choice.take_sent.Goals as goal

pub rows-init : goal.rows-init
rows-init c = record { items = sym (append-nil c.args.taken.now.items); size = omega arith; rest = refl }

pub rows-preserved : goal.rows-preserved
rows-preserved c =
    let before = c.args.taken.now.items in
    let nth = c.rows.counter in
    let sends = c.args.sends in
    let flags = c.args.set.now in
    let number = c.in-Some.number in
    let at : nth_number flags nth ≡ nth_number c.rows.rest 0 =
    slice_get-drop (numbers_of flags) nth ∙ ap (λ l. slice_get l 0) (sym c.rows.invariant.rest) in
    record {
      items = c.push.ensures.items
          ∙ ap (λ ts. ts ++ place sends c.from-index.result ∷ []) c.rows.invariant.items
          ∙ ap (λ n. (before ++ take nth (places_of sends flags)) ++ place sends n ∷ []) c.from-index.ensures
          ∙ append_assoc before (take nth (places_of sends flags)) (place sends number ∷ [])
          ∙ ap (λ ts. before ++ ts)
          (take-found sends nth number flags (at ∙ sym c.pop_first.ensures.number ∙ c.in-Some.is));
      size = omega (arith, c.push.ensures.len, c.rows.invariant.size);
      rest =
          c.pop_first.ensures.left
          ∙ ap (drop 1) c.rows.invariant.rest
          ∙ drop-drop 1 nth (numbers_of flags);
    }

pub returns-in_default : goal.returns-in_default
returns-in_default c =
    let nth = c.rows.counter in
    let flags = c.args.set.now in
    let at : nth_number flags nth ≡ nth_number c.rows.rest 0 =
    slice_get-drop (numbers_of flags) nth ∙ ap (λ l. slice_get l 0) (sym c.rows.invariant.rest) in
    takes_all c.args.room nth c.args.taken.now.items c.rows.taken.items
    (places_of c.args.sends flags) c.rows.invariant.items
    (places_end c.args.sends nth flags (at ∙ sym c.pop_first.ensures.number ∙ c.in_default.is))
    (omega (arith, c.rows-test.true, c.len.ensures.value, c.requires.fits))

pub returns : goal.returns
returns c =
    fills_room c.args.room c.rows.counter c.args.taken.now.items c.rows.taken.items
    (places_of c.args.sends c.args.set.now) c.rows.invariant.items
    (omega (arith, c.rows-test.false, c.rows.auto.counter-end, c.len.ensures.value, c.requires.fits))
