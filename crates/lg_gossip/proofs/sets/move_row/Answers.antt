use Rattle.std.proofs.Common.{true, sym, ◌∙◌, ap, subst}
use Rattle.std.specs.Prelude.{slice_set}
use Rattle.lg_gossip.specs.Support.Sets.{AreSets}
use Rattle.lg_gossip.proofs.Moving.{sets-moved, with_flag}
use Rattle.lg_gossip.proofs.sets.move_row.Goals as goal

pub returns : goal.returns
returns c rows row next sets stands was now =
    subst (λ s. AreSets s (slice_set rows c.args.index next))
    (sym (c.add_to.ensures ∙ ap (λ s. with_flag s c.args.to c.args.index true) c.take_out.ensures))
    (sets-moved c.args.sent.now rows row next c.args.index c.args.from c.args.to sets stands was now)
