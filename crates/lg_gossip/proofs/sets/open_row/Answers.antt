use Rattle.std.proofs.Common.{sym, ◌∙◌, subst}
use Rattle.std.specs.Prelude.{insert}
use Rattle.lg_gossip.specs.Support.Sets.{AreSets}
use Rattle.lg_gossip.proofs.Moving.{sets-opened}
use Rattle.lg_gossip.proofs.sets.open_row.Goals as goal

pub returns : goal.returns
returns c rows row sets below under few within none =
    subst (λ s. AreSets s (insert rows c.args.index row)) (sym c.add_to.ensures)
    (sets-opened c.args.sent.now c.open_sets.new.sent rows row c.args.index c.args.sends c.args.used sets
    (c.open_sets.ensures.size ∙ sets.long) c.open_sets.ensures.flags c.open_sets.ensures.others c.requires below under
    few within none)
