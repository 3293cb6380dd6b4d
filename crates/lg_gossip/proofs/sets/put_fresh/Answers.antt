use Rattle.std.proofs.Common.{◌<◌, length, refl, sym, subst}
use Rattle.std.proofs.lemmas.Option.{slice_get_read}
use Rattle.lg_gossip.specs.declared.queued.Queued.{Queued}
use Rattle.lg_gossip.specs.declared.sets.TheConstants.{SETS}
use Rattle.lg_gossip.specs.Support.Sets.{AreSets}
use Rattle.lg_gossip.proofs.Soundness.{below-fresh}
use Rattle.lg_gossip.proofs.sets.put_fresh.Goals as goal

pub returns-in-Ok-clause-sets : goal.returns-in-Ok-clause-sets
returns-in-Ok-clause-sets c =
    let rows = c.args.rows.now.items in
    let row = c.index.result.now in
    c.move_row.ensures rows row c.fresh-row.result c.requires.sets
    (slice_get_read rows (length rows) c.in-Ok.index row refl c.in-Ok.ensures.within c.index.ensures)
    (λ n. absurd (n refl)) refl

pub returns-in-Err-clause-sets : goal.returns-in-Err-clause-sets
returns-in-Err-clause-sets c =
    subst (AreSets c.open_row.new.sent) (sym c.insert.ensures)
    (c.open_row.ensures c.args.rows.now.items c.fresh-row.result c.requires.sets c.requires.below
    (λ l. subst (λ (q : Queued). q.sends < c.args.used) (sym c.fresh-row.ensures)
    (below-fresh c.args.version c.args.claim c.args.used c.requires.some
    (subst (λ (q : Queued). q.sends < SETS) c.fresh-row.ensures l)))
    (c.requires.room c.in-Err.ensures.missing) c.in-Err.ensures.within refl)
