use Rattle.std.specs.Option.{option_map}
use Rattle.lg_status_server.specs.Meaning.Shown.{SiteValue}
use Rattle.lg_status_server.proofs.ShownLaws.{site_look, later_look}
use Rattle.lg_status_server.proofs.site.NodeSite.bring_up_to_date.Goals as goal

pub invariant_of-self : goal.invariant_of-self
invariant_of-self g c =
    let site : SiteValue = record {
      pass = c.self.inside.pass;
      name = c.self.inside.basis.counters.now.name;
      snapshot = c.self.inside.snapshot;
      changes = c.self.inside.changes;
      config = c.self.inside.basis.config;
      leave = c.self.inside.basis.leave;
      folder = option_map (λ f. f.now) c.self.inside.basis.folder;
      changed = c.self.inside.changed;
      looked = c.self.inside.looked;
    } in
    site_look c.look-self-inside.result site c.look-self-inside.new.pass c.look-self-inside.new.snapshot c.put.new.snapshot c.look-self-inside.new.changes
    c.last_version-self-inside.result c.of-reading.result c.self.invariant c.look-self-inside.ensures c.last_version-self-inside.ensures
    c.put.ensures.same c.put.ensures.read

pub returns : goal.returns
returns g c =
    let site : SiteValue = record {
      pass = c.self.inside.pass;
      name = c.self.inside.basis.counters.now.name;
      snapshot = c.self.inside.snapshot;
      changes = c.self.inside.changes;
      config = c.self.inside.basis.config;
      leave = c.self.inside.basis.leave;
      folder = option_map (λ f. f.now) c.self.inside.basis.folder;
      changed = c.self.inside.changed;
      looked = c.self.inside.looked;
    } in
    rw (← c.self.view_is) (later_look c.look-self-inside.result site c.look-self-inside.new.pass c.look-self-inside.new.snapshot c.put.new.snapshot c.look-self-inside.new.changes
    c.last_version-self-inside.result c.of-reading.result c.self.invariant c.look-self-inside.ensures c.last_version-self-inside.ensures
    c.put.ensures.same c.put.ensures.read)
