use Rattle.std.proofs.Common.{refl}
use Rattle.std.specs.Option.{option_map}
use Rattle.lg_status_server.proofs.ShownLaws.{shows_first}
use Rattle.lg_status_server.proofs.site.NodeSite.new.Goals as goal

pub invariant_of-result : goal.invariant_of-result
invariant_of-result g c =
    let seen = c.overview.new.self.seen in
    let is = c.in-Ok.ensures.0 in (
      seen,
      shows_first c.overview.new.self c.args.basis.counters.now.name c.args.basis.config c.args.basis.leave (option_map (λ f. f.now) c.args.basis.folder) c.in-Ok-first_shown.snapshot
          c.in-Ok-first_shown.changes c.last_version-changed.result c.in-Ok.ensures.1.accepted
          (c.in-Ok-first_shown.ensures.shown seen is) (c.in-Ok-first_shown.ensures.kept seen is) c.last_version-changed.ensures,
    )

pub returns-clause-first : goal.returns-clause-first
returns-clause-first g c =
    let seen = c.overview.new.self.seen in
    let is = c.in-Ok.ensures.0 in
    record {
      name_is = refl;
      config_is = refl;
      leave_is = refl;
      folder_is = refl;
      shows = shows_first c.overview.new.self c.args.basis.counters.now.name c.args.basis.config c.args.basis.leave (option_map (λ f. f.now) c.args.basis.folder) c.in-Ok-first_shown.snapshot
          c.in-Ok-first_shown.changes c.last_version-changed.result c.in-Ok.ensures.1.accepted
          (c.in-Ok-first_shown.ensures.shown seen is) (c.in-Ok-first_shown.ensures.kept seen is) c.last_version-changed.ensures;
    }
