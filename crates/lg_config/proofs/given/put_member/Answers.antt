use Rattle.std.proofs.Common.{ap, ◌∙◌}
use Rattle.toml.specs.View.{members_view}
use Rattle.lg_config.proofs.OptionLaws.{inserted_as}
use Rattle.lg_config.proofs.given.put_member.Goals as goal

pub returns : goal.returns
returns c =
    ap members_view c.in_ok-insert.ensures.entries
    ∙ inserted_as c.args.table.now.entries c.in_ok-key.key c.args.key.now c.args.value c.in_ok-key.ensures.ok
