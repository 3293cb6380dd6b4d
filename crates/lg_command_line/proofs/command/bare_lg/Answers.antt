use Rattle.std.proofs.Common.{◌≡◌, ◌∙◌, ap, true}
use Rattle.clap.specs.Simple.{App, Shape, app_of, app_of_fields, on_top}
use Rattle.lg_command_line.proofs.command.bare_lg.Goals as goal

abbrev versioned : App → App
versioned = on_top (λ (s : Shape). record s { has_version = true })

abbrev requiring : App → App
requiring = on_top (λ (s : Shape). record s { subcommand_required = true })

pub returns : goal.returns
returns c =
    let named : app_of c.about.result ≡ app_of c.new.result = ap app_of_fields c.about.ensures in
    let told : app_of c.version.result ≡ versioned (app_of c.about.result) = ap app_of_fields c.version.ensures in
    let top : app_of c.subcommand_required.result ≡ requiring (app_of c.version.result) = ap app_of_fields c.subcommand_required.ensures in
    top ∙ ap requiring (told ∙ ap versioned (named ∙ c.new.ensures.app))
