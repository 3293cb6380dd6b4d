use Rattle.std.proofs.Common.{ap, ◌∙◌, Option, false}
use Rattle.std.specs.Option.{option_map_or}
use Rattle.clap.specs.Matches.{found_of, one_text}
use Rattle.clap.specs.Walk.{Text}
use Rattle.clap.proofs.WalkLemmas.{one_text-rows}
use Rattle.lg_command_line.proofs.CommandLaws.{flag_read, is_true_text}
use Rattle.lg_command_line.proofs.words.flag_in.Goals as goal

pub returns : goal.returns
returns c =
    let found = found_of c.args.found.now in
    c.unwrap_or.ensures
    ∙ flag_read _ (one_text found c.args.id.now) c.get_one.result c.get_one.ensures.none c.get_one.ensures.value
    ∙ ap (λ (o : Option Text). option_map_or is_true_text o false) (one_text-rows found c.args.id.now)
