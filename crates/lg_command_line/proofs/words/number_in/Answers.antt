use Rattle.std.proofs.Common.{ap, ◌∙◌, Option}
use Rattle.std.specs.Option.{option_map_or}
use Rattle.std.specs.Str.Parse.{ParsesUnsigned, ExplainsUnsignedError, HasUnsignedDigitsIfOk}
use Rattle.clap.specs.Matches.{found_of, one_text}
use Rattle.clap.specs.Walk.{Text}
use Rattle.clap.proofs.WalkLemmas.{one_text-rows}
use Rattle.lg_command_line.specs.Meaning.Commands.{option_number}
use Rattle.lg_command_line.proofs.CommandLaws.{number_read}
use Rattle.lg_command_line.proofs.words.number_in.Goals as goal

pub returns : goal.returns
returns c =
    let found = found_of c.args.found.now in
    c.unwrap_or.ensures
    ∙ number_read (λ t r. ParsesUnsigned 64 10 t r × ExplainsUnsignedError 10 t r × HasUnsignedDigitsIfOk t r) (one_text found c.args.id.now) c.get_one.result
    c.get_one.ensures.none c.get_one.ensures.value (λ t x g. g.0)
    ∙ ap (λ (o : Option Text). option_map_or option_number o 0) (one_text-rows found c.args.id.now)
