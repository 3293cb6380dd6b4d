use Rattle.std.proofs.Common.{◌∙◌, ap, sym, Option, Some, ℕ}
use Rattle.std.specs.Option.{option_map}
use Rattle.clap.specs.Matches.{found_of}
use Rattle.clap.specs.Walk.{Text, rows_of}
use Rattle.clap.proofs.WalkLemmas.{first_value-rows}
use Rattle.lg_command_line.specs.Meaning.Commands.{number_in}
use Rattle.lg_command_line.proofs.words.number_given.Goals as goal

abbrev numbered : ℕ → Option Text → Option ℕ
numbered number = option_map (λ _. number)

pub returns-in-Some : goal.returns-in-Some
returns-in-Some c =
    let found = found_of c.args.found.now in
    let given = ap (option_map (λ s. s.now)) (sym c.in-Some.is) ∙ c.get_str.ensures ∙ first_value-rows found c.args.id.now in
    ap Some c.number_in.ensures ∙ ap (numbered (number_in (rows_of found) c.args.id.now)) given

pub returns-in-None : goal.returns-in-None
returns-in-None c =
    let found = found_of c.args.found.now in
    let given = ap (option_map (λ s. s.now)) (sym c.in-None.is) ∙ c.get_str.ensures ∙ first_value-rows found c.args.id.now in
    ap (numbered (number_in (rows_of found) c.args.id.now)) given
