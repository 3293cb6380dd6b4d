use Rattle.std.proofs.Common.{◌++◌, ◌∙◌, ap}
use Rattle.std.proofs.lemmas.Result.{IfOk-weaker}
use Rattle.clap.specs.Matches.{found_of}
use Rattle.clap.specs.Walk.{rows_of}
use Rattle.clap.proofs.WalkLemmas.{raw_values-rows}
use Rattle.lg_config.specs.Meaning.Options.{options_of, Options}
use Rattle.lg_command_line.proofs.KeyLaws.{given-none, given-some}
use Rattle.lg_command_line.proofs.words.put_given.Goals as goal

pub returns-in-Some : goal.returns-in-Some
returns-in-Some c =
    let found = found_of c.args.found.now in
    let key = c.args.key.now in
    let before : Options = options_of c.args.given.now.items in
    let given = given-some key (rows_of found) c.in-Some.texts.now (c.in-Some.ensures ∙ raw_values-rows found key) in
    IfOk-weaker c.put_texts.result _ _ (λ _ is. is ∙ ap (λ (more : Options). before ++ more) given) c.put_texts.ensures

pub returns-in-None : goal.returns-in-None
returns-in-None c =
    let found = found_of c.args.found.now in
    let key = c.args.key.now in
    given-none key (rows_of found) (options_of c.args.given.now.items) (c.in-None.ensures ∙ raw_values-rows found key)
