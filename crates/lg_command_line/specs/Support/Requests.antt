-- What a command line asks for, as the program holds it.
use Rattle.std.specs.Prelude.{List, Option}
use Rattle.std.specs.Borrow.{Bor}
use Rattle.std.specs.Option.{option_map}
use Rattle.clap.specs.Walk.{Text}
use Rattle.lg_config.specs.declared.given.Given.{Given}
use Rattle.lg_config.specs.Meaning.Options.{options_of, SourceValue}
use Rattle.lg_command_line.specs.Meaning.Commands.{Request, answer, ask, check, init, leave, node, order, sim, timeouts}
use Rattle.lg_command_line.specs.Meaning.Commands.{explain, ExplainValue, replay, version}
use Rattle.lg_command_line.specs.declared.asked.Asked.{Asked}
use Rattle.lg_command_line.specs.declared.asked.Asked.TheVariants.{Answer, Ask, Check, Init, Leave, Node, Order}
use Rattle.lg_command_line.specs.declared.asked.Asked.TheVariants.{Explain, Replay, Sim, Timeouts, Version}
use Rattle.lg_command_line.specs.declared.asked.ExplainWords.{ExplainWords}

-- where a configuration comes from, by the path of a file and what options give
abbrev pub source_with : Option (Bor Text) → List Given → SourceValue
source_with file given = record { file = option_map (λ path. path.now) file; options = options_of given }

-- the options of `explain`
abbrev pub explain_value : ExplainWords → ExplainValue
explain_value words = record {
  name = words.name.now;
  folder = words.folder.now;
  at = words.at;
  all = words.all;
  entries = words.entries;
  json = words.json;
  html = option_map (λ text. text.now) words.html;
}

abbrev pub request_of : Asked → Request
request_of (Answer name) = answer name.now
request_of (Order names words) = order names.now words.now
request_of Sim = sim
request_of (Timeouts numbers) = timeouts numbers
request_of (Node file given for_ms follow until_input_ends) =
    node (source_with file given.items) for_ms follow until_input_ends
request_of (Check file given) = check (source_with file given.items)
request_of (Ask question at json) = ask question at.now json
request_of Init = init
request_of (Leave at name) = leave at.now name.now
request_of (Replay folder from to only) = replay folder.now from to (option_map (λ text. text.now) only)
request_of (Explain words) = explain (explain_value words)
request_of Version = version
