use Rattle.std.proofs.Common.{ℕ, List, ◌++◌, ap, codes}
use Rattle.lg_text.specs.Meaning.Lines.{newline}
use Rattle.toml.specs.Data.{type_name}
use Rattle.toml.specs.View.{view}
use Rattle.lg_config.proofs.ReasonLaws.{said_as}
use Rattle.lg_config.proofs.key_reasons.type_reason.Goals as goal

-- the reason with these words for the types
abbrev of_types : List ℕ → List ℕ → List ℕ → List ℕ
of_types key given wanted = key ++ (codes " is of type " ++ (given ++ (codes ", and has to be of type " ++ (wanted ++ newline))))

pub returns : goal.returns
returns c =
    let given = c.type_str-given.result.now in
    let wanted = c.args.wanted.now in
    let key = c.args.key.now in
    said_as c.format.result (of_types key given wanted) (of_types key (type_name (view c.args.value.now)) wanted) c.format.ensures.ok
    (ap (λ word. of_types key word wanted) c.type_str-given.ensures)
