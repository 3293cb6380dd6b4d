use Rattle.std.proofs.Common.{◌≡◌, ◌∙◌, ap, refl, List, [], Option, Some, None, ℕ}
use Rattle.std.specs.Option.{option_map, unwrap_or}
use Rattle.std.specs.Borrow.{Bor}
use Rattle.clap.specs.Walk.{Text}
use Rattle.clap.specs.Matches.{found_of}
use Rattle.clap.proofs.WalkLemmas.{first_value-rows}
use Rattle.lg_command_line.proofs.words.text_in.Goals as goal

text_or : (found : Option (Bor (List ℕ))) (d : Bor (List ℕ)) → d.now ≡ [] → (unwrap_or found d).now ≡ unwrap_or (option_map (λ s. s.now) found) []
text_or None d e = e
text_or (Some s) d e = refl

pub returns : goal.returns
returns c =
    ap (λ (s : Bor (List ℕ)). s.now) c.unwrap_or.ensures ∙ text_or c.get_str.result _ refl
    ∙ ap (λ (t : Option Text). unwrap_or t []) (c.get_str.ensures ∙ first_value-rows (found_of c.args.found.now) c.args.id.now)
