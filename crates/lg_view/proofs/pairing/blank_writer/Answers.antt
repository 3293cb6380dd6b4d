use Rattle.std.proofs.Common.{Result, Ok, Err, IfOk, IfSome, sym, ◌∙◌}
use Rattle.std.specs.Result.{result_ok}
use Rattle.lg_view.proofs.pairing.blank_writer.Goals as goal

-- what holds of a value that was made holds of the option
made_holds : {A B : Type 0} (r : Result A B) (P Q : A → Type 0) → ((a : A) → P a → Q a) → IfOk r P → IfSome (result_ok r) Q
made_holds (Ok a) P Q f p = f a p
made_holds (Err b) P Q f p = tt

pub blank-requires : goal.blank-requires
blank-requires g c = c.copy.ensures ∙ c.requires.front

pub blank-requires-2 : goal.blank-requires-2
blank-requires-2 g c = c.copy-2.ensures ∙ c.requires.front

pub new-requires-clause-readers : goal.new-requires-clause-readers
new-requires-clause-readers g c = c.requires.places

pub new-requires-clause-alike : goal.new-requires-clause-alike
new-requires-clause-alike g c = c.in-Ok.ensures ∙ (c.copy.ensures ∙ sym (c.in-Ok-blank.ensures ∙ c.copy-2.ensures))

pub new-requires-clause-rule : goal.new-requires-clause-rule
new-requires-clause-rule g c = tt

pub returns : goal.returns
returns g c =
    rw c.ok.ensures.value (made_holds c.new.result _ _ (λ w h. (h.0 ∙ (c.in-Ok.ensures ∙ (c.copy.ensures ∙ c.requires.front)), h.1)) c.new.ensures)
