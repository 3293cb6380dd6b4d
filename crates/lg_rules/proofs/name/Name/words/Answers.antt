use Rattle.std.proofs.Common.{◌≡◌, ◌/◌, ◌∷◌, List, ℕ, [], get_or, ◌∙◌, sym, ap}
use Rattle.std.specs.Int.{w64, from_be_bytes}
use Rattle.std.specs.Simd.{first_chunks}
use Rattle.lg_rules.specs.Support.Padding.{padded}
use Rattle.lg_rules.specs.Support.Words.{words_of}
use Rattle.lg_rules.proofs.Words.{words_read}
use Rattle.lg_rules.proofs.name.Name.words.Goals as goal

pub returns-clause-words : goal.returns-clause-words
returns-clause-words c =
    let bytes : List ℕ = c.self.inside.bytes in
    let chunks : c.as_chunks.result.0.now ≡ first_chunks 8 4 bytes = c.as_chunks.ensures.front ∙ ap (λ n. first_chunks 8 (n / 8) bytes) c.self.invariant.whole in
    let at = λ (k : ℕ). ap (λ (xs : List (List ℕ)). from_be_bytes w64 (get_or xs k [])) chunks in
    let read : c.from_be_bytes.result ∷ c.from_be_bytes-2.result ∷ c.from_be_bytes-3.result ∷ c.from_be_bytes-4.result ∷ [] ≡ _ =
    λ i. (c.from_be_bytes.ensures ∙ at 0) i ∷ (c.from_be_bytes-2.ensures ∙ at 1) i ∷ (c.from_be_bytes-3.ensures ∙ at 2) i ∷ (c.from_be_bytes-4.ensures ∙ at 3) i ∷ [] in
    read ∙ words_read 4 bytes c.self.invariant.whole ∙ ap (words_of 4) (sym c.self.invariant.zeros ∙ ap padded c.self.view_is)
