use Rattle.std.proofs.Common.{ℕ, List, [], ◌∷◌, refl}
use Rattle.rand_pcg.specs.Lcg.{Lcg}
use Rattle.lg_turns.specs.Meaning.Words.{Draws}
use Rattle.lg_turns.proofs.WordLaws.{drawn}
use Rattle.lg_turns.proofs.dice.PcgDiceDice.words.Goals as goal

pub returns : goal.returns
returns c =
    let k : Lcg = c.next_word-8.new.self in
    let w8 : List ℕ = c.next_word-8.result ∷ [] in
    let w7 : List ℕ = c.next_word-7.result ∷ w8 in
    let w6 : List ℕ = c.next_word-6.result ∷ w7 in
    let w5 : List ℕ = c.next_word-5.result ∷ w6 in
    let w4 : List ℕ = c.next_word-4.result ∷ w5 in
    let w3 : List ℕ = c.next_word-3.result ∷ w4 in
    let w2 : List ℕ = c.next_word-2.result ∷ w3 in
    let d8 : Draws c.next_word-7.new.self w8 k = drawn _ _ k [] k c.next_word-8.ensures refl in
    let d7 : Draws c.next_word-6.new.self w7 k = drawn _ _ _ w8 k c.next_word-7.ensures d8 in
    let d6 : Draws c.next_word-5.new.self w6 k = drawn _ _ _ w7 k c.next_word-6.ensures d7 in
    let d5 : Draws c.next_word-4.new.self w5 k = drawn _ _ _ w6 k c.next_word-5.ensures d6 in
    let d4 : Draws c.next_word-3.new.self w4 k = drawn _ _ _ w5 k c.next_word-4.ensures d5 in
    let d3 : Draws c.next_word-2.new.self w3 k = drawn _ _ _ w4 k c.next_word-3.ensures d4 in
    let d2 : Draws c.next_word.new.self w2 k = drawn _ _ _ w3 k c.next_word-2.ensures d3 in
    let d1 : Draws c.self.inside.generator (c.next_word.result ∷ w2) k = drawn _ _ _ w2 k c.next_word.ensures d2 in
    rw (← c.self.view_is) (refl, d1)
