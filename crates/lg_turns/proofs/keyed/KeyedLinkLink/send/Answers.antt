use Rattle.std.proofs.Common.{◌≡◌, List, ℕ, [], ◌∷◌, ◌++◌, take, ap, ◌∙◌}
use Rattle.std.specs.Prelude.{is_ok}
use Rattle.std.proofs.lemmas.List.{take_min}
use Rattle.lg_seal.specs.Meaning.Sealing.{sealed}
use Rattle.lg_turns.specs.Meaning.Links.LinkEvent.{Handed}
use Rattle.lg_turns.proofs.keyed.KeyedLinkLink.send.Goals as goal

pub returns-clause-sealed : goal.returns-clause-sealed
returns-clause-sealed g c = λ yes.
    let packet = c.args.bytes.now in
    let first = c.args.self.now.keys.first in
    let before = g.L.Link.log c.args.self.now.inner in
    let cut : take c.min.result packet ≡ take 1207 packet =
    ap (λ (n : ℕ). take n packet) c.min.ensures ∙ take_min 1207 packet in
    let handed : c.as_slice.result.now ≡ sealed first (take 1207 packet) =
    c.as_slice.ensures.value ∙ c.seal.ensures ∙ ap (sealed first) cut in
    c.send.ensures.told yes
    ∙ ap (λ (bytes : List ℕ). before ++ Handed c.args.to bytes (is_ok c.send.result) ∷ []) handed
