-- A text that spells no address of a node.
use Rattle.std.proofs.Common.{◌≡◌, ℕ, List, None, subst}
use Rattle.lg_client.specs.Meaning.Addresses.{HasNodeAddress, node_addr_of}

none_spelled : (text : List ℕ) → None ≡ node_addr_of text → ¬ (HasNodeAddress text)
none_spelled text none it =
    let is = it.1 in
    absurd cc

pub unspelled : (text bytes : List ℕ) → bytes ≡ text → None ≡ node_addr_of bytes → ¬ (HasNodeAddress text)
unspelled text bytes same none = none_spelled text (subst (λ (b : List ℕ). None ≡ node_addr_of b) same none)
