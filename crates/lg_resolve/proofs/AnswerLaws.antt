-- One more answer of a resolver.
use Rattle.std.proofs.Common.{◌≡◌, Bool, List, [], ◌∷◌, ◌++◌, refl}
use Rattle.std.specs.Prelude.{Some, None}
use Rattle.lg_rules.specs.declared.addr.Addr.{Addr}
use Rattle.lg_resolve.specs.Meaning.Answers.{latest, last_fails, is_unresolved, Found}

pub latest-more : (known : List Addr) (answers : List Found) (found : Found) → latest known (answers ++ found ∷ []) ≡ latest (latest known answers) (found ∷ [])
latest-more known [] found = refl
latest-more known (None ∷ answers) found = latest-more known answers found
latest-more known (Some addrs ∷ answers) found = latest-more addrs answers found

pub fails-more : (before : Bool) (answers : List Found) (found : Found) → last_fails before (answers ++ found ∷ []) ≡ is_unresolved found
fails-more before [] found = refl
fails-more before (first ∷ answers) found = fails-more (is_unresolved first) answers found
