-- The five passes of a fresh agent.
use Rattle.std.proofs.Common.{◌≡◌, ℕ, List, [], ◌∷◌, ◌++◌, length, All, refl, ap, ◌∙◌, arith, length-append}
use Rattle.std.proofs.lemmas.List.Elements.{All-head, All-tail}
use Rattle.lg_timing.specs.declared.config.Config.{Config}
use Rattle.lg_detector.specs.declared.event.Event.TheVariants.{Open}
use Rattle.lg_agent.specs.Meaning.Values.{PassValue}
use Rattle.lg_agent.specs.Meaning.Calls.{IsFresh, AreFresh}
use Rattle.lg_node.specs.Meaning.Nodes.{fresh_own}

-- five passes, taken from the end of a list one after another
pub five_are : (all four three two one none : List PassValue) (r t a s d : PassValue) → length all ≡ 5 → all ≡ four ++ d ∷ [] → four ≡ three ++ s ∷ [] → three ≡ two ++ a ∷ []
    → two ≡ one ++ t ∷ [] → one ≡ none ++ r ∷ [] → all ≡ r ∷ t ∷ a ∷ s ∷ d ∷ []
five_are all four three two one [] r t a s d len v w x y z = rw (v, w, x, y, z) refl
five_are all four three two one (n ∷ none) r t a s d len v w x y z =
    absurd
    (omega (
      arith,
      len,
      ap length v ∙ length-append four (d ∷ []),
      ap length w ∙ length-append three (s ∷ []),
      ap length x ∙ length-append two (a ∷ []),
      ap length y ∙ length-append one (t ∷ []),
      ap length z ∙ length-append (n ∷ none) (r ∷ []),
    ))

fresh_is : (config : Config) (start place : ℕ) (p : PassValue) → IsFresh config.name place p → p.seen ≡ Open start config ∷ [] → p ≡ fresh_own config start place
fresh_is config start place p is seen = let a = is.name in let b = is.seat in let c = is.gone in let d = is.mine in rw (← seen, ← a, ← b, ← c, ← d) refl

pub five_fresh : (config : Config) (start : ℕ) (r t a s d : PassValue) → AreFresh config.name 0 (r ∷ t ∷ a ∷ s ∷ d ∷ [])
    → All (λ (p : PassValue). p.seen ≡ Open start config ∷ []) (r ∷ t ∷ a ∷ s ∷ d ∷ [])
    → (r ≡ fresh_own config start 1) × (t ≡ fresh_own config start 2) × (a ≡ fresh_own config start 3) × (s ≡ fresh_own config start 4) × (d ≡ fresh_own config start 5)
five_fresh config start r t a s d are seen =
    let Saw : PassValue → Type 0 = λ p. p.seen ≡ Open start config ∷ [] in
    let later = All-tail Saw r (t ∷ a ∷ s ∷ d ∷ []) seen in
    let more = All-tail Saw t (a ∷ s ∷ d ∷ []) later in
    let some = All-tail Saw a (s ∷ d ∷ []) more in
    let last = All-tail Saw s (d ∷ []) some in (
      fresh_is config start 1 r are.0 (All-head Saw r (t ∷ a ∷ s ∷ d ∷ []) seen),
      fresh_is config start 2 t are.1.0 (All-head Saw t (a ∷ s ∷ d ∷ []) later),
      fresh_is config start 3 a are.1.1.0 (All-head Saw a (s ∷ d ∷ []) more),
      fresh_is config start 4 s are.1.1.1.0 (All-head Saw s (d ∷ []) some),
      fresh_is config start 5 d are.1.1.1.1.0 (All-head Saw d [] last),
    )
