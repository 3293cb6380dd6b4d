-- The text of a reason, rewritten.
use Rattle.std.proofs.Common.{◌≡◌, ℕ, ◌≤◌, List, length, String, Result, Ok, Err, IfOk, string_bytes, ◌∙◌, ap}
use Rattle.std.specs.declared.alloc.AllocError.{AllocError}
use Rattle.std.specs.declared.alloc.Global.{Global}
use Rattle.lg_config.specs.Meaning.Reasons.{line_at, line_reason, IsTomlReason}

-- a text that is one list of bytes is another that is the same
pub said_as : (r : Result (String Global) AllocError) (x y : List ℕ) → IfOk r (λ s. string_bytes s ≡ x) → x ≡ y → IfOk r (λ s. string_bytes s ≡ y)
said_as (Ok s) x y is same = is ∙ same
said_as (Err e) x y is same = tt

-- a line of a text is named
pub line_said : (r : Result (String Global) AllocError) (text : List ℕ) (place line : ℕ) (message : List ℕ)
    → place ≤ length text → line ≡ line_at place text → IfOk r (λ s. string_bytes s ≡ line_reason line message)
    → IfOk r (λ s. IsTomlReason text (string_bytes s))
line_said (Ok s) text place line message within same is =
    record { place = place; message = message; within = within; is = is ∙ ap (λ n. line_reason n message) same }
line_said (Err e) text place line message within same is = tt

-- and it is the line at this place
pub line_named : (r : Result (String Global) AllocError) (text : List ℕ) (place start line : ℕ) (message : List ℕ)
    → place ≡ start → line ≡ line_at place text → IfOk r (λ s. string_bytes s ≡ line_reason line message)
    → IfOk r (λ s. (m : List ℕ) × (string_bytes s ≡ line_reason (line_at start text) m))
line_named (Ok s) text place start line message there same is =
    (message, is ∙ ap (λ n. line_reason n message) (same ∙ ap (λ p. line_at p text) there))
line_named (Err e) text place start line message there same is = tt
