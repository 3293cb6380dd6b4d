-- A text that is written, rewritten; and one that is written in two parts.
use Rattle.std.proofs.Common.{◌≡◌, ℕ, List, ◌++◌, Result, Ok, Err, OnOk, ap, ◌∙◌, append_assoc, decimal}
use Rattle.std.specs.Prelude.{if◌then◌else◌}
use Rattle.std.specs.Result.{is_ok}

pub written_as : {A E : Type 0} (r : Result A E) (before after x y : List ℕ) → OnOk r (after ≡ before ++ x) → x ≡ y → OnOk r (after ≡ before ++ y)
written_as (Ok done) before after x y is same = is ∙ ap (λ (text : List ℕ). before ++ text) same
written_as (Err refused) before after x y is same = tt

-- what is pushed is written, if it was pushed
pub pushed : {A E : Type 0} (r : Result A E) (after x y : List ℕ) → after ≡ (if is_ok r then x else y) → OnOk r (after ≡ x)
pushed (Ok done) after x y is = is
pushed (Err refused) after x y is = tt

pub written_twice : {A E : Type 0} (r : Result A E) (before between after x y : List ℕ) → between ≡ before ++ x → OnOk r (after ≡ between ++ y)
    → OnOk r (after ≡ before ++ (x ++ y))
written_twice (Ok done) before between after x y first second =
    second ∙ ap (λ (text : List ℕ). text ++ y) first ∙ append_assoc before x y
written_twice (Err refused) before between after x y first second = tt

-- words, and the name, the status and the incarnation of a member, written one after another
pub standing_written : {A E : Type 0} (r : Result A E) (before between after words name name' standing standing' : List ℕ) (n n' : ℕ)
    → name ≡ name' → standing ≡ standing' → n ≡ n'
    → between ≡ before ++ (words ++ name) → OnOk r (after ≡ between ++ (standing ++ decimal n))
    → OnOk r (after ≡ before ++ (words ++ (name' ++ (standing' ++ decimal n'))))
standing_written (Ok done) before between after words name name' standing standing' n n' named stood numbered first second =
    second ∙ rw (first, named, stood, numbered) (simp append_assoc)
standing_written (Err refused) before between after words name name' standing standing' n n' named stood numbered first second = tt
