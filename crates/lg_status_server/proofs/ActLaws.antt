-- What a node answers to a request whose method is neither GET nor HEAD.
use Rattle.std.proofs.Common.{◌≡◌, ℕ, Bool, List, codes, Option, Some, None, IsTrue, IsFalse, refl, ap}
use Rattle.std.specs.Str.{bytes_eq}
use Rattle.lg_http.specs.declared.site.HttpAnswer.{HttpAnswer}
use Rattle.lg_http.specs.Meaning.Asked.{AskedValue}
use Rattle.lg_answers.specs.Meaning.Answers.{answer_value}
use Rattle.lg_answers.specs.Meaning.Leaving.{act_answer, leave_answer, leave_field, leave_path, leave_reply}

-- at the path of a request to leave
pub acted : (name : List ℕ) (on : Bool) (asked : AskedValue) (answer : HttpAnswer) (post loopback : Bool) (field : Option (List ℕ))
    → IsTrue (bytes_eq asked.path leave_path) → post ≡ bytes_eq asked.method (codes "POST") → loopback ≡ asked.loopback
    → field ≡ asked.field leave_field → answer_value answer ≡ leave_answer name (leave_reply name on post loopback field)
    → Some (answer_value answer) ≡ act_answer name on asked
acted name on asked answer post loopback field here posted near said is =
    rw (here, ← posted, ← near, ← said) (ap Some is)

-- at any other path
pub not_acted : (name : List ℕ) (on : Bool) (asked : AskedValue) → IsFalse (bytes_eq asked.path leave_path) → None ≡ act_answer name on asked
not_acted name on asked away = rw away refl
