-- Worked answers to a request that asks b to leave.
use Rattle.std.specs.Prelude.{◌≡◌, true, false, List, ℕ, Option, Some, None, codes, refl}
use Rattle.lg_http.specs.declared.site.HttpStatus.TheVariants.{BadRequest, Fine, Forbidden, PostOnly}
use Rattle.lg_http.specs.declared.site.Kind.TheVariants.{Json}
use Rattle.lg_http.specs.Meaning.Asked.{AskedValue}
use Rattle.std.specs.Prelude.{Bool}
use Rattle.lg_answers.specs.Meaning.Answers.{AnswerValue}
use Rattle.lg_answers.specs.Meaning.Leaving.{act_answer, leave_answer, leave_reply}

-- b is asked by a client that is on loopback or isn't, with this value of the field or without it
abbrev asked : (on loopback : Bool) → Option (List ℕ) → AnswerValue
asked on loopback field = leave_answer (codes "b") (leave_reply (codes "b") on true loopback field)

leaves : asked true true (Some (codes "b"))
    ≡ record { status = Fine; kind = Json; body = codes "{\"leaving\":\"b\"}" }
leaves = refl

-- that the file says no counts first, also for a client elsewhere
is_off : asked false false None
    ≡ record { status = Forbidden; kind = Json; body = codes "{\"error\":\"leave is off in the file of this node\"}" }
is_off = refl

is_elsewhere : asked true false (Some (codes "b"))
    ≡ record {
      status = Forbidden;
      kind = Json;
      body = codes "{\"error\":\"only a client on this machine may ask this\"}";
    }
is_elsewhere = refl

-- another name, a name in another case, and none
is_unnamed : (asked true true (Some (codes "c"))
    ≡ record {
      status = BadRequest;
      kind = Json;
      body = codes "{\"error\":\"Lg-Leave has to be the name of this node\"}";
    })
    × (asked true true (Some (codes "B")) ≡ asked true true (Some (codes "c")))
    × (asked true true None ≡ asked true true (Some (codes "c")))
is_unnamed = (refl, refl, refl)

-- another method, whatever else is asked
is_no_post : leave_answer (codes "b") (leave_reply (codes "b") true false true (Some (codes "b")))
    ≡ record { status = PostOnly; kind = Json; body = codes "{\"error\":\"this path takes POST alone\"}" }
is_no_post = refl

-- a request for a path, with the name of b
abbrev posted : List ℕ → AskedValue
posted path =
    record { method = codes "POST"; path = path; loopback = true; field = λ name. Some (codes "b") }

at_the_path : act_answer (codes "b") true (posted (codes "/v1/leave"))
    ≡ Some record { status = Fine; kind = Json; body = codes "{\"leaving\":\"b\"}" }
at_the_path = refl

at_another_path : act_answer (codes "b") true (posted (codes "/v1/leave/")) ≡ None
at_another_path = refl
