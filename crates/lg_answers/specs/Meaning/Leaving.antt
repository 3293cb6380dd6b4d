-- The answer to a request that asks the node to leave (this project's choice). The request has to come from this
-- machine, and to have the name of the node in a header field of its own. A page in a browser may send such a field to
-- another origin only after a preflight, and this server grants none (WHATWG Fetch, sections 3.2 and 4.8).
use Rattle.std.specs.Prelude.{ℕ, Bool, false, List, ◌++◌, codes, Option, Some, None, if◌then◌else◌}
use Rattle.std.specs.Str.{bytes_eq}
use Rattle.lg_http.specs.declared.site.HttpStatus.TheVariants as http
use Rattle.lg_http.specs.declared.site.Kind.TheVariants.{Json}
use Rattle.lg_http.specs.Meaning.Asked.{AskedValue}
use Rattle.lg_answers.specs.declared.leave.LeaveReply.{LeaveReply}
use Rattle.lg_answers.specs.declared.leave.LeaveReply.TheVariants.{PostOnly, Off, Elsewhere, Unnamed, Leaves}
use Rattle.lg_answers.specs.Meaning.Answers.{AnswerValue, error_answer, found_answer}

-- the path of such a request
abbrev pub leave_path : List ℕ
leave_path = codes "/v1/leave"

-- the name of the header field, in lower case
abbrev pub leave_field : List ℕ
leave_field = codes "lg-leave"

-- whether the field is there and has exactly this name
abbrev pub names : Option (List ℕ) → List ℕ → Bool
names None name = false
names (Some value) name = bytes_eq value name

-- What comes of a request to the node with this name: by whether its file lets it be asked, whether the method is POST,
-- whether the client's address is loopback, and the field. The first that fails counts, in this order: the method, the
-- file, the address, the field.
abbrev pub leave_reply : List ℕ → (on post loopback : Bool) → Option (List ℕ) → LeaveReply
leave_reply name on post loopback field =
    if post
    then (if on then (if loopback then (if names field name then Leaves else Unnamed) else Elsewhere) else Off)
    else PostOnly

-- {"leaving":"NAME"}
abbrev pub leaving_body : List ℕ → List ℕ
leaving_body name = codes "{\"leaving\":\"" ++ (name ++ codes "\"}")

-- the answer: 200, or a fault in words with 405 Method Not Allowed, 403 Forbidden or 400 Bad Request (RFC 9110)
abbrev pub leave_answer : List ℕ → LeaveReply → AnswerValue
leave_answer name PostOnly = error_answer http.PostOnly (codes "this path takes POST alone")
leave_answer name Off = error_answer http.Forbidden (codes "leave is off in the file of this node")
leave_answer name Elsewhere = error_answer http.Forbidden (codes "only a client on this machine may ask this")
leave_answer name Unnamed = error_answer http.BadRequest (codes "Lg-Leave has to be the name of this node")
leave_answer name Leaves = found_answer Json (leaving_body name)

-- What a node answers to a request whose method is neither GET nor HEAD: it has an answer only at this path.
abbrev pub act_answer : List ℕ → Bool → AskedValue → Option AnswerValue
act_answer name on asked =
    if bytes_eq asked.path leave_path
    then Some (leave_answer name (leave_reply name on (bytes_eq asked.method (codes "POST")) asked.loopback
    (asked.field leave_field)))
    else None
