-- What a node's recording tells of a member, as an answer: its status and its body, as JSON (this project's choice).
use Rattle.std.specs.Prelude.{ℕ, List, ◌++◌, codes, decimal, drop, length, take, ◌-◌, if◌then◌else◌}
use Rattle.std.specs.Str.{bytes_eq}
use Rattle.lg_http.specs.declared.site.HttpStatus.{HttpStatus}
use Rattle.lg_http.specs.declared.site.HttpStatus.TheVariants.{Fine, NotFound, Unavailable}
use Rattle.lg_text.specs.Meaning.Lines.{newline}
use Rattle.lg_answers.specs.declared.explaining.Explained.{Explained}
use Rattle.lg_answers.specs.declared.explaining.Explained.TheVariants.{Told, Unreadable, Unrecorded}
use Rattle.lg_answers.specs.Meaning.Bodies.{error_body}

-- What happened in so many last milliseconds may be missing: the recorder takes entries once in so many.
abbrev pub missing_ms : ℕ
missing_ms = 1000

-- a text without the newline at its end; all of one that ends with another byte
abbrev pub unended : List ℕ → List ℕ
unended text =
    if bytes_eq (drop (length text - length newline) text) newline
    then take (length text - length newline) text
    else text

-- {"missing_ms":1000,"explained":ACCOUNTS}, with the accounts of the member without the newline at their end
abbrev pub missing_front : List ℕ
missing_front = codes "{\"missing_ms\":" ++ (decimal missing_ms ++ codes ",\"explained\":")

unfoldable pub told_body : List ℕ → List ℕ
told_body accounts = missing_front ++ unended accounts ++ codes "}"

-- 404 Not Found if the node doesn't record, 503 Service Unavailable if its recording can't be read, or else 200 OK (RFC
-- 9110)
abbrev pub explained_status : Explained → HttpStatus
explained_status Unrecorded = NotFound
explained_status Unreadable = Unavailable
explained_status (Told accounts) = Fine

-- a fault in words, or what is told
abbrev pub explained_body : Explained → List ℕ
explained_body Unrecorded = error_body (codes "this node doesn't record")
explained_body Unreadable = error_body (codes "the recording can't be read")
explained_body (Told accounts) = told_body accounts.items
