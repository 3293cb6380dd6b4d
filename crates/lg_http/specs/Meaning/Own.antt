-- The server's own refusals, which are sent in the place of the empty ones of `http_server`.
use Rattle.std.specs.Prelude.{ℕ, List, ◌++◌, codes, Option, Some, None, if◌then◌else◌}
use Rattle.http.specs.declared.error.Error.{Error}
use Rattle.http.specs.declared.error.Error.TheVariants.{HeaderName, MaxSizeReached, Uri}
use Rattle.http_uri.specs.Error.{is_too_long}
use Rattle.http1.specs.declared.error.ReadError.{ReadError}
use Rattle.http1.specs.declared.error.ReadError.TheVariants.{UriTooLong}
use Rattle.http1.specs.ReadError.{is_too_large}
use Rattle.http_server.specs.declared.state.State.{State}
use Rattle.http_server.specs.declared.state.State.TheVariants.{Closing}
use Rattle.http_server.specs.declared.state.Reason.TheVariants.{Refused}
use Rattle.http_server.specs.declared.state.Refusal.{Refusal}
use Rattle.http_server.specs.declared.state.Refusal.TheVariants.{Unreadable, BodyTooLarge, InvalidPart}
use Rattle.http_server.specs.declared.state.Refusal.TheVariants.{UnknownCoding, InvalidResponse}
use Rattle.lg_http.specs.declared.own.OwnRefusal.{OwnRefusal}
use Rattle.lg_http.specs.declared.own.OwnRefusal.TheVariants as Own

-- the status line's code and reason phrase
abbrev pub own_status : OwnRefusal → List ℕ
own_status Own.BadRequest = codes "400 Bad Request"
own_status Own.BodyTooLarge = codes "413 Content Too Large"
own_status Own.TargetTooLong = codes "414 URI Too Long"
own_status Own.FieldsTooLarge = codes "431 Request Header Fields Too Large"
own_status Own.UnknownCoding = codes "501 Not Implemented"
own_status Own.Internal = codes "500 Internal Server Error"

abbrev pub own_body : OwnRefusal → List ℕ
own_body Own.BadRequest = codes "{\"error\":\"bad request\"}"
own_body Own.BodyTooLarge = codes "{\"error\":\"body too large\"}"
own_body Own.TargetTooLong = codes "{\"error\":\"target too long\"}"
own_body Own.FieldsTooLarge = codes "{\"error\":\"header fields too large\"}"
own_body Own.UnknownCoding = codes "{\"error\":\"coding not implemented\"}"
own_body Own.Internal = codes "{\"error\":\"internal error\"}"

-- how many bytes the body has
abbrev pub own_length : OwnRefusal → List ℕ
own_length Own.BadRequest = codes "23"
own_length Own.BodyTooLarge = codes "26"
own_length Own.TargetTooLong = codes "27"
own_length Own.FieldsTooLarge = codes "35"
own_length Own.UnknownCoding = codes "34"
own_length Own.Internal = codes "26"

-- the whole response
abbrev pub own_text : OwnRefusal → List ℕ
own_text why =
    codes "HTTP/1.1 " ++ own_status why
    ++ codes "\r\nconnection: close\r\ncontent-type: application/json\r\ncontent-length: " ++ own_length why
    ++ codes "\r\n\r\n" ++ own_body why

abbrev pub own_of_read : ReadError → OwnRefusal
own_of_read UriTooLong = Own.TargetTooLong
own_of_read e = if is_too_large e then Own.FieldsTooLarge else Own.BadRequest

abbrev pub own_of_part : Error → OwnRefusal
own_of_part HeaderName = Own.FieldsTooLarge
own_of_part MaxSizeReached = Own.FieldsTooLarge
own_of_part (Uri e) = if is_too_long e then Own.TargetTooLong else Own.BadRequest
own_of_part _ = Own.BadRequest

-- what stands in the place of a refusal
abbrev pub own_for : Refusal → OwnRefusal
own_for (Unreadable e) = own_of_read e
own_for BodyTooLarge = Own.BodyTooLarge
own_for (InvalidPart e) = own_of_part e
own_for UnknownCoding = Own.UnknownCoding
own_for (InvalidResponse e) = Own.Internal
own_for _ = Own.BadRequest

-- what a connection is refused with, if it is
abbrev pub own_in : State → Option OwnRefusal
own_in (Closing (Refused why)) = Some (own_for why)
own_in _ = None
