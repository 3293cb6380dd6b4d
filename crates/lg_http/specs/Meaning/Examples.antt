-- Worked rows.
use Rattle.std.specs.Prelude.{◌≡◌, ℕ, [], ◌∷◌, ◌++◌, Some, None, codes, refl, true, false, length}
use Rattle.http_header.specs.FieldValue.{plain_value}
use Rattle.http1.specs.declared.error.ReadError.TheVariants.{UriTooLong, TooLarge, Host}
use Rattle.http_server.specs.declared.state.State.TheVariants.{Open, Closing}
use Rattle.http_server.specs.declared.state.Reason.TheVariants.{Asked, Refused}
use Rattle.http_server.specs.declared.state.Refusal.TheVariants.{Unreadable, BodyTooLarge}
use Rattle.lg_text.specs.Meaning.Cutting.{before, behind}
use Rattle.lg_http.specs.declared.own.OwnRefusal.TheVariants as Own
use Rattle.lg_http.specs.declared.peer.Phase.TheVariants.{Reading, Parked, Answering, Draining}
use Rattle.lg_http.specs.declared.site.HttpStatus.TheVariants.{Forbidden, PostOnly}
use Rattle.lg_http.specs.declared.site.Kind.TheVariants.{Json}
use Rattle.lg_http.specs.Meaning.Answers.{answer_fields, closing, content_type}
use Rattle.lg_http.specs.Meaning.Asked.{first_value}
use Rattle.lg_http.specs.Meaning.Fronts.{query_mark}
use Rattle.lg_http.specs.Meaning.Own.{own_text, own_body, own_in}
use Rattle.lg_http.specs.Meaning.Parked.{loopback_in}
use Rattle.lg_http.specs.Meaning.Phases.{MayBecome, time_limit, may_yield}

path-of-target : before query_mark (codes "/v1/changes?after=1?2") ≡ codes "/v1/changes"
unfolding before
path-of-target = refl

query-of-target : behind query_mark (codes "/v1/changes?after=1?2") ≡ Some (codes "after=1?2")
unfolding behind
query-of-target = refl

no-query : behind query_mark (codes "/") ≡ None
unfolding behind
no-query = refl

type-of-json : content_type Json ≡ (codes "content-type", codes "application/json")
type-of-json = refl

post-only-says-post : answer_fields PostOnly Json
    ≡ (codes "allow", codes "POST") ∷ (codes "content-type", codes "application/json") ∷ []
post-only-says-post = refl

forbidden-says-its-type : answer_fields Forbidden Json ≡ (codes "content-type", codes "application/json") ∷ []
forbidden-says-its-type = refl

first-of-two :
    first_value ((codes "x-mark", plain_value (codes "b") ∷ plain_value (codes "c") ∷ []) ∷ []) (codes "x-mark")
    ≡ Some (codes "b")
first-of-two = refl

no-such-field : first_value ((codes "x-mark", plain_value (codes "b") ∷ []) ∷ []) (codes "mark") ≡ None
no-such-field = refl

free-slot-has-no-client : loopback_in None ≡ false
free-slot-has-no-client = refl

last-says-close : closing true ≡ (codes "connection", codes "close") ∷ []
last-says-close = refl

text-of-400 : own_text Own.BadRequest
    ≡ codes "HTTP/1.1 400 Bad Request\r\nconnection: close\r\n"
    ++ codes "content-type: application/json\r\ncontent-length: 23\r\n\r\n{\"error\":\"bad request\"}"
text-of-400 = refl

length-400 : length (own_body Own.BadRequest) ≡ 23
length-400 = refl

length-413 : length (own_body Own.BodyTooLarge) ≡ 26
length-413 = refl

length-414 : length (own_body Own.TargetTooLong) ≡ 27
length-414 = refl

length-431 : length (own_body Own.FieldsTooLarge) ≡ 35
length-431 = refl

length-501 : length (own_body Own.UnknownCoding) ≡ 34
length-501 = refl

length-500 : length (own_body Own.Internal) ≡ 26
length-500 = refl

own-414 : own_in (Closing (Refused (Unreadable UriTooLong))) ≡ Some Own.TargetTooLong
own-414 = refl

own-431 : own_in (Closing (Refused (Unreadable TooLarge))) ≡ Some Own.FieldsTooLarge
own-431 = refl

own-400 : own_in (Closing (Refused (Unreadable Host))) ≡ Some Own.BadRequest
own-400 = refl

own-413 : own_in (Closing (Refused BodyTooLarge)) ≡ Some Own.BodyTooLarge
own-413 = refl

none-if-asked : own_in (Closing Asked) ≡ None
none-if-asked = refl

none-if-open : own_in Open ≡ None
none-if-open = refl

parked-may-be-answered : (after : ℕ) → MayBecome (Parked after) Answering
parked-may-be-answered after = tt

drained-is-never-answered : ¬ (MayBecome Draining Answering)
drained-is-never-answered wrong = wrong

head-has-5-s : time_limit Reading ≡ 5000
head-has-5-s = refl

poll-has-30-s : (after : ℕ) → time_limit (Parked after) ≡ 30000
poll-has-30-s after = refl

may-yield-after-250-ms : may_yield Reading 4750 ≡ true
may-yield-after-250-ms = refl

is-kept-until-then : may_yield Reading 4751 ≡ false
is-kept-until-then = refl

answered-is-kept : may_yield Answering 0 ≡ false
answered-is-kept = refl
