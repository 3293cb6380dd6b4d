-- How a request is answered.
use Rattle.std.specs.Prelude.{◌≡◌, ℕ, ◌<◌, ◌≤◌, nat_lt, nat_le, List, [], ◌∷◌, ◌++◌, codes, All}
use Rattle.std.specs.Prelude.{Option, Some, None, is_some, Bool, true, false, ◌&&◌, ◌||◌, ◌⊎◌, IsTrue, IsFalse}
use Rattle.http.specs.declared.request.Request.{Request}
use Rattle.http.specs.Request.{head_of}
use Rattle.http1.specs.Fields.{Header}
use Rattle.http_header.specs.FieldValue.{FieldValue}
use Rattle.http_header.specs.HeaderMap.{get}
use Rattle.http_server.specs.declared.response.Response.{Response}
use Rattle.http_server.specs.Exchange.{Call}
use Rattle.http_server.specs.Response.{IsResponse}
use Rattle.http_uri.specs.Uri.{uri_path, uri_query}
use Rattle.lg_http.specs.declared.hosts.Hosts.{Hosts}
use Rattle.lg_http.specs.declared.site.HttpAnswer.{HttpAnswer}
use Rattle.lg_http.specs.declared.site.Kind.{Kind}
use Rattle.lg_http.specs.declared.site.Kind.TheVariants.{Json, Html, Metrics}
use Rattle.lg_http.specs.declared.site.HttpStatus.{HttpStatus}
use Rattle.lg_http.specs.declared.site.HttpStatus.TheVariants.{Fine, BadRequest, Forbidden, NotFound}
use Rattle.lg_http.specs.declared.site.HttpStatus.TheVariants.{PostOnly, Unavailable}
use Rattle.lg_http.specs.declared.site.Wait.{Wait}
use Rattle.lg_http.specs.declared.slots.TheConstants.{MAX_PARKED}
use Rattle.lg_http.specs.Meaning.Asked.{AskedValue, asked_from}
use Rattle.lg_http.specs.Meaning.Fronts.{WaitRule}
use Rattle.lg_http.specs.Meaning.Hosts.{AnswersTo}
use Rattle.lg_http.specs.Meaning.Parked.{Slot, parked_count}

-- the code of a status
abbrev pub status_number : HttpStatus → ℕ
status_number Fine = 200
status_number BadRequest = 400
status_number Forbidden = 403
status_number NotFound = 404
status_number PostOnly = 405
status_number Unavailable = 503

-- the value of `content-type`
abbrev pub kind_words : Kind → List ℕ
kind_words Json = codes "application/json"
kind_words Html = codes "text/html; charset=utf-8"
kind_words Metrics = codes "text/plain; version=0.0.4; charset=utf-8"

abbrev pub content_type : Kind → Header
content_type kind = (codes "content-type", kind_words kind)

-- said in the last answer of a connection
abbrev pub closing : Bool → List Header
closing true = (codes "connection", codes "close") ∷ []
closing false = []

abbrev pub allowed : Header
allowed = (codes "allow", codes "GET, HEAD")

abbrev pub post_allowed : Header
post_allowed = (codes "allow", codes "POST")

-- what the head of a site's answer says of it: its media type, and with 405 which method there is
abbrev pub answer_fields : HttpStatus → Kind → List Header
answer_fields PostOnly kind = post_allowed ∷ content_type kind ∷ []
answer_fields _ kind = content_type kind ∷ []

abbrev pub retry : Header
retry = (codes "retry-after", codes "1")

-- the body that tells a client that its method isn't served
abbrev pub method_body : List ℕ
method_body = codes "{\"error\":\"method not allowed\"}"

-- the body that turns a long poll away
abbrev pub crowded_body : List ℕ
crowded_body = codes "{\"error\":\"too many requests wait\"}"

-- the body that turns a request away whose host isn't this server's
abbrev pub misdirected_body : List ℕ
misdirected_body = codes "{\"error\":\"misdirected request\"}"

-- what a site answers: its state, a path, a query and the answer
abbrev pub SiteAnswers : Type 0 → Type 1
SiteAnswers S = S → List ℕ → Option (List ℕ) → HttpAnswer → Type 0

-- What a site answers to a request whose method is neither GET nor HEAD: its state, what it sees of the request, and
-- the answer, if it has one.
abbrev pub SiteActs : Type 0 → Type 1
SiteActs S = S → AskedValue → Option HttpAnswer → Type 0

-- the version of what a state of a site shows
abbrev pub SiteVersion : Type 0 → Type 0
SiteVersion S = S → ℕ

-- the method is one that is served
abbrev pub IsServedMethod : List ℕ → Type 0
IsServedMethod method = (method ≡ codes "GET") ⊎ (method ≡ codes "HEAD")

-- the first value that the request has under a name, if it has one
abbrev pub field_of : List ℕ → Request (List ℕ) → Option FieldValue
field_of name request = get (head_of request).headers name

-- a field of the request says that a body follows its head (RFC 9112, section 6.3)
abbrev pub has_body : Request (List ℕ) → Bool
has_body request =
    is_some (field_of (codes "content-length") request) || is_some (field_of (codes "transfer-encoding") request)

-- a request that waits for this would wait now, if the site shows this version
abbrev pub would_wait : ℕ → Option Wait → Bool
would_wait version None = false
would_wait version (Some wait) = nat_lt 0 wait.wait_ms && nat_le version wait.after

-- only a GET that no body follows waits
abbrev pub MayWait : Request (List ℕ) → Type 0
MayWait request = ((head_of request).method ≡ codes "GET") × IsFalse (has_body request)

-- Whether a request is a long poll too many, if the site shows this version and so many others wait. It is one only if
-- it may wait, as many others wait as may, and by the site's rule it would wait too.
pub record IsTooMany (waits : WaitRule) (version others : ℕ) (request : Request (List ℕ)) (full : Bool) : Type 0 where
  pub room : others < MAX_PARKED → IsFalse full
  pub other : ¬ (MayWait request) → IsFalse full
  pub waiting : MayWait request → MAX_PARKED ≤ others
      → (wait : Option Wait) × waits (uri_path (head_of request).uri) (uri_query (head_of request).uri) wait
      × (full ≡ would_wait version wait)

-- the response is the site's answer to the request
abbrev pub IsOfSite : {S : Type 0} → SiteAnswers S → Bool → S → Request (List ℕ) → Response → Type 0
IsOfSite answers last site request response =
    (a : HttpAnswer) × answers site (uri_path (head_of request).uri) (uri_query (head_of request).uri) a
    × IsResponse (status_number a.status) (closing last ++ answer_fields a.status a.kind) a.body.items response

-- the response to a method that is neither GET nor HEAD: the answer that the site has, or 405 if it has none
abbrev pub IsActReply : Option HttpAnswer → Bool → Response → Type 0
IsActReply None last response =
    IsResponse 405 (closing last ++ allowed ∷ content_type Json ∷ []) method_body response
IsActReply (Some a) last response =
    IsResponse (status_number a.status) (closing last ++ answer_fields a.status a.kind) a.body.items response

abbrev pub IsActOfSite : {S : Type 0} → SiteActs S → Bool → Bool → S → Request (List ℕ) → Response → Type 0
IsActOfSite acts loopback last site request response =
    (a : Option HttpAnswer) × acts site (asked_from loopback request) a × IsActReply a last response

-- How a request is answered, by whether it is a long poll too many, and by whether its client is on loopback. The
-- answer says that the connection is closed behind it exactly if it is one too many, or if a body follows the request's
-- head.
pub record IsReply {S : Type 0} (answers : SiteAnswers S) (acts : SiteActs S) (hosts : Hosts) (loopback full : Bool)
    (site : S) (request : Request (List ℕ)) (response : Response) : Type 0 where
  pub misdirected : ¬ (AnswersTo hosts (field_of (codes "host") request))
      → IsResponse 421 (closing (full || has_body request) ++ content_type Json ∷ []) misdirected_body response
  pub other : AnswersTo hosts (field_of (codes "host") request) → ¬ (IsServedMethod (head_of request).method)
      → IsActOfSite acts loopback (full || has_body request) site request response
  pub crowded : AnswersTo hosts (field_of (codes "host") request) → IsServedMethod (head_of request).method
      → IsTrue full
      → IsResponse 503 (closing (full || has_body request) ++ retry ∷ content_type Json ∷ []) crowded_body response
  pub served : AnswersTo hosts (field_of (codes "host") request) → IsServedMethod (head_of request).method
      → IsFalse full → IsOfSite answers (full || has_body request) site request response

-- whether a reply is right: a state of a site, and a call
abbrev pub SiteReplies : Type 0 → Type 1
SiteReplies S = S → Call → Type 0

-- the reply to a request, while so many other long polls wait, to a client that is on loopback or isn't
abbrev pub RepliesAmong :
    {S : Type 0} → SiteAnswers S → SiteActs S → SiteVersion S → WaitRule → Hosts → ℕ → Bool → SiteReplies S
RepliesAmong answers acts version waits hosts others loopback site call =
    (full : Bool) × IsTooMany waits (version site) others call.0 full
    × IsReply answers acts hosts loopback full site call.0 call.1

-- The reply to a request: there are the other slots of that moment, and so many long polls wait in them. The client is
-- on loopback or isn't.
abbrev pub Replies : {S : Type 0} → SiteAnswers S → SiteActs S → SiteVersion S → WaitRule → Hosts → SiteReplies S
Replies answers acts version waits hosts site call =
    (others : List Slot) × (loopback : Bool)
    × RepliesAmong answers acts version waits hosts (parked_count others) loopback site call

-- of two states of a site, whether the second is the first or a later one
abbrev pub SiteOrder : Type 0 → Type 1
SiteOrder S = S → S → Type 0

-- Time goes on: each state counts as later than itself, and what is later than a later one is later.
pub record IsSiteOrder {S : Type 0} (later : SiteOrder S) : Type 0 where
  pub same : (site : S) → later site site
  pub both : (first second third : S) → later first second → later second third → later first third

-- The calls were answered one after another, and never from an earlier state of the site than the call before: the
-- first from the first state or a later one, each from the state of the call before or a later one, and the last state
-- is that of the last call or a later one.
abbrev pub AreAnswered : {S : Type 0} → SiteReplies S → SiteOrder S → S → List Call → S → Type 0
AreAnswered replies later first [] last = later first last
AreAnswered {S} replies later first (call ∷ calls) last =
    (site : S) × later first site × replies site call × AreAnswered replies later site calls last

-- further calls were made, each answered from this state of the site
abbrev pub AddsCalls : {S : Type 0} → SiteReplies S → S → List Call → List Call → Type 0
AddsCalls replies site old new = (calls : List Call) × (new ≡ old ++ calls) × All (replies site) calls
