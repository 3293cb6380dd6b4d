-- What stands at the front of the bytes that a client sent.
use Rattle.std.specs.Prelude.{◌≡◌, ◌≢◌, ℕ, ◌≤◌, ◌<◌, ◌⊎◌, List, length, drop, map, codes, Option, None, All}
use Rattle.std.specs.Char.{to_ascii_lowercase}
use Rattle.httparse.specs.Grammar.{RequestHead, HasNoRequest, ReadsRequest, print_request}
use Rattle.httparse.specs.Spans.{name_and_value}
use Rattle.http_server.specs.declared.state.TheConstants.{MAX_HEADERS}
use Rattle.lg_text.specs.Meaning.Cutting.{before, behind}
use Rattle.lg_http.specs.declared.gate.TheConstants.{MAX_HEAD}
use Rattle.lg_http.specs.declared.gate.Front.{Front}
use Rattle.lg_http.specs.declared.gate.Front.TheVariants.{Partial, Request, Other}
use Rattle.lg_http.specs.declared.site.Wait.{Wait}

-- a field of this name says that a body follows (RFC 9112, section 6.3)
abbrev pub IsFraming : List ℕ → Type 0
IsFraming name =
    (map to_ascii_lowercase name ≡ map to_ascii_lowercase (codes "content-length"))
    ⊎ (map to_ascii_lowercase name ≡ map to_ascii_lowercase (codes "transfer-encoding"))

-- none of the fields, each a name and a value, says so
abbrev pub AreBodiless : List (List ℕ × List ℕ) → Type 0
AreBodiless fields = All (λ field. ¬ (IsFraming field.0)) fields

-- a site's rule of what a request for a path and a query waits for
abbrev pub WaitRule : Type 1
WaitRule = List ℕ → Option (List ℕ) → Option Wait → Type 0

-- the byte `?`, behind which a query stands
abbrev pub query_mark : ℕ
query_mark = 63

-- what a request waits for: only a GET waits
abbrev pub WaitsFor : WaitRule → RequestHead → Option Wait → Type 0
WaitsFor rule head wait =
    (head.method ≢ codes "GET" → wait ≡ None)
    × (head.method ≡ codes "GET" → rule (before query_mark head.target) (behind query_mark head.target) wait)

-- a whole head of so many bytes, which no body follows
pub record IsWhole (rule : WaitRule) (held : List ℕ) (len : ℕ) (wait : Option Wait) : Type 0 where
  pub head : RequestHead
  pub reads : ReadsRequest held head (drop len held)
  pub len_is : len ≡ length (print_request head)
  pub within : len ≤ length held
  pub short : len ≤ MAX_HEAD
  pub bodiless : AreBodiless (map name_and_value head.fields)
  pub waits : WaitsFor rule head wait

-- no whole head which is short enough, and which no body follows
abbrev pub HasNoShort : List ℕ → Type 0
HasNoShort held =
    (head : RequestHead) (rest : List ℕ) → ReadsRequest held head rest → length head.fields ≤ MAX_HEADERS
    → length (print_request head) ≤ MAX_HEAD → ¬ (AreBodiless (map name_and_value head.fields))

-- what stands at the front of the bytes
abbrev pub IsFront : WaitRule → List ℕ → Front → Type 0
IsFront rule held Partial = HasNoRequest held × (length held < MAX_HEAD)
IsFront rule held (Request len wait) = IsWhole rule held len wait
IsFront rule held Other = HasNoShort held
