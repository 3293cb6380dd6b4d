-- What a node is asked for (RFC 9112, sections 3 and 9.6).
use Rattle.std.specs.Prelude.{ℕ, Bool, ◌==◌, List, [], ◌∷◌, ◌++◌, codes, decimal}
use Rattle.std.specs.List.{list_any}
use Rattle.lg_client.specs.declared.resource.Resource.{Resource}
use Rattle.lg_client.specs.declared.resource.Resource.TheVariants.{Health, Members}

-- the target of a question
abbrev pub target_of : Resource → List ℕ
target_of Members = codes "/v1/members"
target_of Health = codes "/v1/health"

-- The status codes that an answer to it may have. A node that was ousted says so with 503.
abbrev pub codes_of : Resource → List ℕ
codes_of Members = 200 ∷ []
codes_of Health = 200 ∷ 503 ∷ []

-- the target that asks for the changes behind a version, and the status codes that its answer may have
abbrev pub changes_target : ℕ → List ℕ
changes_target after = codes "/v1/changes?after=" ++ (decimal after ++ codes "&wait_ms=30000")

abbrev pub changes_codes : List ℕ
changes_codes = 200 ∷ []

-- whether a status code is one of these
abbrev pub is_code_of : List ℕ → ℕ → Bool
is_code_of allowed code = list_any (λ c. c == code) allowed

-- The bytes of a request for a target, to the server at an address. The text of the address is the field `Host`.
unfoldable pub request_text : List ℕ → List ℕ → List ℕ
request_text target at =
    codes "GET " ++ (target ++ (codes " HTTP/1.1\r\nhost: " ++ (at ++ codes "\r\nconnection: close\r\n\r\n")))

-- The bytes of the request that asks the node with this name to leave, to the server at an address. It has no body, and
-- so no field that says how long one is (RFC 9112, section 6.3).
unfoldable pub leave_text : List ℕ → List ℕ → List ℕ
leave_text name at =
    codes "POST /v1/leave HTTP/1.1\r\nhost: " ++ at ++ codes "\r\nlg-leave: " ++ name
    ++ codes "\r\nconnection: close\r\n\r\n"

-- the status codes that its answer may have
abbrev pub leave_codes : List ℕ
leave_codes = 200 ∷ []
