-- Worked rows: what a node answers, and what is told of it.
use Rattle.std.specs.Prelude.{⊤, ◌≡◌, ℕ, true, false, List, [], ◌∷◌, ◌++◌, Some, None, codes, option_map, refl}
use Rattle.std.specs.Fmt.{digits}
use Rattle.std.specs.List.{flat_map}
use Rattle.std.specs.Str.{chars, is_utf8}
use Rattle.serde_json.proofs.OnLiterals.{serde_json_on_literals}
use Rattle.lg_text.specs.Meaning.AddressExamples.{on_addresses}
use Rattle.lg_text.specs.Meaning.Cutting.{before, behind}
use Rattle.lg_text.specs.Meaning.Lines.{newline}
use Rattle.lg_text.specs.Meaning.Octets.{octets_of}
use Rattle.lg_lines.specs.Meaning.Records.{table_text}
use Rattle.lg_client.specs.declared.heard.Said.TheVariants.{Length, Nothing, Unclear}
use Rattle.lg_client.specs.declared.resource.Resource.TheVariants.{Health, Members}
use Rattle.lg_client.specs.declared.unheard.Delay.TheVariants.{Closed, Told}
use Rattle.lg_client.specs.Meaning.Answers.{end_by, end_said}
use Rattle.lg_client.specs.Meaning.Changes.{change_said, news_said}
use Rattle.lg_client.specs.Meaning.Health.{health_said}
use Rattle.lg_client.specs.Meaning.Lines.{health_lines, news_text, pair_line}
use Rattle.lg_client.specs.Meaning.Members.{addr_said, member_said}
use Rattle.lg_client.specs.Meaning.Questions.{changes_target, codes_of, is_code_of, request_text}
use Rattle.lg_client.specs.Meaning.Told.{changes_told, question_told}
use Rattle.lg_client.specs.Meaning.Waiting.{closed_in_row, delay_said, seconds_of}
use Rattle.lg_client.specs.Meaning.Watching.{bodies_told, next_version}

-- what the rows have to unfold
unfoldable by_reading : ⊤
unfolding digits chars is_utf8 serde_json_on_literals before behind table_text change_said news_said health_said
    health_lines news_text pair_line addr_said member_said octets_of request_text changes_told question_told
by_reading = tt

-- some lines, each with its newline
abbrev lines : List (List ℕ) → List ℕ
lines texts = flat_map (λ line. line ++ newline) texts

-- ---- requests

request-for-members : request_text (codes "/v1/members") (codes "127.0.0.1:8946")
    ≡ codes "GET /v1/members HTTP/1.1\r\nhost: 127.0.0.1:8946\r\nconnection: close\r\n\r\n"
unfolding by_reading
request-for-members = refl

target-of-changes : changes_target 41 ≡ codes "/v1/changes?after=41&wait_ms=30000"
unfolding by_reading
target-of-changes = refl

health-of-ousted : is_code_of (codes_of Health) 503 ≡ true
health-of-ousted = refl

members-of-none : is_code_of (codes_of Members) 503 ≡ false
members-of-none = refl

-- ---- where a body ends

one-length-said : end_said ((codes "server", codes "b") ∷ (codes "Content-Length", codes "17") ∷ []) ≡ Length 17
one-length-said = refl

no-length-said : end_said ((codes "server", codes "b") ∷ []) ≡ Nothing
no-length-said = refl

two-lengths-said : end_said ((codes "content-length", codes "17") ∷ (codes "content-length", codes "17") ∷ []) ≡ Unclear
two-lengths-said = refl

length-of-no-number : end_said ((codes "content-length", codes "+17") ∷ []) ≡ Unclear
length-of-no-number = refl

coded : end_said ((codes "content-length", codes "17") ∷ (codes "transfer-encoding", codes "chunked") ∷ []) ≡ Unclear
coded = refl

ends-behind-head : end_by 40 (Length 17) ≡ Some 57
ends-behind-head = refl

-- ---- when to ask again

delay-in-seconds : delay_said ((codes "Retry-After", codes "120") ∷ []) ≡ Some 120
delay-in-seconds = refl

no-delay : delay_said ((codes "content-length", codes "17") ∷ []) ≡ None
no-delay = refl

delay-by-date : delay_said ((codes "retry-after", codes "Fri, 31 Dec 1999 23:59:59 GMT") ∷ []) ≡ None
delay-by-date = refl

first-delay : delay_said ((codes "retry-after", codes "1") ∷ (codes "retry-after", codes "2") ∷ []) ≡ Some 1
first-delay = refl

waits-as-told : seconds_of (Told 3) ≡ 3
waits-as-told = refl

waits-a-second : seconds_of (Told 0) ≡ 1
waits-a-second = refl

waits-five-seconds : seconds_of (Told 120) ≡ 5
waits-five-seconds = refl

closed-twice-since : closed_in_row (Closed ∷ Closed ∷ Told 1 ∷ Closed ∷ []) ≡ 2
closed-twice-since = refl

-- ---- bodies

abbrev members-body : List ℕ
members-body =
    codes "{\"version\":41,\"moment_ms\":5120,\"name\":\"b\",\"members\":[{\"name\":\"a\",\"status\":\"suspect\","
    ++ codes "\"incarnation\":0,\"address\":\"127.0.0.1\",\"port\":7101,\"accuser\":\"c\"}]}"

-- one that left, and is reached over IPv6
abbrev left-body : List ℕ
left-body =
    codes "{\"version\":41,\"moment_ms\":5120,\"name\":\"b\",\"members\":[{\"name\":\"d\",\"status\":\"left\","
    ++ codes "\"incarnation\":3,\"address\":\"2001:db8::1\",\"port\":7104,\"accuser\":null}]}"

abbrev health-body : List ℕ
health-body =
    codes "{\"name\":\"b\",\"score\":0,\"incarnation\":0,\"live\":3,\"known\":3,\"ousted\":false,"
    ++ codes "\"uptime_ms\":5120,\"stood_still_ms\":0}"

abbrev news-body : List ℕ
news-body =
    codes "{\"version\":41,\"missed\":true,\"changes\":[{\"version\":41,\"moment_ms\":5120,\"name\":\"a\","
    ++ codes "\"status\":\"alive\",\"incarnation\":1,\"address\":\"127.0.0.1\",\"port\":7101,\"accuser\":null}]}"

-- a member that failed and was then forgotten
abbrev forgetting-body : List ℕ
forgetting-body =
    codes "{\"version\":90,\"missed\":false,\"changes\":[{\"version\":41,\"moment_ms\":5120,\"name\":\"c\","
    ++ codes "\"status\":\"failed\",\"incarnation\":0,\"address\":\"127.0.0.1\",\"port\":7103,\"accuser\":null},"
    ++ codes "{\"version\":90,\"moment_ms\":90000,\"name\":\"c\",\"status\":\"forgotten\",\"incarnation\":null,"
    ++ codes "\"address\":null,\"port\":null,\"accuser\":null}]}"

-- no more than is read of one that was forgotten
abbrev least-body : List ℕ
least-body =
    codes "{\"version\":90,\"missed\":false,\"changes\":[{\"moment_ms\":90000,\"name\":\"c\","
    ++ codes "\"status\":\"forgotten\"}]}"

-- the members have no such status
abbrev forgotten-member-body : List ℕ
forgotten-member-body =
    codes "{\"version\":90,\"moment_ms\":90000,\"name\":\"b\",\"members\":[{\"name\":\"c\",\"status\":\"forgotten\","
    ++ codes "\"incarnation\":0,\"address\":\"127.0.0.1\",\"port\":7103,\"accuser\":null}]}"

-- no changes, and a version that begins anew
abbrev quiet-body : List ℕ
quiet-body = codes "{\"version\":3,\"missed\":false,\"changes\":[]}"

tells-members : question_told Members false members-body
    ≡ Some record { text = codes "record a suspect 0 127.0.0.1:7101 by c" ++ newline; ousted = false }
unfolding by_reading
tells-members = refl

tells-one-that-left : question_told Members false left-body
    ≡ Some record { text = codes "record d left 3 [2001:db8::1]:7104" ++ newline; ousted = false }
unfolding by_reading on_addresses
tells-one-that-left = refl

tells-health : question_told Health false health-body ≡ Some record {
  text = lines (codes "name b" ∷ codes "score 0" ∷ codes "incarnation 0" ∷ codes "live 3" ∷ codes "known 3"
      ∷ codes "ousted false" ∷ codes "uptime_ms 5120" ∷ codes "stood_still_ms 0" ∷ []);
  ousted = false;
}
unfolding by_reading
tells-health = refl

tells-body : question_told Health true health-body ≡ Some record { text = health-body ++ newline; ousted = false }
unfolding by_reading
tells-body = refl

-- the members are no health, even if the body is wanted as it came
tells-no-health : question_told Health true members-body ≡ None
unfolding by_reading
tells-no-health = refl

-- the first answer has no line `missed`, and the next one has
tells-first-news : changes_told false true news-body
    ≡ Some record { text = codes "5120 record a alive 1 127.0.0.1:7101" ++ newline; version = 41 }
unfolding by_reading
tells-first-news = refl

tells-missed : changes_told false false news-body
    ≡ Some record { text = lines (codes "missed" ∷ codes "5120 record a alive 1 127.0.0.1:7101" ∷ []); version = 41 }
unfolding by_reading
tells-missed = refl

tells-forgotten : changes_told false false forgetting-body ≡ Some record {
  text = lines (codes "5120 record c failed 0 127.0.0.1:7103" ∷ codes "90000 forgotten c" ∷ []);
  version = 90;
}
unfolding by_reading
tells-forgotten = refl

tells-forgotten-by-name : changes_told false false least-body
    ≡ Some record { text = codes "90000 forgotten c" ++ newline; version = 90 }
unfolding by_reading
tells-forgotten-by-name = refl

tells-no-forgotten-member : question_told Members false forgotten-member-body ≡ None
unfolding by_reading
tells-no-forgotten-member = refl

tells-no-news : changes_told true false quiet-body ≡ Some record { text = []; version = 3 }
unfolding by_reading
tells-no-news = refl

-- ---- the version to ask from

first-version : next_version 0 41 ≡ 41
first-version = refl

begun-anew : next_version 41 3 ≡ 0
begun-anew = refl

-- the latest answer comes first
watched-two : option_map (λ watched. watched.version) (bodies_told false (quiet-body ∷ news-body ∷ [])) ≡ Some 0
unfolding by_reading
watched-two = refl
