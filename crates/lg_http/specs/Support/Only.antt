-- The head at the front of some bytes is the only one that can be read there.
use Rattle.std.specs.Prelude.{ℕ, ◌≤◌, List, length}
use Rattle.httparse.specs.declared.spans.HeaderSpan.{HeaderSpan}
use Rattle.httparse.specs.declared.spans.RequestSpans.{RequestSpans}
use Rattle.httparse.specs.Grammar.{RequestHead, ReadsRequest}
use Rattle.httparse.specs.Spans.{IsRequestAt}
use Rattle.http_server.specs.declared.state.TheConstants.{MAX_HEADERS}

-- each head that the bytes begin with, and that has few enough fields, is the one at these places
abbrev pub IsOnlyRequest : List ℕ → List HeaderSpan → RequestSpans → Type 0
IsOnlyRequest held spans places =
    (head : RequestHead) (rest : List ℕ) → ReadsRequest held head rest → length head.fields ≤ MAX_HEADERS
    → IsRequestAt held spans places head
