-- Which requests a server answers, by the host that they name (RFC 9110, section 7.2).
use Rattle.std.specs.Prelude.{◌≡◌, ℕ, ◌⊎◌, List, map, codes, Option, Some, None, IsSome, IsTrue, ⊤}
use Rattle.std.specs.Char.{to_ascii_lowercase}
use Rattle.http_header.specs.FieldValue.{FieldValue}
use Rattle.http_server.specs.Host.{is_bracketed}
use Rattle.lg_text.specs.Meaning.Cutting.{before, colon}
use Rattle.lg_text.specs.Meaning.Octets.{octets_of}
use Rattle.lg_http.specs.declared.hosts.Hosts.{Hosts}
use Rattle.lg_http.specs.declared.hosts.Hosts.TheVariants.{Any, Local}

-- The value of `Host` is an IPv6 address in brackets, an IPv4 address, or `localhost` in any case, each with or without
-- a port. No such host is a name that somebody can have registered, but for `localhost`, which is the machine itself.
abbrev pub IsLocal : List ℕ → Type 0
IsLocal host =
    IsTrue (is_bracketed host)
    ⊎ (IsSome (octets_of (before colon host))
    ⊎ (map to_ascii_lowercase (before colon host) ≡ map to_ascii_lowercase (codes "localhost")))

-- A server that answers to these hosts answers a request with this `Host`. One without names no host.
abbrev pub AnswersTo : Hosts → Option FieldValue → Type 0
AnswersTo Any host = ⊤
AnswersTo Local None = ⊥
AnswersTo Local (Some value) = IsLocal value.bytes
