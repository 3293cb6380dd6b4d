-- What is told of a host among the seeds (this project's choice).
use Rattle.std.specs.Prelude.{◌≡◌, ◌⊎◌, ℕ, List, ◌++◌, codes, Option, Some, None}
use Rattle.lg_text.specs.Meaning.Reporting.{Reported, Reports}
use Rattle.lg_resolve.specs.declared.known.HostNews.{HostNews}
use Rattle.lg_resolve.specs.declared.known.HostNews.TheVariants.{Fails, Resolves}

-- what a line says of a host
abbrev pub news_words : HostNews → List ℕ
news_words Fails = codes " of the seeds doesn't resolve\n"
news_words Resolves = codes " of the seeds resolves\n"

abbrev pub news_line : List ℕ → HostNews → List ℕ
news_line name news = codes "lg: the host " ++ (name ++ news_words news)

-- The line of some news was reported, or memory for it was refused. If there are no news, nothing was.
abbrev pub Tells : (before after : Reported) → List ℕ → Option HostNews → Type 0
Tells before after name None = after ≡ before
Tells before after name (Some news) = Reports before after (news_line name news) ⊎ (after ≡ before)
