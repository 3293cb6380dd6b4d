-- Worked answers that tell what a recording has of a member.
use Rattle.std.specs.Prelude.{⊤, ◌≡◌, [], codes, refl}
use Rattle.std.specs.Fmt.{digits}
use Rattle.lg_http.specs.declared.site.HttpStatus.TheVariants.{NotFound, Unavailable}
use Rattle.lg_http.specs.declared.site.Kind.TheVariants.{Json}
use Rattle.lg_answers.specs.declared.explaining.Explained.TheVariants.{Unreadable, Unrecorded}
use Rattle.lg_answers.specs.Meaning.Answers.{explained_answer}
use Rattle.lg_answers.specs.Meaning.Explaining.{told_body}

-- what the rows have to unfold
unfoldable by_telling : ⊤
unfolding digits told_body
by_telling = tt

-- a node that doesn't record, and one whose recording can't be read
unrecorded : explained_answer Unrecorded
    ≡ record { status = NotFound; kind = Json; body = codes "{\"error\":\"this node doesn't record\"}" }
unrecorded = refl

unreadable : explained_answer Unreadable
    ≡ record { status = Unavailable; kind = Json; body = codes "{\"error\":\"the recording can't be read\"}" }
unreadable = refl

-- c has no account, and its line ends with a newline
no_account : told_body (codes "{\"member\":\"c\",\"accounts\":[]}\n")
    ≡ codes "{\"missing_ms\":1000,\"explained\":{\"member\":\"c\",\"accounts\":[]}}"
unfolding by_telling
no_account = refl

-- only one newline is left out, and only at the end
unended_lines :
    (told_body (codes "{}") ≡ codes "{\"missing_ms\":1000,\"explained\":{}}")
    × (told_body (codes "{}\n\n") ≡ codes "{\"missing_ms\":1000,\"explained\":{}\n}")
    × (told_body (codes "{\n}") ≡ codes "{\"missing_ms\":1000,\"explained\":{\n}}")
    × (told_body [] ≡ codes "{\"missing_ms\":1000,\"explained\":}")
unfolding by_telling
unended_lines = (refl, refl, refl, refl)
