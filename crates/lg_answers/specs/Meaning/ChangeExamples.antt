-- Worked texts of changes: of none, of one by which a is suspected by c, and of one by which c is forgotten.
use Rattle.std.specs.Prelude.{⊤, ◌≡◌, ℕ, false, [], ◌∷◌, ◌++◌, codes, refl}
use Rattle.std.specs.Fmt.{digits}
use Rattle.lg_rules.specs.declared.addr.Addr.{Addr}
use Rattle.lg_rules.specs.declared.addr.Ip.TheVariants.{V4}
use Rattle.lg_rules.specs.declared.claim.Claim.{Claim}
use Rattle.lg_rules.specs.declared.claim.Status.TheVariants as status
use Rattle.lg_changes.specs.Meaning.Changes.{recorded_at, forgotten_at}
use Rattle.lg_answers.specs.Meaning.Changes.{change_json, changes_json, forgotten_fields}
use Rattle.lg_answers.specs.Meaning.Members.{address_fields, member_fields, moment_front}

-- what the rows have to unfold
unfoldable by_changing : ⊤
unfolding digits address_fields change_json changes_json forgotten_fields member_fields moment_front
by_changing = tt

abbrev at : ℕ → Addr
at port = record { ip = V4 (127 ∷ 0 ∷ 0 ∷ 1 ∷ []); port = port }

abbrev suspected : Claim
suspected = record { name = codes "a"; addr = at 7101; status = status.Suspect (codes "c"); incarnation = 0 }

no_text : changes_json 41 false [] ≡ codes "{\"version\":41,\"missed\":false,\"changes\":[]}"
unfolding by_changing
no_text = refl

one_text : changes_json 41 false (recorded_at 41 5120 suspected ∷ [])
    ≡ codes "{\"version\":41,\"missed\":false,\"changes\":[{\"version\":41,\"moment_ms\":5120,\"name\":\"a\","
    ++ codes "\"status\":\"suspect\",\"incarnation\":0,\"address\":\"127.0.0.1\",\"port\":7101,\"accuser\":\"c\"}]}"
unfolding by_changing
one_text = refl

forgotten_text : change_json (forgotten_at 90 90000 (codes "c"))
    ≡ codes "{\"version\":90,\"moment_ms\":90000,\"name\":\"c\",\"status\":\"forgotten\",\"incarnation\":null,"
    ++ codes "\"address\":null,\"port\":null,\"accuser\":null}"
unfolding by_changing
forgotten_text = refl
