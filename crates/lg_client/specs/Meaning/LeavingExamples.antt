-- Worked rows: a node that is asked to leave.
use Rattle.std.specs.Prelude.{⊤, ◌≡◌, false, true, [], ◌∷◌, ◌++◌, ◌*◌, Some, None, Ok, codes, refl}
use Rattle.std.specs.Fmt.{digits}
use Rattle.std.specs.Str.{chars, is_utf8}
use Rattle.serde_json.proofs.OnLiterals.{serde_json_on_literals}
use Rattle.lg_text.specs.Meaning.Lines.{newline}
use Rattle.lg_client.specs.declared.fault.AskFault.TheVariants.{Bad, Busy}
use Rattle.lg_client.specs.declared.leave_fault.LeaveFault.TheVariants.{Asking, Name, Staying}
use Rattle.lg_client.specs.Meaning.Leaving.{connected_again, end_told, last_connection, leave_fault_status}
use Rattle.lg_client.specs.Meaning.Leaving.{leave_fault_text, leaving_told, most_connections, name_told, pause_ms}
use Rattle.lg_client.specs.Meaning.Questions.{is_code_of, leave_codes, leave_text}
use Rattle.lg_client.specs.Meaning.Waiting.AskEvent.{Connected, Paused}

-- what the rows have to unfold
unfoldable by_leaving : ⊤
unfolding digits chars is_utf8 serde_json_on_literals leave_text
by_leaving = tt

request-to-leave : leave_text (codes "b") (codes "127.0.0.1:8946")
    ≡ codes "POST /v1/leave HTTP/1.1\r\nhost: 127.0.0.1:8946\r\nlg-leave: b\r\nconnection: close\r\n\r\n"
unfolding by_leaving
request-to-leave = refl

leaves-by-200 : is_code_of leave_codes 200 ≡ true
leaves-by-200 = refl

is-denied-by-403 : is_code_of leave_codes 403 ≡ false
is-denied-by-403 = refl

tells-name : name_told (codes "name") (codes "{\"name\":\"b\",\"score\":0}") ≡ Some (codes "b")
unfolding by_leaving
tells-name = refl

tells-no-name : name_told (codes "name") (codes "{\"name\":\"b c\"}") ≡ None
unfolding by_leaving
tells-no-name = refl

tells-that-it-leaves : leaving_told (codes "b") (codes "{\"leaving\":\"b\"}") ≡ Some (codes "b")
unfolding by_leaving
tells-that-it-leaves = refl

tells-that-another-leaves : leaving_told (codes "b") (codes "{\"leaving\":\"a\"}") ≡ None
unfolding by_leaving
tells-that-another-leaves = refl

-- a node that ends behind two connections
ends-behind-two : connected_again 2 ++ last_connection true
    ≡ Connected true ∷ Paused 100 ∷ Connected true ∷ Paused 100 ∷ Connected false ∷ []
ends-behind-two = refl

waits-in-all : most_connections * pause_ms ≡ 70000
waits-in-all = refl

nothing-told-of-ended : end_told true ≡ Ok tt
nothing-told-of-ended = refl

status-of-name : leave_fault_status Name ≡ 3
status-of-name = refl

status-of-denied : leave_fault_status (Asking Bad) ≡ 8
status-of-denied = refl

status-of-busy : leave_fault_status (Asking Busy) ≡ 10
status-of-busy = refl

line-of-staying : leave_fault_text Staying ≡ codes "lg: not ended" ++ newline
line-of-staying = refl
