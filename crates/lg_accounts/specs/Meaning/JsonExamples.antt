-- Worked JSON.
use Rattle.std.specs.Prelude.{⊤, ◌≡◌, ℕ, true, false, List, [], ◌∷◌, ◌++◌, None, codes, refl}
use Rattle.std.specs.Fmt.{digits}
use Rattle.lg_rules.specs.declared.claim.Status.TheVariants.{Alive, Suspect, Failed}
use Rattle.lg_accounts.specs.declared.step.NoteStep.{NoteStep}
use Rattle.lg_accounts.specs.declared.step.NoteStep.TheVariants.{Pinged, Nacked, Acked, RoundEnded, Scored}
use Rattle.lg_accounts.specs.declared.step.NoteStep.TheVariants.{Told, TimeOver, Changed, Suspected, Minute}
use Rattle.lg_accounts.specs.Meaning.AccountExamples.{by_accounting, noted}
use Rattle.lg_accounts.specs.Meaning.Json.{account_json, by_json, ended_json, entry_json, helper_json, known_json}
use Rattle.lg_accounts.specs.Meaning.Json.{member_front, note_json, pinged_front, pinged_json, record_json}
use Rattle.lg_accounts.specs.Meaning.Json.{minute_json, scored_json, status_json, step_json, timeout_json, times_json}
use Rattle.lg_accounts.specs.Meaning.Json.{json_of_accounts, truth_json, unanswered_front, unanswered_json}
use Rattle.lg_accounts.specs.Meaning.Json.{verdict_json, verdict_status}
use Rattle.lg_accounts.specs.Meaning.SentenceExamples.{at, c_is, named, nameless, unanswered}

-- what the rows have to unfold
unfoldable by_listing : ⊤
unfolding digits account_json by_json ended_json entry_json helper_json known_json member_front note_json pinged_front
    pinged_json record_json minute_json scored_json status_json timeout_json times_json truth_json unanswered_front
    unanswered_json verdict_json verdict_status
by_listing = tt

abbrev is_step : NoteStep → List ℕ → Type 0
is_step step text = step_json step ≡ text

pinged : is_step (Pinged 7 (at 7103)) (codes "{\"step\":\"pinged\",\"probe\":7,\"address\":\"127.0.0.1:7103\"}")
unfolding by_listing
pinged = refl

asked : is_step (unanswered (named (codes "a") 7101 ∷ nameless 7102 ∷ []))
    (codes "{\"step\":\"unanswered\",\"within\":500},{\"step\":\"asked\",\"helpers\":["
    ++ codes "{\"member\":\"a\",\"address\":\"127.0.0.1:7101\"},{\"member\":null,\"address\":\"127.0.0.1:7102\"}]}")
unfolding by_listing
asked = refl

asked_nobody : is_step (unanswered [])
    (codes "{\"step\":\"unanswered\",\"within\":500},{\"step\":\"asked\",\"helpers\":[]}")
unfolding by_listing
asked_nobody = refl

nack : is_step (Nacked (codes "a")) (codes "{\"step\":\"nack\",\"by\":\"a\"}")
unfolding by_listing
nack = refl

ack : is_step (Acked (codes "c")) (codes "{\"step\":\"ack\",\"by\":\"c\"}")
unfolding by_listing
ack = refl

ended : is_step (RoundEnded true) (codes "{\"step\":\"ended\",\"failed\":true}")
unfolding by_listing
ended = refl

score : is_step (Scored 0 2) (codes "{\"step\":\"score\",\"before\":0,\"after\":2}")
unfolding by_listing
score = refl

told : is_step (Told (c_is (Suspect (codes "d")) 0))
    (codes "{\"step\":\"told\",\"status\":\"suspect\",\"incarnation\":0,\"address\":\"127.0.0.1:7103\","
    ++ codes "\"accuser\":\"d\"}")
unfolding by_listing
told = refl

time_over : is_step TimeOver (codes "{\"step\":\"time_over\"}")
time_over = refl

changed : is_step (Changed (c_is Alive 1))
    (codes "{\"step\":\"changed\",\"status\":\"alive\",\"incarnation\":1,\"address\":\"127.0.0.1:7103\","
    ++ codes "\"accuser\":null}")
unfolding by_listing
changed = refl

timeout : is_step (Suspected 5 0 3 20904)
    (codes "{\"step\":\"timeout\",\"live\":5,\"confirmations\":0,\"most\":3,\"timeout\":20904}")
unfolding by_listing
timeout = refl

minute : is_step (Minute 54 3 2000)
    (codes "{\"step\":\"minute\",\"ended\":54,\"suspected\":3,\"stood_still\":2000}")
unfolding by_listing
minute = refl

-- c failed, in an entry with two steps
failed : json_of_accounts (codes "c")
    (record {
      notes = noted 57 7020 1764213164000 None (TimeOver ∷ Changed (c_is Failed 0) ∷ []) ∷ [];
      is_known = true;
    } ∷ [])
    ≡ codes "{\"member\":\"c\",\"accounts\":[{\"status\":\"failed\",\"moment\":7020,\"wall\":1764213164000,"
    ++ codes "\"told_by\":null,\"known\":true,\"notes\":[{\"entry\":57,\"moment\":7020,\"wall\":1764213164000,"
    ++ codes "\"told_by\":null,\"steps\":[{\"step\":\"time_over\"},{\"step\":\"changed\",\"status\":\"failed\","
    ++ codes "\"incarnation\":0,\"address\":\"127.0.0.1:7103\",\"accuser\":null}]}]}]}\n"
unfolding by_accounting by_listing
failed = refl

none : json_of_accounts (codes "c") [] ≡ codes "{\"member\":\"c\",\"accounts\":[]}\n"
unfolding by_listing
none = refl

-- an account without a verdict, which isn't told
without_verdict : json_of_accounts (codes "c") (record { notes = []; is_known = false } ∷ [])
    ≡ codes "{\"member\":\"c\",\"accounts\":[{\"status\":null,\"moment\":null,\"wall\":null,\"told_by\":null,"
    ++ codes "\"known\":false,\"notes\":[]}]}\n"
unfolding by_accounting by_listing
without_verdict = refl
