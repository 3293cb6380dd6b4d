-- The bounds of the code are those of the definitions.
use Rattle.std.specs.Prelude.{◌≡◌, refl}
use Rattle.lg_client.specs.declared.heard.TheConstants.{MAX_ANSWER, MAX_FIELDS}
use Rattle.lg_client.specs.declared.asker.TheConstants.{MOST_CLOSED, MOST_PUT_OFF}
use Rattle.lg_client.specs.declared.leaving.TheConstants.{MOST_CONNECTIONS, PAUSE_MS}
use Rattle.lg_client.specs.declared.unheard.TheConstants.{LEAST_WAIT, MOST_WAIT}
use Rattle.lg_client.specs.Meaning.Answers.{most_answer, most_fields}
use Rattle.lg_client.specs.Meaning.Leaving.{most_connections, pause_ms}
use Rattle.lg_client.specs.Meaning.Waiting.{least_wait, most_closed, most_put_off, most_wait}

most_answer-is : MAX_ANSWER ≡ most_answer
most_answer-is = refl

most_fields-is : MAX_FIELDS ≡ most_fields
most_fields-is = refl

least_wait-is : LEAST_WAIT ≡ least_wait
least_wait-is = refl

most_wait-is : MOST_WAIT ≡ most_wait
most_wait-is = refl

most_closed-is : MOST_CLOSED ≡ most_closed
most_closed-is = refl

most_put_off-is : MOST_PUT_OFF ≡ most_put_off
most_put_off-is = refl

pause_ms-is : PAUSE_MS ≡ pause_ms
pause_ms-is = refl

most_connections-is : MOST_CONNECTIONS ≡ most_connections
most_connections-is = refl
