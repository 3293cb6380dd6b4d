-- Accounts of a member as JSON, in one line (this project's choice). Nothing in it needs an escape: names have letters,
-- digits, `.`, `_` and `-` alone, and addresses hexadecimal digits, `.`, `:` and brackets.
use Rattle.std.specs.Prelude.{ℕ, Bool, true, false, List, [], ◌∷◌, ◌++◌, codes, decimal, map, Option, Some, None}
use Rattle.std.specs.List.{flat_map}
use Rattle.lg_rules.specs.declared.addr.Addr.{Addr}
use Rattle.lg_rules.specs.declared.claim.Claim.{Claim}
use Rattle.lg_rules.specs.Meaning.Claim.{accuser_of}
use Rattle.lg_text.specs.Meaning.Addresses.{addr_text}
use Rattle.lg_lines.specs.Meaning.Records.{status_text}
use Rattle.lg_accounts.specs.declared.account.Account.{Account}
use Rattle.lg_accounts.specs.declared.step.Helper.{Helper}
use Rattle.lg_accounts.specs.declared.step.NoteStep.{NoteStep}
use Rattle.lg_accounts.specs.declared.step.NoteStep.TheVariants.{Pinged, Unanswered, Nacked, Acked, RoundEnded, Scored}
use Rattle.lg_accounts.specs.declared.step.NoteStep.TheVariants.{Told, TimeOver, Changed, Suspected, Minute}
use Rattle.lg_accounts.specs.declared.verdict.MemberVerdict.{MemberVerdict}
use Rattle.lg_accounts.specs.Meaning.Values.{AccountValue, NoteValue, account_value}
use Rattle.lg_accounts.specs.Meaning.Verdicts.{verdict_of}

-- the texts of the values of an array, with commas between them
abbrev pub later_value : {A : Type 0} → (A → List ℕ) → A → List ℕ
later_value text x = codes "," ++ text x

abbrev pub array_values : {A : Type 0} → (A → List ℕ) → List A → List ℕ
array_values text [] = []
array_values text (x ∷ xs) = text x ++ flat_map (later_value text) xs

unfoldable pub truth_json : Bool → List ℕ
truth_json true = codes "true"
truth_json false = codes "false"

-- "NAME", or null if there is no name
abbrev pub name_json : Option (List ℕ) → List ℕ
name_json None = codes "null"
name_json (Some name) = codes "\"" ++ (name ++ codes "\"")

-- {"member":NAME,"address":"ADDRESS:PORT"}
unfoldable pub helper_json : Helper → List ℕ
helper_json helper =
    codes "{\"member\":" ++ name_json helper.name ++ codes ",\"address\":\"" ++ addr_text helper.addr ++ codes "\"}"

-- {"step":"pinged","probe":K,"address":"ADDRESS:PORT"}
unfoldable pub pinged_front : ℕ → List ℕ
pinged_front probe = codes "{\"step\":\"pinged\",\"probe\":" ++ (decimal probe ++ codes ",\"address\":\"")

unfoldable pub pinged_json : ℕ → Addr → List ℕ
pinged_json probe addr = pinged_front probe ++ addr_text addr ++ codes "\"}"

-- {"step":"unanswered","within":D},{"step":"asked","helpers":[..]}
unfoldable pub unanswered_front : ℕ → List ℕ
unanswered_front within =
    codes "{\"step\":\"unanswered\",\"within\":" ++ (decimal within ++ codes "},{\"step\":\"asked\",\"helpers\":[")

unfoldable pub unanswered_json : ℕ → List Helper → List ℕ
unanswered_json within helpers = unanswered_front within ++ array_values helper_json helpers ++ codes "]}"

-- {"step":"nack","by":"NAME"} or {"step":"ack","by":"NAME"}
unfoldable pub by_json : List ℕ → List ℕ → List ℕ
by_json word by = codes "{\"step\":\"" ++ (word ++ (codes "\",\"by\":\"" ++ (by ++ codes "\"}")))

-- {"step":"ended","failed":TRUTH}
unfoldable pub ended_json : Bool → List ℕ
ended_json is_failed = codes "{\"step\":\"ended\",\"failed\":" ++ (truth_json is_failed ++ codes "}")

-- {"step":"score","before":X,"after":Y}
unfoldable pub scored_json : ℕ → ℕ → List ℕ
scored_json before after =
    codes "{\"step\":\"score\",\"before\":" ++ (decimal before ++ (codes ",\"after\":" ++ (decimal after ++ codes "}")))

-- {"step":"told" or "changed","status":STATUS,"incarnation":I,"address":"ADDRESS:PORT","accuser":NAME}
unfoldable pub status_json : List ℕ → List ℕ → ℕ → List ℕ
status_json word status incarnation =
    codes "{\"step\":\"" ++ (word ++ (codes "\",\"status\":\"" ++ (status
    ++ (codes "\",\"incarnation\":" ++ (decimal incarnation ++ codes ",\"address\":\"")))))

unfoldable pub record_json : List ℕ → Claim → List ℕ
record_json word c =
    status_json word (status_text c.status) c.incarnation ++ addr_text c.addr ++ codes "\",\"accuser\":"
    ++ name_json (accuser_of c.status) ++ codes "}"

-- {"step":"timeout","live":L,"confirmations":C,"most":K,"timeout":T}
unfoldable pub timeout_json : ℕ → ℕ → ℕ → ℕ → List ℕ
timeout_json live confirmations most timeout =
    codes "{\"step\":\"timeout\",\"live\":" ++ (decimal live ++ (codes ",\"confirmations\":" ++ decimal confirmations))
    ++ (codes ",\"most\":" ++ (decimal most ++ (codes ",\"timeout\":" ++ (decimal timeout ++ codes "}"))))

-- {"step":"minute","ended":E,"suspected":F,"stood_still":D}
unfoldable pub minute_json : ℕ → ℕ → ℕ → List ℕ
minute_json ended suspected stood =
    codes "{\"step\":\"minute\",\"ended\":" ++ (decimal ended ++ (codes ",\"suspected\":" ++ (decimal suspected
    ++ (codes ",\"stood_still\":" ++ (decimal stood ++ codes "}")))))

-- A step of an entry: one object, or two with a comma between them where helpers were asked, or there was nobody to
-- ask.
abbrev pub step_json : NoteStep → List ℕ
step_json (Pinged probe addr) = pinged_json probe addr
step_json (Unanswered within helpers) = unanswered_json within helpers.items
step_json (Nacked by) = by_json (codes "nack") by
step_json (Acked by) = by_json (codes "ack") by
step_json (RoundEnded is_failed) = ended_json is_failed
step_json (Scored before after) = scored_json before after
step_json (Told c) = record_json (codes "told") c
step_json TimeOver = codes "{\"step\":\"time_over\"}"
step_json (Changed c) = record_json (codes "changed") c
step_json (Suspected live confirmations most timeout) = timeout_json live confirmations most timeout
step_json (Minute ended suspected stood) = minute_json ended suspected stood

-- "moment":M,"wall":W,"told_by":NAME
unfoldable pub times_json : ℕ → ℕ → List ℕ
times_json moment wall =
    codes "\"moment\":" ++ (decimal moment ++ (codes ",\"wall\":" ++ (decimal wall ++ codes ",\"told_by\":")))

-- {"entry":E,
unfoldable pub entry_json : ℕ → List ℕ
entry_json entry = codes "{\"entry\":" ++ (decimal entry ++ codes ",")

-- {"entry":E,"moment":M,"wall":W,"told_by":NAME,"steps":[..]}
unfoldable pub note_json : NoteValue → List ℕ
note_json note =
    entry_json note.entry ++ times_json note.moment note.wall_ms ++ name_json note.teller ++ codes ",\"steps\":["
    ++ array_values step_json note.steps ++ codes "]}"

-- {"status":"STATUS", and behind it "moment":M,"wall":W,"told_by":NAME, by the last verdict. An account that has none,
-- which isn't told, has null in their place.
unfoldable pub verdict_status : List ℕ → List ℕ
verdict_status status = codes "{\"status\":\"" ++ (status ++ codes "\",")

unfoldable pub verdict_json : MemberVerdict → List ℕ
verdict_json verdict =
    verdict_status (status_text verdict.record_after.status) ++ times_json verdict.moment verdict.wall_ms
    ++ name_json verdict.teller

abbrev pub account_front : Option MemberVerdict → List ℕ
account_front None = codes "{\"status\":null,\"moment\":null,\"wall\":null,\"told_by\":null"
account_front (Some verdict) = verdict_json verdict

-- ,"known":TRUTH,"notes":[
unfoldable pub known_json : Bool → List ℕ
known_json is_known = codes ",\"known\":" ++ (truth_json is_known ++ codes ",\"notes\":[")

-- an account: the fields of its verdict, whether all events since the opening are known at its end, and its entries
unfoldable pub account_json : AccountValue → List ℕ
account_json account =
    account_front (verdict_of account) ++ known_json account.is_known ++ array_values note_json account.notes
    ++ codes "]}"

-- {"member":"NAME","accounts":[..]} and a newline
unfoldable pub member_front : List ℕ → List ℕ
member_front name = codes "{\"member\":\"" ++ (name ++ codes "\",\"accounts\":[")

abbrev pub json_of_accounts : List ℕ → List AccountValue → List ℕ
json_of_accounts name accounts = member_front name ++ array_values account_json accounts ++ codes "]}\n"

unfoldable pub accounts_json : List ℕ → List Account → List ℕ
accounts_json name accounts = json_of_accounts name (map account_value accounts)
