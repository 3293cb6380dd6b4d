-- What a call of C gives, by the list of the events that the detector has accepted before.
use Rattle.std.specs.Prelude.{◌≡◌, ℕ, ◌++◌, List, [], ◌∷◌, length, map, nat_lt, Some, MatchOption, if◌then◌else◌}
use Rattle.lg_rules.specs.declared.claim.Claim.{Claim}
use Rattle.lg_detector.specs.declared.event.Event.{Event}
use Rattle.lg_detector.specs.Meaning.Step.{is_accepted, reply_after}
use Rattle.lg_c_values.specs.declared.address.LgAddress.{LgAddress}
use Rattle.lg_c_values.specs.declared.config.LgConfig.{LgConfig}
use Rattle.lg_c_values.specs.declared.name.LgName.{LgName}
use Rattle.lg_c_values.specs.declared.record.LgRecord.{LgRecord}
use Rattle.lg_c_values.specs.Meaning.Configs.{config_from_c, defaults_from_c}
use Rattle.lg_c_values.specs.Meaning.Records.{c_record}
use Rattle.lg_c.specs.declared.reply.LgReply.{LgReply}
use Rattle.lg_c.specs.Meaning.Replies.{c_reply, over}
use Rattle.lg_c.specs.Meaning.Statuses.{status_bad_config, status_bad_value, status_ended, status_no_room, status_ok}

-- A call with an event, after a list of events. If the list with the event is accepted, the answer is that it is done,
abbrev pub status_after : List Event → Event → ℕ
status_after f e = if is_accepted (f ++ e ∷ []) then status_ok else status_ended

-- the event is added to the list,
abbrev pub events_after : List Event → Event → List Event
events_after f e = if is_accepted (f ++ e ∷ []) then f ++ e ∷ [] else f

-- and C is given the reply that the definitions give to it after the list. Else nothing changes.
abbrev pub given_after : List Event → Event → LgReply → LgReply
given_after f e old = if is_accepted (f ++ e ∷ []) then c_reply (reply_after f e) old else old

-- The call that opens a closed detector with an event: it is done if the list of that event alone is accepted. It is
-- that of an opening whose configuration passes its check.
abbrev pub opening_status : Event → ℕ
opening_status e = if is_accepted (e ∷ []) then status_ok else status_bad_config

-- the reply that C is given then
abbrev pub given_opening : Event → LgReply → LgReply
given_opening e old = if is_accepted (e ∷ []) then c_reply (reply_after [] e) old else old

-- The call for a table: it is done if C has room for as many records as the table has,
abbrev pub status_listed : List Claim → List LgRecord → ℕ
status_listed table old = if nat_lt (length old) (length table) then status_no_room else status_ok

-- and the table then stands over the first of them
abbrev pub records_listed : List Claim → List LgRecord → List LgRecord
records_listed table old = if nat_lt (length old) (length table) then old else over (map c_record table) old

-- The call that makes a default configuration. If C tells the member's name and address, the configuration then tells
-- the default one. Else it stays as it was.
abbrev pub SetsDefaults : LgName → LgAddress → LgConfig → ℕ → LgConfig → Type 0
SetsDefaults name address old status new =
    MatchOption
    (defaults_from_c name address)
    ((status ≡ status_bad_value) × (new ≡ old))
    (λ defaults. (status ≡ status_ok) × (config_from_c new ≡ Some defaults))
