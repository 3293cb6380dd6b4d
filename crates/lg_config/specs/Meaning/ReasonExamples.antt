-- Worked reasons of files.
use Rattle.std.specs.Prelude.{⊤, ◌≡◌, ℕ, ◌+◌, true, ◌++◌, List, [], ◌∷◌, codes, length, refl, replicate}
use Rattle.std.specs.Prelude.{Option, Some, None, is_some, Result, Ok, Err}
use Rattle.std.specs.Fmt.{digits}
use Rattle.std.specs.List.{flat_map, list_all}
use Rattle.std.specs.Str.{chars, is_utf8}
use Rattle.toml.proofs.OnLiterals.{toml_on_literals}
use Rattle.strsim.specs.Edits.{rows, next_row, cost_at}
use Rattle.toml.specs.Data.{Members}
use Rattle.lg_timing.specs.Meaning.Config.{check_of}
use Rattle.lg_config.specs.declared.fault.FileFault.{FileFault}
use Rattle.lg_config.specs.declared.fault.FileFault.TheVariants as fault
use Rattle.lg_config.specs.declared.node.NodeConfig.{NodeConfig}
use Rattle.lg_config.specs.Meaning.Answer.{answer_of, answer_with, document_of}
use Rattle.lg_config.specs.Meaning.FormReasons.{seeds_reason, value_reason}
use Rattle.lg_config.specs.Meaning.GroupReasons.{group_reason}
use Rattle.lg_config.specs.Meaning.Keys.{any_keys, file_key_named, file_keys, kind_of_key, number_keys, text_keys}
use Rattle.lg_config.specs.Meaning.NodeKeys.{node_keys}
use Rattle.lg_config.specs.Meaning.NearestKeys.{edits, fewest_edits, first_at, known_keys}
use Rattle.lg_config.specs.Meaning.NearestKeys.{nearest_key, nearest_of}
use Rattle.lg_config.specs.Meaning.Quoting.{quoted}
use Rattle.lg_config.specs.Meaning.Reasons.{reason_of, IsReason}
use Rattle.lg_config.specs.Meaning.Settings.{addr_in, dice_in, folder_in, name_in, settings_of, with_numbers}
use Rattle.lg_text.specs.Meaning.AddressExamples.{on_addresses}
use Rattle.lg_config.specs.Meaning.Texts.{before, behind, octets_of, address_of, address_with_port, place_of}
use Rattle.lg_config.specs.Meaning.Texts.{place_with_port, seed_of_text}

-- what the rows have to unfold
unfoldable on_texts : ⊤
unfolding toml_on_literals is_utf8 chars digits before behind octets_of address_of address_with_port place_of
    place_with_port seed_of_text on_addresses
on_texts = tt

unfoldable on_keys : ⊤
unfolding kind_of_key file_key_named
on_keys = tt

unfoldable on_answers : ⊤
unfolding on_texts answer_of answer_with on_keys settings_of name_in addr_in dice_in folder_in with_numbers check_of
on_answers = tt

unfoldable on_nearest : ⊤
unfolding nearest_key nearest_of fewest_edits first_at edits rows next_row cost_at
on_nearest = tt

unfoldable on_reasons : ⊤
unfolding on_answers on_nearest value_reason seeds_reason group_reason
on_reasons = tt

-- the reason of the fault that a file's document has, if it has one
abbrev why : Result NodeConfig FileFault → Option Members → Option (List ℕ)
why (Err found) (Some members) = Some (reason_of found members)
why (Err found) None = None
why (Ok node) document = None

-- the reason of a file of the member b that also has this line
abbrev said : List ℕ → Option (List ℕ)
said line = let bytes = codes "name = \"b\"\n" ++ line in why (answer_of bytes) (document_of bytes)

long-timeout : said (codes "timeout_ms = 5000") ≡ Some (codes "timeout_ms is 5000, and has to be from 1 to 999\n")
unfolding on_reasons
long-timeout = refl

default-timeout :
    said (codes "interval_ms = 500") ≡ Some (codes "timeout_ms is 500 by default, and has to be from 1 to 499\n")
unfolding on_reasons
default-timeout = refl

negative-interval : said (codes "interval_ms = -1") ≡ Some (codes "interval_ms is -1, and has to be from 10 to 60000\n")
unfolding on_reasons
negative-interval = refl

fourth-version : said (codes "wire = 4") ≡ Some (codes "wire is 4, and has to be from 1 to 3\n")
unfolding on_reasons
fourth-version = refl

-- with 0 no member is forgotten, so it is allowed too
soon-forgotten :
    said (codes "forget_ms = 999") ≡ Some (codes "forget_ms is 999, and has to be 0 or from 1000 to 2592000000\n")
unfolding on_reasons
soon-forgotten = refl

-- 0 turns gossip off
soon-gossip :
    said (codes "gossip_ms = 9") ≡ Some (codes "gossip_ms is 9, and has to be 0 or from 10 to 60000\n")
unfolding on_reasons
soon-gossip = refl

gossip-to-nobody : said (codes "gossip_to = 0") ≡ Some (codes "gossip_to is 0, and has to be from 1 to 8\n")
unfolding on_reasons
gossip-to-nobody = refl

rare-pulls : said (codes "pull_ms = 3600001") ≡ Some (codes "pull_ms is 3600001, and has to be from 0 to 3600000\n")
unfolding on_reasons
rare-pulls = refl

negative-stall : said (codes "stall_ms = -1") ≡ Some (codes "stall_ms is -1, and has to be from 0 to 60000\n")
unfolding on_reasons
negative-stall = refl

often-resolving :
    said (codes "resolve_ms = 999") ≡ Some (codes "resolve_ms is 999, and has to be from 1000 to 3600000\n")
unfolding on_reasons
often-resolving = refl

large-recording :
    said (codes "record_mb = 100001") ≡ Some (codes "record_mb is 100001, and has to be from 1 to 100000\n")
unfolding on_reasons
large-recording = refl

folder-without-bytes :
    said (codes "record = \"\"")
    ≡ Some (codes "record is \"\", and has to have 1 to 255 bytes of printable ASCII\n")
unfolding on_reasons
folder-without-bytes = refl

port-65536 : said (codes "port = 65536") ≡ Some (codes "port is 65536, and has to be from 1 to 65535\n")
unfolding on_reasons
port-65536 = refl

negative-dice : said (codes "dice = -1") ≡ Some (codes "dice is -1, and has to be from 0 to 9223372036854775807\n")
unfolding on_reasons
negative-dice = refl

three-numbers :
    said (codes "address = \"1.2.3\"")
    ≡ Some (codes "address is \"1.2.3\", "
    ++ codes "and has to be A.B.C.D, each from 0 to 255 without leading zeros, or IPv6, or auto\n")
unfolding on_reasons
three-numbers = refl

-- the second seed is the first that is none
bad-seed :
    said (codes "seeds = [\"c@1.2.3.4:1\", \"c@d\", \"7\"]")
    ≡ Some (codes "the seed \"c@d\" "
    ++ codes "has to be NAME@A.B.C.D:PORT, A.B.C.D:PORT or A.B.C.D, no leading zeros, IPv6 or a host\n")
unfolding on_reasons
bad-seed = refl

-- a mistyped IPv4 address is no host
mistyped-seed :
    said (codes "seeds = [\"1.2.3.04\"]")
    ≡ Some (codes "the seed \"1.2.3.04\" "
    ++ codes "has to be NAME@A.B.C.D:PORT, A.B.C.D:PORT or A.B.C.D, no leading zeros, IPv6 or a host\n")
unfolding on_reasons
mistyped-seed = refl

shared-name :
    said (codes "seeds = [\"c@1.2.3.4:1\", \"d@1.2.3.4:1\", \"d@1.2.3.4:2\"]")
    ≡ Some (codes "two seeds have the name \"d\"\n")
unfolding on_reasons
shared-name = refl

own-name : said (codes "seeds = [\"b@1.2.3.4:1\"]") ≡ Some (codes "a seed has the member's own name\n")
unfolding on_reasons
own-name = refl

shared-name-at-hosts :
    said (codes "seeds = [\"c@1.2.3.4:1\", \"d@db.example:1\", \"c@db.example:1\"]")
    ≡ Some (codes "two seeds have the name \"c\"\n")
unfolding on_reasons
shared-name-at-hosts = refl

own-name-at-host :
    said (codes "seeds = [\"b@db.example:1\"]") ≡ Some (codes "a seed has the member's own name\n")
unfolding on_reasons
own-name-at-host = refl

seeds-17 :
    said (codes "seeds = [" ++ flat_map (λ seed. seed) (replicate 17 (codes "\"c@1.2.3.4:1\",")) ++ codes "]")
    ≡ Some (codes "there are 17 seeds, and at most 16 are allowed\n")
unfolding on_reasons
seeds-17 = refl

unknown-key : said (codes "nap = 1") ≡ Some (codes "the key \"nap\" is unknown\n")
unfolding on_reasons
unknown-key = refl

-- one edit leads to `dice`, and fewer lead to no other key
near-key : said (codes "dic = 1") ≡ Some (codes "the key \"dic\" is unknown, and the nearest is \"dice\"\n")
unfolding on_reasons
near-key = refl

-- three edits lead to `address`, too many for four bytes
far-key : nearest_key (codes "addr") ≡ None
unfolding on_reasons
far-key = refl

octal-address :
    said (codes "address = \"010.0.0.1\"")
    ≡ Some (codes "address is \"010.0.0.1\","
    ++ codes " and has to be A.B.C.D, each from 0 to 255 without leading zeros, or IPv6, or auto\n")
unfolding on_reasons
octal-address = refl

text-for-number :
    said (codes "port = \"5\"") ≡ Some (codes "port is of type string, and has to be of type integer\n")
unfolding on_reasons
text-for-number = refl

number-in-seeds :
    said (codes "seeds = [1]") ≡ Some (codes "seeds is of type array, and has to be of type array of strings\n")
unfolding on_reasons
number-in-seeds = refl

no-name : why (answer_of (codes "port = 1")) (document_of (codes "port = 1")) ≡ Some (codes "the key name is missing\n")
unfolding on_reasons
no-name = refl

status-for-number :
    said (codes "status = 8946") ≡ Some (codes "status is of type integer, and has to be of type string\n")
unfolding on_reasons
status-for-number = refl

status-without-port :
    said (codes "status = \"127.0.0.1\"")
    ≡ Some (codes "status is \"127.0.0.1\", and has to be A.B.C.D:PORT, A to D without leading zeros, or [IPv6]:PORT\n")
unfolding on_reasons
status-without-port = refl

open-as-text :
    said (codes "status_open = \"true\"")
    ≡ Some (codes "status_open is of type string, and has to be of type boolean\n")
unfolding on_reasons
open-as-text = refl

no-loopback :
    said (codes "status = \"0.0.0.0:1\"")
    ≡ Some (codes "status is \"0.0.0.0:1\", and has to be in 127.0.0.0/8 or ::1 if status_open isn't true\n")
unfolding on_reasons
no-loopback = refl

bad-group :
    said (codes "group = \"g!\"")
    ≡ Some (codes "group is \"g!\", and has to be 1 to 32 of A-Z a-z 0-9 . _ -\n")
unfolding on_reasons
bad-group = refl

-- the group is no name, whatever the version of packets is
bad-group-first :
    said (codes "wire = 2\ngroup = \"\"") ≡ Some (codes "group is \"\", and has to be 1 to 32 of A-Z a-z 0-9 . _ -\n")
unfolding on_reasons
bad-group-first = refl

group-by-default-version :
    said (codes "group = \"g\"") ≡ Some (codes "wire is 1 by default, and has to be 3 for a member of a group\n")
unfolding on_reasons
group-by-default-version = refl

group-in-version-2 :
    said (codes "group = \"g\"\nwire = 2") ≡ Some (codes "wire is 2, and has to be 3 for a member of a group\n")
unfolding on_reasons
group-in-version-2 = refl

number-for-group :
    said (codes "group = 1") ≡ Some (codes "group is of type integer, and has to be of type string\n")
unfolding on_reasons
number-for-group = refl

near-group : said (codes "goup = \"g\"") ≡ Some (codes "the key \"goup\" is unknown, and the nearest is \"group\"\n")
unfolding on_reasons
near-group = refl

-- a file has no such key, and none is near
first-in-file : said (codes "first = 1") ≡ Some (codes "the key \"first\" is unknown\n")
unfolding on_reasons
first-in-file = refl

leave-in-capitals : said (codes "leave = \"ON\"") ≡ Some (codes "leave is \"ON\", and has to be \"on\" or \"off\"\n")
unfolding on_reasons
leave-in-capitals = refl

leave-as-boolean :
    said (codes "leave = false") ≡ Some (codes "leave is of type boolean, and has to be of type string\n")
unfolding on_reasons
leave-as-boolean = refl

near-leave : said (codes "leaves = 1") ≡ Some (codes "the key \"leaves\" is unknown, and the nearest is \"leave\"\n")
unfolding on_reasons
near-leave = refl

bind-port-0 :
    said (codes "bind = \"0.0.0.0:0\"")
    ≡ Some (codes "bind is \"0.0.0.0:0\","
    ++ codes " and has to be A.B.C.D or A.B.C.D:PORT, A to D without leading zeros, or IPv6\n")
unfolding on_reasons
bind-port-0 = refl

bind-as-number : said (codes "bind = 7946") ≡ Some (codes "bind is of type integer, and has to be of type string\n")
unfolding on_reasons
bind-as-number = refl

ipv6-by-default-version :
    said (codes "address = \"::1\"")
    ≡ Some (codes "wire is 1 by default, and has to be 3 for a member with an IPv6 address\n")
unfolding on_reasons
ipv6-by-default-version = refl

auto-without-seeds :
    said (codes "address = \"auto\"")
    ≡ Some (codes "there are no seeds, and at least one is needed if address is \"auto\"\n")
unfolding on_reasons
auto-without-seeds = refl

auto-in-capitals :
    said (codes "address = \"AUTO\"")
    ≡ Some (codes "address is \"AUTO\", "
    ++ codes "and has to be A.B.C.D, each from 0 to 255 without leading zeros, or IPv6, or auto\n")
unfolding on_reasons
auto-in-capitals = refl

-- a letter of two bytes and an escape character
quoted-bytes : quoted (195 ∷ 169 ∷ 27 ∷ codes "a") ≡ codes "\"???a\""
quoted-bytes = refl

-- 65 bytes
quoted-front : quoted (replicate 65 120) ≡ codes "\"" ++ (replicate 64 120 ++ codes "..\"")
quoted-front = refl

no-text : IsReason fault.Syntax [] (255 ∷ []) (codes "the file isn't UTF-8\n")
unfolding on_reasons
no-text = refl

-- each known key has a kind, and there are as many as there are keys of all kinds
known-keys-known : list_all (λ key. is_some (kind_of_key key)) known_keys ≡ true
unfolding on_keys
known-keys-known = refl

known-keys-counted :
    length known_keys
    ≡ length text_keys + length number_keys + 1 + length any_keys + length file_keys + length node_keys
known-keys-counted = refl
