-- The bodies of the health, of the configuration and of a fault, as JSON (this project's choice).
use Rattle.std.specs.Prelude.{ℕ, Bool, true, false, not, List, ◌++◌, codes, decimal, count_by, length}
use Rattle.std.specs.Prelude.{Option, Some, None}
use Rattle.std.specs.List.{flat_map}
use Rattle.lg_text.specs.Meaning.Addresses.{addr_text}
use Rattle.lg_rules.specs.declared.addr.Addr.{Addr}
use Rattle.lg_rules.specs.declared.claim.Claim.{Claim}
use Rattle.lg_rules.specs.Meaning.Claim.{is_gone}
use Rattle.lg_timing.specs.declared.config.Config.{Config}
use Rattle.lg_timing.specs.declared.keys.Key.{Key}
use Rattle.lg_timing.specs.Meaning.Keys.{key_name, keys, number_of_key}
use Rattle.lg_config.specs.declared.host.Host.{Host}
use Rattle.lg_config.specs.declared.host.Place.{Place}
use Rattle.lg_config.specs.declared.host.Place.TheVariants as place
use Rattle.lg_config.specs.declared.seeds.SeedPlace.{SeedPlace}
use Rattle.lg_answers.specs.declared.snapshot.NodeNumber.{NodeNumber}
use Rattle.lg_answers.specs.declared.snapshot.ShownConfig.{ShownConfig}
use Rattle.lg_answers.specs.declared.snapshot.Snapshot.{Snapshot}
use Rattle.lg_answers.specs.Meaning.Members.{address_fields, comma_separated}

-- {"error":"TEXT"}
abbrev pub error_body : List ℕ → List ℕ
error_body reason = codes "{\"error\":\"" ++ (reason ++ codes "\"}")

abbrev pub truth_text : Bool → List ℕ
truth_text true = codes "true"
truth_text false = codes "false"

-- how many of these members aren't gone: neither Failed nor Left
abbrev pub live_among : List Claim → ℕ
live_among records = count_by (λ c. not (is_gone c.status)) records

-- {"name":"NAME","score":S,"incarnation":N,"live":L,"known":K,"ousted":O,"uptime_ms":U,"stood_still_ms":T}
abbrev pub health_front : Snapshot → List ℕ
health_front s =
    codes "{\"name\":\"" ++ (s.name ++ (codes "\",\"score\":" ++ (decimal s.score
    ++ (codes ",\"incarnation\":" ++ decimal s.incarnation))))

abbrev pub health_counts : ℕ → ℕ → List ℕ
health_counts live known = codes ",\"live\":" ++ (decimal live ++ (codes ",\"known\":" ++ decimal known))

abbrev pub health_times : Snapshot → List ℕ
health_times s =
    codes ",\"ousted\":" ++ (truth_text s.ousted ++ (codes ",\"uptime_ms\":" ++ (decimal s.uptime_ms
    ++ (codes ",\"stood_still_ms\":" ++ (decimal s.stood_still_ms ++ codes "}")))))

unfoldable pub health_body : Snapshot → List ℕ
health_body s =
    health_front s ++ health_counts (live_among s.records.items) (length s.records.items) ++ health_times s

-- {"name":"NAME","address":"ADDRESS","port":PORT
abbrev pub config_front : Config → List ℕ
config_front c = codes "{\"name\":\"" ++ (c.name ++ codes "\",") ++ address_fields c.addr

-- ,"KEY":VALUE
abbrev pub number_field : List ℕ → ℕ → List ℕ
number_field key value = codes ",\"" ++ (key ++ (codes "\":" ++ decimal value))

abbrev pub key_field : Config → Key → List ℕ
key_field c key = number_field (key_name key) (number_of_key key c)

abbrev pub own_field : NodeNumber → List ℕ
own_field own = number_field own.key.now own.value

-- a name, as that of a group or of a seed: "NAME", or null if there is none
abbrev pub name_value : Option (List ℕ) → List ℕ
name_value None = codes "null"
name_value (Some name) = codes "\"" ++ name ++ codes "\""

-- ,"group":GROUP, the group of the member
unfoldable pub group_field : Option (List ℕ) → List ℕ
group_field group = codes ",\"group\":" ++ name_value group

-- where the node answers over HTTP: "ADDRESS:PORT", or null if it doesn't
abbrev pub status_value : Option Addr → List ℕ
status_value None = codes "null"
status_value (Some addr) = codes "\"" ++ addr_text addr ++ codes "\""

-- ,"status":STATUS
unfoldable pub status_field : Option Addr → List ℕ
status_field status = codes ",\"status\":" ++ status_value status

-- ,"status_open":OPEN, whether it may answer at an address that isn't loopback
unfoldable pub open_field : Bool → List ℕ
open_field is_open = codes ",\"status_open\":" ++ truth_text is_open

-- ,"leave":LEAVE, whether a request may end the node
unfoldable pub leaving_field : Bool → List ℕ
leaving_field may_end = codes ",\"leave\":" ++ truth_text may_end

-- ,"bind":"ADDRESS:PORT", where the node's socket for datagrams is bound
unfoldable pub bind_field : Addr → List ℕ
bind_field addr = codes ",\"bind\":\"" ++ addr_text addr ++ codes "\""

-- "address":"HOST","port":PORT: the name of a host stands in place of an address, and has no byte that needs an escape
unfoldable pub host_fields : Host → List ℕ
host_fields host = codes "\"address\":\"" ++ (host.name ++ (codes "\",\"port\":" ++ decimal host.port))

-- the fields of a place: those of an address, or of a host
abbrev pub place_fields : Place → List ℕ
place_fields (place.Addr addr) = address_fields addr
place_fields (place.Host host) = host_fields host

-- {"name":NAME,"address":"ADDRESS","port":PORT}: a seed without a name has the same fields as one with a name, and one
-- at a host as one at an address
unfoldable pub seed_json : SeedPlace → List ℕ
seed_json seed = codes "{\"name\":" ++ name_value seed.name ++ codes "," ++ place_fields seed.place ++ codes "}"

-- {"name":"NAME","address":"ADDRESS","port":PORT, the numbers of the member and of the node's own,
-- "group":GROUP,"status":STATUS,"status_open":OPEN,"leave":LEAVE,"bind":"ADDRESS:PORT","seeds":[..]}
unfoldable pub config_body : ShownConfig → List ℕ
config_body setup =
    config_front setup.config ++ flat_map (key_field setup.config) keys ++ flat_map own_field setup.numbers.items
    ++ group_field setup.config.group ++ status_field setup.status ++ open_field setup.status_open
    ++ leaving_field setup.leave ++ bind_field setup.bind
    ++ codes ",\"seeds\":[" ++ comma_separated seed_json setup.seeds.items ++ codes "]}"
