-- Members as JSON (this project's choice). A name has no byte that needs an escape in JSON.
use Rattle.std.specs.Prelude.{ℕ, List, [], ◌∷◌, ◌++◌, codes, decimal, filter, Option, Some, None}
use Rattle.std.specs.List.{flat_map}
use Rattle.lg_rules.specs.declared.addr.Addr.{Addr}
use Rattle.lg_rules.specs.declared.claim.Claim.{Claim}
use Rattle.lg_rules.specs.declared.claim.Status.{Status}
use Rattle.lg_rules.specs.declared.claim.Status.TheVariants.{Alive, Suspect, Failed, Left}
use Rattle.lg_text.specs.Meaning.Addresses.{ip_text}
use Rattle.lg_lines.specs.Meaning.Records.{status_text}
use Rattle.lg_answers.specs.declared.route.StatusKind.{StatusKind}
use Rattle.lg_answers.specs.declared.snapshot.Snapshot.{Snapshot}
use Rattle.lg_answers.specs.Meaning.Routes.{is_kind_of}

-- the texts of some values, with commas between them
abbrev pub behind_comma : {A : Type 0} → (A → List ℕ) → A → List ℕ
behind_comma text x = codes "," ++ text x

abbrev pub comma_separated : {A : Type 0} → (A → List ℕ) → List A → List ℕ
comma_separated text [] = []
comma_separated text (x ∷ xs) = text x ++ flat_map (behind_comma text) xs

-- "name":"NAME","status":"STATUS","incarnation":N
abbrev pub standing_fields : Claim → List ℕ
standing_fields c =
    codes "\"name\":\"" ++ (c.name ++ (codes "\",\"status\":\"" ++ (status_text c.status
    ++ (codes "\",\"incarnation\":" ++ decimal c.incarnation))))

-- "address":"ADDRESS","port":PORT, where ADDRESS is A.B.C.D, or that of IPv6 without brackets
abbrev pub behind_address : Addr → List ℕ
behind_address addr = ip_text addr.ip ++ (codes "\",\"port\":" ++ decimal addr.port)

unfoldable pub address_fields : Addr → List ℕ
address_fields addr = codes "\"address\":\"" ++ behind_address addr

-- "accuser":"NAME", or null if the member isn't suspected
abbrev pub accuser_value : Status → List ℕ
accuser_value Alive = codes "null"
accuser_value (Suspect accuser) = codes "\"" ++ (accuser ++ codes "\"")
accuser_value Failed = codes "null"
accuser_value Left = codes "null"

-- the fields of a member
unfoldable pub member_fields : Claim → List ℕ
member_fields c =
    standing_fields c ++ codes "," ++ address_fields c.addr ++ codes ",\"accuser\":" ++ accuser_value c.status

unfoldable pub member_json : Claim → List ℕ
member_json c = codes "{" ++ member_fields c ++ codes "}"

-- the members that are asked for: all, or those of one status
abbrev pub members_asked : Option StatusKind → List Claim → List Claim
members_asked None records = records
members_asked (Some kind) records = filter (λ c. is_kind_of kind c.status) records

-- {"version":V,"moment_ms":M,
unfoldable pub moment_front : ℕ → ℕ → List ℕ
moment_front version moment =
    codes "{\"version\":" ++ (decimal version ++ (codes ",\"moment_ms\":" ++ (decimal moment ++ codes ",")))

-- "name":"NAME","members":[
unfoldable pub members_front_of : List ℕ → List ℕ
members_front_of name = codes "\"name\":\"" ++ (name ++ codes "\",\"members\":[")

-- {"version":V,"moment_ms":M,"name":"NAME","members":[..]}
unfoldable pub members_body : Snapshot → Option StatusKind → List ℕ
members_body s kind =
    moment_front s.version s.moment ++ members_front_of s.name
    ++ comma_separated member_json (members_asked kind s.records.items) ++ codes "]}"

-- {"version":V, and the fields of the member}
unfoldable pub member_body : ℕ → Claim → List ℕ
member_body version c = codes "{\"version\":" ++ (decimal version ++ codes ",") ++ member_fields c ++ codes "}"
