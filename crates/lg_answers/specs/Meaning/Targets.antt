-- The members that are alive as targets of Prometheus, in the form that it takes over HTTP (its http_sd_config): a list
-- of groups, each with targets and labels. Which labels there are is this project's choice.
use Rattle.std.specs.Prelude.{ℕ, List, ◌++◌, codes, Option, Some, None}
use Rattle.lg_text.specs.Meaning.Addresses.{addr_text}
use Rattle.lg_rules.specs.declared.addr.Addr.{Addr}
use Rattle.lg_rules.specs.declared.claim.Claim.{Claim}
use Rattle.lg_answers.specs.declared.route.StatusKind.TheVariants.{Alive}
use Rattle.lg_answers.specs.declared.snapshot.Snapshot.{Snapshot}
use Rattle.lg_answers.specs.Meaning.Members.{comma_separated, members_asked}

-- the port of the targets: the one that is asked for, or else that of the node's own status server
abbrev pub status_port : Option Addr → Option ℕ
status_port None = None
status_port (Some addr) = Some addr.port

abbrev pub target_port : Option ℕ → Option Addr → Option ℕ
target_port (Some port) status = Some port
target_port None status = status_port status

-- where the target of a member answers: at the member's address, and at that port
abbrev pub target_addr : Option ℕ → Addr → Addr
target_addr None addr = addr
target_addr (Some port) addr = record { ip = addr.ip; port = port }

-- {"targets":["ADDRESS:PORT"],
unfoldable pub target_field : Addr → List ℕ
target_field addr = codes "{\"targets\":[\"" ++ (addr_text addr ++ codes "\"],")

-- "labels":{"__meta_lg_name":"NAME",
unfoldable pub name_label : List ℕ → List ℕ
name_label name = codes "\"labels\":{\"__meta_lg_name\":\"" ++ (name ++ codes "\",")

-- "__meta_lg_address":"ADDRESS:PORT"}}, with the member's own address and port
unfoldable pub address_label : Addr → List ℕ
address_label addr = codes "\"__meta_lg_address\":\"" ++ (addr_text addr ++ codes "\"}}")

-- a group, with the target of one member
unfoldable pub target_json : Option ℕ → Claim → List ℕ
target_json port c = target_field (target_addr port c.addr) ++ name_label c.name ++ address_label c.addr

-- [..], with a group for each member that is alive, in the order of names
unfoldable pub targets_body : Snapshot → Option Addr → Option ℕ → List ℕ
targets_body s status port =
    codes "[" ++ comma_separated (target_json (target_port port status)) (members_asked (Some Alive) s.records.items)
    ++ codes "]"
