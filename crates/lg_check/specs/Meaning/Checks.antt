-- What a check of a configuration writes: a line for each key, and a line for each of four sizes of a group (this
-- project's choice).
use Rattle.std.specs.Prelude.{ℕ, ◌==◌, Bool, true, false, not, List, [], ◌∷◌, ◌++◌, Option, None, Some, is_none}
use Rattle.std.specs.Prelude.{codes, decimal, length, if◌then◌else◌}
use Rattle.std.specs.List.{flat_map}
use Rattle.std.specs.Str.{bytes_eq}
use Rattle.lg_rules.specs.declared.addr.Addr.{Addr}
use Rattle.lg_rules.specs.Meaning.View.{is_same_addr}
use Rattle.lg_timing.specs.declared.config.Config.{Config}
use Rattle.lg_timing.specs.declared.keys.Key.{Key}
use Rattle.lg_timing.specs.Meaning.Keys.{key_name, number_of_key, row_of}
use Rattle.lg_timing.specs.Meaning.Timeouts.{range_of, suspicion_of}
use Rattle.lg_text.specs.Meaning.Lines.{newline}
use Rattle.lg_text.specs.Meaning.Addresses.{addr_text, ip_text}
use Rattle.lg_config.specs.declared.node.NodeConfig.{NodeConfig}
use Rattle.lg_config.specs.declared.node_keys.NodeKey.{NodeKey}
use Rattle.lg_config.specs.Meaning.Binding.{bound_at}
use Rattle.lg_config.specs.Meaning.Bounds.{default_address, default_port}
use Rattle.lg_config.specs.Meaning.Dice.{own_dice}
use Rattle.lg_config.specs.Meaning.Keys.{file_keys}
use Rattle.lg_config.specs.Meaning.NodeKeys.{node_key_name, node_keys, node_row_of, own_number}
use Rattle.lg_check.specs.Meaning.Spelling.{group_spelled, path_spelled, seeds_spelled, status_spelled}
use Rattle.lg_check.specs.Meaning.Spelling.{switch_spelled, truth_spelled}

-- what stands behind a value that is the default of its key
abbrev pub default_mark : Bool → List ℕ
default_mark true = codes " (default)"
default_mark false = []

-- KEY = VALUE, and whether that is the default
abbrev pub key_line : List ℕ → List ℕ → Bool → List ℕ
key_line key value usual = key ++ (codes " = " ++ (value ++ (default_mark usual ++ newline)))

-- the same for a number with its default
abbrev pub number_line : List ℕ → ℕ → ℕ → List ℕ
number_line key number usual = key_line key (decimal number) (number == usual)

-- the line of the member's address, which is a word if it is to be found
abbrev pub address_line : NodeConfig → List ℕ
address_line node =
    if node.auto then key_line (codes "address") (codes "auto") false
    else key_line (codes "address") (ip_text node.config.addr.ip)
    (bytes_eq (ip_text node.config.addr.ip) default_address)

-- the lines of the member's name and its address
abbrev pub address_lines : NodeConfig → List ℕ
address_lines node = key_line (codes "name") node.config.name false ++ address_line node

-- the line of where the node's socket is bound; the default is the member's address and port
abbrev pub bound_line : NodeConfig → List ℕ
bound_line node =
    let bound = bound_at node in
    key_line (codes "bind") (addr_text bound) (is_same_addr bound node.config.addr)

-- the same of a member whose address is to be found, by what its file says, and by its port
abbrev pub unfound_bind_line : Option Addr → ℕ → List ℕ
unfound_bind_line None port = key_line (codes "bind") (codes "auto:" ++ decimal port) true
unfound_bind_line (Some addr) port = key_line (codes "bind") (addr_text addr) false

-- the same, by whether it is to be found
abbrev pub bind_line : NodeConfig → List ℕ
bind_line node =
    if node.auto then unfound_bind_line node.bind node.config.addr.port else bound_line node

-- the lines of the member's port, of where the socket is bound, of the dice and of the seeds
abbrev pub start_lines : NodeConfig → List ℕ
start_lines node =
    number_line (codes "port") node.config.addr.port default_port
    ++ bind_line node
    ++ number_line (codes "dice") node.dice (own_dice node.config.name node.config.addr)
    ++ key_line (codes "seeds") (seeds_spelled node.seeds.items) (length node.seeds.items == 0)

-- the line of a number of the member's, and of one of the node's own
abbrev pub member_line : Config → Key → List ℕ
member_line c key = number_line (key_name key) (number_of_key key c) (row_of key).default

abbrev pub own_line : NodeConfig → NodeKey → List ℕ
own_line node key = number_line (node_key_name key) (own_number key node) (node_row_of key).default

-- the line of the folder of the recording
abbrev pub recording_line : Option (List ℕ) → List ℕ
recording_line folder = key_line (codes "record") (path_spelled folder) (is_none folder)

-- the lines of the status server: where it listens, and whether that may be an address that isn't loopback
abbrev pub listening_line : Option Addr → List ℕ
listening_line status = key_line (codes "status") (status_spelled status) (is_none status)

abbrev pub status_open_line : Bool → List ℕ
status_open_line is_open = key_line (codes "status_open") (truth_spelled is_open) (not is_open)

abbrev pub server_lines : NodeConfig → List ℕ
server_lines node = listening_line node.status ++ status_open_line node.status_open

-- the line of whether a request may end the node
abbrev pub leave_line : Bool → List ℕ
leave_line leave = key_line (codes "leave") (switch_spelled leave) leave

-- the line of the path of the key file
abbrev pub key_file_line : Option (List ℕ) → List ℕ
key_file_line path = key_line (codes "key_file") (path_spelled path) (is_none path)

-- the line of the group that the member belongs to
abbrev pub group_name_line : Option (List ℕ) → List ℕ
group_name_line group = key_line (codes "group") (group_spelled group) (is_none group)

-- MEMBERS members: a round takes ROUND ms, a suspicion lasts LEAST to GREATEST ms
abbrev pub times_line : ℕ → ℕ → ℕ → ℕ → List ℕ
times_line members round least greatest =
    let lasting = decimal least ++ (codes " to " ++ (decimal greatest ++ codes " ms\n")) in
    decimal members
    ++ (codes " members: a round takes " ++ (decimal round ++ (codes " ms, a suspicion lasts " ++ lasting)))

-- The line of a group of some members: how long a round takes, and between which times a suspicion lasts. It lasts the
-- least time if all confirmations that count have come, and the greatest if none has.
abbrev pub group_line : Config → ℕ → List ℕ
group_line c members = times_line members c.interval_ms (range_of members c).min (suspicion_of members 0 c)

-- the sizes of a group that have a line
abbrev pub group_sizes : List ℕ
group_sizes = 4 ∷ 16 ∷ 64 ∷ 256 ∷ []

-- all lines: the keys that a file may have, in the order of the documents, then the sizes of a group
unfoldable pub check_text : NodeConfig → List ℕ
check_text node =
    address_lines node ++ start_lines node
    ++ flat_map (member_line node.config) file_keys ++ flat_map (own_line node) node_keys
    ++ recording_line node.record_folder ++ server_lines node ++ leave_line node.leave
    ++ key_file_line node.key_file ++ group_name_line node.config.group
    ++ flat_map (group_line node.config) group_sizes
