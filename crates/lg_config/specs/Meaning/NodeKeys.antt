-- The keys of the node's own numbers: their names, ranges, defaults and faults (this project's choice). Its detector
-- uses none of them.
use Rattle.std.specs.Prelude.{ℕ, Bool, not, List, [], ◌∷◌, codes, Option, find}
use Rattle.std.specs.Str.{bytes_eq}
use Rattle.lg_timing.specs.Meaning.Keys.{is_within}
use Rattle.lg_config.specs.declared.fault.FileFault.TheVariants as fault
use Rattle.lg_config.specs.declared.node.NodeConfig.{NodeConfig}
use Rattle.lg_config.specs.declared.node_keys.NodeKey.{NodeKey}
use Rattle.lg_config.specs.declared.node_keys.NodeKey.TheVariants.{PullMs, RecordMb, ResolveMs, StallMs}
use Rattle.lg_config.specs.declared.node_keys.NodeKeyRow.{NodeKeyRow}
use Rattle.lg_config.specs.Meaning.Bounds.{least_record_mb, least_resolve_ms, most_pull_ms, most_record_mb}
use Rattle.lg_config.specs.Meaning.Bounds.{most_resolve_ms, most_stall_ms}

-- the keys, in the order in which their numbers are judged, behind those of the member
abbrev pub node_keys : List NodeKey
node_keys = PullMs ∷ StallMs ∷ ResolveMs ∷ RecordMb ∷ []

-- a key's name
abbrev pub node_key_name : NodeKey → List ℕ
node_key_name PullMs = codes "pull_ms"
node_key_name StallMs = codes "stall_ms"
node_key_name ResolveMs = codes "resolve_ms"
node_key_name RecordMb = codes "record_mb"

-- a key's range, default and fault
abbrev pub node_row_of : NodeKey → NodeKeyRow
node_row_of PullMs = record { least = 0; most = most_pull_ms; default = 30000; fault = fault.Pull }
node_row_of StallMs = record { least = 0; most = most_stall_ms; default = 100; fault = fault.Stall }
node_row_of ResolveMs =
    record { least = least_resolve_ms; most = most_resolve_ms; default = 60000; fault = fault.Resolve }
node_row_of RecordMb = record { least = least_record_mb; most = most_record_mb; default = 64; fault = fault.RecordMb }

-- the number of a key
abbrev pub own_number : NodeKey → NodeConfig → ℕ
own_number PullMs node = node.pull_ms
own_number StallMs node = node.stall_ms
own_number ResolveMs node = node.resolve_ms
own_number RecordMb node = node.record_mb

-- whether a number is in a key's range
abbrev pub allows_own : NodeKey → ℕ → Bool
allows_own key n = is_within (node_row_of key).least (node_row_of key).most n

-- the first key whose number is out of its range, if there is one
abbrev pub own_broken : NodeConfig → Option NodeKey
own_broken node = find (λ key. not (allows_own key (own_number key node))) node_keys

-- the key with a name, if there is one
abbrev pub has_node_key_name : List ℕ → NodeKey → Bool
has_node_key_name word key = bytes_eq word (node_key_name key)

abbrev pub node_key_named : List ℕ → Option NodeKey
node_key_named word = find (has_node_key_name word) node_keys
