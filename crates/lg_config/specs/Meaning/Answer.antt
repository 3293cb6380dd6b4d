-- What reading a configuration answers: a file, and options that count in place of what it says. If there are several
-- faults, the first of these counts: of the document, of its keys and their types, of the form of a value, of the
-- configuration's own check, of the node's own numbers, of the status server, of the path of the key file. Of the
-- check's faults those with greater numbers than that of the path come behind all of these, and that of the group comes
-- last of them. Then come that of whether a request may end the node, that of where its socket is bound, that its
-- packets can't tell its own address, and that this address is to be found without seeds.
use Rattle.std.specs.Prelude.{ℕ, Bool, ◌&&◌, nat_le, nat_lt, List, length, Option, Some, None, Result, Ok, Err}
use Rattle.std.specs.Prelude.{if◌then◌else◌, ◌≡◌, ◌≢◌, ◌⊎◌, [], true}
use Rattle.std.specs.Option.{option_map}
use Rattle.std.specs.Str.{is_utf8}
use Rattle.toml.specs.Data.{Members}
use Rattle.toml.specs.Errors.{IsBlank}
use Rattle.toml.specs.Parse.{parse_document}
use Rattle.lg_timing.specs.Meaning.Bounds.{most_seeds}
use Rattle.lg_timing.specs.Meaning.Config.{check_of}
use Rattle.lg_timing.specs.Meaning.Keys.{config_fault_number}
use Rattle.lg_timing.specs.declared.config.ConfigFault.{ConfigFault}
use Rattle.lg_timing.specs.declared.config.ConfigFault.TheVariants.{Seeds}
use Rattle.lg_config.specs.declared.fault.FileFault.{FileFault}
use Rattle.lg_config.specs.declared.fault.FileFault.TheVariants as fault
use Rattle.lg_config.specs.declared.fault.ReadFault.{ReadFault}
use Rattle.lg_config.specs.declared.fault.ReadFault.TheVariants.{NoMemory, File}
use Rattle.lg_config.specs.declared.node.NodeConfig.{NodeConfig}
use Rattle.lg_config.specs.declared.node_keys.NodeKey.{NodeKey}
use Rattle.lg_config.specs.Meaning.Binding.{bind_in, with_bind}
use Rattle.lg_config.specs.Meaning.Bounds.{most_bytes}
use Rattle.lg_config.specs.Meaning.Families.{unless_untold}
use Rattle.lg_config.specs.Meaning.Faults.{fault_number}
use Rattle.lg_config.specs.Meaning.Finding.{unless_unfindable}
use Rattle.lg_config.specs.Meaning.Groups.{group_in, with_group}
use Rattle.lg_config.specs.Meaning.KeyFiles.{key_file_in, with_key_file}
use Rattle.lg_config.specs.Meaning.Keys.{are_right_keys}
use Rattle.lg_config.specs.Meaning.Leaves.{leave_in, with_leave}
use Rattle.lg_config.specs.Meaning.NodeKeys.{node_row_of, own_broken}
use Rattle.lg_config.specs.Meaning.Options.{with_options, Options}
use Rattle.lg_config.specs.Meaning.Seeds.{have_good_names}
use Rattle.lg_config.specs.Meaning.Settings.{item_count, seeds_at, settings_of}
use Rattle.lg_config.specs.Meaning.Status.{open_in, status_addr_in, with_status}

-- whether bytes are read as TOML: they are few enough, and UTF-8
abbrev pub is_text_file : List ℕ → Bool
is_text_file bytes = nat_le (length bytes) most_bytes && is_utf8 bytes

-- the members of the document that the bytes of a file spell, if they spell one
abbrev pub document_of : List ℕ → Option Members
document_of bytes = if is_text_file bytes then parse_document bytes else None

-- settings, or the fault of the first of the node's own numbers that is out of its range, if one is
abbrev pub unless_broken : NodeConfig → Option NodeKey → Result NodeConfig FileFault
unless_broken node None = Ok node
unless_broken node (Some key) = Err (node_row_of key).fault

-- whether a fault of the check counts only if nothing else is wrong: its number is greater than that of the path
abbrev pub is_late : ConfigFault → Bool
is_late broken = nat_lt (fault_number fault.KeyFile) (config_fault_number broken)

-- settings, or the fault that the check of their configuration finds, unless that counts later, or that of the node's
-- own numbers
abbrev pub unless_config : NodeConfig → Result (Unit {0}) ConfigFault → Result NodeConfig FileFault
unless_config node (Ok passed) = unless_broken node (own_broken node)
unless_config node (Err broken) =
    if is_late broken then unless_broken node (own_broken node) else Err (fault.Config broken)

-- whether the seeds of a document go together, if there are so many: they are at most 16, all their names differ, those
-- at hosts too, and none is the member's own
abbrev pub go_together : ℕ → NodeConfig → Bool
go_together count node = nat_le count most_seeds && have_good_names node.config.name node.seeds.items

-- the fault of seeds that don't, by what the check of the configuration with the first of them finds: a fault that is
-- looked for before the seeds, or else that of the seeds
abbrev pub fault_of_seeds : Result (Unit {0}) ConfigFault → ConfigFault
fault_of_seeds (Ok passed) = Seeds
fault_of_seeds (Err broken) =
    if nat_lt (config_fault_number broken) (config_fault_number Seeds) then broken else Seeds

-- settings of a document with so many seeds, or their fault
abbrev pub unless_apart : ℕ → NodeConfig → Result NodeConfig FileFault
unless_apart count node =
    if go_together count node then unless_config node (check_of node.config)
    else Err (fault.Config (fault_of_seeds (check_of node.config)))

-- the same, or the fault that a value is out of its form
abbrev pub unless_node : ℕ → Option NodeConfig → Result NodeConfig FileFault
unless_node count None = Err fault.Value
unless_node count (Some node) = unless_apart count node

-- what a document's settings mean, with the status server that it wants, or the fault that either has
abbrev pub and_status : Members → Result NodeConfig FileFault → Result NodeConfig FileFault
and_status members (Ok node) = with_status node (status_addr_in members) (open_in members)
and_status _ (Err found) = Err found

-- the same, with the path of the key file
abbrev pub and_key_file : Members → Result NodeConfig FileFault → Result NodeConfig FileFault
and_key_file members (Ok node) = with_key_file node (key_file_in members)
and_key_file _ (Err found) = Err found

-- the same, or the fault that the check of the configuration finds if nothing else is wrong
abbrev pub unless_late : NodeConfig → Result (Unit {0}) ConfigFault → Result NodeConfig FileFault
unless_late node (Ok passed) = Ok node
unless_late node (Err broken) = Err (fault.Config broken)

abbrev pub and_late : Result NodeConfig FileFault → Result NodeConfig FileFault
and_late (Ok node) = unless_late node (check_of node.config)
and_late (Err found) = Err found

-- the same, with the group of the member
abbrev pub and_group : Members → Result NodeConfig FileFault → Result NodeConfig FileFault
and_group members (Ok node) = with_group node (group_in members)
and_group _ (Err found) = Err found

-- the same, with whether a request may end the node
abbrev pub and_leave : Members → Result NodeConfig FileFault → Result NodeConfig FileFault
and_leave members (Ok node) = with_leave node (leave_in members)
and_leave _ (Err found) = Err found

-- the same, with where its socket is bound
abbrev pub and_bind : Members → Result NodeConfig FileFault → Result NodeConfig FileFault
and_bind members (Ok node) = with_bind node (bind_in node.config.addr.port members)
and_bind _ (Err found) = Err found

-- the same, unless its packets can't tell its own address
abbrev pub and_told : Result NodeConfig FileFault → Result NodeConfig FileFault
and_told (Ok node) = unless_untold node
and_told (Err found) = Err found

-- the same, unless that is to be found without seeds
abbrev pub and_findable : Result NodeConfig FileFault → Result NodeConfig FileFault
and_findable (Ok node) = unless_unfindable node
and_findable (Err found) = Err found

-- what a document whose keys are right means, or its fault, but for those that count if nothing else is wrong
abbrev pub early_meaning_of : Members → Result NodeConfig FileFault
early_meaning_of members =
    let judged = unless_node (item_count (seeds_at members)) (settings_of members) in
    and_key_file members (and_status members judged)

-- The same, with these. The group is read once the check has found no fault of a number. Then the check finds whether
-- the member may belong to it.
abbrev pub late_meaning_of : Members → Result NodeConfig FileFault
late_meaning_of members = and_late (and_group members (and_late (early_meaning_of members)))

-- what a document whose keys are right means, or its fault
abbrev pub right_meaning_of : Members → Result NodeConfig FileFault
right_meaning_of members =
    and_findable (and_told (and_bind members (and_leave members (late_meaning_of members))))

-- what a document means, or the fault Key if its keys are wrong
abbrev pub meaning_of : Members → Result NodeConfig FileFault
meaning_of members = if are_right_keys members then right_meaning_of members else Err fault.Key

-- what a file means, or the fault Syntax if it is no document
abbrev pub unless_syntax : Option Members → Result NodeConfig FileFault
unless_syntax None = Err fault.Syntax
unless_syntax (Some members) = meaning_of members

-- the members of the document that the bytes of a file and options spell together, if the bytes spell one
abbrev pub document_with : Options → List ℕ → Option Members
document_with options bytes = option_map (with_options options) (document_of bytes)

-- the configuration that the bytes of a file and options mean together, or the first fault
unfoldable pub answer_with : Options → List ℕ → Result NodeConfig FileFault
answer_with options bytes = unless_syntax (document_with options bytes)

-- the same of a file without options
unfoldable pub answer_of : List ℕ → Result NodeConfig FileFault
answer_of bytes = answer_with [] bytes

-- memory is allocated only for bytes that are read as TOML, and only if they aren't all blanks and comments, or there
-- are options
abbrev pub TakesMemory : Options → List ℕ → Type 0
TakesMemory options bytes = (is_text_file bytes ≡ true) × (¬ (IsBlank bytes) ⊎ (options ≢ []))

-- what reading gives: that answer, or that memory was refused
abbrev pub IsAnswer : Options → List ℕ → Result NodeConfig ReadFault → Type 0
IsAnswer options bytes (Ok node) = answer_with options bytes ≡ Ok node
IsAnswer options bytes (Err NoMemory) = TakesMemory options bytes
IsAnswer options bytes (Err (File found)) = answer_with options bytes ≡ Err found
