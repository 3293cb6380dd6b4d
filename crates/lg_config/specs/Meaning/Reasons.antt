-- Why a file and options mean no configuration, in words: a line for each fault (this project's choice).
use Rattle.std.specs.Prelude.{◌≡◌, ℕ, ◌+◌, ◌≤◌, ◌==◌, Bool, true, false, nat_le, List, ◌++◌, codes, decimal}
use Rattle.std.specs.Prelude.{length, take, Option, Some, None, find}
use Rattle.std.specs.List.{count_by}
use Rattle.std.specs.Str.{is_utf8}
use Rattle.toml.specs.Data.{Members}
use Rattle.lg_text.specs.Meaning.Cutting.{is_byte}
use Rattle.lg_text.specs.Meaning.Lines.{newline}
use Rattle.lg_timing.specs.declared.config.ConfigFault.{ConfigFault}
use Rattle.lg_timing.specs.declared.config.ConfigFault.TheVariants.{Group}
use Rattle.lg_timing.specs.declared.keys.Key.{Key}
use Rattle.lg_timing.specs.Meaning.Keys.{config_fault_number, keys, row_of}
use Rattle.lg_config.specs.declared.fault.FileFault.{FileFault}
use Rattle.lg_config.specs.declared.fault.FileFault.TheVariants as fault
use Rattle.lg_config.specs.declared.node_keys.NodeKey.TheVariants.{PullMs, RecordMb, ResolveMs, StallMs}
use Rattle.lg_config.specs.Meaning.Answer.{document_with}
use Rattle.lg_config.specs.Meaning.BindReasons.{bind_reason}
use Rattle.lg_config.specs.Meaning.Bounds.{most_bytes}
use Rattle.lg_config.specs.Meaning.Families.{family_reason}
use Rattle.lg_config.specs.Meaning.Finding.{auto_reason}
use Rattle.lg_config.specs.Meaning.FormReasons.{path_reason, seeds_reason, value_reason}
use Rattle.lg_config.specs.Meaning.GroupReasons.{group_reason}
use Rattle.lg_config.specs.Meaning.KeyReasons.{key_reason}
use Rattle.lg_config.specs.Meaning.LeaveReasons.{leave_reason}
use Rattle.lg_config.specs.Meaning.Options.{Options}
use Rattle.lg_config.specs.Meaning.Ranges.{member_reason, own_reason}
use Rattle.lg_config.specs.Meaning.Settings.{seeds_at}
use Rattle.lg_config.specs.Meaning.StatusReasons.{loopback_reason, open_reason, status_reason}

-- the key of the member's number that has a fault; None for the faults of the seeds and of the group
abbrev pub key_of_fault : ConfigFault → Option Key
key_of_fault broken = find (λ key. config_fault_number (row_of key).fault == config_fault_number broken) keys

-- the reason of a fault of no number: of the group, or else of the seeds
abbrev pub unnumbered_reason : ConfigFault → Members → List ℕ
unnumbered_reason Group members = group_reason members
unnumbered_reason _ members = seeds_reason (seeds_at members)

-- the reason of a fault that the check of a configuration finds, by the key of the member's number that has it
abbrev pub config_reason : Option Key → ConfigFault → Members → List ℕ
config_reason (Some key) _ members = member_reason key members
config_reason None broken members = unnumbered_reason broken members

-- The reason of a document's fault. A document that can be read hasn't the fault Syntax.
abbrev pub reason_of : FileFault → Members → List ℕ
reason_of (fault.Config broken) members = config_reason (key_of_fault broken) broken members
reason_of fault.Syntax _ = codes "the file is TOML\n"
reason_of fault.Key members = key_reason members
reason_of fault.Value members = value_reason members
reason_of fault.Pull members = own_reason PullMs members
reason_of fault.Stall members = own_reason StallMs members
reason_of fault.Status members = status_reason members
reason_of fault.StatusOpen members = open_reason members
reason_of fault.StatusNotLoopback members = loopback_reason members
reason_of fault.KeyFile members = path_reason (codes "key_file") members
reason_of fault.Leave members = leave_reason members
reason_of fault.Bind members = bind_reason members
reason_of fault.Family members = family_reason members
reason_of fault.Resolve members = own_reason ResolveMs members
reason_of fault.Auto _ = auto_reason
reason_of fault.RecordMb members = own_reason RecordMb members

-- the number of the line at a place of a text, from 1 on
abbrev pub line_at : ℕ → List ℕ → ℕ
line_at place text = count_by (is_byte 10) (take place text) + 1

-- LINE is no TOML: MESSAGE
abbrev pub line_reason : ℕ → List ℕ → List ℕ
line_reason line message = codes "line " ++ (decimal line ++ (codes " is no TOML: " ++ (message ++ newline)))

-- The reason of a text that is no TOML names a line of it, and says what is wrong there in words of the reader of TOML.
-- Which of both it is, is only tested.
pub record IsTomlReason (text line : List ℕ) : Type 0 where
  pub place : ℕ
  pub message : List ℕ
  pub within : place ≤ length text
  pub is : line ≡ line_reason (line_at place text) message

-- the reason of bytes that are no document, by whether they are few enough, and whether they are UTF-8
abbrev pub IsUnreadReason : Bool → Bool → List ℕ → List ℕ → Type 0
IsUnreadReason false utf8 bytes line = line ≡ codes "the file has more than 65536 bytes\n"
IsUnreadReason true false bytes line = line ≡ codes "the file isn't UTF-8\n"
IsUnreadReason true true bytes line = IsTomlReason bytes line

-- the reason of a fault of a file and options, by the document that they spell together, if the bytes spell one
abbrev pub IsReasonOf : Option Members → FileFault → List ℕ → List ℕ → Type 0
IsReasonOf (Some members) found bytes line = line ≡ reason_of found members
IsReasonOf None found bytes line = IsUnreadReason (nat_le (length bytes) most_bytes) (is_utf8 bytes) bytes line

abbrev pub IsReason : FileFault → Options → List ℕ → List ℕ → Type 0
IsReason found options bytes line = IsReasonOf (document_with options bytes) found bytes line
