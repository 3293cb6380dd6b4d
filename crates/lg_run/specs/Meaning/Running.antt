-- How the node of a configuration is run: what is announced, what is written, and what is told of its end.
use Rattle.std.specs.Prelude.{◌≡◌, ◌⊎◌, ◌==◌, ℕ, not, Bool, true, false, List, [], length, if◌then◌else◌}
use Rattle.std.specs.Prelude.{Option, Some, None, is_some, IsSome, Result, Ok, Err, MatchResult, OnErr}
use Rattle.std.specs.Option.{option_map}
use Rattle.std.specs.Result.{result_ok}
use Rattle.lg_rules.specs.declared.addr.Addr.{Addr}
use Rattle.lg_rules.specs.declared.claim.Claim.{Claim}
use Rattle.lg_text.specs.Meaning.Reporting.{Reported, Reports}
use Rattle.lg_text.specs.declared.fault.RunFault.{RunFault}
use Rattle.lg_seal.specs.declared.key.Keys.{Keys}
use Rattle.lg_seal.specs.Meaning.Reading.{keys_of}
use Rattle.lg_lines.specs.Meaning.Records.{table_text}
use Rattle.lg_config.specs.declared.fault.ReadFault.{ReadFault}
use Rattle.lg_config.specs.declared.fault.ReadFault.TheVariants.{NoMemory, File}
use Rattle.lg_config.specs.declared.node.NodeConfig.{NodeConfig}
use Rattle.lg_config.specs.Meaning.Answer.{IsAnswer}
use Rattle.lg_config.specs.Meaning.Binding.{bound_at}
use Rattle.lg_config.specs.Meaning.Options.{Options, SourceValue}
use Rattle.lg_config.specs.Meaning.Seeds.{asked_addrs, seed_hosts}
use Rattle.lg_node.specs.declared.node.NodeEnd.{NodeEnd}
use Rattle.lg_node.specs.declared.node.NodeFault.{NodeFault}
use Rattle.lg_node.specs.declared.node.NodeFault.TheVariants as node
use Rattle.lg_node.specs.declared.node.Settings.{Settings}
use Rattle.lg_node.specs.Meaning.Nodes.{IsRun, IsEarly, TellsServed}
use Rattle.lg_run.specs.declared.told.Told.TheVariants.{Memory, Link}
use Rattle.lg_run.specs.Meaning.Checking.{WritesText}
use Rattle.lg_run.specs.Meaning.FirstNumber.{started_at}
use Rattle.lg_run.specs.declared.key_file.NoKeys.{NoKeys}
use Rattle.lg_run.specs.Meaning.KeyTelling.{TellsNoKeys}
use Rattle.lg_run.specs.declared.own_address.NoAddress.{NoAddress}
use Rattle.lg_run.specs.declared.own_address.NoAddress.TheVariants.{Unfound, Fault}
use Rattle.lg_run.specs.Meaning.OwnAddress.{HasOwnAddress, LacksOwnAddress}
use Rattle.lg_run.specs.Meaning.Reporting.{AreBytesOf, LacksBytes, ReportsBoth, TellsAlone, TellsFault, TellsLine}
use Rattle.lg_run.specs.Meaning.Telling.{ending, line_of, run_told, status_told}
use Rattle.lg_run.specs.Meaning.Wishes.{end_wished, is_announced}
use Rattle.lg_run.specs.Meaning.Words.{link_reason, start_line, unfound_reason}

-- the records of the table that is to be written, if one is to be
abbrev pub table_at_end : Result NodeEnd NodeFault → Option (List Claim)
table_at_end (Err fault) = None
table_at_end (Ok e) =
    if (ending e.received.why e.ticked.why).writes then option_map (λ v. v.items) (result_ok e.members) else None

-- the table that is to be written, by whether the node followed: then its watcher has told its members
abbrev pub table_wished : Bool → Result NodeEnd NodeFault → Option (List Claim)
table_wished true ran = None
table_wished false ran = table_at_end ran

-- A table is written, if there is one.
abbrev pub Writes :
    {W : Type 0} → (before after : W) (held holds : Option (List ℕ)) → Option (List Claim)
    → Result (Unit {0}) RunFault → Type 0
Writes before after held holds None written = (after ≡ before) × (written ≡ Ok tt)
Writes before after held holds (Some records) written =
    WritesText before after held holds (table_text records) written

-- The table is written at the end of a node that didn't follow. A node that followed has no table: what it wrote, its
-- watcher wrote.
abbrev pub WritesEnd :
    Bool → {W : Type 0} → (before after : W) (held holds : Option (List ℕ)) → Option (List Claim)
    → Result (Unit {0}) RunFault → Type 0
WritesEnd true before after held holds table written = written ≡ Ok tt
WritesEnd false before after held holds table written = Writes before after held holds table written

-- A node is announced by this line, if it is to be, by the moment that was wished and whether it follows.
abbrev pub AnnouncesIf : Bool → (reported reports : Reported) (line : List ℕ) → Type 0
AnnouncesIf true reported reports line = Reports reported reports line
AnnouncesIf false reported reports line = reports ≡ reported

abbrev pub Announces : Option ℕ → Bool → (reported reports : Reported) (line : List ℕ) → Type 0
Announces until follow reported reports line = AnnouncesIf (is_announced until follow) reported reports line

-- The second line of what is told of a node that was run: why its socket or that of its status server can't be bound.
-- If memory for it is refused, there is none.
abbrev pub IsSecond : NodeConfig → Result NodeEnd NodeFault → List ℕ → Type 0
IsSecond n (Err (node.Socket kind)) second = (second ≡ []) ⊎ (second ≡ link_reason (bound_at n) kind)
IsSecond n (Err (node.Status kind)) second =
    (second ≡ []) ⊎ ((addr : Addr) × (n.status ≡ Some addr) × (second ≡ link_reason addr kind))
IsSecond n (Err node.Clock) second = second ≡ []
IsSecond n (Err (node.Refused refusal)) second = second ≡ []
IsSecond n (Ok e) second = second ≡ []

-- whether hosts are among the seeds of a configuration
abbrev pub has_hosts : NodeConfig → Bool
has_hosts n = not (length (seed_hosts n.seeds.items) == 0)

-- the settings of a node: what its configuration says, with these keys, and whether it follows
abbrev pub node_settings : NodeConfig → Option Keys → Bool → Settings
node_settings n keys follow = record {
  bind = bound_at n;
  seeds = record { items = asked_addrs n.config.addr n.seeds.items };
  learns = has_hosts n;
  resolve_ms = n.resolve_ms;
  shown_seeds = n.seeds;
  dice = n.dice;
  pull_ms = n.pull_ms;
  stall_ms = n.stall_ms;
  follow = follow;
  status = n.status;
  status_open = n.status_open;
  leave = n.leave;
  record_folder = n.record_folder;
  keys = keys;
}

-- The node of a configuration ran with these keys until a moment. If it followed, its watcher wrote all that the writer
-- gained. It was recorded if the configuration names a folder for that, and its status server told of the recording
-- there.
abbrev pub HasRun : NodeConfig → Option Keys → ℕ → Bool → (held holds : Option (List ℕ)) → NodeEnd → Type 0
HasRun n keys until follow held holds e =
    IsRun n.config (node_settings n keys follow) until held holds (is_some n.record_folder) e

-- The keys are those of a key file, if the configuration names one: those that some text spells. What a file holds no
-- contract can say. Without a key file there are none.
abbrev pub AreKeysAt : {P : Type 0} → Option P → Option Keys → Type 0
AreKeysAt None keys = keys ≡ None
AreKeysAt (Some path) None = ⊥
AreKeysAt (Some path) (Some keys) = (text : List ℕ) × (keys_of text ≡ Ok keys)

-- What a node reports while it runs: why its status server ended before it, if it did. One that ended before its loops
-- reports nothing.
abbrev pub TellsMeanwhile : Result NodeEnd NodeFault → (reported reports : Reported) → Type 0
TellsMeanwhile (Ok e) reported reports = TellsServed e.served reported reports
TellsMeanwhile (Err fault) reported reports = reports ≡ reported

-- The node of a configuration ran, or it ended before its loops, and then nothing was written. If it followed, its
-- watcher wrote what it saw. Otherwise its table was written, if it was to be. What is told of it was reported behind
-- what it had reported itself, and a second line if there is one.
pub record RunsNode
    {W : Type 0} (before after : W) (held holds : Option (List ℕ)) (reported reports : Reported) (n : NodeConfig)
    (keys : Option Keys) (until : Option ℕ) (follow : Bool) (status : ℕ)
    : Type 0 where
  pub ran : Result NodeEnd NodeFault
  pub written : Result (Unit {0}) RunFault
  pub second : List ℕ
  pub run : MatchResult ran (HasRun n keys (end_wished until) follow held holds) (IsEarly n.config)
  pub unwritten : OnErr ran (after ≡ before)
  pub table : WritesEnd follow before after held holds (table_at_end ran) written
  pub meanwhile : Reported
  pub told : TellsMeanwhile ran reported meanwhile
  pub reason : IsSecond n ran second
  pub lines : ReportsBoth meanwhile reports (line_of (run_told ran written)) second
  pub is : status ≡ status_told (run_told ran written)

-- The node of a configuration is announced, if it is to be, and run.
pub record RunsAnnounced
    {W : Type 0} (before after : W) (held holds : Option (List ℕ)) (reported reports : Reported)
    (file : Option (List ℕ))
    (n : NodeConfig) (keys : Option Keys) (until : Option ℕ) (follow : Bool) (status : ℕ)
    : Type 0 where
  pub announced : Reported
  pub start : Announces until follow reported announced (start_line file n)
  pub runs : RunsNode before after held holds announced reports n keys until follow status

-- That is done, or memory for the announcement or the thread that resolves hosts is refused, and that is told.
abbrev pub RunsOrRefused :
    {W : Type 0} → (before after : W) (held holds : Option (List ℕ)) (reported reports : Reported)
    (file : Option (List ℕ))
    (n : NodeConfig) (keys : Option Keys) (until : Option ℕ) (follow : Bool) (status : ℕ) → Type 0
RunsOrRefused before after held holds reported reports file n keys until follow status =
    RunsAnnounced before after held holds reported reports file n keys until follow status
    ⊎ TellsAlone before after reported reports Memory status

-- That is done with the keys of its key file, if it names one. Or the key file gives none, and it is told why.
abbrev pub RunsKeyed :
    {W : Type 0} → (before after : W) (held holds : Option (List ℕ)) (reported reports : Reported)
    (file : Option (List ℕ))
    (n : NodeConfig) (until : Option ℕ) (follow : Bool) (status : ℕ) → Type 0
RunsKeyed before after held holds reported reports file n until follow status =
    ((keys : Option Keys) × AreKeysAt n.key_file keys
    × RunsOrRefused before after held holds reported reports file n keys until follow status)
    ⊎ ((fault : NoKeys) × IsSome n.key_file × (after ≡ before) × TellsNoKeys reported reports fault status)

-- The node of a configuration is run, with a first number by some time.
abbrev pub RunsStarted :
    {W : Type 0} → (before after : W) (held holds : Option (List ℕ)) (reported reports : Reported)
    (file : Option (List ℕ))
    (n : NodeConfig) (until : Option ℕ) (follow : Bool) (status : ℕ) → Type 0
RunsStarted before after held holds reported reports file n until follow status =
    (time : ℕ) × RunsKeyed before after held holds reported reports file (started_at time n) until follow status

-- An address of its own wasn't found, which is told in two lines.
pub record TellsUnfound (reported reports : Reported) (status : ℕ) : Type 0 where
  pub lines : ReportsBoth reported reports (line_of Link) unfound_reason
  pub is : status ≡ status_told Link

-- It is told why a node has no address of its own.
abbrev pub TellsNoAddress :
    (reported reports : Reported) → Options → (bytes : List ℕ) → NoAddress → (status : ℕ) → Type 0
TellsNoAddress reported reports options bytes Unfound status = TellsUnfound reported reports status
TellsNoAddress reported reports options bytes (Fault fault) status =
    TellsFault reported reports options bytes fault status

-- It is told why there is no configuration to run, by what was read: memory was refused, it has a fault, or it has no
-- address of its own.
abbrev pub LacksConfig :
    (reported reports : Reported) → Options → (bytes : List ℕ) → Result NodeConfig ReadFault → (status : ℕ) → Type 0
LacksConfig reported reports options bytes (Ok n) status =
    (none : NoAddress) × LacksOwnAddress n none × TellsNoAddress reported reports options bytes none status
LacksConfig reported reports options bytes (Err NoMemory) status = TellsLine reported reports Memory status
LacksConfig reported reports options bytes (Err (File fault)) status =
    TellsFault reported reports options bytes fault status

-- A configuration that was read is run, with its own address found if that is to be found.
abbrev pub RunsConfig :
    {W : Type 0} → (before after : W) (held holds : Option (List ℕ)) (reported reports : Reported)
    (source : SourceValue) → Result NodeConfig ReadFault → (until : Option ℕ) (follow : Bool) (status : ℕ) → Type 0
RunsConfig before after held holds reported reports source (Ok n) until follow status =
    (found : NodeConfig) × (told : Reported) × HasOwnAddress n reported told found
    × RunsStarted before after held holds told reports source.file found until follow status
RunsConfig before after held holds reported reports source (Err fault) until follow status = ⊥

-- The bytes of a file and options are read as a configuration, and the configuration is run. If there is none to run,
-- that is told, and nothing is written.
pub record RunsBytes
    {W : Type 0} (before after : W) (held holds : Option (List ℕ)) (reported reports : Reported) (bytes : List ℕ)
    (source : SourceValue) (until : Option ℕ) (follow : Bool) (status : ℕ)
    : Type 0 where
  pub answer : Result NodeConfig ReadFault
  pub read : IsAnswer source.options bytes answer
  pub runs : RunsConfig before after held holds reported reports source answer until follow status
      ⊎ ((after ≡ before) × LacksConfig reported reports source.options bytes answer status)

-- There are some bytes of the file that is named, or none if no file is, and these are run. Or it is told why there are
-- no bytes to read, and then nothing is written.
abbrev pub RunsSource :
    {W : Type 0} → (before after : W) (held holds : Option (List ℕ)) (reported reports : Reported)
    (source : SourceValue) (until : Option ℕ) (follow : Bool) (status : ℕ) → Type 0
RunsSource before after held holds reported reports source until follow status =
    ((after ≡ before) × LacksBytes source.file reported reports status)
    ⊎ ((bytes : List ℕ) × AreBytesOf source.file bytes
    × RunsBytes before after held holds reported reports bytes source until follow status)
