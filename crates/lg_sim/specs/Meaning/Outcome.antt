-- What a command gives after the earlier ones: its fault, or else its text.
use Rattle.std.specs.Prelude.{
  ℕ,
  ◌+◌,
  nat_le,
  Bool,
  ◌||◌,
  List,
  [],
  ◌++◌,
  length,
  Option,
  Some,
  None,
  is_some,
  is_err,
  codes,
  if◌then◌else◌,
}
use Rattle.lg_timing.specs.Meaning.Config.{check_of}
use Rattle.lg_timing.specs.declared.config.Config.{Config}
use Rattle.lg_detector.specs.Meaning.Step.{reply_after, view_after}
use Rattle.lg_lines.specs.Meaning.Records.{table_text}
use Rattle.lg_lines.specs.Meaning.Replies.{reply_text}
use Rattle.lg_text.specs.Meaning.Lines.{newline}
use Rattle.lg_script.specs.declared.command.Command.{Command}
use Rattle.lg_script.specs.declared.command.Command.TheVariants.{Set, SetGroup, Open, Tick, Deliver}
use Rattle.lg_script.specs.declared.command.Command.TheVariants.{Ask, Health, Pull, Leave, Table}
use Rattle.lg_script.specs.declared.fault.ScriptFault.{ScriptFault}
use Rattle.lg_script.specs.declared.fault.ScriptFault.TheVariants as fault
use Rattle.lg_sim.specs.Meaning.Members.{Happening, events_of, member_at, member_named, packet_number, sent}
use Rattle.lg_sim.specs.Meaning.Past.{happening_of, happenings, opened, opening_config, settings}
use Rattle.lg_sim.specs.declared.host.Member.{Member}

-- at most 16 members can be opened (this project's choice)
abbrev pub most_opened : ℕ
most_opened = 16

-- whether a member of this name or at this address is open
abbrev pub is_in_use : Config → List Member → Bool
is_in_use config members =
    is_some (member_named config.name members) || is_some (member_at config.addr members)

-- why a member can't be opened with a configuration: the first of three faults that applies, if one does
abbrev pub opening_fault : Config → List Member → Option ScriptFault
opening_fault config members =
    if is_err (check_of config) then Some fault.Value
    else (if is_in_use config members then Some fault.Double
    else (if nat_le most_opened (length members) then Some fault.Full else None))

-- the fault of a command for a name that isn't open
abbrev pub naming_fault : List ℕ → List Member → Option ScriptFault
naming_fault name members = if is_some (member_named name members) then None else Some fault.Member

-- the fault of a delivery of a packet that was never sent
abbrev pub packet_fault : ℕ → List Happening → Option ScriptFault
packet_fault k past = if is_some (packet_number k (sent past)) then None else Some fault.Packet

-- why a command can't be carried out after the earlier ones, if it can't
abbrev pub command_fault : Command → List Command → Option ScriptFault
command_fault (Set key number) before = None
command_fault (SetGroup group) before = None
command_fault (Open name port now seeds) before =
    opening_fault (opening_config name port seeds (settings before)) (opened before)
command_fault (Tick name now words) before = naming_fault name (opened before)
command_fault (Deliver packet now) before = packet_fault packet (happenings before)
command_fault (Ask name now other) before = naming_fault name (opened before)
command_fault (Health name now) before = naming_fault name (opened before)
command_fault (Pull name now port) before = naming_fault name (opened before)
command_fault (Leave name now words) before = naming_fault name (opened before)
command_fault (Table name) before = naming_fault name (opened before)

-- The lines of what happened: the reply of the member. The numbers of its packets go on from those of the packets
-- sent before.
abbrev pub happening_text : Option Happening → List Happening → List ℕ
happening_text None past = codes "nobody" ++ newline
happening_text (Some h) past =
    reply_text h.event (length (sent past) + 1) (reply_after (events_of h.member.name past) h.event)

-- what a command writes, if it can be carried out after the earlier ones
abbrev pub text_of : Command → List Command → List ℕ
text_of (Set key number) before = []
text_of (SetGroup group) before = []
text_of (Table name) before = table_text (view_after (events_of name (happenings before)))
text_of command before = happening_text (happening_of command before) (happenings before)
