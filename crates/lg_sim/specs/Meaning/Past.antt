-- What the earlier commands of a script made: the settings, the members, and what happened. Lists of commands have the
-- latest first.
use Rattle.std.specs.Prelude.{ℕ, List, [], ◌∷◌, ◌++◌, Option, Some, None}
use Rattle.std.specs.List.{cons_option}
use Rattle.std.specs.Option.{option_map}
use Rattle.arrayvec.specs.ArrayVec.{ArrayVec}
use Rattle.lg_rules.specs.declared.addr.Ip.TheVariants.{V4}
use Rattle.lg_timing.specs.Meaning.Config.{defaults}
use Rattle.lg_timing.specs.Meaning.Keys.{with_number}
use Rattle.lg_timing.specs.declared.config.Config.{Config}
use Rattle.lg_timing.specs.declared.config.Seed.{Seed}
use Rattle.lg_packet.specs.Meaning.Spelling.{spellable}
use Rattle.lg_detector.specs.declared.event.Event.{Event}
use Rattle.lg_detector.specs.declared.event.Event.TheVariants as event
use Rattle.lg_script.specs.Meaning.Values.{local}
use Rattle.lg_script.specs.declared.command.Command.{Command}
use Rattle.lg_script.specs.declared.command.Command.TheVariants.{Set, SetGroup, Open, Tick, Deliver}
use Rattle.lg_script.specs.declared.command.Command.TheVariants.{Ask, Health, Pull, Leave, Table}
use Rattle.lg_sim.specs.Meaning.Members.{Happening, member_at, member_named, packet_number, sent}
use Rattle.lg_sim.specs.declared.host.Member.{Member}
use Rattle.lg_sim.specs.declared.host.SentPacket.{SentPacket}

-- The defaults. Their name and address are placeholders.
abbrev pub unset : Config
unset = defaults (97 ∷ []) (record { ip = V4 (0 ∷ 0 ∷ 0 ∷ 0 ∷ []); port = 0 })

-- a configuration of a member of a group
abbrev pub in_group : List ℕ → Config → Config
in_group group usual = record usual { group = Some group }

-- the numbers and the group of the members that are opened next: the defaults, changed by the latest `set` of each key
abbrev pub settings : List Command → Config
settings [] = unset
settings (Set key number ∷ before) = with_number key number (settings before)
settings (SetGroup group ∷ before) = in_group group (settings before)
settings (_ ∷ before) = settings before

-- the configuration of a member that is opened with these numbers and this group
abbrev pub opening_config : List ℕ → ℕ → ArrayVec Seed → Config → Config
opening_config name port seeds usual = record usual { seeds = seeds; name = name; addr = local port }

abbrev pub new_member : List ℕ → ℕ → Member
new_member name port = record { name = name; addr = local port }

-- the members opened so far, in the order in which they were opened
abbrev pub opened : List Command → List Member
opened [] = []
opened (Open name port now seeds ∷ before) = opened before ++ new_member name port ∷ []
opened (_ ∷ before) = opened before

-- an event happens at the member with this name, if there is one
abbrev pub at_named : List ℕ → Event → List Member → Option Happening
at_named name e members = option_map (λ m. record { member = m; event = e }) (member_named name members)

-- A packet is heard from the address of its sender, as its bytes tell it: those of versions 1 and 2 tell Left as
-- Failed. The member at its destination hears it, if there is one.
abbrev pub arrival : ℕ → SentPacket → Event
arrival now packet = event.Heard now packet.from (spellable packet.outgoing.packet)

abbrev pub delivered : ℕ → Option SentPacket → List Member → Option Happening
delivered now None members = None
delivered now (Some packet) members =
    option_map (λ m. record { member = m; event = arrival now packet }) (member_at packet.outgoing.to members)

-- what a command makes happen, after the earlier ones and what they made happen
abbrev pub happening_after : Command → List Command → List Happening → Option Happening
happening_after (Set key number) before past = None
happening_after (SetGroup group) before past = None
happening_after (Open name port now seeds) before past = Some record {
  member = new_member name port;
  event = event.Open now (opening_config name port seeds (settings before));
}
happening_after (Tick name now words) before past = at_named name (event.Tick now words) (opened before)
happening_after (Deliver packet now) before past = delivered now (packet_number packet (sent past)) (opened before)
happening_after (Ask name now other) before past = at_named name (event.Ask now other) (opened before)
happening_after (Health name now) before past = at_named name (event.Health now) (opened before)
happening_after (Pull name now port) before past = at_named name (event.Pull now (local port)) (opened before)
happening_after (Leave name now words) before past = at_named name (event.Leave now words) (opened before)
happening_after (Table name) before past = None

-- what happened in the cluster
abbrev pub happenings : List Command → List Happening
happenings [] = []
happenings (command ∷ before) =
    let past = happenings before in cons_option (happening_after command before past) past

abbrev pub happening_of : Command → List Command → Option Happening
happening_of command before = happening_after command before (happenings before)
