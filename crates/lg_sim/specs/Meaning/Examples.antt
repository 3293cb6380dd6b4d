-- Worked commands and scripts.
use Rattle.std.specs.Prelude.{◌≡◌, ℕ, ◌+◌, List, [], ◌∷◌, ◌++◌, map, Some, None, codes, refl}
use Rattle.std.specs.List.{range_with_len}
use Rattle.arrayvec.specs.ArrayVec.{ArrayVec}
use Rattle.lg_timing.specs.Meaning.Config.{check_of}
use Rattle.lg_timing.specs.declared.config.Seed.{Seed}
use Rattle.lg_packet.specs.declared.packet.Body.TheVariants.{Ack, Page, Ping}
use Rattle.lg_packet.specs.declared.packet.Packet.{Packet}
use Rattle.lg_rules.specs.declared.claim.Status.{Status}
use Rattle.lg_rules.specs.declared.claim.Status.TheVariants.{Failed, Left}
use Rattle.lg_rules.specs.declared.version.Version.TheVariants.{One}
use Rattle.lg_detector.specs.Meaning.Examples.{by_computing as detecting}
use Rattle.lg_detector.specs.declared.event.Event.TheVariants as event
use Rattle.lg_lines.specs.Meaning.Examples.{by_computing as reporting}
use Rattle.lg_script.specs.Meaning.Commands.{leave_command, open_command, tick_command}
use Rattle.lg_script.specs.Meaning.Lines.{command_of}
use Rattle.lg_script.specs.Meaning.Values.{local}
use Rattle.lg_script.specs.Meaning.Words.{verb_of}
use Rattle.lg_script.specs.declared.command.Command.{Command}
use Rattle.lg_script.specs.declared.command.Command.TheVariants.{Set, SetGroup, Open, Tick, Deliver}
use Rattle.lg_script.specs.declared.command.Command.TheVariants.{Health, Pull, Leave, Table}
use Rattle.lg_timing.specs.declared.keys.Key.TheVariants.{Alpha, Beta, IntervalMs, ForgetMs, First, Wire}
use Rattle.lg_script.specs.declared.fault.ScriptFault.TheVariants as fault
use Rattle.lg_text.specs.Meaning.Lines.{newline}
use Rattle.lg_text.specs.declared.end.RunEnd.TheVariants.{Done, Faulty}
use Rattle.lg_sim.specs.Meaning.Members.{Happening, events_of, member_at, member_named, packet_number, sent}
use Rattle.lg_sim.specs.Meaning.Outcome.{command_fault, happening_text, opening_fault, text_of}
use Rattle.lg_sim.specs.Meaning.Past.{delivered, happening_of, happenings, new_member, opened}
use Rattle.lg_sim.specs.Meaning.Past.{opening_config, settings, unset}
use Rattle.lg_sim.specs.Meaning.Text.{script_end, script_text}
use Rattle.lg_sim.specs.declared.host.Member.{Member}
use Rattle.lg_sim.specs.declared.host.SentPacket.{SentPacket}

-- the names of three members; a is at port 7001 and b at 7002
abbrev a : List ℕ
a = 97 ∷ []

abbrev b : List ℕ
b = 98 ∷ []

abbrev z : List ℕ
z = 122 ∷ []

abbrev member-a : Member
member-a = new_member a 7001

abbrev member-b : Member
member-b = new_member b 7002

abbrev no-seeds : ArrayVec Seed
no-seeds = record { items = [] }

abbrev open-a : Command
open-a = Open a 7001 0 no-seeds

abbrev open-b : Command
open-b = Open b 7002 0 no-seeds

-- ---- settings, the latest command first

latest-counts : settings (Set Beta 5 ∷ Set Alpha 4 ∷ Set Beta 3 ∷ []) ≡ record unset { alpha = 4; beta = 5 }
latest-counts = refl

-- a setting counts for the members that are opened later
set-between : happenings (open-b ∷ Set Beta 5 ∷ open-a ∷ [])
    ≡ record { member = member-b; event = event.Open 0 (opening_config b 7002 no-seeds (record unset { beta = 5 })) }
    ∷ record { member = member-a; event = event.Open 0 (opening_config a 7001 no-seeds unset) } ∷ []
set-between = refl

latest-group-counts :
    settings (SetGroup (codes "g") ∷ Set Wire 3 ∷ SetGroup (codes "h") ∷ [])
    ≡ record unset { wire = 3; group = Some (codes "g") }
latest-group-counts = refl

group-between : happenings (open-b ∷ SetGroup (codes "g") ∷ open-a ∷ [])
    ≡ record {
      member = member-b;
      event = event.Open 0 (opening_config b 7002 no-seeds (record unset { group = Some (codes "g") }));
    }
    ∷ record { member = member-a; event = event.Open 0 (opening_config a 7001 no-seeds unset) } ∷ []
group-between = refl

-- ---- members

two-opened : opened (open-b ∷ Set Beta 5 ∷ open-a ∷ []) ≡ member-a ∷ member-b ∷ []
two-opened = refl

b-found : member_named b (member-a ∷ member-b ∷ []) ≡ Some member-b
b-found = refl

z-not-found : member_named z (member-a ∷ member-b ∷ []) ≡ None
z-not-found = refl

found-at-port : member_at (local 7002) (member-a ∷ member-b ∷ []) ≡ Some member-b
found-at-port = refl

nobody-at-port : member_at (local 7003) (member-a ∷ member-b ∷ []) ≡ None
nobody-at-port = refl

-- ---- what happened, the latest first

asked : Member → ℕ → Happening
asked member now = record { member = member; event = event.Health now }

events-of-a : events_of a (asked member-a 2 ∷ asked member-b 1 ∷ asked member-a 0 ∷ [])
    ≡ event.Health 0 ∷ event.Health 2 ∷ []
unfolding asked
events-of-a = refl

health-of-a : happening_of (Health a 5) (open-b ∷ open-a ∷ []) ≡ Some (asked member-a 5)
unfolding asked
health-of-a = refl

health-of-z : happening_of (Health z 5) (open-b ∷ open-a ∷ []) ≡ None
health-of-z = refl

pull-by-a : happening_of (Pull a 5 7002) (open-a ∷ [])
    ≡ Some record { member = member-a; event = event.Pull 5 (local 7002) }
pull-by-a = refl

-- eight random words, of which the first two are these
abbrev words : ℕ → ℕ → List ℕ
words first second = first ∷ second ∷ 0 ∷ 0 ∷ 0 ∷ 0 ∷ 0 ∷ 0 ∷ []

leave-of-b : happening_of (Leave b 10 (words 1 7)) (open-b ∷ open-a ∷ [])
    ≡ Some record { member = member-b; event = event.Leave 10 (words 1 7) }
leave-of-b = refl

leave-of-z : happening_of (Leave z 10 (words 1 7)) (open-b ∷ open-a ∷ []) ≡ None
leave-of-z = refl

-- ---- packets

-- a Ping of a to b, and b's Ack
pinged : Packet
pinged = record { version = One; group = None; sender = a; body = Ping 1 b; claims = record { items = [] } }

acked : Packet
acked = record { version = One; group = None; sender = b; body = Ack 1 None; claims = record { items = [] } }

ping : SentPacket
ping = record { from = local 7001; outgoing = record { to = local 7002; packet = pinged } }

ack : SentPacket
ack = record { from = local 7002; outgoing = record { to = local 7001; packet = acked } }

first-packet : packet_number 1 (ping ∷ ack ∷ []) ≡ Some ping
first-packet = refl

second-packet : packet_number 2 (ping ∷ ack ∷ []) ≡ Some ack
second-packet = refl

no-third-packet : packet_number 3 (ping ∷ ack ∷ []) ≡ None
no-third-packet = refl

-- packets are counted from 1
no-packet-zero : packet_number 0 (ping ∷ ack ∷ []) ≡ None
no-packet-zero = refl

-- b hears the Ping from the address of a
ping-delivered : delivered 5 (Some ping) (member-a ∷ member-b ∷ [])
    ≡ Some record { member = member-b; event = event.Heard 5 (local 7001) pinged }
unfolding ping pinged
ping-delivered = refl

-- a packet of version 1 that holds that a left, which is heard as that a failed
abbrev told-of-a : Status → Packet
told-of-a status = record {
  version = One;
  group = None;
  sender = a;
  body = Page;
  claims = record { items = record { name = a; addr = local 7001; status = status; incarnation = 0 } ∷ [] };
}

left-delivered : delivered 5
    (Some record { from = local 7001; outgoing = record { to = local 7002; packet = told-of-a Left } })
    (member-a ∷ member-b ∷ [])
    ≡ Some record { member = member-b; event = event.Heard 5 (local 7001) (told-of-a Failed) }
left-delivered = refl

delivered-to-nobody : delivered 5 (Some ping) (member-a ∷ []) ≡ None
unfolding ping
delivered-to-nobody = refl

-- a's first tick chooses b
tick-a : Command
tick-a = Tick a 0 (0 ∷ 0 ∷ 0 ∷ 0 ∷ 0 ∷ 0 ∷ 0 ∷ 0 ∷ [])

open-a-with-b : Command
open-a-with-b = Open a 7001 0 record { items = record { name = b; addr = local 7002 } ∷ [] }

one-sent : sent (happenings (tick-a ∷ open-b ∷ open-a-with-b ∷ [])) ≡ ping ∷ []
unfolding tick-a open-a-with-b ping pinged detecting
one-sent = refl

-- ---- faults

unmade : command_fault (Open a 7001 0 no-seeds) (Set IntervalMs 5 ∷ open-a ∷ []) ≡ Some fault.Value
unfolding check_of
unmade = refl

-- the first number of a probe is 1 at least, and one that four bytes hold
first-numbers :
    map (λ number. command_fault open-a (Set First number ∷ [])) (0 ∷ 1 ∷ 4294967295 ∷ 4294967296 ∷ [])
    ≡ Some fault.Value ∷ None ∷ None ∷ Some fault.Value ∷ []
unfolding check_of
first-numbers = refl

-- a member of a group sends packets of version 3
groups-by-version :
    map (λ wire. command_fault open-a (Set Wire wire ∷ SetGroup (codes "g") ∷ [])) (1 ∷ 2 ∷ 3 ∷ [])
    ≡ Some fault.Value ∷ Some fault.Value ∷ None ∷ []
unfolding check_of
groups-by-version = refl

name-taken : command_fault (Open a 7003 0 no-seeds) (open-a ∷ []) ≡ Some fault.Double
unfolding check_of
name-taken = refl

port-taken : command_fault (Open z 7001 0 no-seeds) (open-a ∷ []) ≡ Some fault.Double
unfolding check_of
port-taken = refl

-- sixteen members, with names of one letter from a on, at ports from 7001 on
sixteen : List Member
sixteen = map (λ n. new_member ((97 + n) ∷ []) (7001 + n)) (range_with_len 0 16)

seventeenth : opening_fault (opening_config z 7100 no-seeds unset) sixteen ≡ Some fault.Full
unfolding check_of sixteen
seventeenth = refl

seventeenth-of-used-name : opening_fault (opening_config a 7100 no-seeds unset) sixteen ≡ Some fault.Double
unfolding check_of sixteen
seventeenth-of-used-name = refl

can-be-opened : command_fault open-b (open-a ∷ []) ≡ None
unfolding check_of
can-be-opened = refl

not-open : command_fault (Table z) (open-a ∷ []) ≡ Some fault.Member
not-open = refl

none-to-leave : command_fault (Leave z 0 (words 0 0)) (open-a ∷ []) ≡ Some fault.Member
none-to-leave = refl

-- a member that left is open as before
can-leave-again : command_fault (Leave a 5 (words 0 0)) (Leave a 0 (words 0 0) ∷ open-a ∷ []) ≡ None
can-leave-again = refl

never-sent : command_fault (Deliver 1 0) [] ≡ Some fault.Packet
never-sent = refl

set-is-never-faulty : command_fault (Set IntervalMs 5) [] ≡ None
set-is-never-faulty = refl

set-group-is-never-faulty : command_fault (SetGroup (codes "g")) [] ≡ None
set-group-is-never-faulty = refl

-- ---- texts

nothing-said : text_of (Set Beta 99) (open-a ∷ []) ≡ []
nothing-said = refl

nothing-said-of-group : text_of (SetGroup (codes "g")) (open-a ∷ []) ≡ []
nothing-said-of-group = refl

opening-said : text_of open-a [] ≡ codes "next 0" ++ newline
unfolding detecting reporting
opening-said = refl

table-said : text_of (Table a) (open-a ∷ []) ≡ codes "record a alive 0 127.0.0.1:7001" ++ newline
unfolding detecting reporting
table-said = refl

-- b is told by a Page of version 1, in which Left stands as Failed
leave-said : text_of (Leave a 0 (words 0 0)) (open-a-with-b ∷ [])
    ≡ codes "send 1 127.0.0.1:7002 534c01060161010301617f0000011b5900000000" ++ newline
    ++ codes "record a left 0 127.0.0.1:7001" ++ newline
    ++ codes "next 0" ++ newline
unfolding open-a-with-b detecting reporting
leave-said = refl

second-leave-said : text_of (Leave a 5 (words 0 0)) (Leave a 0 (words 0 0) ∷ open-a-with-b ∷ [])
    ≡ codes "next 0" ++ newline
unfolding open-a-with-b detecting reporting
second-leave-said = refl

-- b leaves at 0, and a, which hears of it by the first packet, forgets it a second later, behind a start of a round
open-b-with-a : Command
open-b-with-a = Open b 7002 0 record { items = record { name = a; addr = local 7001 } ∷ [] }

tick-a-later : Command
tick-a-later = Tick a 1000 (words 0 0)

forgetting-said :
    text_of tick-a-later
    (tick-a-later ∷ Deliver 1 0 ∷ Leave b 0 (words 0 0) ∷ open-b-with-a ∷ open-a-with-b ∷ Set ForgetMs 1000 ∷ [])
    ≡ codes "fired forget b" ++ newline ++ codes "forgot b" ++ newline ++ codes "next 2000" ++ newline
unfolding open-a-with-b open-b-with-a tick-a-later detecting reporting
forgetting-said = refl

nobody-said : happening_text None [] ≡ codes "nobody" ++ newline
nobody-said = refl

-- lines that are passed over are counted
third-line : script_text (codes "#" ++ newline ++ newline ++ codes "tock") ≡ codes "fault 3 command" ++ newline
unfolding script_text command_of verb_of reporting
third-line = refl

third-line-ends : script_end (codes "#" ++ newline ++ newline ++ codes "tock") ≡ Faulty
unfolding script_end command_of verb_of
third-line-ends = refl

no-command : script_end (codes "#" ++ newline ++ newline) ≡ Done
unfolding script_end command_of
no-command = refl

second-line : script_text (codes "open a 7001 0" ++ newline ++ codes "tick z 0")
    ≡ codes "next 0" ++ newline ++ codes "fault 2 member" ++ newline
unfolding script_text command_of verb_of open_command tick_command detecting reporting
second-line = refl

-- nothing follows the first fault
first-fault : script_text (codes "tick z 0" ++ newline ++ codes "tock") ≡ codes "fault 1 member" ++ newline
unfolding script_text command_of verb_of tick_command reporting
first-fault = refl

-- an event has no earlier moment than those before it
leaves-alone : script_text (codes "open a 7001 7" ++ newline ++ codes "leave a 5")
    ≡ codes "next 7" ++ newline ++ codes "record a left 0 127.0.0.1:7001" ++ newline ++ codes "next 7" ++ newline
unfolding script_text command_of verb_of open_command leave_command detecting reporting
leaves-alone = refl
