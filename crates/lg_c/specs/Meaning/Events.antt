-- The events that C tells: an event, or the status of what tells none.
use Rattle.std.specs.Prelude.{ℕ, List, nat_le, Option, Some, None, Result, Ok, Err, if◌then◌else◌}
use Rattle.lg_rules.specs.declared.addr.Addr.{Addr}
use Rattle.lg_timing.specs.declared.config.Config.{Config}
use Rattle.lg_timing.specs.declared.moment.TheConstants.{MAX_MOMENT}
use Rattle.lg_packet.specs.declared.fault.Fault.{Fault}
use Rattle.lg_packet.specs.declared.packet.Packet.{Packet}
use Rattle.lg_packet.specs.Meaning.Reading.{packet_of}
use Rattle.lg_detector.specs.declared.event.Event.{Event}
use Rattle.lg_detector.specs.declared.event.Event.TheVariants.{Open, Tick, Heard, Ask, Health, Pull, Leave}
use Rattle.lg_c_values.specs.declared.address.LgAddress.{LgAddress}
use Rattle.lg_c_values.specs.declared.config.LgConfig.{LgConfig}
use Rattle.lg_c_values.specs.declared.name.LgName.{LgName}
use Rattle.lg_c_values.specs.Meaning.Addresses.{addr_from_c}
use Rattle.lg_c_values.specs.Meaning.Configs.{config_from_c}
use Rattle.lg_c_values.specs.Meaning.Names.{name_from_c}
use Rattle.lg_c.specs.Meaning.Statuses.{status_bad_packet, status_bad_value}

-- the moment that C tells, if it is in its range
abbrev pub moment_from_c : ℕ → Option ℕ
moment_from_c now = if nat_le now MAX_MOMENT then Some now else None

-- an opening with the configuration that C tells
abbrev pub open_joined : Option ℕ → Option Config → Result Event ℕ
open_joined (Some now) (Some config) = Ok (Open now config)
open_joined (Some now) None = Err status_bad_value
open_joined None config = Err status_bad_value

abbrev pub open_from_c : LgConfig → ℕ → Result Event ℕ
open_from_c config now = open_joined (moment_from_c now) (config_from_c config)

-- a datagram that is heard, from the address that C tells, if its bytes are a packet
abbrev pub heard_joined : Option ℕ → Option Addr → Result Packet Fault → Result Event ℕ
heard_joined (Some now) (Some source) (Ok packet) = Ok (Heard now source packet)
heard_joined (Some now) (Some source) (Err fault) = Err status_bad_packet
heard_joined (Some now) None packet = Err status_bad_value
heard_joined None source packet = Err status_bad_value

abbrev pub heard_from_c : List ℕ → LgAddress → ℕ → Result Event ℕ
heard_from_c bytes source now = heard_joined (moment_from_c now) (addr_from_c source) (packet_of bytes)

-- a tick
abbrev pub tick_joined : Option ℕ → List ℕ → Result Event ℕ
tick_joined (Some now) words = Ok (Tick now words)
tick_joined None words = Err status_bad_value

abbrev pub tick_from_c : List ℕ → ℕ → Result Event ℕ
tick_from_c words now = tick_joined (moment_from_c now) words

-- a question for the record of the name that C tells
abbrev pub ask_joined : Option ℕ → Option (List ℕ) → Result Event ℕ
ask_joined (Some now) (Some name) = Ok (Ask now name)
ask_joined (Some now) None = Err status_bad_value
ask_joined None name = Err status_bad_value

abbrev pub ask_from_c : LgName → ℕ → Result Event ℕ
ask_from_c name now = ask_joined (moment_from_c now) (name_from_c name)

-- a question for the health
abbrev pub health_joined : Option ℕ → Result Event ℕ
health_joined (Some now) = Ok (Health now)
health_joined None = Err status_bad_value

abbrev pub health_from_c : ℕ → Result Event ℕ
health_from_c now = health_joined (moment_from_c now)

-- the member at the address that C tells is to be asked for its table
abbrev pub pull_joined : Option ℕ → Option Addr → Result Event ℕ
pull_joined (Some now) (Some peer) = Ok (Pull now peer)
pull_joined (Some now) None = Err status_bad_value
pull_joined None peer = Err status_bad_value

abbrev pub pull_from_c : LgAddress → ℕ → Result Event ℕ
pull_from_c peer now = pull_joined (moment_from_c now) (addr_from_c peer)

-- this member leaves
abbrev pub leave_joined : Option ℕ → List ℕ → Result Event ℕ
leave_joined (Some now) words = Ok (Leave now words)
leave_joined None words = Err status_bad_value

abbrev pub leave_from_c : List ℕ → ℕ → Result Event ℕ
leave_from_c words now = leave_joined (moment_from_c now) words
