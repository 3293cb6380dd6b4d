-- Worked checks.
use Rattle.std.specs.Prelude.{⊤, ◌≡◌, ℕ, true, false, List, [], ◌∷◌, ◌++◌, None, Some, codes, refl}
use Rattle.std.specs.Fmt.{digits}
use Rattle.lg_rules.specs.declared.addr.Addr.{Addr}
use Rattle.lg_rules.specs.declared.addr.Ip.TheVariants.{V4}
use Rattle.lg_timing.specs.declared.config.Config.{Config}
use Rattle.lg_timing.specs.declared.keys.Key.TheVariants.{IntervalMs, TimeoutMs, ForgetMs, GossipMs, GossipTo}
use Rattle.lg_timing.specs.Meaning.Config.{defaults}
use Rattle.lg_timing.specs.Meaning.Tables.{log10_of, ratio_of}
use Rattle.lg_timing.specs.Meaning.Timeouts.{range_of, timeout_of}
use Rattle.sha2.specs.Sha256.{compress, digest_bytes, first_words, hash_after, rounds, schedule, sha256}
use Rattle.lg_config.specs.declared.host.Place.TheVariants as place
use Rattle.lg_config.specs.declared.node.NodeConfig.{NodeConfig}
use Rattle.lg_config.specs.declared.node_keys.NodeKey.TheVariants.{PullMs, RecordMb, ResolveMs, StallMs}
use Rattle.lg_config.specs.Meaning.Dice.{own_dice}
use Rattle.lg_check.specs.Meaning.Checks.{key_file_line, address_lines, group_line, member_line, own_line, server_lines}
use Rattle.lg_check.specs.Meaning.Checks.{bind_line, group_name_line, leave_line, recording_line, start_lines}
use Rattle.lg_check.specs.Meaning.Spelling.{seeds_spelled}

-- what the rows have to unfold
unfoldable on_checks : ⊤
unfolding digits log10_of ratio_of range_of timeout_of
on_checks = tt

abbrev addr_of : List ℕ → ℕ → Addr
addr_of octets port = record { ip = V4 octets; port = port }

-- the member b with the default numbers, at 127.0.0.1:7946
abbrev b-by-default : Config
b-by-default = defaults (98 ∷ []) (addr_of (127 ∷ 0 ∷ 0 ∷ 1 ∷ []) 7946)

abbrev usual : NodeConfig
usual =
    record {
      config = b-by-default;
      dice = 2189494717179526441;
      pull_ms = 30000;
      stall_ms = 100;
      resolve_ms = 60000;
      record_mb = 64;
      record_folder = None;
      auto = false;
      status = None;
      status_open = false;
      key_file = None;
      leave = true;
      bind = None;
      seeds = record { items = [] };
    }

-- the times of the table in the documents, by the default numbers: 5.0 s; 6.0 and 36.1 s; 9.0 and 54.2 s; 12.0 and
-- 72.2 s
group-4 :
    group_line b-by-default 4 ≡ codes "4 members: a round takes 1000 ms, a suspicion lasts 5000 to 5000 ms\n"
unfolding on_checks
group-4 = refl

group-16 :
    group_line b-by-default 16 ≡ codes "16 members: a round takes 1000 ms, a suspicion lasts 6020 to 36120 ms\n"
unfolding on_checks
group-16 = refl

group-64 :
    group_line b-by-default 64 ≡ codes "64 members: a round takes 1000 ms, a suspicion lasts 9030 to 54180 ms\n"
unfolding on_checks
group-64 = refl

group-256 :
    group_line b-by-default 256 ≡ codes "256 members: a round takes 1000 ms, a suspicion lasts 12040 to 72240 ms\n"
unfolding on_checks
group-256 = refl

name-and-address : address_lines usual ≡ codes "name = b\naddress = 127.0.0.1 (default)\n"
unfolding on_checks
name-and-address = refl

other-address :
    address_lines (record usual { config = record b-by-default { addr = addr_of (10 ∷ 0 ∷ 0 ∷ 7 ∷ []) 1 } })
    ≡ codes "name = b\naddress = 10.0.0.7\n"
unfolding on_checks
other-address = refl

-- the member b whose address is to be found
abbrev unfound : NodeConfig
unfound = record usual { config = record b-by-default { addr = addr_of (0 ∷ 0 ∷ 0 ∷ 0 ∷ []) 7001 }; auto = true }

unfound-address : address_lines unfound ≡ codes "name = b\naddress = auto\n"
unfolding on_checks
unfound-address = refl

-- it is bound where it is found, unless the file says where
bound-where-found : bind_line unfound ≡ codes "bind = auto:7001 (default)\n"
unfolding on_checks
bound-where-found = refl

bound-anywhere :
    bind_line (record unfound { bind = Some (addr_of (0 ∷ 0 ∷ 0 ∷ 0 ∷ []) 7001) }) ≡ codes "bind = 0.0.0.0:7001\n"
unfolding on_checks
bound-anywhere = refl

start :
    start_lines usual
    ≡ codes "port = 7946 (default)\nbind = 127.0.0.1:7946 (default)\n"
    ++ codes "dice = 2189494717179526441 (default)\nseeds = none (default)\n"
unfolding on_checks own_dice sha256 first_words schedule rounds compress hash_after digest_bytes
start = refl

bound-elsewhere :
    bind_line (record usual { bind = Some (addr_of (0 ∷ 0 ∷ 0 ∷ 0 ∷ []) 7946) }) ≡ codes "bind = 0.0.0.0:7946\n"
unfolding on_checks
bound-elsewhere = refl

-- a place that the file gives may be the default
bound-there :
    bind_line (record usual { bind = Some (addr_of (127 ∷ 0 ∷ 0 ∷ 1 ∷ []) 7946) })
    ≡ codes "bind = 127.0.0.1:7946 (default)\n"
unfolding on_checks
bound-there = refl

two-seeds :
    seeds_spelled
    (record { name = Some (97 ∷ []); place = place.Addr (addr_of (127 ∷ 0 ∷ 0 ∷ 1 ∷ []) 7101) }
    ∷ record { name = None; place = place.Addr (addr_of (1 ∷ 2 ∷ 3 ∷ 4 ∷ []) 5) } ∷ [])
    ≡ codes "a@127.0.0.1:7101, 1.2.3.4:5"
unfolding on_checks
two-seeds = refl

-- a host stands as it is written, with its port
seeds-at-hosts :
    seeds_spelled
    (record { name = None; place = place.Host (record { name = codes "DB.example"; port = 7946 }) }
    ∷ record { name = Some (97 ∷ []); place = place.Host (record { name = codes "c"; port = 1 }) } ∷ [])
    ≡ codes "DB.example:7946, a@c:1"
unfolding on_checks
seeds-at-hosts = refl

default-interval : member_line b-by-default IntervalMs ≡ codes "interval_ms = 1000 (default)\n"
unfolding on_checks
default-interval = refl

other-timeout : member_line (record b-by-default { timeout_ms = 50 }) TimeoutMs ≡ codes "timeout_ms = 50\n"
unfolding on_checks
other-timeout = refl

-- a number that turns something off is written as any other
no-gossip : member_line (record b-by-default { gossip_ms = 0 }) GossipMs ≡ codes "gossip_ms = 0\n"
unfolding on_checks
no-gossip = refl

forgotten-after-a-day :
    member_line (record b-by-default { forget_ms = 86400000 }) ForgetMs ≡ codes "forget_ms = 86400000\n"
unfolding on_checks
forgotten-after-a-day = refl

never-forgotten : member_line b-by-default ForgetMs ≡ codes "forget_ms = 0 (default)\n"
unfolding on_checks
never-forgotten = refl

default-gossip :
    member_line b-by-default GossipMs ++ member_line b-by-default GossipTo
    ≡ codes "gossip_ms = 200 (default)\ngossip_to = 3 (default)\n"
unfolding on_checks
default-gossip = refl

no-pulls : own_line (record usual { pull_ms = 0 }) PullMs ≡ codes "pull_ms = 0\n"
unfolding on_checks
no-pulls = refl

default-stall : own_line usual StallMs ≡ codes "stall_ms = 100 (default)\n"
unfolding on_checks
default-stall = refl

default-resolving : own_line usual ResolveMs ≡ codes "resolve_ms = 60000 (default)\n"
unfolding on_checks
default-resolving = refl

default-recording :
    own_line usual RecordMb ++ recording_line usual.record_folder
    ≡ codes "record_mb = 64 (default)\nrecord = none (default)\n"
unfolding on_checks
default-recording = refl

recorded :
    own_line (record usual { record_mb = 1000 }) RecordMb ++ recording_line (Some (codes "/var/lib/lg"))
    ≡ codes "record_mb = 1000\nrecord = /var/lib/lg\n"
unfolding on_checks
recorded = refl

no-server : server_lines usual ≡ codes "status = none (default)\nstatus_open = false (default)\n"
unfolding on_checks
no-server = refl

loopback-server :
    server_lines (record usual { status = Some (addr_of (127 ∷ 0 ∷ 0 ∷ 1 ∷ []) 8946) })
    ≡ codes "status = 127.0.0.1:8946\nstatus_open = false (default)\n"
unfolding on_checks
loopback-server = refl

open-server :
    server_lines (record usual { status = Some (addr_of (0 ∷ 0 ∷ 0 ∷ 0 ∷ []) 65535); status_open = true })
    ≡ codes "status = 0.0.0.0:65535\nstatus_open = true\n"
unfolding on_checks
open-server = refl

-- without a server it means nothing, and is written all the same
open-without-server :
    server_lines (record usual { status_open = true }) ≡ codes "status = none (default)\nstatus_open = true\n"
unfolding on_checks
open-without-server = refl

leave-allowed : leave_line usual.leave ≡ codes "leave = on (default)\n"
leave-allowed = refl

leave-refused : leave_line false ≡ codes "leave = off\n"
leave-refused = refl

no-key_file : key_file_line usual.key_file ≡ codes "key_file = none (default)\n"
no-key_file = refl

a-key_file : key_file_line (Some (codes "group.key")) ≡ codes "key_file = group.key\n"
a-key_file = refl

no-group : group_name_line b-by-default.group ≡ codes "group = none (default)\n"
no-group = refl

a-group : group_name_line (Some (codes "grn")) ≡ codes "group = grn\n"
a-group = refl

-- a group of this name is told from no group
group-none : group_name_line (Some (codes "none")) ≡ codes "group = none\n"
group-none = refl
