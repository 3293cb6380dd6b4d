-- Worked files.
use Rattle.std.specs.Prelude.{⊤, ◌≡◌, ℕ, Bool, true, false, ◌++◌, List, [], ◌∷◌, replicate, codes, refl}
use Rattle.std.specs.Prelude.{Some, None, Result, Ok, Err}
use Rattle.std.specs.List.{flat_map}
use Rattle.std.specs.Str.{chars, is_utf8}
use Rattle.sha2.specs.Sha256.{compress, digest_bytes, first_words, hash_after, rounds, schedule, sha256}
use Rattle.toml.proofs.OnLiterals.{toml_on_literals}
use Rattle.lg_rules.specs.declared.addr.Addr.{Addr}
use Rattle.lg_rules.specs.declared.addr.Ip.TheVariants.{V4}
use Rattle.lg_timing.specs.declared.config.Config.{Config}
use Rattle.lg_timing.specs.declared.config.ConfigFault.TheVariants.{Interval, Lambda, History, Seeds, Wire}
use Rattle.lg_timing.specs.Meaning.Config.{check_of, defaults}
use Rattle.lg_config.specs.declared.fault.FileFault.{FileFault}
use Rattle.lg_config.specs.declared.fault.FileFault.TheVariants as fault
use Rattle.lg_config.specs.declared.host.Place.TheVariants as place
use Rattle.lg_config.specs.declared.node.NodeConfig.{NodeConfig}
use Rattle.lg_config.specs.Meaning.Answer.{answer_of, answer_with}
use Rattle.lg_config.specs.Meaning.Dice.{own_dice}
use Rattle.lg_config.specs.Meaning.Keys.{file_key_named, kind_of_key}
use Rattle.lg_config.specs.Meaning.Paths.{path_of}
use Rattle.lg_config.specs.Meaning.Settings.{addr_in, dice_in, folder_in, name_in, settings_of, with_numbers}
use Rattle.lg_text.specs.Meaning.AddressExamples.{on_addresses}
use Rattle.lg_config.specs.Meaning.Texts.{before, behind, octets_of, address_of, place_of, place_with_port}
use Rattle.lg_config.specs.Meaning.Texts.{seed_of_text}

-- what the rows have to unfold
unfoldable on_texts : ⊤
unfolding is_utf8 chars before behind octets_of address_of place_of place_with_port seed_of_text on_addresses
on_texts = tt

unfoldable on_keys : ⊤
unfolding kind_of_key file_key_named
on_keys = tt

unfoldable pub on_files : ⊤
unfolding toml_on_literals on_texts answer_of answer_with on_keys settings_of name_in addr_in dice_in folder_in
    with_numbers check_of
on_files = tt

-- a file of the member b that also has these lines
abbrev pub b-with : List ℕ → List ℕ
b-with lines = codes "name = \"b\"\n" ++ lines

-- 127.0.0.1 with a port
abbrev pub local : ℕ → Addr
local port = record { ip = V4 (127 ∷ 0 ∷ 0 ∷ 1 ∷ []); port = port }

-- the member b with the default numbers
abbrev pub b-by-default : Config
b-by-default = defaults (98 ∷ []) (local 7946)

-- what a file says that means this configuration, with dice of its own, and nothing else
abbrev pub usual-with : Config → NodeConfig
usual-with config =
    record {
      config = config;
      dice = own_dice config.name config.addr;
      pull_ms = 30000;
      stall_ms = 100;
      resolve_ms = 60000;
      record_mb = 64;
      record_folder = None;
      auto = false;
      status = None;
      status_open = false;
      key_file = None;
      leave = true;
      bind = None;
      seeds = record { items = [] };
    }

abbrev pub means : Config → Result NodeConfig FileFault
means config = Ok (usual-with config)

-- ---- files that mean a configuration

name-alone : answer_of (codes "name = \"b\"") ≡ means b-by-default
unfolding on_files
name-alone = refl

-- the dice of b's own
own-dice : own_dice (98 ∷ []) (local 7946) ≡ 2189494717179526441
unfolding own_dice sha256 first_words schedule rounds compress hash_after digest_bytes
own-dice = refl

-- lines of all the other keys
abbrev addressed : List ℕ
addressed = codes "address = \"10.0.0.7\"\nport = 1\ndice = 9223372036854775807\nseeds = [\"c@127.0.0.1:7001\"]\n"

abbrev timed : List ℕ
timed = codes "interval_ms = 200\ntimeout_ms = 50\nalpha = 2\nbeta = 3\nnack_thousandths = 6\n"

abbrev counted : List ℕ
counted = codes "indirect = 0\nmax_score = 1\nconfirmations = 4\nlambda = 5\nhistory_limit = 7\nwire = 3\n"

abbrev told : List ℕ
told = codes "forget_ms = 86400000\ngossip_ms = 0\ngossip_to = 8\ngroup = \"grn\"\n"

abbrev owned : List ℕ
owned = codes "pull_ms = 0\nstall_ms = 60000\nresolve_ms = 3600000\nrecord_mb = 100000\nrecord = \"/var/lib/lg\"\n"

abbrev served : List ℕ
served = codes "status = \"10.0.0.7:8946\"\nstatus_open = true\nleave = \"off\"\n"

all-keys :
    answer_of (b-with (addressed ++ timed ++ counted ++ told ++ owned ++ served))
    ≡ Ok record {
      config =
          record (defaults (98 ∷ []) (record { ip = V4 (10 ∷ 0 ∷ 0 ∷ 7 ∷ []); port = 1 })) {
            interval_ms = 200;
            timeout_ms = 50;
            indirect = 0;
            max_score = 1;
            alpha = 2;
            beta = 3;
            confirmations = 4;
            lambda = 5;
            nack_thousandths = 6;
            history_limit = 7;
            wire = 3;
            forget_ms = 86400000;
            gossip_ms = 0;
            gossip_to = 8;
            group = Some (codes "grn");
            seeds = record { items = record { name = 99 ∷ []; addr = local 7001 } ∷ [] };
          };
      dice = 9223372036854775807;
      pull_ms = 0;
      stall_ms = 60000;
      resolve_ms = 3600000;
      record_mb = 100000;
      record_folder = Some (codes "/var/lib/lg");
      auto = false;
      status = Some record { ip = V4 (10 ∷ 0 ∷ 0 ∷ 7 ∷ []); port = 8946 };
      status_open = true;
      key_file = None;
      leave = false;
      bind = None;
      seeds = record { items = record { name = Some (99 ∷ []); place = place.Addr (local 7001) } ∷ [] };
    }
unfolding on_files
all-keys = refl

-- ---- files that are no document

unended-text : answer_of (codes "name = \"b") ≡ Err fault.Syntax
unfolding on_files
unended-text = refl

key-twice : answer_of (b-with (codes "name = \"b\"")) ≡ Err fault.Syntax
unfolding on_files
key-twice = refl

past-64-bits : answer_of (b-with (codes "port = 9223372036854775808")) ≡ Err fault.Syntax
unfolding on_files
past-64-bits = refl

-- this holds in a comment too
not-utf8 : answer_of (b-with (35 ∷ 255 ∷ [])) ≡ Err fault.Syntax
unfolding on_files
not-utf8 = refl

-- ---- files whose keys are wrong

nothing : answer_of [] ≡ Err fault.Key
unfolding on_files
nothing = refl

no-name : answer_of (codes "port = 1") ≡ Err fault.Key
unfolding on_files
no-name = refl

unknown-key : answer_of (b-with (codes "colour = 1")) ≡ Err fault.Key
unfolding on_files
unknown-key = refl

text-for-number : answer_of (b-with (codes "interval_ms = \"5\"")) ≡ Err fault.Key
unfolding on_files
text-for-number = refl

number-for-text : answer_of (codes "name = 1") ≡ Err fault.Key
unfolding on_files
number-for-text = refl

number-in-seeds : answer_of (b-with (codes "seeds = [\"c@127.0.0.1:1\", 1]")) ≡ Err fault.Key
unfolding on_files
number-in-seeds = refl

-- a key is known only at the top of a file
key-in-table : answer_of (codes "[b]\nname = \"b\"") ≡ Err fault.Key
unfolding on_files
key-in-table = refl

-- if a key is unknown, the port is no fault
keys-before-values : answer_of (b-with (codes "port = 0\ncolour = 1")) ≡ Err fault.Key
unfolding on_files
keys-before-values = refl

-- ---- files with a value out of its form

empty-name : answer_of (codes "name = \"\"") ≡ Err fault.Value
unfolding on_files
empty-name = refl

seed-without-port : answer_of (b-with (codes "seeds = [\"c@127.0.0.1\"]")) ≡ Err fault.Value
unfolding on_files
seed-without-port = refl

negative-dice : answer_of (b-with (codes "dice = -1")) ≡ Err fault.Value
unfolding on_files
negative-dice = refl

negative-port : answer_of (b-with (codes "port = -1")) ≡ Err fault.Value
unfolding on_files
negative-port = refl

-- the port is judged before the interval
values-before-ranges : answer_of (b-with (codes "interval_ms = 5\nport = 0")) ≡ Err fault.Value
unfolding on_files
values-before-ranges = refl

-- ---- files whose configuration fails its check

short-interval : answer_of (b-with (codes "interval_ms = 5")) ≡ Err (fault.Config Interval)
unfolding on_files
short-interval = refl

negative-interval : answer_of (b-with (codes "interval_ms = -1")) ≡ Err (fault.Config Interval)
unfolding on_files
negative-interval = refl

great-limit : answer_of (b-with (codes "history_limit = 9223372036854775807")) ≡ Err (fault.Config History)
unfolding on_files
great-limit = refl

own-name-among-seeds : answer_of (b-with (codes "seeds = [\"b@127.0.0.1:1\"]")) ≡ Err (fault.Config Seeds)
unfolding on_files
own-name-among-seeds = refl

-- 17 seeds
abbrev many-seeds : List ℕ
many-seeds = codes "seeds = [" ++ flat_map (λ seed. seed) (replicate 17 (codes "\"c@127.0.0.1:1\", ")) ++ codes "]\n"

seeds-17 : answer_of (b-with many-seeds) ≡ Err (fault.Config Seeds)
unfolding on_files
seeds-17 = refl

-- the numbers are judged before the seeds
seeds-17-and-lambda : answer_of (b-with (many-seeds ++ codes "lambda = 0")) ≡ Err (fault.Config Lambda)
unfolding on_files
seeds-17-and-lambda = refl

-- the seeds are judged before the version of packets
seeds-17-and-wire : answer_of (b-with (many-seeds ++ codes "wire = 0")) ≡ Err (fault.Config Seeds)
unfolding on_files
seeds-17-and-wire = refl

fourth-version : answer_of (b-with (codes "wire = 4")) ≡ Err (fault.Config Wire)
unfolding on_files
fourth-version = refl

-- ---- files with a number of the node's own out of its range

rare-pulls : answer_of (b-with (codes "pull_ms = 3600001")) ≡ Err fault.Pull
unfolding on_files
rare-pulls = refl

negative-pulls : answer_of (b-with (codes "pull_ms = -1")) ≡ Err fault.Pull
unfolding on_files
negative-pulls = refl

long-stall : answer_of (b-with (codes "stall_ms = 60001")) ≡ Err fault.Stall
unfolding on_files
long-stall = refl

rare-resolving : answer_of (b-with (codes "resolve_ms = 3600001")) ≡ Err fault.Resolve
unfolding on_files
rare-resolving = refl

often-resolving : answer_of (b-with (codes "resolve_ms = 999")) ≡ Err fault.Resolve
unfolding on_files
often-resolving = refl

negative-resolving : answer_of (b-with (codes "resolve_ms = -1")) ≡ Err fault.Resolve
unfolding on_files
negative-resolving = refl

resolving-each-second :
    answer_of (b-with (codes "resolve_ms = 1000")) ≡ Ok (record (usual-with b-by-default) { resolve_ms = 1000 })
unfolding on_files
resolving-each-second = refl

-- they are judged in this order, and behind the version
pulls-before-stall : answer_of (b-with (codes "stall_ms = -1\npull_ms = -1")) ≡ Err fault.Pull
unfolding on_files
pulls-before-stall = refl

stall-before-resolving : answer_of (b-with (codes "resolve_ms = 0\nstall_ms = -1")) ≡ Err fault.Stall
unfolding on_files
stall-before-resolving = refl

wire-before-pulls : answer_of (b-with (codes "pull_ms = -1\nwire = 4")) ≡ Err (fault.Config Wire)
unfolding on_files
wire-before-pulls = refl

-- ---- the status server

-- what a file of the member b means whose server listens there, by its status_open
abbrev b-at : Addr → Bool → Result NodeConfig FileFault
b-at addr is_open = Ok (record (usual-with b-by-default) { status = Some addr; status_open = is_open })

on-loopback : answer_of (b-with (codes "status = \"127.0.0.1:8946\"")) ≡ b-at (local 8946) false
unfolding on_files
on-loopback = refl

all-of-127 :
    answer_of (b-with (codes "status = \"127.255.255.255:65535\"\nstatus_open = false"))
    ≡ b-at (record { ip = V4 (127 ∷ 255 ∷ 255 ∷ 255 ∷ []); port = 65535 }) false
unfolding on_files
all-of-127 = refl

-- 0.0.0.0 stands for each address of the machine
open-to-all :
    answer_of (b-with (codes "status = \"0.0.0.0:1\"\nstatus_open = true"))
    ≡ b-at (record { ip = V4 (0 ∷ 0 ∷ 0 ∷ 0 ∷ []); port = 1 }) true
unfolding on_files
open-to-all = refl

-- without a server it means nothing
open-alone :
    answer_of (b-with (codes "status_open = true")) ≡ Ok (record (usual-with b-by-default) { status_open = true })
unfolding on_files
open-alone = refl

status-for-number : answer_of (b-with (codes "status = 8946")) ≡ Err fault.Status
unfolding on_files
status-for-number = refl

status-without-port : answer_of (b-with (codes "status = \"127.0.0.1\"")) ≡ Err fault.Status
unfolding on_files
status-without-port = refl

status-at-port-0 : answer_of (b-with (codes "status = \"127.0.0.1:0\"")) ≡ Err fault.Status
unfolding on_files
status-at-port-0 = refl

open-as-text : answer_of (b-with (codes "status_open = \"true\"")) ≡ Err fault.StatusOpen
unfolding on_files
open-as-text = refl

-- the addresses on both sides of 127.0.0.0/8
below-127 : answer_of (b-with (codes "status = \"126.255.255.255:1\"")) ≡ Err fault.StatusNotLoopback
unfolding on_files
below-127 = refl

above-127 : answer_of (b-with (codes "status = \"128.0.0.0:1\"\nstatus_open = false")) ≡ Err fault.StatusNotLoopback
unfolding on_files
above-127 = refl

-- it is judged behind the node's own numbers, in this order
stall-before-status : answer_of (b-with (codes "status = 1\nstall_ms = -1")) ≡ Err fault.Stall
unfolding on_files
stall-before-status = refl

resolving-before-status : answer_of (b-with (codes "status = 1\nresolve_ms = 0")) ≡ Err fault.Resolve
unfolding on_files
resolving-before-status = refl

status-before-open : answer_of (b-with (codes "status_open = 1\nstatus = 1")) ≡ Err fault.Status
unfolding on_files
status-before-open = refl

open-before-loopback : answer_of (b-with (codes "status_open = 1\nstatus = \"1.2.3.4:1\"")) ≡ Err fault.StatusOpen
unfolding on_files
open-before-loopback = refl

-- ---- the key file

keyed :
    answer_of (b-with (codes "key_file = \"group.key\""))
    ≡ Ok (record (usual-with b-by-default) { key_file = Some (codes "group.key") })
unfolding on_files
keyed = refl

path-without-bytes : answer_of (b-with (codes "key_file = \"\"")) ≡ Err fault.KeyFile
unfolding on_files
path-without-bytes = refl

longest-path : path_of (replicate 255 120) ≡ Some (replicate 255 120)
longest-path = refl

path-too-long : path_of (replicate 256 120) ≡ None
path-too-long = refl

path-with-newline : path_of (codes "a\nb") ≡ None
path-with-newline = refl

path-as-number : answer_of (b-with (codes "key_file = 1")) ≡ Err fault.Key
unfolding on_files
path-as-number = refl

-- it is judged behind the status server
status-before-path : answer_of (b-with (codes "key_file = \"\"\nstatus = 1")) ≡ Err fault.Status
unfolding on_files
status-before-path = refl
