-- Worked lines in words.
use Rattle.std.specs.Prelude.{◌≡◌, ℕ, true, false, List, [], ◌∷◌, Some, None, codes, refl}
use Rattle.std.specs.Fmt.{digits}
use Rattle.std.specs.declared.io.ErrorKind.TheVariants as error
use Rattle.lg_rules.specs.declared.addr.Addr.{Addr}
use Rattle.lg_rules.specs.declared.addr.Ip.TheVariants.{V4}
use Rattle.lg_timing.specs.Meaning.Config.{defaults}
use Rattle.lg_config.specs.declared.node.NodeConfig.{NodeConfig}
use Rattle.lg_config.specs.declared.host.Place.TheVariants as place
use Rattle.lg_config.specs.declared.seeds.SeedPlace.{SeedPlace}
use Rattle.lg_config.specs.Meaning.Seeds.{known_seeds}
use Rattle.lg_config.specs.Meaning.Settings.{with_seeds}
use Rattle.lg_run.specs.Meaning.Wishes.{end_wished, is_announced}
use Rattle.lg_run.specs.Meaning.Words.{auto_line, link_reason, start_line}

-- 127.0.0.1 with a port
abbrev local_at : ℕ → Addr
local_at port = record { ip = V4 (127 ∷ 0 ∷ 0 ∷ 1 ∷ []); port = port }

abbrev seed_of : ℕ → SeedPlace
seed_of letter = record { name = Some (letter ∷ []); place = place.Addr (local_at 7101) }

abbrev nameless : SeedPlace
nameless = record { name = None; place = place.Addr (local_at 7101) }

-- the node b at port 7102 with the default numbers and these seeds
abbrev b-knowing : List SeedPlace → NodeConfig
b-knowing seeds =
    record {
      config = with_seeds (known_seeds seeds) (defaults (98 ∷ []) (local_at 7102));
      dice = 1;
      pull_ms = 30000;
      stall_ms = 100;
      resolve_ms = 60000;
      record_mb = 64;
      record_folder = None;
      auto = false;
      status = None;
      status_open = false;
      key_file = None;
      leave = true;
      bind = None;
      seeds = record { items = seeds };
    }

two-seeds :
    start_line (Some (codes "b.toml")) (b-knowing (seed_of 97 ∷ nameless ∷ []))
    ≡ codes "lg: b at 127.0.0.1:7102, file b.toml, wire 1, 2 seeds\n"
unfolding digits
two-seeds = refl

one-seed :
    start_line (Some (codes "/etc/b")) (b-knowing (seed_of 97 ∷ []))
    ≡ codes "lg: b at 127.0.0.1:7102, file /etc/b, wire 1, 1 seed\n"
unfolding digits
one-seed = refl

no-file :
    start_line None (b-knowing (seed_of 97 ∷ []))
    ≡ codes "lg: b at 127.0.0.1:7102, no file, wire 1, 1 seed\n"
unfolding digits
no-file = refl

found : auto_line (local_at 7102) ≡ codes "lg: the address auto is 127.0.0.1:7102\n"
unfolding digits
found = refl

taken : link_reason (local_at 7102) error.AddrInUse ≡ codes "127.0.0.1:7102 can't be bound: the address is in use\n"
unfolding digits
taken = refl

elsewhere :
    link_reason (local_at 7102) error.AddrNotAvailable
    ≡ codes "127.0.0.1:7102 can't be bound: the address isn't one of this machine's\n"
unfolding digits
elsewhere = refl

another-error :
    link_reason (local_at 80) error.InvalidInput ≡ codes "127.0.0.1:80 can't be bound: the machine refuses it\n"
unfolding digits
another-error = refl

-- a node that a time ends says nothing while it runs, unless it follows
timed : is_announced (Some 60000) false ≡ false
timed = refl

timed-and-following : is_announced (Some 60000) true ≡ true
timed-and-following = refl

endless : is_announced None false ≡ true
endless = refl

last-moment : end_wished None ≡ 1000000000000000
last-moment = refl
