-- Worked files with seeds at hosts, and texts of them.
use Rattle.std.specs.Prelude.{⊤, ◌≡◌, ℕ, List, [], ◌∷◌, replicate, codes, refl, Some, None, Ok, Err}
use Rattle.lg_rules.specs.declared.addr.Addr.{Addr}
use Rattle.lg_rules.specs.declared.addr.Ip.TheVariants.{V4}
use Rattle.lg_timing.specs.declared.config.ConfigFault.TheVariants.{Interval, Seeds, Wire}
use Rattle.lg_config.specs.declared.fault.FileFault.TheVariants as fault
use Rattle.lg_config.specs.declared.host.Host.{Host}
use Rattle.lg_config.specs.declared.host.Place.{Place}
use Rattle.lg_config.specs.declared.host.Place.TheVariants as place
use Rattle.lg_config.specs.declared.seeds.SeedPlace.{SeedPlace}
use Rattle.lg_config.specs.Meaning.Answer.{answer_of}
use Rattle.lg_config.specs.Meaning.Examples.{b-by-default, b-with, on_files, usual-with}
use Rattle.lg_config.specs.Meaning.Hosts.{host_of}
use Rattle.lg_config.specs.Meaning.Seeds.{asked_addrs, known_seeds, seed_hosts}
use Rattle.lg_config.specs.Meaning.Settings.{with_seeds}
use Rattle.lg_config.specs.Meaning.Texts.{address_with_port, seed_of_text}

unfoldable on_hosts : ⊤
unfolding on_files address_with_port
on_hosts = tt

-- a host with a port
abbrev at_host : List ℕ → ℕ → Host
at_host name port = record { name = name; port = port }

-- 10.0.0.LAST with a port
abbrev at_addr : ℕ → ℕ → Addr
at_addr last port = record { ip = V4 (10 ∷ 0 ∷ 0 ∷ last ∷ []); port = port }

abbrev nameless : Place → SeedPlace
nameless found = record { name = None; place = found }

abbrev named : List ℕ → Place → SeedPlace
named name found = record { name = Some name; place = found }

-- ---- names of hosts

with-a-letter : host_of (codes "A.b_9-z") ≡ Some (codes "A.b_9-z")
with-a-letter = refl

longest-host : host_of (replicate 253 120) ≡ Some (replicate 253 120)
longest-host = refl

host-too-long : host_of (replicate 254 120) ≡ None
host-too-long = refl

host-without-bytes : host_of [] ≡ None
host-without-bytes = refl

-- a mistyped IPv4 address has no letter
no-letter : host_of (codes "10.0.0.256") ≡ None
no-letter = refl

host-with-bad-byte : host_of (codes "db/example") ≡ None
host-with-bad-byte = refl

-- ---- texts of seeds

host-with-its-port : seed_of_text (codes "db.example:1") ≡ Some (nameless (place.Host (at_host (codes "db.example") 1)))
unfolding on_hosts
host-with-its-port = refl

host-alone : seed_of_text (codes "db.example") ≡ Some (nameless (place.Host (at_host (codes "db.example") 7946)))
unfolding on_hosts
host-alone = refl

host-with-name :
    seed_of_text (codes "c@db.example:1") ≡ Some (named (codes "c") (place.Host (at_host (codes "db.example") 1)))
unfolding on_hosts
host-with-name = refl

-- a seed with a name has to have its port
host-with-name-alone : seed_of_text (codes "c@db.example") ≡ None
unfolding on_hosts
host-with-name-alone = refl

host-with-empty-port : seed_of_text (codes "db.example:") ≡ None
unfolding on_hosts
host-with-empty-port = refl

host-at-port-0 : seed_of_text (codes "c@db.example:0") ≡ None
unfolding on_hosts
host-at-port-0 = refl

host-with-two-ports : seed_of_text (codes "db.example:1:2") ≡ None
unfolding on_hosts
host-with-two-ports = refl

-- an address is tried first: this is one of IPv6, and not the host fe80
address-first : seed_of_text (codes "c@fe80::1") ≡ None
unfolding on_hosts
address-first = refl

-- ---- files

-- all forms: by a seed at a host nobody is known
each-form :
    answer_of (b-with (codes "seeds = [\"db.example\", \"c@db.example:1\", \"10.0.0.7:2\", \"d@10.0.0.8:3\"]"))
    ≡ Ok (record (usual-with (with_seeds (record { name = codes "d"; addr = at_addr 8 3 } ∷ []) b-by-default)) {
      seeds = record {
        items =
            nameless (place.Host (at_host (codes "db.example") 7946))
            ∷ named (codes "c") (place.Host (at_host (codes "db.example") 1))
            ∷ nameless (place.Addr (at_addr 7 2)) ∷ named (codes "d") (place.Addr (at_addr 8 3)) ∷ [];
      };
    })
unfolding on_hosts
each-form = refl

-- a host may stand there twice, as an address may
same-hosts :
    answer_of (b-with (codes "seeds = [\"db.example\", \"db.example:7946\"]"))
    ≡ Ok (record (usual-with b-by-default) {
      seeds = record {
        items =
            nameless (place.Host (at_host (codes "db.example") 7946))
            ∷ nameless (place.Host (at_host (codes "db.example") 7946)) ∷ [];
      };
    })
unfolding on_hosts
same-hosts = refl

host-named-without-port : answer_of (b-with (codes "seeds = [\"c@db.example\"]")) ≡ Err fault.Value
unfolding on_hosts
host-named-without-port = refl

-- ---- all names differ, those at hosts too, and none is the member's own

same-name-at-hosts : answer_of (b-with (codes "seeds = [\"c@a:1\", \"c@b:1\"]")) ≡ Err (fault.Config Seeds)
unfolding on_hosts
same-name-at-hosts = refl

same-name-at-address : answer_of (b-with (codes "seeds = [\"c@1.2.3.4:1\", \"c@a:1\"]")) ≡ Err (fault.Config Seeds)
unfolding on_hosts
same-name-at-address = refl

own-name-at-host : answer_of (b-with (codes "seeds = [\"b@a:1\"]")) ≡ Err (fault.Config Seeds)
unfolding on_hosts
own-name-at-host = refl

-- the numbers are judged before the seeds, and the version of packets behind them
interval-before-names : answer_of (b-with (codes "seeds = [\"b@a:1\"]\ninterval_ms = 9")) ≡ Err (fault.Config Interval)
unfolding on_hosts
interval-before-names = refl

names-before-wire : answer_of (b-with (codes "seeds = [\"b@a:1\"]\nwire = 4")) ≡ Err (fault.Config Seeds)
unfolding on_hosts
names-before-wire = refl

wire-with-good-names : answer_of (b-with (codes "seeds = [\"c@a:1\"]\nwire = 4")) ≡ Err (fault.Config Wire)
unfolding on_hosts
wire-with-good-names = refl

-- ---- who is asked, and who is known

abbrev some-seeds : List SeedPlace
some-seeds =
    nameless (place.Addr (at_addr 7 7946)) ∷ named (codes "c") (place.Host (at_host (codes "db.example") 1))
    ∷ nameless (place.Addr (at_addr 8 1)) ∷ nameless (place.Host (at_host (codes "a") 2)) ∷ []

addresses-asked : asked_addrs (at_addr 7 7946) some-seeds ≡ at_addr 8 1 ∷ []
addresses-asked = refl

hosts-in-order : seed_hosts some-seeds ≡ at_host (codes "db.example") 1 ∷ at_host (codes "a") 2 ∷ []
hosts-in-order = refl

nobody-known : known_seeds some-seeds ≡ []
nobody-known = refl
