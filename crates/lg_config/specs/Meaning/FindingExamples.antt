-- Worked files of a member whose address is to be found.
use Rattle.std.specs.Prelude.{⊤, ◌≡◌, ℕ, true, ◌++◌, [], ◌∷◌, replicate, codes, refl, Some, None, Ok, Err}
use Rattle.sha2.specs.Sha256.{compress, digest_bytes, first_words, hash_after, rounds, schedule, sha256}
use Rattle.lg_rules.specs.declared.addr.Addr.{Addr}
use Rattle.lg_rules.specs.declared.addr.Ip.{Ip}
use Rattle.lg_rules.specs.declared.addr.Ip.TheVariants.{V4, V6}
use Rattle.lg_timing.specs.declared.config.Config.{Config}
use Rattle.lg_timing.specs.declared.config.ConfigFault.TheVariants.{Interval, Group}
use Rattle.lg_config.specs.declared.fault.FileFault.TheVariants as fault
use Rattle.lg_config.specs.declared.host.Place.TheVariants as place
use Rattle.lg_config.specs.declared.node.NodeConfig.{NodeConfig}
use Rattle.lg_config.specs.declared.seeds.SeedPlace.{SeedPlace}
use Rattle.lg_config.specs.Meaning.Answer.{answer_of}
use Rattle.lg_config.specs.Meaning.Binding.{bound_at}
use Rattle.lg_config.specs.Meaning.Dice.{own_dice}
use Rattle.lg_config.specs.Meaning.Examples.{b-by-default, b-with, on_files, usual-with}
use Rattle.lg_config.specs.Meaning.Finding.{with_ip}
use Rattle.lg_config.specs.Meaning.Texts.{address_with_port}

unfoldable on_found : ⊤
unfolding on_files address_with_port
on_found = tt

abbrev four : ℕ → ℕ → ℕ → ℕ → Ip
four a b c d = V4 (a ∷ b ∷ c ∷ d ∷ [])

abbrev placed : Ip → ℕ → Addr
placed ip port = record { ip = ip; port = port }

-- a seed without a name, at 10.0.0.7:7946
abbrev a-seed : SeedPlace
a-seed = record { name = None; place = place.Addr (placed (four 10 0 0 7) 7946) }

-- the member b whose address is to be found, with this version of packets
abbrev b-unfound : ℕ → Config
b-unfound version = record b-by-default { addr = placed (four 0 0 0 0) 7946; wire = version }

abbrev b-seeking : ℕ → NodeConfig
b-seeking version = record (usual-with (b-unfound version)) { auto = true; seeds = record { items = a-seed ∷ [] } }

-- ---- the address is 0.0.0.0 until it is found

to-be-found : answer_of (b-with (codes "address = \"auto\"\nseeds = [\"10.0.0.7\"]")) ≡ Ok (b-seeking 1)
unfolding on_found
to-be-found = refl

to-be-found-by-host :
    answer_of (b-with (codes "address = \"auto\"\nseeds = [\"a\"]"))
    ≡ Ok (record (b-seeking 1) {
      seeds = record {
        items = record { name = None; place = place.Host (record { name = codes "a"; port = 7946 }) } ∷ [];
      };
    })
unfolding on_found
to-be-found-by-host = refl

-- and the dice are made of that one
dice-until-then : own_dice (98 ∷ []) (placed (four 0 0 0 0) 7946) ≡ 3637899600915304257
unfolding own_dice sha256 first_words schedule rounds compress hash_after digest_bytes
dice-until-then = refl

-- an address of zeros is no address to be found
zeros-given :
    answer_of (b-with (codes "address = \"0.0.0.0\"")) ≡ Ok (usual-with (b-unfound 1))
unfolding on_found
zeros-given = refl

-- ---- other words

in-capitals : answer_of (b-with (codes "address = \"Auto\"\nseeds = [\"10.0.0.7\"]")) ≡ Err fault.Value
unfolding on_found
in-capitals = refl

with-a-port : answer_of (b-with (codes "address = \"auto:1\"\nseeds = [\"10.0.0.7\"]")) ≡ Err fault.Value
unfolding on_found
with-a-port = refl

-- ---- without seeds it can't be found, which is judged last of all

no-seeds : answer_of (b-with (codes "address = \"auto\"")) ≡ Err fault.Auto
unfolding on_found
no-seeds = refl

empty-seeds : answer_of (b-with (codes "address = \"auto\"\nseeds = []")) ≡ Err fault.Auto
unfolding on_found
empty-seeds = refl

interval-before-auto : answer_of (b-with (codes "address = \"auto\"\ninterval_ms = 9")) ≡ Err (fault.Config Interval)
unfolding on_found
interval-before-auto = refl

group-before-auto : answer_of (b-with (codes "address = \"auto\"\ngroup = \"g\"")) ≡ Err (fault.Config Group)
unfolding on_found
group-before-auto = refl

bind-before-auto : answer_of (b-with (codes "address = \"auto\"\nbind = 1")) ≡ Err fault.Bind
unfolding on_found
bind-before-auto = refl

-- ---- once it is found

-- 2001:db8::1, of the prefix that RFC 3849 keeps for documents
abbrev documented : Ip
documented = V6 (0x20 ∷ 0x01 ∷ 0x0d ∷ 0xb8 ∷ replicate 11 0 ++ 1 ∷ [])

-- the same member at an address; its dice stay
abbrev b-found : ℕ → Ip → NodeConfig
b-found version ip =
    record (b-seeking version) { config = record (b-unfound version) { addr = placed ip 7946 } }

found-over-ipv4 : with_ip (four 10 0 0 8) (b-seeking 1) ≡ Ok (b-found 1 (four 10 0 0 8))
found-over-ipv4 = refl

found-over-ipv6 : with_ip documented (b-seeking 3) ≡ Ok (b-found 3 documented)
found-over-ipv6 = refl

untold : with_ip documented (b-seeking 2) ≡ Err fault.Family
untold = refl

-- the socket is bound there, unless the file says where
bound-there : bound_at (b-found 1 (four 10 0 0 8)) ≡ placed (four 10 0 0 8) 7946
bound-there = refl

bound-elsewhere :
    bound_at (record (b-found 1 (four 10 0 0 8)) { bind = Some (placed (four 0 0 0 0) 1) }) ≡ placed (four 0 0 0 0) 1
bound-elsewhere = refl
