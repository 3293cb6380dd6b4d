-- Worked files with seeds of each form.
use Rattle.std.specs.Prelude.{⊤, ◌≡◌, ℕ, ◌++◌, List, [], ◌∷◌, replicate, codes, refl, Some, None, Err}
use Rattle.std.specs.Prelude.{Result, Ok}
use Rattle.std.specs.List.{flat_map}
use Rattle.lg_rules.specs.declared.addr.Addr.{Addr}
use Rattle.lg_rules.specs.declared.addr.Ip.TheVariants.{V4}
use Rattle.lg_timing.specs.declared.config.ConfigFault.TheVariants.{Interval, Seeds, Wire}
use Rattle.lg_timing.specs.declared.config.Seed.{Seed}
use Rattle.lg_config.specs.declared.fault.FileFault.{FileFault}
use Rattle.lg_config.specs.declared.fault.FileFault.TheVariants as fault
use Rattle.lg_config.specs.declared.host.Place.TheVariants as place
use Rattle.lg_config.specs.declared.node.NodeConfig.{NodeConfig}
use Rattle.lg_config.specs.declared.seeds.SeedPlace.{SeedPlace}
use Rattle.lg_config.specs.Meaning.Answer.{answer_of}
use Rattle.lg_config.specs.Meaning.Examples.{b-by-default, b-with, local, on_files, usual-with}
use Rattle.lg_config.specs.Meaning.Seeds.{asked_addrs}
use Rattle.lg_config.specs.Meaning.Settings.{with_seeds}
use Rattle.lg_config.specs.Meaning.Texts.{address_with_port}

unfoldable on_seeds : ⊤
unfolding on_files address_with_port
on_seeds = tt

-- 10.0.0.LAST with a port
abbrev host : ℕ → ℕ → Addr
host last port = record { ip = V4 (10 ∷ 0 ∷ 0 ∷ last ∷ []); port = port }

abbrev nameless : Addr → SeedPlace
nameless addr = record { name = None; place = place.Addr addr }

abbrev named : List ℕ → Addr → SeedPlace
named name addr = record { name = Some name; place = place.Addr addr }

-- what a file of the member b means that has these seeds, of which it knows those
abbrev b-seeded : List Seed → List SeedPlace → Result NodeConfig FileFault
b-seeded known seeds =
    Ok (record (usual-with (with_seeds known b-by-default)) { seeds = record { items = seeds } })

-- ---- all forms, in the order of the file

each-form :
    answer_of (b-with (codes "seeds = [\"10.0.0.7\", \"c@10.0.0.8:7001\", \"10.0.0.9:1\"]"))
    ≡ b-seeded (record { name = codes "c"; addr = host 8 7001 } ∷ [])
    (nameless (host 7 7946) ∷ named (codes "c") (host 8 7001) ∷ nameless (host 9 1) ∷ [])
unfolding on_seeds
each-form = refl

-- two seeds may have one address, and the member's own too
same-addresses :
    answer_of (b-with (codes "seeds = [\"127.0.0.1\", \"127.0.0.1:7946\"]"))
    ≡ b-seeded [] (nameless (local 7946) ∷ nameless (local 7946) ∷ [])
unfolding on_seeds
same-addresses = refl

-- ---- who is asked

own-address-not-asked :
    asked_addrs (host 7 7946) (nameless (host 7 7946) ∷ named (codes "c") (host 8 1) ∷ nameless (host 7 1) ∷ [])
    ≡ host 8 1 ∷ host 7 1 ∷ []
own-address-not-asked = refl

-- a seed of the member's own address isn't asked under another name either
own-address-named : asked_addrs (host 7 7946) (named (codes "c") (host 7 7946) ∷ []) ≡ []
own-address-named = refl

-- ---- other texts

name-without-port : answer_of (b-with (codes "seeds = [\"c@10.0.0.7\"]")) ≡ Err fault.Value
unfolding on_seeds
name-without-port = refl

name-is-empty : answer_of (b-with (codes "seeds = [\"@10.0.0.7:1\"]")) ≡ Err fault.Value
unfolding on_seeds
name-is-empty = refl

name-without-place : answer_of (b-with (codes "seeds = [\"c@\"]")) ≡ Err fault.Value
unfolding on_seeds
name-without-place = refl

-- ---- at most 16, of both forms together

abbrev nameless-seeds : ℕ → List ℕ
nameless-seeds count =
    codes "seeds = [" ++ flat_map (λ seed. seed) (replicate count (codes "\"10.0.0.7\", "))
    ++ codes "\"c@10.0.0.8:1\"]\n"

seeds-16 :
    answer_of (b-with (nameless-seeds 15))
    ≡ b-seeded (record { name = codes "c"; addr = host 8 1 } ∷ [])
    (replicate 15 (nameless (host 7 7946)) ++ named (codes "c") (host 8 1) ∷ [])
unfolding on_seeds
seeds-16 = refl

seeds-17 : answer_of (b-with (nameless-seeds 16)) ≡ Err (fault.Config Seeds)
unfolding on_seeds
seeds-17 = refl

-- the numbers are judged before the seeds, and the version of packets behind them
seeds-17-and-interval : answer_of (b-with (nameless-seeds 16 ++ codes "interval_ms = 9")) ≡ Err (fault.Config Interval)
unfolding on_seeds
seeds-17-and-interval = refl

seeds-17-and-wire : answer_of (b-with (nameless-seeds 16 ++ codes "wire = 4")) ≡ Err (fault.Config Seeds)
unfolding on_seeds
seeds-17-and-wire = refl

seeds-16-and-wire : answer_of (b-with (nameless-seeds 15 ++ codes "wire = 4")) ≡ Err (fault.Config Wire)
unfolding on_seeds
seeds-16-and-wire = refl
