-- Worked files with addresses of IPv6, and texts of them.
use Rattle.std.specs.Prelude.{⊤, ◌≡◌, ℕ, [], ◌∷◌, ◌++◌, replicate, codes, refl, Some, None, Ok, Err}
use Rattle.lg_rules.specs.declared.addr.Addr.{Addr}
use Rattle.lg_rules.specs.declared.addr.Ip.{Ip}
use Rattle.lg_rules.specs.declared.addr.Ip.TheVariants.{V6}
use Rattle.lg_text.specs.Meaning.AddressExamples.{on_addresses}
use Rattle.lg_config.specs.declared.fault.FileFault.TheVariants as fault
use Rattle.lg_config.specs.declared.host.Place.TheVariants as place
use Rattle.lg_config.specs.declared.seeds.SeedPlace.{SeedPlace}
use Rattle.lg_config.specs.Meaning.Answer.{answer_of}
use Rattle.lg_config.specs.Meaning.Examples.{b-by-default, b-with, means, on_files, usual-with}
use Rattle.lg_config.specs.Meaning.Settings.{with_seeds}
use Rattle.lg_config.specs.Meaning.Texts.{address_of, address_with_port}

unfoldable on_families : ⊤
unfolding on_files on_addresses address_with_port
on_families = tt

-- 2001:db8::LAST, of the prefix that RFC 3849 keeps for documents, and ::1
abbrev documented : ℕ → Ip
documented last = V6 (0x20 ∷ 0x01 ∷ 0x0d ∷ 0xb8 ∷ replicate 11 0 ++ last ∷ [])

abbrev loopback : Ip
loopback = V6 (replicate 15 0 ++ 1 ∷ [])

abbrev placed : Ip → ℕ → Addr
placed ip port = record { ip = ip; port = port }

-- ---- texts

in-brackets : address_of (codes "[2001:db8::5]:7946") ≡ Some (placed (documented 5) 7946)
unfolding on_families address_of
in-brackets = refl

without-brackets : address_of (codes "2001:db8::5") ≡ None
unfolding on_families address_of
without-brackets = refl

without-end : address_of (codes "[2001:db8::5:7946") ≡ None
unfolding on_families address_of
without-end = refl

without-colon : address_of (codes "[2001:db8::5]7946") ≡ None
unfolding on_families address_of
without-colon = refl

dotted-in-brackets : address_of (codes "[127.0.0.1]:1") ≡ None
unfolding on_families address_of
dotted-in-brackets = refl

alone : address_with_port 7101 (codes "2001:db8::5") ≡ Some (placed (documented 5) 7101)
unfolding on_families
alone = refl

with-its-port : address_with_port 7101 (codes "[::1]:1") ≡ Some (placed loopback 1)
unfolding on_families
with-its-port = refl

-- ---- files

own-address :
    answer_of (b-with (codes "address = \"2001:db8::5\"\nwire = 3"))
    ≡ means (record b-by-default { addr = placed (documented 5) 7946; wire = 3 })
unfolding on_families
own-address = refl

status-on-loopback :
    answer_of (b-with (codes "status = \"[::1]:8946\""))
    ≡ Ok (record (usual-with b-by-default) { status = Some (placed loopback 8946) })
unfolding on_families
status-on-loopback = refl

status-elsewhere : answer_of (b-with (codes "status = \"[2001:db8::5]:8946\"")) ≡ Err fault.StatusNotLoopback
unfolding on_families
status-elsewhere = refl

bound-anywhere :
    answer_of (b-with (codes "bind = \"::\""))
    ≡ Ok (record (usual-with b-by-default) { bind = Some (placed (V6 (replicate 16 0)) 7946) })
unfolding on_families
bound-anywhere = refl

abbrev nameless-at : Ip → ℕ → SeedPlace
nameless-at ip port = record { name = None; place = place.Addr (placed ip port) }

seeded :
    answer_of (b-with (codes "seeds = [\"a@[2001:db8::5]:1\", \"[2001:db8::6]:2\", \"::1\"]"))
    ≡ Ok (record (usual-with
    (with_seeds (record { name = codes "a"; addr = placed (documented 5) 1 } ∷ []) b-by-default)) {
      seeds = record {
        items =
            record { name = Some (codes "a"); place = place.Addr (placed (documented 5) 1) }
            ∷ nameless-at (documented 6) 2 ∷ nameless-at loopback 7946 ∷ [];
      };
    })
unfolding on_families
seeded = refl

-- ---- packets of versions 1 and 2 tell no IPv6 address

by-default-version : answer_of (b-with (codes "address = \"::1\"")) ≡ Err fault.Family
unfolding on_families
by-default-version = refl

in-version-2 : answer_of (b-with (codes "address = \"::1\"\nwire = 2")) ≡ Err fault.Family
unfolding on_families
in-version-2 = refl

bind-before-family : answer_of (b-with (codes "address = \"::1\"\nbind = 1")) ≡ Err fault.Bind
unfolding on_families
bind-before-family = refl
