-- Worked texts of a file.
use Rattle.std.specs.Prelude.{⊤, ◌≡◌, [], ◌∷◌, Some, None, codes, refl}
use Rattle.std.specs.Str.{chars, is_utf8}
use Rattle.lg_rules.specs.declared.addr.Ip.TheVariants.{V4}
use Rattle.lg_text.specs.Meaning.AddressExamples.{on_addresses}
use Rattle.lg_config.specs.declared.host.Place.TheVariants as place
use Rattle.lg_config.specs.Meaning.Texts.{before, behind, octets_of, address_of, address_with_port, place_of}
use Rattle.lg_config.specs.Meaning.Texts.{place_with_port, seed_of_text}

-- what the rows have to unfold
unfoldable on_texts : ⊤
unfolding is_utf8 chars before behind octets_of address_of address_with_port place_of place_with_port seed_of_text
    on_addresses
on_texts = tt

four-numbers : octets_of (codes "0.10.100.255") ≡ Some (0 ∷ 10 ∷ 100 ∷ 255 ∷ [])
unfolding on_texts
four-numbers = refl

-- some programs read 010 as eight
zero-first : octets_of (codes "010.0.0.1") ≡ None
unfolding on_texts
zero-first = refl

two-zeros : octets_of (codes "127.0.0.00") ≡ None
unfolding on_texts
two-zeros = refl

octet-256 : octets_of (codes "1.2.3.256") ≡ None
unfolding on_texts
octet-256 = refl

three-numbers : octets_of (codes "1.2.3") ≡ None
unfolding on_texts
three-numbers = refl

five-numbers : octets_of (codes "1.2.3.4.5") ≡ None
unfolding on_texts
five-numbers = refl

empty-number : octets_of (codes "1..3.4") ≡ None
unfolding on_texts
empty-number = refl

-- a port may be missing, and then it is the one that is usual
port-missing : address_with_port 7001 (codes "0.0.0.0")
    ≡ Some record { ip = V4 (0 ∷ 0 ∷ 0 ∷ 0 ∷ []); port = 7001 }
unfolding on_texts
port-missing = refl

port-there : address_with_port 7001 (codes "0.0.0.0:1") ≡ Some record { ip = V4 (0 ∷ 0 ∷ 0 ∷ 0 ∷ []); port = 1 }
unfolding on_texts
port-there = refl

port-empty : address_with_port 7001 (codes "0.0.0.0:") ≡ None
unfolding on_texts
port-empty = refl

c-at-65535 : seed_of_text (codes "c@1.2.3.4:65535")
    ≡ Some record {
      name = Some (99 ∷ []);
      place = place.Addr (record { ip = V4 (1 ∷ 2 ∷ 3 ∷ 4 ∷ []); port = 65535 });
    }
unfolding on_texts
c-at-65535 = refl

port-65536 : seed_of_text (codes "c@1.2.3.4:65536") ≡ None
unfolding on_texts
port-65536 = refl

two-at-signs : seed_of_text (codes "c@d@1.2.3.4:1") ≡ None
unfolding on_texts
two-at-signs = refl

no-at-sign : seed_of_text (codes "1.2.3.4:1")
    ≡ Some record { name = None; place = place.Addr (record { ip = V4 (1 ∷ 2 ∷ 3 ∷ 4 ∷ []); port = 1 }) }
unfolding on_texts
no-at-sign = refl
